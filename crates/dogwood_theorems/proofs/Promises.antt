-- The mission's promises follow from the one that `format_policies` makes.
use mathlib.Core.Path.{◌≡◌, sym, ◌∙◌, ap, subst}
use mathlib.Core.List.{List}
use Prim.Native.Nat.{ℕ}
use native.Mathlib.Omega.{arith}
use lib.ListN.{take, drop, length as count}
use lib.Seq.{take-append_seam}
use Rattle.dogwood_rules.specs.Layout.{house}
use Rattle.dogwood_rules.specs.Answer.{Answer, answer}
use Rattle.dogwood_rules.specs.Promises.{over}
use Rattle.dogwood_rules.specs.Claims.{Preserved, Kept}
use Rattle.dogwood_rules.proofs.Number3.{number3, number3', same-tokens}
use Rattle.dogwood_formatter.specs.Numbers.{number}
use Rattle.dogwood_theorems.specs.Calls.{Call, wrote, AllPromised, SameTokens}
use Rattle.dogwood_theorems.proofs.Refusals.{answer_refusing}

-- what the definitions answer
abbrev due : Call → Answer
due c = answer house c.source c.outline (count c.table) (count c.output)

wrote_due : (c : Call) → wrote c.answer c.output' ≡ (due c).output
wrote_due c = (λ i. take (c.kept.sized i) (c.kept.written i)) ∙ take-append_seam (due c).output (drop (count (due c).output) c.output)

zero_due : (c : Call) → number c.answer ≡ 0 → (due c).number ≡ 0
zero_due c e = sym c.kept.numbered ∙ e

-- number 3
pub call_promised : AllPromised
call_promised c =
    let source = c.source in
    let outline = c.outline in
    let table_room = count c.table in
    let output_room = count c.output in
    let same = c.kept.numbered in
    let refusing = answer_refusing house source outline table_room output_room in
    record {
      preserved = λ e. subst (Preserved house source outline) (sym (wrote_due c)) (number3 house source outline table_room output_room (zero_due c e));
      said = λ e. subst (Kept source) (sym (wrote_due c)) (number3' house source outline table_room output_room (zero_due c e));
      back = λ l h. wrote_due c ∙ refusing.back (omega arith) (omega arith);
      untouched =
          λ h.
          let none = refusing.nothing (omega arith) in
          (c.kept.sized ∙ ap (λ (l : List ℕ). count l) none, c.kept.written ∙ ap (λ (l : List ℕ). over l c.output) none);
    }

-- its corollary
pub call-same-tokens : SameTokens
call-same-tokens c d m e f w =
    same-tokens house house c.source d.source c.outline d.outline (count c.table) (count d.table) (count c.output) (count d.output) m
    (zero_due c e)
    (zero_due d f)
    (sym (wrote_due c) ∙ w ∙ wrote_due d)
