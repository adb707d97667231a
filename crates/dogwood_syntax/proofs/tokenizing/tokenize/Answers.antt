use Prim.Native.Nat.{ℕ}
use mathlib.Core.Path.{ap, ◌∙◌}
use mathlib.Core.List.{List}
use native.Mathlib.Omega.{arith}
use lib.ListN.{length}
use Rattle.utf8.proofs.Mark.{mark_inside, length_text}
use Rattle.dogwood_syntax.specs.Answers.{answer, table_after}
use Rattle.dogwood_syntax.proofs.Promise.{long_kept, bad_kept, text_kept, found}
use Rattle.dogwood_syntax.proofs.tokenizing.tokenize.Goals as goal

pub returns-then-src-gt-LONGEST : goal.returns-then-src-gt-LONGEST
returns-then-src-gt-LONGEST c = long_kept c.args.src.now c.args.table.now c.if-src-gt-LONGEST.true

pub returns-in-Some : goal.returns-in-Some
returns-in-Some c =
    simp c.split_bom.ensures.mark
    (bad_kept c.args.src.now c.args.table.now c.if-src-gt-LONGEST.false _ (found c.args.src.now _ _ c.split_bom.ensures.text c.first_bad.ensures ∙ c.in-Some.is))

pub returns : goal.returns
returns c =
    let s = c.args.src.now in
    let t = c.args.table.now in
    let e = c.split_bom.ensures.text in
    text_kept s t c.if-src-gt-LONGEST.false (found s _ _ e c.first_bad.ensures ∙ c.in_default.is)
    c.tokenize_text.result (c.tokenize_text.ensures.value ∙ ap (λ (l : List ℕ). answer l (length t)) e)
    c.tokenize_text.new.table (c.tokenize_text.ensures.table_after ∙ ap (λ (l : List ℕ). table_after l t) e)

pub tokenize_text-requires : goal.tokenize_text-requires
tokenize_text-requires c =
    let s = c.args.src.now in
    omega (arith, mark_inside s, length_text s, ap length c.split_bom.ensures.text, c.if-src-gt-LONGEST.false)
