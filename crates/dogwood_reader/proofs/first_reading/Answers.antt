use Prim.Native.Nat.{ℕ, ◌+◌}
use mathlib.Core.Path.{sym, ap, ◌∙◌}
use mathlib.Core.List.{List}
use lib.ListN.{length}
use Rattle.dogwood_syntax.proofs.Promise.{found}
use Rattle.dogwood_reader.specs.declared.Reading.TheVariants.{Refused}
use Rattle.dogwood_reader.specs.declared.Refusal.TheVariants.{NotUtf8}
use Rattle.dogwood_reader.proofs.Places.{long_start, bad_start, good_start}
use Rattle.dogwood_reader.proofs.first_reading.Goals as goal

pub returns-then-src-gt-LONGEST : goal.returns-then-src-gt-LONGEST
returns-then-src-gt-LONGEST c = sym (long_start c.args.src.now c.if-src-gt-LONGEST.true)

pub returns-in-Some : goal.returns-in-Some
returns-in-Some c =
    ap (λ (m : List ℕ). Refused (NotUtf8 (length m + c.in-Some.place))) c.split_bom.ensures.mark
    ∙ sym (bad_start c.args.src.now c.if-src-gt-LONGEST.false _ (found c.args.src.now _ _ c.split_bom.ensures.text c.first_bad.ensures ∙ c.in-Some.is))

pub returns : goal.returns
returns c =
    c.reading_at.ensures ∙ good_start c.args.src.now c.if-src-gt-LONGEST.false (found c.args.src.now _ _ c.split_bom.ensures.text c.first_bad.ensures ∙ c.in_default.is)
