use Prim.Native.Nat.{ℕ}
use mathlib.Core.Path.{◌≡◌, ap, ◌∙◌}
use mathlib.Core.List.{List}
use denote.Ref.{Bor}
use Rattle.dogwood_rules.specs.Readings.{reading}
use Rattle.dogwood_reader.specs.declared.TokenReader.{TokenReader}
use Rattle.dogwood_reader.specs.declared.Reading.{Reading}
use Rattle.dogwood_reader.specs.Standing.{told, onwards}
use Rattle.dogwood_reader.specs.Promises.{Makes, Moves}
use Rattle.dogwood_reader.proofs.Numbered.{nth-reading_is}
use Rattle.dogwood_reader.proofs.nth_reading.Goals as goal

nth_is : (s : Bor (List ℕ)) (n : ℕ) (r r₁ : TokenReader) (t : Reading) → Makes s r → Moves n r r₁ → t ≡ r₁.state → told t ≡ reading s.now n
nth_is s n r r₁ t e e₁ e₂ =
    ap told (e₂ ∙ e₁.stands ∙ ap (λ (x : Bor (List ℕ)). onwards x.now n r.state) e.holds ∙ ap (onwards s.now n) e.stands) ∙ nth-reading_is s.now n

pub returns : goal.returns
returns c = nth_is c.args.src c.args.n c.new.result c.skip.result c.reading.result c.new.ensures c.skip.ensures c.reading.ensures
