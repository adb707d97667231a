-- 11, which no row computes: a source is too long exactly if it has more than 1,048,576 bytes, and then every call says so and nothing else.
use mathlib.Core.Path.{◌≡◌, refl, sym, ◌∙◌, ap}
use mathlib.Core.Bool.{Bool, true, false}
use mathlib.Core.List.{List}
use Prim.Native.Nat.{ℕ, suc, ◌<◌, ◌≤◌}
use native.Mathlib.Omega.{arith}
use lib.Dec.{ltb, eqb}
use lib.ListN.{length}
use borrow.Author.Tests.{ltb-true}
use Rattle.dogwood_rules.specs.Utf8.{decode, text_of}
use Rattle.dogwood_rules.specs.Token.{Token, tokenise}
use Rattle.dogwood_rules.specs.Source.{Source, too_long, not_utf8, unended, cut_into, cut_up, decoded, source_of}
use Rattle.dogwood_rules.specs.Layout.{Settings}
use Rattle.dogwood_rules.specs.Answer.{answer, answered, refused}
use Rattle.dogwood_rules.specs.Alone.{stopped, told, tokenised, tested}
use Rattle.dogwood_rules.specs.Readings.{Reading, reading, reading_of, refused as refused-reading}
use Rattle.dogwood_rules.proofs.Sources.{source_long}

is_long : Source → Bool
is_long too_long = true
is_long (not_utf8 place) = false
is_long (unended before place) = false
is_long (cut_into ps) = false

cut_short : (source : List ℕ) (r : List Token × List ℕ) → is_long (cut_up source r) ≡ false
unfolding is_long cut_up
cut_short source r = go (eqb (length r.1) 0) refl
  where
    go : (b : Bool) → eqb (length r.1) 0 ≡ b → is_long (cut_up source r) ≡ false
    go true e = rw e refl
    go false e = rw e refl

decoded_short : (source : List ℕ) (r : List ℕ × List ℕ) → is_long (decoded source r) ≡ false
unfolding is_long decoded
decoded_short source r = go (eqb (length r.1) 0) refl
  where
    go : (b : Bool) → eqb (length r.1) 0 ≡ b → is_long (decoded source r) ≡ false
    go true e = rw e (cut_short source (tokenise r.0))
    go false e = rw e refl

-- a source is too long only then
pub only_long : (source : List ℕ) → source_of source ≡ too_long → 1048576 < length source
unfolding is_long source_of
only_long source e = go (ltb 1048576 (length source)) refl
  where
    go : (b : Bool) → ltb 1048576 (length source) ≡ b → 1048576 < length source
    go true q = ltb-true 1048576 (length source) q
    go false q =
        absurd (let z : false ≡ true = sym (decoded_short source (decode (text_of source))) ∙ ap is_long (rw q at e) in let y : ◌≡◌ {A = ℕ} 0 1 = cc in omega arith)

module _ (source : List ℕ) (h : 1048576 < length source) where
  pub long_answer : (S : Settings) (outline : List ℕ) (table_room output_room : ℕ) → answer S source outline table_room output_room ≡ refused 11 0
  unfolding answer answered
  long_answer S outline table_room output_room = ap (answered S source outline table_room output_room) (source_long source h)

  pub long_tokenised : (table_room : ℕ) → tokenised source table_room ≡ stopped 11 0
  unfolding tokenised told
  long_tokenised table_room = rw (source_long source h) refl

  pub long_tested : (outline : List ℕ) (table_room : ℕ) → tested source outline table_room ≡ stopped 11 0
  unfolding tested told
  long_tested outline table_room = rw (source_long source h) refl

  pub long_reading : (n : ℕ) → reading source n ≡ refused-reading 11 0
  unfolding reading reading_of
  long_reading n = rw (source_long source h) refl
