-- What a source is, case by case: for the calls that find it out in the same order.
use mathlib.Core.Path.{◌≡◌, refl, sym, ◌∙◌, ap}
use mathlib.Core.List.{List, [], ◌∷◌}
use Prim.Native.Nat.{ℕ, ◌-◌, ◌<◌, ◌≤◌}
use native.Mathlib.Omega.{arith}
use lib.ListN.{length}
use borrow.Author.Tests.{lt-ltb, le-ltb, ne_eqb}
use Rattle.dogwood_rules.specs.Utf8.{decode, byte_length, text_of}
use Rattle.dogwood_rules.specs.Token.{Placed, tokenise, placed}
use Rattle.dogwood_rules.specs.Source.{Source, too_long, not_utf8, unended, cut_into, cut_up, decoded, source_of}

-- 11
pub source_long : (source : List ℕ) → 1048576 < length source → source_of source ≡ too_long
unfolding source_of
source_long source h = simp (lt-ltb 1048576 (length source) h)

module _ (source : List ℕ) (h : length source ≤ 1048576) where
  short : source_of source ≡ decoded source (decode (text_of source))
  unfolding source_of
  short = simp (le-ltb 1048576 (length source) h)

  -- 12
  pub source_bad : (b : ℕ) (bs : List ℕ) → (decode (text_of source)).1 ≡ b ∷ bs → source_of source ≡ not_utf8 (length source - length (b ∷ bs))
  unfolding decoded
  source_bad b bs e = short ∙ rw e (simp (ne_eqb (length (b ∷ bs)) 0 (λ (q : length (b ∷ bs) ≡ 0). omega arith)))

  module _ (valid : (decode (text_of source)).1 ≡ []) where
    read : source_of source ≡ cut_up source (tokenise (decode (text_of source)).0)
    unfolding decoded
    read = short ∙ rw valid refl

    -- 1
    pub source_open : (c : ℕ) (cs : List ℕ) → (tokenise (decode (text_of source)).0).1 ≡ c ∷ cs
        → source_of source ≡ unended (placed 0 (tokenise (decode (text_of source)).0).0) (length (text_of source) - byte_length (c ∷ cs))
    unfolding cut_up
    source_open c cs e = read ∙ rw e (simp (ne_eqb (length (c ∷ cs)) 0 (λ (q : length (c ∷ cs) ≡ 0). omega arith)))

    -- else its tokens
    pub source_cut : (tokenise (decode (text_of source)).0).1 ≡ [] → source_of source ≡ cut_into (placed 0 (tokenise (decode (text_of source)).0).0)
    unfolding cut_up
    source_cut e = read ∙ rw e refl
