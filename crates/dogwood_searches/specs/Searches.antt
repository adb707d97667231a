-- The searches of answers 2, 3 and 5 as walks over the words of a token table. How the code works, on any words; what it means stands in dogwood_rules, and
-- the laws of dogwood_outline tie the two for the words of a text's tokens.
use Rattle.std.specs.Prelude.{List, [], ◌∷◌, ℕ, suc, ◌-◌, ltb, eqb, get_or, drop, if◌then◌else◌}
use Rattle.std.proofs.Math.Option.{Option, none, some}
use Rattle.dogwood_rules.specs.Outline.{Statement}
use Rattle.dogwood_rules.specs.Searches.{or_else}
use Rattle.dogwood_words.specs.Brackets.{opening, closing}
use Rattle.dogwood_words.specs.Rows.{skip_in}

-- the first comment that starts before n
unfoldable pub comment_before : ℕ → List ℕ → Option ℕ
comment_before n [] = none
comment_before n (k ∷ []) = none
comment_before n (k ∷ s ∷ []) = none
comment_before n (k ∷ s ∷ e ∷ ws) = if ltb s n then if eqb k 1 then some s else comment_before n ws else none

-- the first opener that is nested above 64, from depth d on
unfoldable pub deep_in : List ℕ → ℕ → List ℕ → Option ℕ
deep_in text d [] = none
deep_in text d (k ∷ []) = none
deep_in text d (k ∷ s ∷ []) = none
deep_in text d (k ∷ s ∷ e ∷ ws) =
    if opening k (get_or text s 0) then if eqb d 64 then some s else deep_in text (suc d) ws
    else if closing k (get_or text s 0) then deep_in text (d - 1) ws
    else deep_in text d ws

-- the first comment inside a statement, from word i on
unfoldable pub first_comment_in : List ℕ → List Statement → ℕ → Option ℕ
first_comment_in table [] i = none
first_comment_in table (s ∷ ss) i =
    let j = skip_in s.span.start i (drop i table) in
    or_else (comment_before s.span.stop (drop j table)) (first_comment_in table ss (skip_in s.span.stop j (drop j table)))
