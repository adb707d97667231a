-- The numbers of document 01 for each answer, and that they tell the answers apart.
use Rattle.std.specs.Prelude.{ℕ, ◌≡◌, refl, List, Result, Ok, Err, eqb, if◌then◌else◌}
use Rattle.std.proofs.Common.{sym, ◌∙◌}
use Rattle.dogwood_rules.specs.Promises.{Tokenises, tokenises-only}
use Rattle.dogwood_syntax.specs.declared.tokenizing.NotTokenized.{NotTokenized}
use Rattle.dogwood_syntax.specs.declared.tokenizing.NotTokenized.TheVariants.{Unended, TooLong, NotUtf8, Small}

abbrev pub refusal_number : NotTokenized → ℕ
refusal_number (Unended i) = 1
refusal_number TooLong = 11
refusal_number (NotUtf8 i) = 12
refusal_number (Small n) = 13

-- the place, or the number of tokens
abbrev pub refusal_value : NotTokenized → ℕ
refusal_value (Unended i) = i
refusal_value TooLong = 0
refusal_value (NotUtf8 i) = i
refusal_value (Small n) = n

abbrev pub number : Result ℕ NotTokenized → ℕ
number (Ok n) = 0
number (Err e) = refusal_number e

abbrev pub value : Result ℕ NotTokenized → ℕ
value (Ok n) = n
value (Err e) = refusal_value e

-- the answer again
abbrev answer_of : ℕ → ℕ → Result ℕ NotTokenized
answer_of n v =
    if eqb n 0 then Ok v
    else if eqb n 1 then Err (Unended v)
    else if eqb n 11 then Err TooLong
    else if eqb n 12 then Err (NotUtf8 v)
    else Err (Small v)

again : (a : Result ℕ NotTokenized) → answer_of (number a) (value a) ≡ a
again (Ok n) = refl
again (Err (Unended n)) = refl
again (Err TooLong) = refl
again (Err (NotUtf8 n)) = refl
again (Err (Small n)) = refl

-- no second answer, and no second table, keeps the promise of `tokenize`
pub tokenize_only : (source table : List ℕ) (a b : Result ℕ NotTokenized) (T₁ T₂ : List ℕ)
    → Tokenises source table (number a) (value a) T₁ → Tokenises source table (number b) (value b) T₂ → (a ≡ b) × (T₁ ≡ T₂)
tokenize_only source table a b T₁ T₂ p q =
    let h = tokenises-only source table (number a) (number b) (value a) (value b) T₁ T₂ p q in
    (sym (again a) ∙ (λ i. answer_of (h.0 i) (h.1 i)) ∙ again b, h.2)
