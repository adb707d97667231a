-- The numbers of document 01 for each answer, and that they tell the answers apart.
use Rattle.std.specs.Prelude.{ℕ, ◌≡◌, refl, List, Result, Ok, Err, eqb, if◌then◌else◌}
use Rattle.std.proofs.Common.{sym, ◌∙◌}
use Rattle.dogwood_rules.specs.Promises.{Tests, tests-only}
use Rattle.dogwood_syntax.specs.declared.tokenizing.NotTokenized.{NotTokenized as Refusal}
use Rattle.dogwood_syntax.specs.declared.tokenizing.NotTokenized.TheVariants.{Unended, TooLong, NotUtf8, Small}
use Rattle.dogwood_syntax.specs.Numbers.{refusal_number, refusal_value}
use Rattle.dogwood_outline.specs.declared.testing.NotFitting.{NotFitting}
use Rattle.dogwood_outline.specs.declared.testing.NotFitting.TheVariants.{NotTokenized, Misfit}

-- f is what a refusal of the tokens is to the test
abbrev pub IsNotTokenized : Refusal → NotFitting → Type 0
IsNotTokenized e f = f ≡ NotTokenized e

pub not_tokenized_only : (e : Refusal) (f g : NotFitting) → IsNotTokenized e f → IsNotTokenized e g → f ≡ g
not_tokenized_only e f g p q = p ∙ sym q

abbrev pub number : Result (Unit {0}) NotFitting → ℕ
number (Ok u) = 0
number (Err (NotTokenized e)) = refusal_number e
number (Err Misfit) = 4

-- the place, or the number of tokens
abbrev pub value : Result (Unit {0}) NotFitting → ℕ
value (Ok u) = 0
value (Err (NotTokenized e)) = refusal_value e
value (Err Misfit) = 0

-- the answer again
abbrev answer_of : ℕ → ℕ → Result (Unit {0}) NotFitting
answer_of n v =
    if eqb n 0 then Ok tt
    else if eqb n 1 then Err (NotTokenized (Unended v))
    else if eqb n 4 then Err Misfit
    else if eqb n 11 then Err (NotTokenized TooLong)
    else if eqb n 12 then Err (NotTokenized (NotUtf8 v))
    else Err (NotTokenized (Small v))

again : (a : Result (Unit {0}) NotFitting) → answer_of (number a) (value a) ≡ a
again (Ok u) = refl
again (Err (NotTokenized (Unended n))) = refl
again (Err (NotTokenized TooLong)) = refl
again (Err (NotTokenized (NotUtf8 n))) = refl
again (Err (NotTokenized (Small n))) = refl
again (Err Misfit) = refl

-- no second answer, and no second table, keeps the promise of `test_outline`
pub test_outline_only : (source outline table : List ℕ) (a b : Result (Unit {0}) NotFitting) (T₁ T₂ : List ℕ)
    → Tests source outline table (number a) (value a) T₁ → Tests source outline table (number b) (value b) T₂ → (a ≡ b) × (T₁ ≡ T₂)
test_outline_only source outline table a b T₁ T₂ p q =
    let h = tests-only source outline table (number a) (number b) (value a) (value b) T₁ T₂ p q in
    (sym (again a) ∙ (λ i. answer_of (h.0 i) (h.1 i)) ∙ again b, h.2)
