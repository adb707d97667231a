-- What `judge` promises: numbers 4, 2, 3 and 5 of document 01 in this order, else 0, of any bytes with any words for their tokens.
use Rattle.std.specs.Prelude.{◌≡◌, Result, List, ℕ}
use Rattle.std.proofs.Common.{sym, ◌∙◌}
use Rattle.dogwood_outline.specs.declared.judging.Objection.{Objection}
use Rattle.dogwood_outline.specs.Verdicts.{number, place, verdict_of, again}
use Rattle.dogwood_outline.specs.Table.{judged_in}

pub record JudgesIn (text table outline : List ℕ) (number place : ℕ) : Type 0 where
  pub numbered : number ≡ (judged_in text table outline).0
  pub located : place ≡ (judged_in text table outline).1

pub judges_in_only : (text table outline : List ℕ) (n m p q : ℕ) → JudgesIn text table outline n p → JudgesIn text table outline m q → (n ≡ m) × (p ≡ q)
judges_in_only text table outline n m p q a b = (cc, cc)

-- no second verdict keeps the promise of `judge`
pub judge_only : (text table outline : List ℕ) (a b : Result (Unit {0}) Objection) → JudgesIn text table outline (number a) (place a) → JudgesIn text table outline (number b) (place b) → a ≡ b
judge_only text table outline a b p q =
    let h = judges_in_only text table outline (number a) (number b) (place a) (place b) p q in
    sym (again a) ∙ (λ i. verdict_of (h.0 i) (h.1 i)) ∙ again b
