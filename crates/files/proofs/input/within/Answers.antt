use Rattle.std.proofs.Common.{arith, ℕ, ◌+◌, ◌<◌, ◌≤◌, ◌≡◌, ◌⊎◌, inl, inr, Bor, Option, Some, None, MatchOption, List, [], length, take, slice_range, ap, ◌∙◌}
use Rattle.std.specs.Option.{unwrap_or}
use Rattle.std.proofs.lemmas.Bool.{lt-ltb, le-ltb}
use Rattle.std.proofs.lemmas.Grind.{common_steps}
use Rattle.files.specs.Held.{held}
use Rattle.files.proofs.input.within.Goals as goal

front_of : (xs : List ℕ) (n : ℕ) (none front : Bor (List ℕ)) (r : Option (Bor (List ℕ)))
    → none.now ≡ []
    → MatchOption r ((n < 0) ⊎ (length xs < n)) (λ x. (0 ≤ n) × (n ≤ length xs) × (x.now ≡ slice_range xs 0 n) × (length x.now + 0 ≡ n))
    → front ≡ unwrap_or r none
    → front.now ≡ take (held n (length xs)) xs
unfolding held
front_of xs n none front (Some x) z h e = ap (λ (b : Bor (List ℕ)). b.now) e ∙ simp (le-ltb (length xs) n h.1) (grind (arith, common_steps, h.2))
front_of xs n none front None z (inl h) e = absurd (omega arith)
front_of xs n none front None z (inr h) e = ap (λ (b : Bor (List ℕ)). b.now) e ∙ simp (lt-ltb (length xs) n h) z

pub returns-clause-value : goal.returns-clause-value
returns-clause-value c = let h = c.get.ensures.lookup in front_of c.args.buf.now c.args.n _ c.unwrap_or.result c.get.result (λ i. []) h.0 c.unwrap_or.ensures
