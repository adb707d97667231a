-- Placed tokens before and from a place on: how two places work together.
use mathlib.Core.Path.{◌≡◌, refl, sym, ◌∙◌, ap}
use mathlib.Core.Bool.{Bool, true, false, not, ◌||◌, or_assoc}
use mathlib.Core.List.{List, [], ◌∷◌}
use Prim.Native.Nat.{ℕ, ◌<◌, ◌≤◌}
use native.Mathlib.Omega.{arith}
use lib.Dec.{ltb, eqb}
use borrow.Author.Tests.{ltb-true, ltb-false, eqb-true, lt-ltb}
use Rattle.dogwood_rules.specs.Basic.{every, some?}
use Rattle.dogwood_rules.specs.Token.{Token, Placed, tokens}
use Rattle.dogwood_rules.specs.Outline.{up_to, from, plain}
use Rattle.dogwood_rules.proofs.Below.{and_true}
use Rattle.dogwood_outline.specs.Pass.{quiet, here, stands}
use Rattle.dogwood_words.proofs.Bools.{false_true}

module _ (n : ℕ) (p : Placed) (ps : List Placed) where
  pub from_on : ltb p.start n ≡ true → from n (p ∷ ps) ≡ from n ps
  unfolding from
  from_on e = rw (e, from) refl

  pub from_off : ltb p.start n ≡ false → from n (p ∷ ps) ≡ p ∷ ps
  unfolding from
  from_off e = rw (e, from) refl

  pub up_to_on : ltb p.start n ≡ true → up_to n (p ∷ ps) ≡ p ∷ up_to n ps
  unfolding up_to
  up_to_on e = rw (e, up_to) refl

  pub up_to_off : ltb p.start n ≡ false → up_to n (p ∷ ps) ≡ []
  unfolding up_to
  up_to_off e = rw (e, up_to) refl

pub from_from : (b n : ℕ) (ps : List Placed) → b ≤ n → from n (from b ps) ≡ from n ps
unfolding from
from_from b n [] l = refl
from_from b n (p ∷ ps) l = go (from_from b n ps l) (ltb p.start b) refl
  where
    go : from n (from b ps) ≡ from n ps → (t : Bool) → ltb p.start b ≡ t → from n (from b (p ∷ ps)) ≡ from n (p ∷ ps)
    go h true e = let k : ltb p.start n ≡ true = (let q = ltb-true p.start b e in lt-ltb p.start n (omega arith)) in rw (e, k, from) h
    go h false e = rw (e, from) refl

pub up_to-up_to : (q b : ℕ) (ps : List Placed) → q ≤ b → up_to q (up_to b ps) ≡ up_to q ps
unfolding up_to
up_to-up_to q b [] l = refl
up_to-up_to q b (p ∷ ps) l = go (up_to-up_to q b ps l) (ltb p.start b) (ltb p.start q) refl refl
  where
    go : up_to q (up_to b ps) ≡ up_to q ps → (t u : Bool) → ltb p.start b ≡ t → ltb p.start q ≡ u → up_to q (up_to b (p ∷ ps)) ≡ up_to q (p ∷ ps)
    go h true true e f = rw (e, f, up_to) (ap (λ (l : List Placed). p ∷ l) h)
    go h true false e f = rw (e, f, up_to) refl
    go h false true e f = let x = ltb-false p.start b e in let y = ltb-true p.start q f in absurd (omega arith)
    go h false false e f = rw (e, f, up_to) refl

pub from_up_to : (n b : ℕ) (ps : List Placed) → n ≤ b → from n (up_to b ps) ≡ up_to b (from n ps)
unfolding up_to from
from_up_to n b [] l = refl
from_up_to n b (p ∷ ps) l = go (from_up_to n b ps l) (ltb p.start b) (ltb p.start n) refl refl
  where
    go : from n (up_to b ps) ≡ up_to b (from n ps) → (t u : Bool) → ltb p.start b ≡ t → ltb p.start n ≡ u → from n (up_to b (p ∷ ps)) ≡ up_to b (from n (p ∷ ps))
    go h true true e f = rw (e, f, up_to, from) h
    go h true false e f = ap (from n) (up_to_on b p ps e) ∙ from_off n p (up_to b ps) f ∙ sym (ap (up_to b) (from_off n p ps f) ∙ up_to_on b p ps e)
    go h false true e f = let x = ltb-false p.start b e in let y = ltb-true p.start n f in absurd (omega arith)
    go h false false e f = ap (from n) (up_to_off b p ps e) ∙ sym (ap (up_to b) (from_off n p ps f) ∙ up_to_off b p ps e)

-- Words ---------------------------------------------------------------------------------------------------------

pub some_split : (q b : ℕ) (ps : List Placed) → q ≤ b → some? plain (tokens (up_to b ps)) ≡ some? plain (tokens (up_to q ps)) || some? plain (tokens (up_to b (from q ps)))
unfolding up_to from tokens
some_split q b [] l = refl
some_split q b (p ∷ ps) l = go (some_split q b ps l) (ltb p.start b) (ltb p.start q) refl refl
  where
    go : some? plain (tokens (up_to b ps)) ≡ some? plain (tokens (up_to q ps)) || some? plain (tokens (up_to b (from q ps))) → (t u : Bool) → ltb p.start b ≡ t → ltb p.start q ≡ u
        → some? plain (tokens (up_to b (p ∷ ps))) ≡ some? plain (tokens (up_to q (p ∷ ps))) || some? plain (tokens (up_to b (from q (p ∷ ps))))
    go h true true e f = rw (e, f, up_to, from) (ap (λ (x : Bool). plain p.token || x) h ∙ sym (or_assoc (plain p.token) (some? plain (tokens (up_to q ps))) (some? plain (tokens (up_to b (from q ps))))))
    go h true false e f = simp (up_to_off q p ps f, from_off q p ps f)
    go h false true e f = let x = ltb-false p.start b e in let y = ltb-true p.start q f in absurd (omega arith)
    go h false false e f = simp (up_to_off q p ps f, from_off q p ps f)

pub quiet_none : (ts : List Token) → every quiet ts ≡ true → some? plain ts ≡ false
quiet_none [] e = refl
quiet_none (t ∷ ts) e = let q = and_true (quiet t) (every quiet ts) e in go (quiet_none ts q.1) (plain t) q.0
  where
    go : some? plain ts ≡ false → (w : Bool) → not w ≡ true → w || some? plain ts ≡ false
    go h true k = false_true k
    go h false k = h

-- Places --------------------------------------------------------------------------------------------------------

module _ (end : ℕ) where
  pub stands-le : (n : ℕ) (ps : List Placed) → stands end n ps ≡ true → here end ps ≤ n
  unfolding from
  stands-le n [] e = let q = eqb-true end n e in omega arith
  stands-le n (p ∷ ps) e = go (ltb p.start n) refl
    where
      go : (b : Bool) → ltb p.start n ≡ b → p.start ≤ n
      go true k = let q = ltb-true p.start n k in omega arith
      go false k = let h : eqb p.start n ≡ true = rw (k, from) at e in let q = eqb-true p.start n h in omega arith

  pub stands_here : (n : ℕ) (ps : List Placed) → stands end n ps ≡ true → here end (from n ps) ≡ n
  stands_here n ps e = eqb-true (here end (from n ps)) n e

  -- a word before b: the first token starts before b
  pub word_below : (b : ℕ) (ps : List Placed) → some? plain (tokens (up_to b ps)) ≡ true → here end ps < b
  unfolding up_to tokens
  word_below b [] e = false_true e
  word_below b (p ∷ ps) e = go (ltb p.start b) refl
    where
      go : (t : Bool) → ltb p.start b ≡ t → p.start < b
      go true k = ltb-true p.start b k
      go false k = false_true (rw (k, up_to) at e)

  -- each token starts before the text's end
  abbrev pub Below : List Placed → Type 0
  Below ps = every (λ (p : Placed). ltb p.start end) ps ≡ true

  pub below_from : (n : ℕ) (ps : List Placed) → Below ps → Below (from n ps)
  unfolding from
  below_from n [] h = h
  below_from n (p ∷ ps) h = go (below_from n ps (and_true (ltb p.start end) (every (λ (p : Placed). ltb p.start end) ps) h).1) (ltb p.start n) refl
    where
      go : Below (from n ps) → (t : Bool) → ltb p.start n ≡ t → Below (from n (p ∷ ps))
      go k true e = rw (e, from) k
      go k false e = rw (e, from) h

  pub below_here : (ps : List Placed) → Below ps → here end ps ≤ end
  below_here [] h = omega arith
  below_here (p ∷ ps) h = let q = ltb-true p.start end (and_true (ltb p.start end) (every (λ (p : Placed). ltb p.start end) ps) h).0 in omega arith

  pub below_all : (ps : List Placed) → Below ps → up_to end ps ≡ ps
  unfolding up_to
  below_all [] h = refl
  below_all (p ∷ ps) h =
      let q = and_true (ltb p.start end) (every (λ (p : Placed). ltb p.start end) ps) h in
      rw (q.0, up_to) (ap (λ (l : List Placed). p ∷ l) (below_all ps q.1))

  pub below_none : (ps : List Placed) → Below ps → from end ps ≡ []
  unfolding from
  below_none [] h = refl
  below_none (p ∷ ps) h =
      let q = and_true (ltb p.start end) (every (λ (p : Placed). ltb p.start end) ps) h in
      rw (q.0, from) (below_none ps q.1)
