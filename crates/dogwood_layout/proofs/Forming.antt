-- The tree of a balanced run of sound tokens is well shaped.
use mathlib.Core.Path.{◌≡◌, refl, sym, subst}
use mathlib.Core.Bool.{Bool, true, false}
use mathlib.Core.List.{List, ◌∷◌}
use Prim.Native.Nat.{ℕ, zero, suc, ◌-◌, ◌<◌}
use native.Mathlib.Omega.{arith}
use lib.Dec.{ltb}
use borrow.Author.Tests.{eqb-true, ltb-true}
use Rattle.dogwood_rules.specs.Token.{Token}
use Rattle.dogwood_rules.specs.Tree.{opener, closer, Run, nothing, single, group, tokens_of, items_of, Open, whole, up_to, ahead, opened, open?, closed, run_of}
use Rattle.dogwood_rules.specs.Outline.{balanced}
use Rattle.dogwood_rules.proofs.Below.{and_true}
use Rattle.dogwood_rules.proofs.Trees.{AllSound, sound_end, sound_blank, sound_word, tree}
use Rattle.dogwood_layout.specs.Shape.{Sound, blank_sound, word_sound, Shaped, shaped_nothing, shaped_single, shaped_group, Formed}

-- a shaped run up to each of d closers
data Opened : ℕ → Open → Type 0 where
  opened_whole : {r : Run} → Shaped r → Opened 0 (whole r)
  opened-up_to : {d : ℕ} {r : Run} {c : Token} {o : Open} → Shaped r → opener c ≡ false → closer c ≡ true → Sound c → Opened d o → Opened (suc d) (up_to r c o)

opened-ahead : (f : Run → Run) {d : ℕ} {o : Open} → ((r : Run) → Shaped r → Shaped (f r)) → Opened d o → Opened d (ahead f o)
unfolding ahead
opened-ahead f h (opened_whole {r} s) = opened_whole (h r s)
opened-ahead f h (opened-up_to {d} {r} s a b k o) = opened-up_to (h r s) a b k o

opened-group : (t : Token) (d : ℕ) {o : Open} → opener t ≡ true → Sound t → Opened (suc d) o → Opened d (opened t o)
unfolding opened
opened-group t d e s (opened-up_to {r = i} {c} h a b k o) = opened-ahead (group t (tokens_of i) (items_of i) c) (λ r u. shaped_group e s a b k h u) o

turn : (t : Token) (ts : List Token) (d : ℕ) → Sound t → ((n : ℕ) → balanced n ts ≡ true → Opened n (open? ts)) → balanced d (t ∷ ts) ≡ true → Opened d (open? (t ∷ ts))
unfolding balanced open?
turn t ts d s ih e = go (opener t) refl (closer t) refl
  where
    close : (n : ℕ) → 0 < n → opener t ≡ false → closer t ≡ true → Opened (n - 1) (open? ts) → Opened n (up_to nothing t (open? ts))
    close zero h a b k = absurd (omega arith)
    close (suc n) h a b k = let q : suc n - 1 ≡ n = omega arith in opened-up_to shaped_nothing a b s (subst (λ (m : ℕ). Opened m (open? ts)) q k)

    go : (p : Bool) → opener t ≡ p → (q : Bool) → closer t ≡ q → Opened d (open? (t ∷ ts))
    go true a q b = rw (open?, a) (opened-group t d a s (ih (suc d) (rw (a, balanced) at e)))
    go false a true b =
        rw (open?, a, b)
        (let f = and_true (ltb 0 d) (balanced (d - 1) ts) (rw (a, b, balanced) at e) in
        close d (ltb-true 0 d f.0) a b (ih (d - 1) f.1))
    go false a false b = rw (open?, a, b) (opened-ahead (single t) (λ r u. shaped_single a b s u) (ih d (rw (a, b, balanced) at e)))

opened_all : {ts : List Token} → AllSound ts → (d : ℕ) → balanced d ts ≡ true → Opened d (open? ts)
unfolding balanced open?
opened_all sound_end d e = subst (λ (n : ℕ). Opened n (whole nothing)) (sym (eqb-true d 0 e)) (opened_whole shaped_nothing)
opened_all (sound_blank {t} {ts} b o c a) d e = turn t ts d (blank_sound b o c) (λ n h. opened_all a n h) e
opened_all (sound_word {t} {ts} b v a) d e = turn t ts d (word_sound b v) (λ n h. opened_all a n h) e

shaped_closed : {o : Open} → Opened 0 o → Shaped (closed o)
unfolding closed
shaped_closed (opened_whole h) = h

pub formed : (ts : List Token) → AllSound ts → balanced 0 ts ≡ true → Formed ts
unfolding run_of
formed ts a e = record { shaped = shaped_closed (opened_all a 0 e); tokens = (tree ts a e).tokens }
