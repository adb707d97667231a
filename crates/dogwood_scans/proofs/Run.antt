-- The laws of `run_end` and `string_end`: what they come to at a place, by what stands there, and their bounds.
use Prim.Native.Nat.{ℕ, ◌+◌, ◌<◌, ◌≤◌}
use mathlib.Core.Path.{◌≡◌, refl, sym}
use mathlib.Core.Bool.{Bool, true, false, cond}
use mathlib.Core.List.{List}
use native.Mathlib.Omega.{arith}
use borrow.Author.Tests.{eq-eqb, ne_eqb}
use lib.ListN.{length, get_or}
use lib.Dec.{eqb}
use Rattle.utf8.specs.Utf8.{decode_at}
use Rattle.utf8.specs.Walk.{stop, go}
use Rattle.utf8.proofs.Walk.{Onward, from_go, from_stop, stop≢go}
use Rattle.utf8.proofs.Inside.{inside, plain}
use Rattle.utf8.proofs.Reading.{end_fault}
use Rattle.dogwood_scans.specs.Run.{past_one, run_step, run_end, escaped, quoted, string_step, string_end}
use Rattle.std.specs.Prelude.{None, Option, Some}
use Rattle.utf8.specs.declared.Char.{Char}
use Rattle.utf8.specs.Char.{char_of}

pub run_onward : (k : ℕ → Bool) (s : List ℕ) → Onward (run_step k s) (length s)
unfolding run_step
run_onward k s i a j e = by (decode_at s i) refl e
  where
    in_class_lem : (t : Bool) (c n : ℕ) → decode_at s i ≡ char_of c n → cond t (go tt (i + n)) (stop i) ≡ go a j → (i < j) × (j ≤ length s)
    in_class_lem true c n h e = let q : i + n ≡ j = cc in let p = inside s i h in omega arith
    in_class_lem false c n h e = absurd (stop≢go e)

    by : (d : Option Char) → decode_at s i ≡ d → past_one k i d ≡ go a j → (i < j) × (j ≤ length s)
    by (Some x) h e = let c = x.code in let n = x.len in in_class_lem (k c) c n h e
    by None h e = absurd (stop≢go e)

module _ (k : ℕ → Bool) (s : List ℕ) (i : ℕ) where
  pub run_on : {c n : ℕ} → decode_at s i ≡ char_of c n → k c ≡ true → run_end k s i ≡ run_end k s (i + n)
  unfolding run_end run_step
  run_on {c} {n} e h = from_go (run_step k s) (λ u r. r) (length s) (length s) (run_onward k s) i (i + n) (simp (e, h))

  pub run_off : {c n : ℕ} → decode_at s i ≡ char_of c n → k c ≡ false → run_end k s i ≡ i
  unfolding run_end run_step
  run_off e h = from_stop (run_step k s) (λ u r. r) (length s) (length s) i (simp (e, h))

  pub run_cut : decode_at s i ≡ None → run_end k s i ≡ i
  unfolding run_end run_step
  run_cut e = from_stop (run_step k s) (λ u r. r) (length s) (length s) i (simp e)

  -- a byte below 128 is a character; no character stands past the end
  pub run_byte : i < length s → get_or s i 0 < 128 → k (get_or s i 0) ≡ true → run_end k s (i + 1) ≡ run_end k s i
  run_byte l h t = sym (run_on (plain s i (get_or s i 0) l refl h) t)

  pub run_done : i < length s → get_or s i 0 < 128 → k (get_or s i 0) ≡ false → i ≡ run_end k s i
  run_done l h t = sym (run_off (plain s i (get_or s i 0) l refl h) t)

  pub run_out : length s ≤ i → i ≡ run_end k s i
  run_out l = sym (run_cut (end_fault s i l))

pub string_onward : (s : List ℕ) → Onward (string_step s) (length s)
unfolding string_step
string_onward s i a j e = by (decode_at s i) refl e
  where
    esc : (n m : ℕ) (d : Option Char) → m ≡ i + n → 0 < n → decode_at s m ≡ d → escaped m d ≡ go a j → (i < j) × (j ≤ length s)
    esc n m (Some x) q l h e = let c = x.code in let k = x.len in let z : m + k ≡ j = cc in let p = inside s m h in omega arith
    esc n m None q l h e = absurd (stop≢go e)

    tests : (t u : Bool) (c n : ℕ) → decode_at s i ≡ char_of c n
        → cond t (stop (Some (i + n))) (cond u (escaped (i + n) (decode_at s (i + n))) (go tt (i + n))) ≡ go a j → (i < j) × (j ≤ length s)
    tests true u c n h e = absurd (stop≢go e)
    tests false true c n h e = esc n (i + n) (decode_at s (i + n)) refl (inside s i h).0 refl e
    tests false false c n h e = let q : i + n ≡ j = cc in let p = inside s i h in omega arith

    by : (d : Option Char) → decode_at s i ≡ d → quoted s i d ≡ go a j → (i < j) × (j ≤ length s)
    by (Some x) h e = let c = x.code in let n = x.len in tests (eqb c 0x22) (eqb c 0x5C) c n h e
    by None h e = absurd (stop≢go e)

module _ (s : List ℕ) (i : ℕ) where
  pub string_cut : decode_at s i ≡ None → string_end s i ≡ None
  unfolding string_end string_step
  string_cut e = from_stop (string_step s) (λ u r. r) None (length s) i (simp e)

  pub string_out : length s ≤ i → None ≡ string_end s i
  string_out l = sym (string_cut (end_fault s i l))

  module _ {c n : ℕ} (e : decode_at s i ≡ char_of c n) where
    pub string_close : c ≡ 0x22 → string_end s i ≡ Some (i + n)
    unfolding string_end string_step
    string_close h = from_stop (string_step s) (λ u r. r) None (length s) i (simp (e, eq-eqb _ _ h))

    module _ (h : c ≡ 0x22 → ⊥) where
      pub string_past : (c ≡ 0x5C → ⊥) → string_end s i ≡ string_end s (i + n)
      unfolding string_end string_step
      string_past k = from_go (string_step s) (λ u r. r) None (length s) (string_onward s) i (i + n) (simp (e, ne_eqb _ _ h, ne_eqb _ _ k))

      pub string_escape : {d m : ℕ} → c ≡ 0x5C → decode_at s (i + n) ≡ char_of d m → string_end s i ≡ string_end s (i + n + m)
      unfolding string_end string_step
      string_escape {d} {m} k f = from_go (string_step s) (λ u r. r) None (length s) (string_onward s) i (i + n + m) (simp (e, ne_eqb _ _ h, eq-eqb _ _ k, f))

      pub string_open : c ≡ 0x5C → decode_at s (i + n) ≡ None → string_end s i ≡ None
      unfolding string_end string_step
      string_open k f = from_stop (string_step s) (λ u r. r) None (length s) i (simp (e, ne_eqb _ _ h, eq-eqb _ _ k, f))
