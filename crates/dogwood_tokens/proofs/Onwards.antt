-- A run and a string, read by characters: where the code's places and dogwood_rules' counts of characters meet.
use Prim.Native.Nat.{ℕ, zero, suc, ◌+◌}
use mathlib.Core.Path.{◌≡◌, refl, sym, ap, ◌∙◌, subst}
use mathlib.Core.Bool.{Bool, true, false}
use mathlib.Core.List.{List, [], ◌∷◌}
use mathlib.Core.Option.{Option as Maybe, none, some}
use native.Mathlib.Omega.{arith}
use native.Mathlib.Nat.{add-zero}
use borrow.Author.Tests.{eqb-true, eqb-false}
use lib.ListN.{take, drop}
use lib.Dec.{eqb}
use Rattle.dogwood_rules.specs.Basic.{run_length}
use Rattle.dogwood_rules.specs.Utf8.{size, byte_length}
use Rattle.dogwood_rules.specs.Token.{closing}
use Rattle.dogwood_rules.proofs.Runs.{run_more, run_none}
use Rattle.dogwood_rules.proofs.Calm.{up, closing-escaped, closing-quote, closing-plain}
use Rattle.utf8.specs.Utf8.{decode_at}
use Rattle.utf8.proofs.Reading.{Reads, reads_end, reads_more}
use Rattle.dogwood_scans.specs.Run.{run_end, string_end}
use Rattle.dogwood_scans.proofs.Run.{run_on, run_off, run_cut, string_cut, string_close, string_past, string_escape, string_open}
use Rattle.std.specs.Prelude.{None, Option, Some}
use Rattle.utf8.specs.declared.Char.{Char}
use Rattle.utf8.specs.Char.{char_of}

-- n characters on
pub reads-drop : (s : List ℕ) {i : ℕ} {cs : List ℕ} (n : ℕ) → Reads s i cs → Reads s (i + byte_length (take n cs)) (drop n cs)
unfolding byte_length
reads-drop s {i} {cs} zero r = subst (λ (j : ℕ). Reads s j cs) (sym (add-zero i)) r
reads-drop s {i} (suc n) (reads_end e) = subst (λ (j : ℕ). Reads s j []) (sym (add-zero i)) (reads_end e)
reads-drop s {i} (suc n) (reads_more {c} {cs} d r) =
    let q : i + size c + byte_length (take n cs) ≡ i + (size c + byte_length (take n cs)) = omega arith in
    subst (λ (j : ℕ). Reads s j (drop n cs)) q (reads-drop s {i = i + size c} n r)

-- a run
pub run_reads : (k : ℕ → Bool) (s : List ℕ) {i : ℕ} {cs : List ℕ} → Reads s i cs → run_end k s i ≡ i + byte_length (take (run_length k cs) cs)
unfolding byte_length
run_reads k s {i} (reads_end d) = run_cut k s i d ∙ sym (add-zero i)
run_reads k s {i} (reads_more {c} {cs} d r) = by (run_reads k s r) (k c) refl
  where
    by : run_end k s (i + size c) ≡ i + size c + byte_length (take (run_length k cs) cs) → (t : Bool) → k c ≡ t
        → run_end k s i ≡ i + byte_length (take (run_length k (c ∷ cs)) (c ∷ cs))
    by ih true h =
        run_on k s i d h ∙ ih
        ∙ (let q : i + size c + byte_length (take (run_length k cs) cs) ≡ i + (size c + byte_length (take (run_length k cs) cs)) = omega arith in q)
        ∙ ap (λ (n : ℕ). i + byte_length (take n (c ∷ cs))) (sym (run_more k c cs h))
    by ih false h = run_off k s i d h ∙ sym (add-zero i) ∙ ap (λ (n : ℕ). i + byte_length (take n (c ∷ cs))) (sym (run_none k c cs h))

-- where a string ends, from the number of its characters
abbrev pub ended : ℕ → List ℕ → Maybe ℕ → Option ℕ
ended i cs none = None
ended i cs (some n) = Some (i + byte_length (take n cs))

ended_up : (i c : ℕ) (cs : List ℕ) (o : Maybe ℕ) → ended (i + size c) cs o ≡ ended i (c ∷ cs) (up o)
unfolding byte_length
ended_up i c cs none = refl
ended_up i c cs (some n) =
    let q : i + size c + byte_length (take n cs) ≡ i + (size c + byte_length (take n cs)) = omega arith in
    ap Some q

-- what comes of a string behind a backslash
abbrev behind : List ℕ → ℕ → Option Char → Option ℕ
behind s i (Some x) = let c = x.code in let n = x.len in string_end s (i + n)
behind s i None = None

string_behind : (s : List ℕ) (i c n : ℕ) → decode_at s i ≡ char_of c n → (c ≡ 0x22 → ⊥) → c ≡ 0x5C → string_end s i ≡ behind s (i + n) (decode_at s (i + n))
string_behind s i c n d h k = by (decode_at s (i + n)) refl
  where
    by : (x : Option Char) → decode_at s (i + n) ≡ x → string_end s i ≡ behind s (i + n) x
    by (Some x) f = let e = x.code in let m = x.len in string_escape s i d h k f
    by None f = string_open s i d h k f

both : (s : List ℕ) {i : ℕ} {cs : List ℕ} → Reads s i cs
    → (string_end s i ≡ ended i cs (closing false cs)) × (behind s i (decode_at s i) ≡ ended i cs (closing true cs))
unfolding closing byte_length
both s {i} (reads_end d) = (string_cut s i d, ap (behind s i) d)
both s {i} (reads_more {c} {cs} d r) = by (both s r) (eqb c 34) refl (eqb c 92) refl
  where
    by : (string_end s (i + size c) ≡ ended (i + size c) cs (closing false cs)) × (behind s (i + size c) (decode_at s (i + size c)) ≡ ended (i + size c) cs (closing true cs))
        → (t : Bool) → eqb c 34 ≡ t → (u : Bool) → eqb c 92 ≡ u
        → (string_end s i ≡ ended i (c ∷ cs) (closing false (c ∷ cs))) × (behind s i (decode_at s i) ≡ ended i (c ∷ cs) (closing true (c ∷ cs)))
    by ih t h u k = (this t h u k, ap (behind s i) d ∙ ih.0 ∙ ended_up i c cs (closing false cs) ∙ ap (ended i (c ∷ cs)) (sym (closing-escaped c cs)))
      where
        this : (t : Bool) → eqb c 34 ≡ t → (u : Bool) → eqb c 92 ≡ u → string_end s i ≡ ended i (c ∷ cs) (closing false (c ∷ cs))
        this true h u k =
            string_close s i d (eqb-true c 34 h)
            ∙ ap (λ (n : ℕ). Some (i + n)) (sym (add-zero (size c)))
            ∙ ap (ended i (c ∷ cs)) (sym (closing-quote c cs h))
        this false h true k =
            string_behind s i c (size c) d (eqb-false c 34 h) (eqb-true c 92 k)
            ∙ ih.1
            ∙ ended_up i c cs (closing true cs)
            ∙ ap (λ (b : Bool). ended i (c ∷ cs) (up (closing b cs))) (sym k)
            ∙ ap (ended i (c ∷ cs)) (sym (closing-plain c cs h))
        this false h false k =
            string_past s i d (eqb-false c 34 h) (eqb-false c 92 k)
            ∙ ih.0
            ∙ ended_up i c cs (closing false cs)
            ∙ ap (λ (b : Bool). ended i (c ∷ cs) (up (closing b cs))) (sym k)
            ∙ ap (ended i (c ∷ cs)) (sym (closing-plain c cs h))

-- a string
pub string_reads : (s : List ℕ) {i : ℕ} {cs : List ℕ} → Reads s i cs → string_end s i ≡ ended i cs (closing false cs)
string_reads s r = (both s r).0

-- the bytes of a list in two parts
pub length_parts : (n : ℕ) (cs : List ℕ) → byte_length (take n cs) + byte_length (drop n cs) ≡ byte_length cs
unfolding byte_length
length_parts zero cs = omega arith
length_parts (suc n) [] = refl
length_parts (suc n) (c ∷ cs) = let h = length_parts n cs in omega arith
