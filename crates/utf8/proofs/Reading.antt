-- Reads s i cs: from the place i on, up to its end or the first bad place, s has the characters cs. What is proved of places is proved by
-- induction on it.
use Rattle.std.specs.Prelude.{if◌then◌else◌, None, Option, Some}
use Prim.Native.Nat.{ℕ, suc, ◌+◌, ◌/◌, ◌<◌, ◌≤◌}
use mathlib.Core.Path.{◌≡◌, refl, sym, ap, ◌∙◌, subst}
use mathlib.Core.Bool.{Bool, true, false, cond}
use mathlib.Core.List.{List, [], ◌∷◌, ◌++◌}
use mathlib.Core.Option.{Option as Maybe, none, some}
use native.Mathlib.Omega.{arith}
use borrow.Author.Tests.{ltb-true, ltb-false, lt-ltb}
use lib.ListN.{length, get_or, drop, length-drop, length-append, drop_of_length-le, get_or-eq_default}
use lib.Seq.{drop-cons}
use lib.Dec.{ltb}
use Rattle.dogwood_rules.specs.Token.{next}
use Rattle.dogwood_rules.specs.Utf8.{character, decode, encode, size, byte_length, bytes_of, later}
use Rattle.dogwood_rules.proofs.Decoding.{character_sound, decode_sound}
use Rattle.utf8.specs.Utf8.{decode_at}
use Rattle.utf8.specs.Walk.{stop, go}
use Rattle.utf8.specs.Valid.{past, bad_step, bad_from}
use Rattle.utf8.specs.Told.{told}
use Rattle.utf8.proofs.Walk.{from_ind, stop≢go}
use Rattle.utf8.proofs.Inside.{inside, plain}
use Rattle.utf8.proofs.InsideBytes.{never}
use Rattle.utf8.proofs.Valid.{bad_onward}
use Rattle.utf8.proofs.Character.{decode_at_lem}
use Rattle.utf8.proofs.Whole.{decode_char, decode_fault, decode_end, no_character}
use Rattle.utf8.specs.declared.Char.{Char}
use Rattle.utf8.specs.Char.{char_of, char_same}

pub data Reads (s : List ℕ) : ℕ → List ℕ → Type 0 where
  reads_end : {i : ℕ} → decode_at s i ≡ None → Reads s i []
  reads_more : {i c : ℕ} {cs : List ℕ} → decode_at s i ≡ char_of c (size c) → Reads s (i + size c) cs → Reads s i (c ∷ cs)

length-bytes : (c : ℕ) → length (bytes_of c) ≡ size c
unfolding bytes_of size
length-bytes c = by (ltb c 0x80) (ltb c 0x800) (ltb c 0x10000)
  where
    by : (t u v : Bool)
        → length (if t then c ∷ [] else if u then (0xc0 + c / 64) ∷ later c ∷ [] else if v then (0xe0 + c / 4096) ∷ later (c / 64) ∷ later c ∷ [] else (0xf0 + c / 262144) ∷ later (c / 4096) ∷ later (c / 64) ∷ later c ∷ [])
        ≡ (if t then 1 else if u then 2 else if v then 3 else 4)
    by true u v = refl
    by false true v = refl
    by false false true = refl
    by false false false = refl

-- the bytes of a character that stands at a place
pub sound_at : (s : List ℕ) (i : ℕ) {c n : ℕ} → decode_at s i ≡ char_of c n → drop i s ≡ bytes_of c ++ drop n (drop i s)
sound_at s i {c} {n} e = by (drop i s) (character (drop i s)) refl (sym (decode_at_lem s i) ∙ e)
  where
    by : (l : List ℕ) (o : Maybe (ℕ × ℕ)) → character l ≡ o → told o ≡ char_of c n → l ≡ bytes_of c ++ drop n l
    by l none h q = absurd (never q)
    by [] (some p) h q = absurd (no_character h)
    by (x ∷ xs) (some p) h q =
        let y = (char_same q).0 in
        let z = (char_same q).1 in
        (character_sound x xs p.0 p.1 h).bytes ∙ (λ i. bytes_of (y i) ++ drop (z i) (x ∷ xs))

-- it has as many bytes as its code point takes
pub size_at : (s : List ℕ) (i : ℕ) {c n : ℕ} → decode_at s i ≡ char_of c n → n ≡ size c
size_at s i {c} {n} e =
    let p = inside s i e in
    let l = ap length (sound_at s i e) ∙ length-append (bytes_of c) (drop n (drop i s)) in
    let m = length-drop n (drop i s) in
    let o = length-drop i s in
    let q = length-bytes c in
    omega arith

pub size_ascii : (c : ℕ) → c < 128 → size c ≡ 1
unfolding size
size_ascii c h = simp (lt-ltb c 128 h)

byte_ascii : (s : List ℕ) (i : ℕ) {c n : ℕ} → decode_at s i ≡ char_of c n → c < 128 → get_or s i 0 ≡ c
unfolding bytes_of
byte_ascii s i {c} {n} e h =
    let p = inside s i e in
    let u : drop i s ≡ c ∷ drop n (drop i s) = sound_at s i e ∙ simp (lt-ltb c 128 h) in
    let v : drop i s ≡ get_or s i 0 ∷ drop (suc i) s = drop-cons s i 0 (omega arith) in
    cc

-- a first byte above ASCII begins a character above ASCII
pub wide_at : (s : List ℕ) (i : ℕ) {c n : ℕ} → decode_at s i ≡ char_of c n → 128 ≤ get_or s i 0 → 128 ≤ c
wide_at s i {c} {n} e h = by (ltb c 128) refl
  where
    by : (t : Bool) → ltb c 128 ≡ t → 128 ≤ c
    by true k = absurd (let q = byte_ascii s i e (ltb-true c 128 k) in let l = ltb-true c 128 k in omega arith)
    by false k = ltb-false c 128 k

-- a test that no byte above ASCII passes may look at the first byte in place of the character
pub byte_at : (s : List ℕ) (i : ℕ) {c n : ℕ} (f : ℕ → Bool) → ((b : ℕ) → 128 ≤ b → f b ≡ false) → decode_at s i ≡ char_of c n → f (get_or s i 0) ≡ f c
byte_at s i {c} {n} f big e = by (ltb c 128) refl (ltb (get_or s i 0) 128) refl
  where
    by : (t : Bool) → ltb c 128 ≡ t → (u : Bool) → ltb (get_or s i 0) 128 ≡ u → f (get_or s i 0) ≡ f c
    by true h u k = ap f (byte_ascii s i e (ltb-true c 128 h))
    by false h true k =
        let p = inside s i e in
        let q = plain s i (get_or s i 0) (omega arith) refl (ltb-true (get_or s i 0) 128 k) in
        ap f (char_same (sym q ∙ e)).0
    by false h false k = big (get_or s i 0) (ltb-false (get_or s i 0) 128 k) ∙ sym (big c (ltb-false c 128 h))

pub end_fault : (s : List ℕ) (i : ℕ) → length s ≤ i → decode_at s i ≡ None
unfolding decode_at character
end_fault s i h = ap (λ (l : List ℕ). told (character l)) (drop_of_length-le s {i = i} h)

-- the characters from a place on are those that `decode` gives
pub reads_at : (s : List ℕ) (i : ℕ) → Reads s i (decode (drop i s)).0
unfolding bad_from bad_step
reads_at s =
    from_ind (bad_step s) (λ u r. r) None (length s) (bad_onward s) (λ i r. Reads s i (decode (drop i s)).0)
    (λ i r e. stops i r (ltb i (length s)) refl (decode_at s i) refl e)
    (λ i j a r e p. goes i j a (ltb i (length s)) refl (decode_at s i) refl e p)
  where
    stops : (i : ℕ) (r : Option ℕ) (t : Bool) → ltb i (length s) ≡ t → (d : Option Char) → decode_at s i ≡ d → cond t (past i d) (stop None) ≡ stop r
        → Reads s i (decode (drop i s)).0
    stops i r true h (Some x) k e = absurd (stop≢go (sym e))
    stops i r true h None k e = subst (λ (x : List ℕ × List ℕ). Reads s i x.0) (sym (decode_fault s i (ltb-true i (length s) h) k)) (reads_end k)
    stops i r false h d k e =
        let u = ltb-false i (length s) h in
        subst (λ (x : List ℕ × List ℕ). Reads s i x.0) (sym (decode_end s i u)) (reads_end (end_fault s i u))

    goes : (i j : ℕ) (a : Unit {0}) (t : Bool) → ltb i (length s) ≡ t → (d : Option Char) → decode_at s i ≡ d → cond t (past i d) (stop None) ≡ go a j
        → Reads s j (decode (drop j s)).0 → Reads s i (decode (drop i s)).0
    goes i j a true h (Some x) k e p =
        let c = x.code in let n = x.len in
        let v : j ≡ i + n = cc in
        let z = size_at s i k in
        subst (λ (x : List ℕ × List ℕ). Reads s i x.0) (sym (decode_char s i k))
        (reads_more (k ∙ ap (λ (m : ℕ). char_of c m) z)
        (subst (λ (m : ℕ). Reads s (i + m) (decode (drop (i + n) s)).0) z (subst (λ (m : ℕ). Reads s m (decode (drop m s)).0) v p)))
    goes i j a true h None k e p = absurd (stop≢go e)
    goes i j a false h d k e p = absurd (stop≢go e)

-- and no others
pub reads_only : (s : List ℕ) {i : ℕ} {cs ds : List ℕ} → Reads s i cs → Reads s i ds → cs ≡ ds
reads_only s (reads_end d) (reads_end e) = refl
reads_only s (reads_end d) (reads_more e r) = absurd (never (sym d ∙ e))
reads_only s (reads_more d q) (reads_end e) = absurd (never (sym e ∙ d))
reads_only s {i} (reads_more {c = x} {cs = xs} d q) (reads_more {c = y} {cs = ys} e r) =
    let z = (char_same (sym d ∙ e)).0 in
    let h = reads_only s q (subst (λ (a : ℕ). Reads s (i + size a) ys) (sym z) r) in
    (λ j. z j ∷ h j)

length-encode : (cs : List ℕ) → length (encode cs) ≡ byte_length cs
unfolding encode byte_length
length-encode [] = refl
length-encode (c ∷ cs) = length-append (bytes_of c) (encode cs) ∙ (λ i. length-bytes c i + length-encode cs i)

-- the bytes of a text are those of its characters and those that are left
pub length-decode : (s : List ℕ) → byte_length (decode s).0 + length (decode s).1 ≡ length s
length-decode s =
    ap (λ (n : ℕ). n + length (decode s).1) (sym (length-encode (decode s).0))
    ∙ sym (length-append (encode (decode s).0) (decode s).1)
    ∙ ap length (decode_sound s).whole

-- no byte below 128 stands where no character does
fault_byte : (s : List ℕ) (i : ℕ) (f : ℕ → Bool) → ((b : ℕ) → 128 ≤ b → f b ≡ false) → f 0 ≡ false → decode_at s i ≡ None → f (get_or s i 0) ≡ false
fault_byte s i f big low e = by (ltb i (length s)) refl (ltb (get_or s i 0) 128) refl
  where
    by : (t : Bool) → ltb i (length s) ≡ t → (u : Bool) → ltb (get_or s i 0) 128 ≡ u → f (get_or s i 0) ≡ false
    by true h true k = absurd (never (sym e ∙ plain s i (get_or s i 0) (ltb-true i (length s) h) refl (ltb-true (get_or s i 0) 128 k)))
    by true h false k = big (get_or s i 0) (ltb-false (get_or s i 0) 128 k)
    by false h u k = ap f (get_or-eq_default s 0 (ltb-false i (length s) h)) ∙ low

-- the same at a place where the text may have ended
pub next_at_lem : (s : List ℕ) {i : ℕ} {cs : List ℕ} (f : ℕ → Bool) → ((b : ℕ) → 128 ≤ b → f b ≡ false) → f 0 ≡ false → Reads s i cs → f (get_or s i 0) ≡ next f cs
next_at_lem s {i} f big low (reads_end d) = fault_byte s i f big low d
next_at_lem s {i} f big low (reads_more d r) = byte_at s i f big d
