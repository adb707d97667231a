-- Code points and their bytes: tests on ASCII texts, widths and columns.
use Rattle.std.specs.Prelude.{if◌then◌else◌}
use mathlib.Core.Path.{◌≡◌, refl, sym, ◌∙◌, ap}
use mathlib.Core.Bool.{Bool, true, false, ◌&&◌, ◌||◌}
use mathlib.Core.List.{List, [], ◌∷◌, ◌++◌, append_assoc}
use Prim.Native.Nat.{ℕ, suc, ◌+◌, ◌/◌, ◌<◌, ◌≤◌}
use native.Mathlib.Numerals.{add-one}
use native.Mathlib.Omega.{arith}
use lib.Dec.{leb, ltb, eqb}
use lib.ListN.{length, take, get_or, length-append}
use lib.Seq.{take-suc, take_all}
use borrow.Author.Tests.{ltb-true, ltb-false, lt-ltb, le-ltb, le-leb, lt-leb, eq-eqb, ne_eqb}
use Rattle.dogwood_rules.specs.Basic.{same}
use Rattle.dogwood_rules.specs.Utf8.{bytes_of, later, encode}
use Rattle.dogwood_rules.specs.Layout.{column}
use Rattle.dogwood_layout.specs.declared.Span.{Span}
use Rattle.dogwood_layout.specs.Measure.{span_after, past_byte, past_bytes}

pub encode-append : (cs bs : List ℕ) → encode (cs ++ bs) ≡ encode cs ++ encode bs
unfolding encode
encode-append [] bs = refl
encode-append (c ∷ cs) bs = ap (λ (l : List ℕ). bytes_of c ++ l) (encode-append cs bs) ∙ sym (append_assoc (bytes_of c) (encode cs) (encode bs))

-- ASCII texts -----------------------------------------------------------------------------------------------

abbrev pub Ascii : List ℕ → Type 0
Ascii [] = Unit {0}
Ascii (b ∷ q) = (b < 128) × Ascii q

-- a character's bytes: itself, or a first byte from C0 on with bytes 80 to BF behind it
pub data Bytes (c : ℕ) : List ℕ → Type 0 where
  one : c < 128 → Bytes c (c ∷ [])
  two : {a x : ℕ} → 128 ≤ c → 192 ≤ a → 128 ≤ x → x < 192 → Bytes c (a ∷ x ∷ [])
  three : {a x y : ℕ} → 128 ≤ c → 192 ≤ a → 128 ≤ x → x < 192 → 128 ≤ y → y < 192 → Bytes c (a ∷ x ∷ y ∷ [])
  four : {a x y z : ℕ} → 128 ≤ c → 192 ≤ a → 128 ≤ x → x < 192 → 128 ≤ y → y < 192 → 128 ≤ z → z < 192 → Bytes c (a ∷ x ∷ y ∷ z ∷ [])

pub bytes_of_lem : (c : ℕ) → Bytes c (bytes_of c)
unfolding bytes_of
bytes_of_lem c = go (ltb c 128) refl (ltb c 2048) refl (ltb c 65536) refl
  where
    go : (p : Bool) → ltb c 128 ≡ p → (q : Bool) → ltb c 2048 ≡ q → (r : Bool) → ltb c 65536 ≡ r → Bytes c (bytes_of c)
    go true e q f r g = rw e (one (ltb-true c 128 e))
    go false e true f r g = rw (e, f) (two {a = 192 + c / 64} {x = later c} (ltb-false c 128 e) (omega arith) (omega arith) (omega arith))
    go false e false f true g = rw (e, f, g) (three {a = 224 + c / 4096} {x = later (c / 64)} {y = later c} (ltb-false c 128 e) (omega arith) (omega arith) (omega arith) (omega arith) (omega arith))
    go false e false f false g = rw (e, f, g) (four {a = 240 + c / 262144} {x = later (c / 4096)} {y = later (c / 64)} {z = later c} (ltb-false c 128 e) (omega arith) (omega arith) (omega arith) (omega arith) (omega arith) (omega arith) (omega arith))

differ : (a b : ℕ) (u v : Bool) → b < 128 → 192 ≤ a → (c : ℕ) → 128 ≤ c → (eqb c b && u) ≡ (eqb a b && v)
differ a b u v h k c l =
    rw (ne_eqb c b (λ (e : c ≡ b). omega arith), ne_eqb a b (λ (e : a ≡ b). omega arith)) refl

-- an ASCII text is told by its bytes
pub same-encode : (cs q : List ℕ) → Ascii q → same cs q ≡ same (encode cs) q
unfolding encode
same-encode [] [] a = refl
same-encode [] (b ∷ q) a = refl
same-encode (c ∷ cs) [] a = go (bytes_of c) (bytes_of_lem c)
  where
    go : (l : List ℕ) → Bytes c l → false ≡ same (l ++ encode cs) []
    go l (one h) = refl
    go l (two h k m n) = refl
    go l (three h k m n o p) = refl
    go l (four h k m n o p q r) = refl
same-encode (c ∷ cs) (b ∷ q) a = go (bytes_of c) (bytes_of_lem c) (same-encode cs q a.1)
  where
    go : (l : List ℕ) → Bytes c l → same cs q ≡ same (encode cs) q → (eqb c b && same cs q) ≡ same (l ++ encode cs) (b ∷ q)
    go l (one h) e = ap (λ (x : Bool). eqb c b && x) e
    go l (two {a = f} h k m n) e = differ f b (same cs q) _ a.0 k c h
    go l (three {a = f} h k m n o p) e = differ f b (same cs q) _ a.0 k c h
    go l (four {a = f} h k m n o p s t) e = differ f b (same cs q) _ a.0 k c h

pub same_differ : (xs ys : List ℕ) → (length xs ≡ length ys → ⊥) → same xs ys ≡ false
same_differ [] [] h = absurd (h refl)
same_differ [] (y ∷ ys) h = refl
same_differ (x ∷ xs) [] h = refl
same_differ (x ∷ xs) (y ∷ ys) h = go (eqb x y) (same_differ xs ys (λ e. h (ap suc e)))
  where
    go : (b : Bool) → same xs ys ≡ false → (b && same xs ys) ≡ false
    go true e = e
    go false e = refl

-- Widths and columns ------------------------------------------------------------------------------------------

-- a byte inside a character adds nothing
inner : (s : Span) (b : ℕ) → 128 ≤ b → b < 192 → past_byte s b ≡ s
unfolding past_byte
inner s b h k = rw (ne_eqb b 10 (λ (e : b ≡ 10). omega arith), le-ltb b 128 h, lt-leb 192 b k) refl

-- a first byte adds its character
first : (s : Span) (a c : ℕ) → 192 ≤ a → 128 ≤ c → past_byte s a ≡ span_after s (c ∷ [])
unfolding past_byte column
first s a c h k = rw (add-one, add-one, ne_eqb a 10 (λ (e : a ≡ 10). omega arith), le-ltb a 128 (omega arith), le-leb 192 a h, ne_eqb c 10 (λ (e : c ≡ 10). omega arith)) refl

plain : (s : Span) (c : ℕ) → c < 128 → past_byte s c ≡ span_after s (c ∷ [])
unfolding past_byte column
plain s c h = go (eqb c 10) refl
  where
    go : (b : Bool) → eqb c 10 ≡ b → past_byte s c ≡ span_after s (c ∷ [])
    go true e = rw e refl
    go false e = rw (add-one, add-one, e, lt-ltb c 128 h) refl

past-character : (s : Span) (c : ℕ) (l rest : List ℕ) → Bytes c l → past_bytes s (l ++ rest) ≡ past_bytes (span_after s (c ∷ [])) rest
unfolding past_bytes
past-character s c l rest (one h) = ap (λ (z : Span). past_bytes z rest) (plain s c h)
past-character s c l rest (two {a} {x} h k m n) =
    ap (λ (z : Span). past_bytes z rest) (inner (past_byte s a) x m n ∙ first s a c k h)
past-character s c l rest (three {a} {x} {y} h k m n o p) =
    ap (λ (z : Span). past_bytes z rest) (inner (past_byte (past_byte s a) x) y o p ∙ inner (past_byte s a) x m n ∙ first s a c k h)
past-character s c l rest (four {a} {x} {y} {z} h k m n o p q r) =
    ap (λ (z : Span). past_bytes z rest) (inner (past_byte (past_byte (past_byte s a) x) y) z q r ∙ inner (past_byte (past_byte s a) x) y o p ∙ inner (past_byte s a) x m n ∙ first s a c k h)

pub span_append : (s : Span) (cs bs : List ℕ) → span_after (span_after s cs) bs ≡ span_after s (cs ++ bs)
unfolding column
span_append s [] bs = let e : s.width + 0 + length bs ≡ s.width + length bs = omega arith in λ i. record { width = e i; col = column s.col bs }
span_append s (c ∷ cs) bs = cons_first (span_append (span_after s (c ∷ [])) cs bs)
  where
    wide : s.width + suc (length cs) + length bs ≡ s.width + suc (length (cs ++ bs))
    wide = rw length-append (omega arith)

    cons_first : span_after (span_after (span_after s (c ∷ [])) cs) bs ≡ span_after (span_after s (c ∷ [])) (cs ++ bs) → span_after (span_after s (c ∷ cs)) bs ≡ span_after s (c ∷ (cs ++ bs))
    cons_first h = λ i. record { width = wide i; col = ap (λ (z : Span). z.col) h i }

pub past-encode : (s : Span) (cs : List ℕ) → past_bytes s (encode cs) ≡ span_after s cs
unfolding encode past_bytes column
past-encode s [] = let e : s.width ≡ s.width + 0 = omega arith in λ i. record { width = e i; col = s.col }
past-encode s (c ∷ cs) = past-character s c (bytes_of c) (encode cs) (bytes_of_lem c) ∙ past-encode (span_after s (c ∷ [])) cs ∙ span_append s (c ∷ []) cs

pub past-snoc : (s : Span) (cs : List ℕ) (b : ℕ) → past_bytes s (cs ++ b ∷ []) ≡ past_byte (past_bytes s cs) b
unfolding past_bytes
past-snoc s [] b = refl
past-snoc s (a ∷ cs) b = past-snoc (past_byte s a) cs b

-- one byte adds at most one
pub past_bound : (s : Span) (b : ℕ) → ((past_byte s b).width ≤ s.width + 1) × ((past_byte s b).col ≤ s.col + 1)
unfolding past_byte
past_bound s b = go (eqb b 10) refl (ltb b 128 || leb 192 b) refl
  where
    go : (p : Bool) → eqb b 10 ≡ p → (q : Bool) → (ltb b 128 || leb 192 b) ≡ q → ((past_byte s b).width ≤ s.width + 1) × ((past_byte s b).col ≤ s.col + 1)
    go true e q f = rw e (omega arith, omega arith)
    go false e true f = rw (e, f) (omega arith, omega arith)
    go false e false f = rw (e, f) (omega arith, omega arith)

pub column_bound : (n : ℕ) (cs : List ℕ) → column n cs ≤ n + length cs
unfolding column
column_bound n [] = omega arith
column_bound n (c ∷ cs) = go (eqb c 10) refl (λ m. column_bound m cs)
  where
    go : (b : Bool) → eqb c 10 ≡ b → ((m : ℕ) → column m cs ≤ m + length cs) → column n (c ∷ cs) ≤ n + suc (length cs)
    go true e h = rw (e, column) (let k = h 0 in omega arith)
    go false e h = rw (e, column) (let k = h (suc n) in omega arith)

pub encode_longer : (cs : List ℕ) → length cs ≤ length (encode cs)
unfolding encode
encode_longer [] = omega arith
encode_longer (c ∷ cs) = go (bytes_of c) (bytes_of_lem c) (encode_longer cs)
  where
    go : (l : List ℕ) → Bytes c l → length cs ≤ length (encode cs) → suc (length cs) ≤ length (l ++ encode cs)
    go l (one h) e = omega arith
    go l (two h k m n) e = omega arith
    go l (three h k m n o p) e = omega arith
    go l (four h k m n o p q r) e = omega arith

-- A byte, and the bytes of a text, one after another ------------------------------------------------------------

pub past_lf : (s : Span) (b : ℕ) → b ≡ 10 → record { width = s.width + 1; col = 0 } ≡ past_byte s b
unfolding past_byte
past_lf s b e = rw (eq-eqb b 10 e) refl

pub past_first : (s : Span) (b : ℕ) → (b ≡ 10 → ⊥) → (ltb b 128 || leb 192 b) ≡ true → record { width = s.width + 1; col = s.col + 1 } ≡ past_byte s b
unfolding past_byte
past_first s b e f = rw (ne_eqb b 10 e) (ap (λ (z : Bool). if z then record { width = s.width + 1; col = s.col + 1 } else s) (sym f))

pub past_inner : (s : Span) (b : ℕ) → (b ≡ 10 → ⊥) → (ltb b 128 || leb 192 b) ≡ false → s ≡ past_byte s b
unfolding past_byte
past_inner s b e f = rw (ne_eqb b 10 e) (ap (λ (z : Bool). if z then record { width = s.width + 1; col = s.col + 1 } else s) (sym f))

pub record BytesAt (bs : List ℕ) (start s : Span) (i : ℕ) : Type 0 where
  pub fits : i ≤ length bs
  pub wide : s.width ≤ start.width + i
  pub far : s.col ≤ start.col + i
  pub done : s ≡ past_bytes start (take i bs)

pub bytes_start : (bs : List ℕ) (s : Span) → BytesAt bs s s 0
unfolding past_bytes
bytes_start bs s = record { fits = omega arith; wide = omega arith; far = omega arith; done = refl }

pub bytes_turn : (bs : List ℕ) (start s : Span) (i : ℕ) → BytesAt bs start s i → i < length bs → {r : Span} → r ≡ past_byte s (get_or bs i 0) → BytesAt bs start r (i + 1)
bytes_turn bs start s i a h {r} e =
    let b = past_bound s (get_or bs i 0) in
    let w = a.wide in
    let f = a.far in
    let ew : r.width ≡ (past_byte s (get_or bs i 0)).width = ap (λ (z : Span). z.width) e in
    let ec : r.col ≡ (past_byte s (get_or bs i 0)).col = ap (λ (z : Span). z.col) e in
    record {
      fits = omega arith;
      wide = omega (arith, b.0);
      far = omega (arith, b.1);
      done = e ∙ ap (λ (z : Span). past_byte z (get_or bs i 0)) a.done ∙ sym (past-snoc start (take i bs) (get_or bs i 0)) ∙ ap (past_bytes start) (sym (take-suc bs i 0 h) ∙ ap (λ (n : ℕ). take n bs) (sym (add-one i)));
    }

pub bytes_end : (bs : List ℕ) (start s : Span) (i : ℕ) → BytesAt bs start s i → length bs ≤ i → s ≡ past_bytes start bs
bytes_end bs start s i a h = a.done ∙ ap (past_bytes start) (take_all i bs h)

pub span_blank : (s : Span) → record { width = s.width + 1; col = s.col + 1 } ≡ span_after s (32 ∷ [])
unfolding past_byte
span_blank s = plain s 32 (omega arith)
