-- A source that is cut into tokens is UTF-8, and its text is made up of them.
use Rattle.std.specs.Prelude.{if◌then◌else◌}
use mathlib.Core.Path.{◌≡◌, refl, sym, ◌∙◌, ap, subst}
use mathlib.Core.Bool.{Bool, true, false}
use mathlib.Core.List.{List, [], ◌∷◌, ◌++◌, append-nil}
use mathlib.Core.Option.{Option, none, some}
use Prim.Native.Nat.{ℕ, suc, ◌+◌, ◌<◌}
use native.Mathlib.Omega.{arith}
use lib.Dec.{ltb, eqb}
use lib.ListN.{length, length-append}
use borrow.Author.Tests.{eqb-true}
use Rattle.dogwood_rules.specs.Utf8.{size, bytes_of, encode, byte_length, decode, text_of}
use Rattle.dogwood_rules.specs.Token.{Token, Placed, tokenise, placed, spell, Tiled, tiled_end, tiled_more}
use Rattle.dogwood_rules.specs.Source.{Source, too_long, not_utf8, unended, cut_into, cut_up, decoded, source_of}
use Rattle.dogwood_rules.proofs.Chains.{Chain, chain_more, tokenise_made}
use Rattle.dogwood_rules.proofs.Decoding.{decode_sound}

none_left : {A : Type 0} (l : List A) → eqb (length l) 0 ≡ true → l ≡ []
none_left [] e = refl
none_left (x ∷ xs) e = let z : suc (length xs) ≡ 0 = eqb-true (suc (length xs)) 0 e in absurd (omega arith)

-- the tokens that a source is cut into, none if it is not
abbrev placed_in : Source → Option (List Placed)
placed_in too_long = none
placed_in (not_utf8 place) = none
placed_in (unended before place) = none
placed_in (cut_into ps) = some ps

pub record Whole (source : List ℕ) (ps : List Placed) : Type 0 where
  pub valid : (decode (text_of source)).1 ≡ []
  pub ended : (tokenise (decode (text_of source)).0).1 ≡ []
  pub cut : ps ≡ placed 0 (tokenise (decode (text_of source)).0).0

some_same : {A : Type 0} (x y : A) → some x ≡ some y → x ≡ y
some_same x y e = cc

clash : {A B : Type 0} (x : A) → none ≡ some x → B
clash x e = absurd (let z : ◌≡◌ {A = ℕ} 0 1 = cc in omega arith)

cut_whole : (source : List ℕ) (r : List Token × List ℕ) (ps : List Placed) → placed_in (cut_up source r) ≡ some ps → (r.1 ≡ []) × (ps ≡ placed 0 r.0)
unfolding cut_up
cut_whole source r ps e = go (eqb (length r.1) 0) refl
  where
    go : (b : Bool) → eqb (length r.1) 0 ≡ b → (r.1 ≡ []) × (ps ≡ placed 0 r.0)
    go true q = (none_left r.1 q, sym (some_same _ _ (rw q at e)))
    go false q = clash ps (rw q at e)

decoded_whole : (source : List ℕ) (r : List ℕ × List ℕ) (ps : List Placed) → placed_in (decoded source r) ≡ some ps
    → (r.1 ≡ []) × ((tokenise r.0).1 ≡ []) × (ps ≡ placed 0 (tokenise r.0).0)
unfolding decoded
decoded_whole source r ps e = go (eqb (length r.1) 0) refl
  where
    go : (b : Bool) → eqb (length r.1) 0 ≡ b → (r.1 ≡ []) × ((tokenise r.0).1 ≡ []) × (ps ≡ placed 0 (tokenise r.0).0)
    go true q = let h = cut_whole source (tokenise r.0) ps (rw q at e) in (none_left r.1 q, h.0, h.1)
    go false q = clash ps (rw q at e)

pub source_whole : (source : List ℕ) (ps : List Placed) → source_of source ≡ cut_into ps → Whole source ps
unfolding source_of
source_whole source ps e = go (ltb 1048576 (length source)) refl
  where
    go : (b : Bool) → ltb 1048576 (length source) ≡ b → Whole source ps
    go true q = clash ps (ap placed_in (rw q at e))
    go false q =
        let h = decoded_whole source (decode (text_of source)) ps (ap placed_in (rw q at e)) in
        record { valid = h.0; ended = h.1; cut = h.2 }

pub whole_codes : {source : List ℕ} {ps : List Placed} → Whole source ps → spell (tokenise (decode (text_of source)).0).0 ≡ (decode (text_of source)).0
whole_codes {source} w =
    let cs = (decode (text_of source)).0 in
    sym (ap (λ (l : List ℕ). spell (tokenise cs).0 ++ l) w.ended ∙ append-nil (spell (tokenise cs).0)) ∙ (tokenise_made cs).whole

pub whole_bytes : {source : List ℕ} {ps : List Placed} → Whole source ps → encode (decode (text_of source)).0 ≡ text_of source
whole_bytes {source} w =
    let cs = (decode (text_of source)).0 in
    sym (ap (λ (l : List ℕ). encode cs ++ l) w.valid ∙ append-nil (encode cs)) ∙ (decode_sound (text_of source)).whole

-- Lengths in bytes ---------------------------------------------------------------------------------------------------

size-bytes : (c : ℕ) → length (bytes_of c) ≡ size c
unfolding bytes_of size
size-bytes c = by (ltb c 0x80) (ltb c 0x800) (ltb c 0x10000) refl refl refl
  where
    by : (p q r : Bool) → ltb c 0x80 ≡ p → ltb c 0x800 ≡ q → ltb c 0x10000 ≡ r → length (bytes_of c) ≡ size c
    by true q r e f g = simp e
    by false true r e f g = simp (e, f)
    by false false true e f g = simp (e, f, g)
    by false false false e f g = simp (e, f, g)

size_pos : (c : ℕ) → 0 < size c
unfolding size
size_pos c = by (ltb c 0x80) (ltb c 0x800) (ltb c 0x10000)
  where
    by : (p q r : Bool) → 0 < (if p then 1 else if q then 2 else if r then 3 else 4)
    by true q r = omega arith
    by false true r = omega arith
    by false false true = omega arith
    by false false false = omega arith

pub encode-length : (cs : List ℕ) → length (encode cs) ≡ byte_length cs
unfolding encode byte_length
encode-length [] = refl
encode-length (c ∷ cs) =
    let a = length-append (bytes_of c) (encode cs) in
    let b = size-bytes c in
    let h = encode-length cs in
    omega arith

pub length_more : (xs ys : List ℕ) → byte_length (xs ++ ys) ≡ byte_length xs + byte_length ys
unfolding byte_length
length_more [] ys = omega arith
length_more (x ∷ xs) ys = let h = length_more xs ys in omega arith

-- Every byte of the text lies in exactly one token, and no token is empty ------------------------------------------------

placed_tiled : {k : List ℕ} (ts : List Token) (at end : ℕ) → Chain k ts → at + byte_length (spell ts) ≡ end → Tiled end at (placed at ts)
unfolding placed spell byte_length
placed_tiled [] at end c e = subst (λ (n : ℕ). Tiled end n []) (let h : end ≡ at = omega arith in h) tiled_end
placed_tiled {k} (t ∷ ts) at end (chain_more r c) e =
    let a = length_more t.text (spell ts) in
    let b : byte_length t.text ≡ size r.first + byte_length r.more = ap byte_length r.text in
    let p = size_pos r.first in
    tiled_more {p = record { token = t; start = at; stop = at + byte_length t.text }} (omega arith) (placed_tiled ts (at + byte_length t.text) end c (omega arith))

pub whole_tiled : {source : List ℕ} {ps : List Placed} → Whole source ps → Tiled (length (text_of source)) 0 ps
whole_tiled {source} w =
    let cs = (decode (text_of source)).0 in
    let l : byte_length (spell (tokenise cs).0) ≡ length (text_of source) = ap byte_length (whole_codes w) ∙ sym (encode-length cs) ∙ ap length (whole_bytes w) in
    subst (λ (qs : List Placed). Tiled (length (text_of source)) 0 qs) (sym w.cut) (placed_tiled (tokenise cs).0 0 (length (text_of source)) (tokenise_made cs).chain (omega arith))
