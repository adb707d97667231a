-- A text without the white space at its right: the loop that finds where it ends, and its bytes.
use Rattle.std.specs.Prelude.{if◌then◌else◌, None}
use mathlib.Core.Path.{◌≡◌, refl, sym, ◌∙◌, ap}
use mathlib.Core.Bool.{Bool, true, false, not}
use mathlib.Core.List.{List, [], ◌∷◌, ◌++◌, append-nil, append_assoc}
use mathlib.Core.Option.{Option, none, some}
use Prim.Native.Nat.{ℕ, suc, ◌+◌, ◌-◌, ◌<◌, ◌≤◌}
use native.Mathlib.Omega.{arith}
use lib.ListN.{length, take, drop, get_or, length-append, length-drop, drop_of_length-le}
use lib.Seq.{drop-cons, drop-drop, take-append_seam}
use Rattle.dogwood_rules.specs.Basic.{or_drop, drop_back, cut, cut_after}
use Rattle.dogwood_rules.specs.Utf8.{bytes_of, character, encode, decode, byte_length}
use Rattle.dogwood_rules.specs.Token.{white}
use Rattle.dogwood_rules.proofs.Below.{not_true}
use Rattle.dogwood_rules.proofs.Cutting.{cut_stop}
use Rattle.dogwood_rules.proofs.RoundTrip.{decode_front}
use Rattle.dogwood_rules.proofs.Decoding.{character_sound, decode_sound}
use Rattle.dogwood_rules.proofs.Wholes.{encode-length, length_more}
use Rattle.utf8.specs.Told.{told}
use Rattle.utf8.specs.Utf8.{decode_at}
use Rattle.utf8.proofs.Inside.{inside}
use Rattle.dogwood_layout.proofs.Bytes.{encode-append}
use Rattle.utf8.specs.Char.{char_of, char_same}

-- Cutting at the right -------------------------------------------------------------------------------------------------

drop_last : (cs : List ℕ) (c : ℕ) → white c ≡ true → drop_back white (cs ++ c ∷ []) ≡ drop_back white cs
drop_last [] c e = ap (λ (b : Bool). if b then [] else c ∷ []) e
drop_last (x ∷ cs) c e = ap (or_drop white x) (drop_last cs c e)

keep_last : (cs : List ℕ) (c : ℕ) → white c ≡ false → drop_back white (cs ++ c ∷ []) ≡ cs ++ c ∷ []
keep_last [] c e = ap (λ (b : Bool). if b then [] else c ∷ []) e
keep_last (x ∷ []) c e = ap (or_drop white x) (keep_last [] c e)
keep_last (x ∷ y ∷ cs) c e = ap (or_drop white x) (keep_last (y ∷ cs) c e)

-- what is left is the front of the text
record Front (xs cs : List ℕ) : Type 0 where
  rest : List ℕ
  whole : cs ≡ xs ++ rest

or_front : (c : ℕ) (xs cs : List ℕ) → Front xs cs → Front (or_drop white c xs) (c ∷ cs)
or_front c [] cs f = go (white c)
  where
    go : (b : Bool) → Front (if b then [] else c ∷ []) (c ∷ cs)
    go true = record { rest = c ∷ cs; whole = refl }
    go false = record { rest = cs; whole = refl }
or_front c (x ∷ xs) cs f = record { rest = f.rest; whole = ap (λ (l : List ℕ). c ∷ l) f.whole }

back_front : (cs : List ℕ) → Front (drop_back white cs) cs
back_front [] = record { rest = []; whole = refl }
back_front (c ∷ cs) = or_front c (drop_back white cs) cs (back_front cs)

-- its bytes are the first of the text's bytes
pub kept_bytes : (cs : List ℕ) → take (byte_length (drop_back white cs)) (encode cs) ≡ encode (drop_back white cs)
kept_bytes cs =
    let f = back_front cs in
    let front = encode (drop_back white cs) in
    (λ j. take (sym (encode-length (drop_back white cs)) j) ((ap encode f.whole ∙ encode-append (drop_back white cs) f.rest) j))
    ∙ take-append_seam front (encode f.rest)

pub kept_fits : (cs : List ℕ) → byte_length (drop_back white cs) ≤ length (encode cs)
kept_fits cs =
    let f = back_front cs in
    let a = encode-length cs in
    let b : byte_length cs ≡ byte_length (drop_back white cs) + byte_length f.rest = ap byte_length f.whole ∙ length_more (drop_back white cs) f.rest in
    omega arith

-- a text that its code points spell is UTF-8 to its end
pub spelt_whole : (bs : List ℕ) → encode (decode bs).0 ≡ bs → (decode bs).1 ≡ []
spelt_whole bs e = none_left (decode bs).1 (let l = ap length (decode_sound bs).whole in let m = length-append (encode (decode bs).0) (decode bs).1 in let n = ap length e in omega arith)
  where
    none_left : (l : List ℕ) → length l ≡ 0 → l ≡ []
    none_left [] h = refl
    none_left (x ∷ l) h = absurd (omega arith)

not_false : (b : Bool) → not b ≡ false → b ≡ true
not_false true e = refl
not_false false e = sym e

-- One character on ---------------------------------------------------------------------------------------------------------

told_char : (o : Option (ℕ × ℕ)) {c n : ℕ} → told o ≡ char_of c n → (o ≡ some (c, n - 1)) × (0 < n)
told_char none e = absurd (let z : ◌≡◌ {A = ℕ} 0 1 = cc in omega arith)
told_char (some p) {c} {n} e =
    let a = (char_same e).0 in
    let b = (char_same e).1 in
    let d : p.1 ≡ n - 1 = omega arith in
    (λ j. some (a j, d j), omega arith)

told_fault : (o : Option (ℕ × ℕ)) → told o ≡ None → o ≡ none
told_fault none e = refl
told_fault (some p) e = absurd (let z : ◌≡◌ {A = ℕ} 0 1 = cc in omega arith)

-- the character read at a place, and how the rest is decoded
record Next (bytes : List ℕ) (i c n : ℕ) : Type 0 where
  some : 0 < n
  fits : i + n ≤ length bytes
  wide : byte_length (c ∷ []) ≡ n
  rest : decode (drop i bytes) ≡ (c ∷ (decode (drop (i + n) bytes)).0, (decode (drop (i + n) bytes)).1)

encode_one : (c : ℕ) → length (encode (c ∷ [])) ≡ length (bytes_of c)
unfolding encode
encode_one c = ap length (append-nil (bytes_of c))

next_char : (bytes : List ℕ) (i : ℕ) {c n : ℕ} → i < length bytes → decode_at bytes i ≡ char_of c n → Next bytes i c n
unfolding decode_at byte_length
next_char bytes i {c} {n} h e =
    let k = inside bytes i e in
    let r = told_char (character (drop i bytes)) e in
    let first = drop-cons bytes i 0 h in
    let s = character_sound (get_or bytes i 0) (drop (suc i) bytes) c (n - 1) (ap character (sym first) ∙ r.0) in
    let m : suc (n - 1) ≡ n = omega arith in
    let d : drop i bytes ≡ bytes_of c ++ drop (i + n) bytes =
    first ∙ s.bytes ∙ (λ j. bytes_of c ++ drop (m j) (sym first j)) ∙ ap (λ (l : List ℕ). bytes_of c ++ l) (drop-drop n i bytes) in
    let l = ap length d ∙ length-append (bytes_of c) (drop (i + n) bytes) in
    let a = length-drop i bytes in
    let b = length-drop (i + n) bytes in
    let z = encode-length (c ∷ []) in
    let y = encode_one c in
    record { some = k.0; fits = k.1; wide = omega arith; rest = ap decode d ∙ decode_front c (drop (i + n) bytes) s.is }

-- The loop -----------------------------------------------------------------------------------------------------------------

pub record KeptAt (bytes : List ℕ) (keep i : ℕ) : Type 0 where
  pub done : List ℕ
  pub whole : (decode bytes).0 ≡ done ++ (decode (drop i bytes)).0
  pub valid : (decode (drop i bytes)).1 ≡ []
  pub place : i ≡ byte_length done
  pub kept : keep ≡ byte_length (drop_back white done)

pub kept_start : (bytes : List ℕ) → (decode bytes).1 ≡ [] → KeptAt bytes 0 0
unfolding byte_length
kept_start bytes e = record { done = []; whole = refl; valid = e; place = refl; kept = refl }

module _ (bytes : List ℕ) {keep i : ℕ} (a : KeptAt bytes keep i) where
  module _ (h : i < length bytes) {c n : ℕ} (e : decode_at bytes i ≡ char_of c n) where
    step : (kept : ℕ) → kept ≡ byte_length (drop_back white (a.done ++ c ∷ [])) → KeptAt bytes kept (i + n)
    step kept k =
        let x = next_char bytes i h e in
        let p = a.place in
        let w = x.wide in
        let l = length_more a.done (c ∷ []) in
        record {
          done = a.done ++ c ∷ [];
          whole =
              a.whole ∙ ap (λ (r : List ℕ × List ℕ). a.done ++ r.0) x.rest
              ∙ sym (append_assoc a.done (c ∷ []) (decode (drop (i + n) bytes)).0);
          valid = ap (λ (r : List ℕ × List ℕ). r.1) (sym x.rest) ∙ a.valid;
          place = omega arith;
          kept = k;
        }

    -- r is the test of white space
    pub kept_white : {r : Bool} → r ≡ white c → not r ≡ false → KeptAt bytes keep (i + n)
    kept_white {r} q t = step keep (a.kept ∙ ap byte_length (sym (drop_last a.done c (sym q ∙ not_false r t))))

    pub kept_word : {r : Bool} → r ≡ white c → not r ≡ true → KeptAt bytes (i + n) (i + n)
    kept_word {r} t f =
        let x = next_char bytes i h e in
        let p = a.place in
        let v = x.wide in
        let l = length_more a.done (c ∷ []) in
        let q : i + n ≡ byte_length (a.done ++ c ∷ []) = omega arith in
        step (i + n) (q ∙ ap byte_length (sym (keep_last a.done c (sym t ∙ not_true r f))))

  pub kept_fault : i < length bytes → decode_at bytes i ≡ None → ⊥
  unfolding decode_at decode
  kept_fault h e =
      let first = drop-cons bytes i 0 h in
      let stuck : character (get_or bytes i 0 ∷ drop (suc i) bytes) ≡ none = ap character (sym first) ∙ told_fault (character (drop i bytes)) e in
      let all : (decode (drop i bytes)).1 ≡ drop i bytes = ap (λ (l : List ℕ). (decode l).1) first ∙ ap (λ (r : List ℕ × List ℕ). r.1) (cut_stop character (get_or bytes i 0) (drop (suc i) bytes) stuck) ∙ sym first in
      let l = ap length (sym all ∙ a.valid) in
      let d = length-drop i bytes in
      omega arith

  pub kept_end : length bytes ≤ i → keep ≡ byte_length (drop_back white (decode bytes).0)
  unfolding decode cut cut_after
  kept_end h =
      let none : (decode (drop i bytes)).0 ≡ [] = ap (λ (l : List ℕ). (decode l).0) (drop_of_length-le bytes {i = i} h) in
      let all : (decode bytes).0 ≡ a.done = a.whole ∙ ap (λ (l : List ℕ). a.done ++ l) none ∙ append-nil a.done in
      a.kept ∙ ap (λ (l : List ℕ). byte_length (drop_back white l)) (sym all)
