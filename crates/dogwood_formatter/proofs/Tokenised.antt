-- A table that tokenising filled holds the tokens of its text.
use mathlib.Core.Path.{◌≡◌, refl, sym, ◌∙◌, ap, subst}
use mathlib.Core.List.{List, [], ◌∷◌, ◌++◌, append-nil, append_assoc}
use Prim.Native.Nat.{◌≤◌, ℕ, ◌+◌, ◌-◌, ◌*◌}
use native.Mathlib.Omega.{arith}
use lib.ListN.{length, take, length-append}
use lib.Seq.{take-append_seam, drop-append_seam}
use Rattle.dogwood_rules.specs.Utf8.{encode, byte_length, decode, AllScalar, scalars_more}
use Rattle.dogwood_rules.specs.Token.{Token, Kind, Whitespace, Comment, String, Identifier, Number, Symbol, Other, kind_number, tokenise, placed, words_of, spell}
use Rattle.dogwood_rules.proofs.RoundTrip.{decode-encode}
use Rattle.dogwood_rules.proofs.Scalars.{scalars_front}
use Rattle.dogwood_rules.proofs.Decoding.{decode_sound}
use Rattle.dogwood_rules.proofs.Wholes.{encode-length}
use Rattle.dogwood_rules.proofs.Chains.{Chain, chain_end, chain_more, tokenise_made}
use Rattle.dogwood_layout.specs.declared.Entry.{Entry}
use Rattle.dogwood_layout.specs.View.{kind_of, bytes_at, token_of, tokens, Held, Holds, Ready}
use Rattle.dogwood_layout.proofs.Bytes.{encode-append, encode_longer}

kind_of_lem : (k : Kind) → kind_of (kind_number k) ≡ k
unfolding kind_of kind_number
kind_of_lem Whitespace = refl
kind_of_lem Comment = refl
kind_of_lem String = refl
kind_of_lem Identifier = refl
kind_of_lem Number = refl
kind_of_lem Symbol = refl
kind_of_lem Other = refl

scalars_back : (cs ds : List ℕ) → AllScalar (cs ++ ds) → AllScalar ds
scalars_back [] ds h = h
scalars_back (c ∷ cs) ds (scalars_more s h) = scalars_back cs ds h

-- the entry of a token that stands behind some bytes
module _ (before behind : List ℕ) (t : Token) (scalar : AllScalar t.text) where
  abbrev written : List ℕ
  written = before ++ (encode t.text ++ behind)

  abbrev entry : Entry
  entry = record { kind = kind_number t.kind; start = length before; end = length before + byte_length t.text }

  entry_bytes : bytes_at written entry ≡ encode t.text
  entry_bytes =
      let l = encode-length t.text in
      let q : length before + byte_length t.text - length before ≡ length (encode t.text) = omega arith in
      (λ j. take (q j) (drop-append_seam before (encode t.text ++ behind) j)) ∙ take-append_seam (encode t.text) behind

  entry_token : token_of written entry ≡ t
  unfolding token_of
  entry_token =
      let d : (decode (bytes_at written entry)).0 ≡ t.text = ap (λ (bs : List ℕ). (decode bs).0) entry_bytes ∙ ap (λ (r : List ℕ × List ℕ). r.0) (decode-encode scalar) in
      λ j. record { kind = kind_of_lem t.kind j; text = d j }

  entry_held : Held written entry
  entry_held =
      let l = encode-length t.text in
      let m = length-append before (encode t.text ++ behind) in
      let n = length-append (encode t.text) behind in
      record { ordered = omega arith; inside = omega arith; spells = ap (λ (u : Token). encode u.text) entry_token ∙ sym entry_bytes }

-- a token has a character
chain_length : {k : List ℕ} {ts : List Token} → Chain k ts → length ts ≤ length (spell ts)
unfolding spell
chain_length chain_end = omega arith
chain_length (chain_more {t} {ts} r c) =
    let h = chain_length c in
    let l = length-append t.text (spell ts) in
    let f = ap length r.text in
    omega arith

words_length : (at : ℕ) (ts : List Token) → length (words_of (placed at ts)) ≡ 3 * length ts
unfolding words_of placed
words_length at [] = refl
words_length at (t ∷ ts) = let h = words_length (at + byte_length t.text) ts in omega arith

record Filled (text ws : List ℕ) (ts : List Token) : Type 0 where
  holds : Holds text ws
  same : tokens text ws ≡ ts

-- tokens that stand behind some bytes
filled_from : (before : List ℕ) (ts : List Token) → AllScalar (spell ts) → Filled (before ++ encode (spell ts)) (words_of (placed (length before) ts)) ts
unfolding spell placed words_of Holds tokens encode
filled_from before [] h = record { holds = tt; same = refl }
filled_from before (t ∷ ts) h =
    let one = encode t.text in
    let rest = encode (spell ts) in
    let e : before ++ encode (t.text ++ spell ts) ≡ (before ++ one) ++ rest = ap (λ (l : List ℕ). before ++ l) (encode-append t.text (spell ts)) ∙ sym (append_assoc before one rest) in
    let l : length (before ++ one) ≡ length before + byte_length t.text = length-append before one ∙ ap (λ (n : ℕ). length before + n) (encode-length t.text) in
    let s = scalars_front t.text (spell ts) h in
    let ih = filled_from (before ++ one) ts (scalars_back t.text (spell ts) h) in
    let more : Filled (before ++ encode (t.text ++ spell ts)) (words_of (placed (length before + byte_length t.text) ts)) ts =
    subst (λ (text : List ℕ). Filled text (words_of (placed (length before + byte_length t.text) ts)) ts) (sym e) (subst (λ (n : ℕ). Filled ((before ++ one) ++ rest) (words_of (placed n ts)) ts) l ih) in
    let here : before ++ (one ++ rest) ≡ before ++ encode (t.text ++ spell ts) = ap (λ (b : List ℕ). before ++ b) (sym (encode-append t.text (spell ts))) in
    record {
      holds = (subst (λ (text : List ℕ). Held text (entry before rest t s)) here (entry_held before rest t s), more.holds);
      same = λ j. (ap (λ (text : List ℕ). token_of text (entry before rest t s)) (sym here) ∙ entry_token before rest t s) j ∷ more.same j;
    }

module _ (text cs : List ℕ) (d : decode text ≡ (cs, [])) (e : (tokenise cs).1 ≡ []) where
  abbrev table : List ℕ
  table = words_of (placed 0 (tokenise cs).0)

  filled-table : Filled text table (tokenise cs).0
  filled-table =
      let k = decode_sound text in
      let bytes : encode cs ≡ text = sym (append-nil (encode cs)) ∙ (λ j. encode (sym d j).0 ++ (sym d j).1) ∙ k.whole in
      let whole : spell (tokenise cs).0 ≡ cs = sym (append-nil (spell (tokenise cs).0)) ∙ ap (λ (l : List ℕ). spell (tokenise cs).0 ++ l) (sym e) ∙ (tokenise_made cs).whole in
      let scalar : AllScalar (spell (tokenise cs).0) = subst AllScalar (ap (λ (r : List ℕ × List ℕ). r.0) d ∙ sym whole) k.scalars in
      subst (λ (t : List ℕ). Filled t table (tokenise cs).0) (ap encode whole ∙ bytes) (filled_from [] (tokenise cs).0 scalar)

  -- the whole table
  pub table_holds : Holds text table
  table_holds = filled-table.holds

  pub table-tokens : tokens text table ≡ (tokenise cs).0
  table-tokens = filled-table.same

  pub table_ready : length text ≤ 1048576 → Ready text table
  table_ready h =
      let k = ap length (decode_sound text).whole in
      let l = length-append (encode (decode text).0) (decode text).1 in
      let m = encode_longer cs in
      let n : length (encode cs) ≡ length (encode (decode text).0) = ap (λ (r : List ℕ × List ℕ). length (encode r.0)) (sym d) in
      let c = chain_length (tokenise_made cs).chain in
      let w = ap length (tokenise_made cs).whole in
      let v = length-append (spell (tokenise cs).0) (tokenise cs).1 in
      let t = words_length 0 (tokenise cs).0 in
      record { small = h; short = omega arith; holds = table_holds }
