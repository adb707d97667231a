-- Whenever a call is answered 0, what it writes says what the source said.
use mathlib.Core.Path.{◌≡◌, refl, sym, ◌∙◌, ap, subst}
use mathlib.Core.Bool.{Bool, true, false}
use mathlib.Core.List.{List, [], ◌∷◌, ◌++◌}
use mathlib.Core.Option.{Option, none, some}
use Prim.Native.Nat.{ℕ, ◌+◌, ◌*◌}
use native.Mathlib.Omega.{arith}
use lib.Dec.{ltb, leb}
use lib.ListN.{length, drop}
use lib.Seq.{drop-append_seam}
use Rattle.dogwood_rules.specs.Utf8.{byte_length, decode, encode, marked, mark_of, text_of, AllScalar}
use Rattle.dogwood_rules.specs.Token.{Token, Placed, tokenise, tokens, placed, spell, words_of}
use Rattle.dogwood_rules.specs.Source.{Source, too_long, not_utf8, unended, cut_into, source_of}
use Rattle.dogwood_rules.specs.Layout.{Settings}
use Rattle.dogwood_rules.specs.Outline.{statements, fits}
use Rattle.dogwood_rules.specs.File.{Piece, pieces, join_pieces}
use Rattle.dogwood_rules.specs.Searches.{first_comment, deep_opener}
use Rattle.dogwood_rules.specs.Answer.{answer, answered, refused, checked, nested, filled, commented, fitted}
use Rattle.dogwood_rules.specs.Made.{file_as}
use Rattle.dogwood_rules.specs.Claims.{nonblank, codes_of, tokens_in, pieces_of, layout_of, made_of, behind_mark, Number3, Number3', SameTokens}
use Rattle.dogwood_rules.proofs.Wholes.{Whole, source_whole}
use Rattle.dogwood_rules.proofs.Fitting.{fits_says}
use Rattle.dogwood_rules.proofs.RoundTrip.{decode-encode}
use Rattle.dogwood_rules.proofs.Decoding.{decode_sound}
use Rattle.dogwood_rules.proofs.Scalars.{Plain-text, plain-pieces, file_scalars, scalars_front}
use Rattle.dogwood_rules.proofs.Standing.{tokenise_only}
use Rattle.dogwood_rules.proofs.Chains.{Chain, tokenise_made}
use Rattle.dogwood_rules.proofs.Files.{file_stands, file_spelt, file_nonblank}
use Rattle.dogwood_rules.proofs.Pieces.{pieces_say}

-- What an answer of 0 shows -----------------------------------------------------------------------------------------------

module _ (S : Settings) (source outline : List ℕ) (table_room output_room : ℕ) where
  checked_zero : (n place : ℕ) (output table : List ℕ) → (checked S source outline table_room output_room n place output table).number ≡ 0
      → (n ≡ 0) × ((checked S source outline table_room output_room n place output table).output ≡ output)
  unfolding checked
  checked_zero n place output table e = go (leb (length output) output_room) refl
    where
      go : (b : Bool) → leb (length output) output_room ≡ b → (n ≡ 0) × ((checked S source outline table_room output_room n place output table).output ≡ output)
      go true q = (rw q at e, rw q refl)
      go false q = let z : ◌≡◌ {A = ℕ} 15 0 = rw q at e in absurd (omega arith)

  nested-zero : (ps : List Placed) (qs : List Piece) (o : Option ℕ) → (nested S source outline table_room output_room ps qs o).number ≡ 0
      → (nested S source outline table_room output_room ps qs o).output ≡ mark_of source ++ encode (join_pieces S qs)
  unfolding nested
  nested-zero ps qs (some place) e = let z : ◌≡◌ {A = ℕ} 5 0 = (checked_zero 5 place source (words_of ps) e).0 in absurd (omega arith)
  nested-zero ps qs none e = (checked_zero 0 0 (mark_of source ++ encode (join_pieces S qs)) (words_of ps) e).1

  filled_zero : (ps : List Placed) (qs : List Piece) → (filled S source outline table_room output_room ps qs).number ≡ 0
      → (filled S source outline table_room output_room ps qs).output ≡ mark_of source ++ encode (join_pieces S qs)
  unfolding filled
  filled_zero ps [] e = let z : ◌≡◌ {A = ℕ} 3 0 = (checked_zero 3 0 source (words_of ps) e).0 in absurd (omega arith)
  filled_zero ps (q ∷ qs) e = nested-zero ps (q ∷ qs) (deep_opener (statements outline).0 ps) e

  commented-zero : (ps : List Placed) (o : Option ℕ) → (commented S source outline table_room output_room ps o).number ≡ 0
      → (o ≡ none) × ((commented S source outline table_room output_room ps o).output ≡ mark_of source ++ encode (join_pieces S (pieces (statements outline).0 ps)))
  unfolding commented
  commented-zero ps (some place) e = let z : ◌≡◌ {A = ℕ} 2 0 = (checked_zero 2 place source (words_of ps) e).0 in absurd (omega arith)
  commented-zero ps none e = (refl, filled_zero ps (pieces (statements outline).0 ps) e)

  -- tokens that the outline fits, no comment in a statement, and their layout written
  pub record LaidOut (ps : List Placed) (output : List ℕ) : Type 0 where
    pub fit : fits (length (text_of source)) ps outline ≡ true
    pub free : first_comment (statements outline).0 ps ≡ none
    pub out : output ≡ mark_of source ++ encode (join_pieces S (pieces (statements outline).0 ps))

  fitted_zero : (ps : List Placed) (b : Bool) → fits (length (text_of source)) ps outline ≡ b → (fitted S source outline table_room output_room ps b).number ≡ 0
      → LaidOut ps (fitted S source outline table_room output_room ps b).output
  unfolding fitted
  fitted_zero ps true f e = let h = commented-zero ps (first_comment (statements outline).0 ps) e in record { fit = f; free = h.0; out = h.1 }
  fitted_zero ps false f e = let z : ◌≡◌ {A = ℕ} 4 0 = (checked_zero 4 0 source (words_of ps) e).0 in absurd (omega arith)

  pub record Zero (output : List ℕ) : Type 0 where
    pub tokens : List Placed
    pub whole : Whole source tokens
    pub laid : LaidOut tokens output

  answered_zero : (s : Source) → source_of source ≡ s → (answered S source outline table_room output_room s).number ≡ 0 → Zero (answered S source outline table_room output_room s).output
  unfolding answered refused
  answered_zero too_long q e = absurd (omega arith)
  answered_zero (not_utf8 place) q e = absurd (omega arith)
  answered_zero (unended before place) q e = let z : ◌≡◌ {A = ℕ} 1 0 = (checked_zero 1 place source [] e).0 in absurd (omega arith)
  answered_zero (cut_into ps) q e = go (ltb table_room (3 * length ps)) refl
    where
      go : (b : Bool) → ltb table_room (3 * length ps) ≡ b → Zero (answered S source outline table_room output_room (cut_into ps)).output
      go true p = let z : ◌≡◌ {A = ℕ} 13 0 = rw p at e in absurd (omega arith)
      go false p =
          record { tokens = ps; whole = source_whole source ps q; laid = rw p (fitted_zero ps (fits (length (text_of source)) ps outline) refl (rw p at e)) }

  pub answer_zero : (answer S source outline table_room output_room).number ≡ 0 → Zero (answer S source outline table_room output_room).output
  unfolding answer
  answer_zero e = answered_zero (source_of source) refl e

-- The theorem --------------------------------------------------------------------------------------------------------

pub tokens-placed : (at : ℕ) (ts : List Token) → tokens (placed at ts) ≡ ts
unfolding tokens placed
tokens-placed at [] = refl
tokens-placed at (t ∷ ts) = ap (λ (l : List Token). t ∷ l) (tokens-placed (at + byte_length t.text) ts)

pub number3 : Number3
unfolding layout_of pieces_of tokens_in codes_of behind_mark made_of
number3 S source outline table_room output_room e =
    let z = answer_zero S source outline table_room output_room e in
    let cs = (decode (text_of source)).0 in
    let ts = (tokenise cs).0 in
    let ps = placed 0 ts in
    let ss = (statements outline).0 in
    let l : LaidOut S source outline table_room output_room ps (answer S source outline table_room output_room).output = subst (λ (qs : List Placed). LaidOut S source outline table_room output_room qs (answer S source outline table_room output_room).output) z.whole.cut z.laid in
    let f = fits_says (length (text_of source)) ps outline l.fit in
    let c : Chain (tokenise cs).1 (tokens ps) = subst (λ (us : List Token). Chain (tokenise cs).1 us) (sym (tokens-placed 0 ts)) (tokenise_made cs).chain in
    let p = pieces_say ss ps c l.free f.outside f.covered f.balance f.used in
    let h : tokenise (join_pieces S (pieces ss ps)) ≡ (file_as S (pieces ss ps), []) = tokenise_only (join_pieces S (pieces ss ps)) (file_as S (pieces ss ps)) (file_spelt S p.sane) (file_stands S p.sane) in
    let all : AllScalar (spell ts ++ (tokenise cs).1) = subst AllScalar (sym (tokenise_made cs).whole) (decode_sound (text_of source)).scalars in
    let plain : Plain-text (tokens ps) = subst Plain-text (sym (tokens-placed 0 ts)) (scalars_front (spell ts) (tokenise cs).1 all) in
    record {
      written = l.out;
      readable =
          ap decode (ap (drop (length (mark_of source))) l.out ∙ drop-append_seam (mark_of source) (encode (join_pieces S (pieces ss ps))))
          ∙ decode-encode (file_scalars S p.sane (plain-pieces ss ps plain));
      made = h;
      same = file_nonblank S p.sane ∙ p.same ∙ ap nonblank (tokens-placed 0 ts);
    }

-- Two sources ----------------------------------------------------------------------------------------------------------

same-mark : (a b : List ℕ) → marked a ≡ marked b → mark_of a ≡ mark_of b
unfolding mark_of
same-mark a b e = rw e refl

pub number3' : Number3'
number3' S source outline table_room output_room e =
    let p = number3 S source outline table_room output_room e in
    let text = ap (λ (r : List ℕ × List ℕ). r.0) p.readable in
    let cut = ap tokenise text ∙ p.made in
    record { valid = ap (λ (r : List ℕ × List ℕ). r.1) p.readable; ended = ap (λ (r : List Token × List ℕ). r.1) cut; same = ap (λ (r : List Token × List ℕ). nonblank r.0) cut ∙ p.same }

-- what stands behind the same marks of the same bytes is the same text
pub same-tokens : SameTokens
unfolding behind_mark
same-tokens S₁ S₂ source₁ source₂ outline₁ outline₂ table₁ table₂ room₁ room₂ m e₁ e₂ o =
    let p₁ = number3' S₁ source₁ outline₁ table₁ room₁ e₁ in
    let p₂ = number3' S₂ source₂ outline₂ table₂ room₂ e₂ in
    let text : behind_mark source₁ (answer S₁ source₁ outline₁ table₁ room₁).output ≡ behind_mark source₂ (answer S₂ source₂ outline₂ table₂ room₂).output =
    ap (λ (l : List ℕ). drop (length l) (answer S₁ source₁ outline₁ table₁ room₁).output) (same-mark source₁ source₂ m) ∙ ap (drop (length (mark_of source₂))) o in
    sym p₁.same ∙ ap (λ (l : List ℕ). nonblank (tokenise (decode l).0).0) text ∙ p₂.same
