-- What a verdict says for the whole call: the answer with its number and place, and what holds where there is none of 4, 2, 3 and 5.
use Rattle.std.specs.Prelude.{if◌then◌else◌}
use mathlib.Core.Path.{◌≡◌, refl, sym, ◌∙◌, ap}
use mathlib.Core.Bool.{Bool, true, false}
use mathlib.Core.List.{List, [], ◌∷◌, ◌++◌}
use mathlib.Core.Option.{Option, none, some}
use Prim.Native.Nat.{ℕ, ◌*◌, ◌≤◌}
use native.Mathlib.Omega.{arith}
use lib.Dec.{eqb}
use lib.ListN.{length}
use borrow.Author.Tests.{le-ltb}
use Rattle.dogwood_rules.specs.Utf8.{encode, mark_of, text_of}
use Rattle.dogwood_rules.specs.Token.{Placed, words_of}
use Rattle.dogwood_rules.specs.Source.{cut_into, source_of}
use Rattle.dogwood_rules.specs.Layout.{Settings}
use Rattle.dogwood_rules.specs.Outline.{statements, fits}
use Rattle.dogwood_rules.specs.File.{Piece, pieces, join_pieces}
use Rattle.dogwood_rules.specs.Searches.{first_comment, deep_opener}
use Rattle.dogwood_rules.specs.Answer.{Answer, checked, answered, answer}
use Rattle.dogwood_rules.specs.Answer as A
use Rattle.dogwood_rules.proofs.Wholes.{source_whole}
use Rattle.dogwood_outline.specs.Pass.{placed_in}
use Rattle.dogwood_outline.specs.Verdicts.{nested, filled, commented, judged, Judges}

-- what is written: after 0 "mark if any, then layout", after 4, 2, 3 and 5 "source"
abbrev pub written : Settings → List ℕ → List ℕ → List Placed → ℕ → List ℕ
written S source outline ps n = if eqb n 0 then mark_of source ++ encode (join_pieces S (pieces (statements outline).0 ps)) else source

module _ (S : Settings) (source outline : List ℕ) (table_room output_room : ℕ) (ps : List Placed) where
  abbrev told : ℕ × ℕ → Answer
  told j = checked S source outline table_room output_room j.0 j.1 (written S source outline ps j.0) (words_of ps)

  by_depth : (qs : List Piece) → pieces (statements outline).0 ps ≡ qs → (o : Option ℕ) → A.nested S source outline table_room output_room ps qs o ≡ told (nested o)
  unfolding A.nested nested
  by_depth qs e none = ap (λ (x : List Piece). checked S source outline table_room output_room 0 0 (mark_of source ++ encode (join_pieces S x)) (words_of ps)) (sym e)
  by_depth qs e (some n) = refl

  by_pieces : (qs : List Piece) → pieces (statements outline).0 ps ≡ qs → A.filled S source outline table_room output_room ps qs ≡ told (filled qs (deep_opener (statements outline).0 ps))
  unfolding A.filled filled
  by_pieces [] e = refl
  by_pieces (q ∷ qs) e = by_depth (q ∷ qs) e (deep_opener (statements outline).0 ps)

  by_comment : (o : Option ℕ) → A.commented S source outline table_room output_room ps o ≡ told (commented o (pieces (statements outline).0 ps) (deep_opener (statements outline).0 ps))
  unfolding A.commented commented
  by_comment none = by_pieces (pieces (statements outline).0 ps) refl
  by_comment (some n) = refl

  by_fit : A.fitted S source outline table_room output_room ps (fits (length (text_of source)) ps outline) ≡ told (judged (length (text_of source)) ps outline)
  unfolding A.fitted judged
  by_fit = by (fits (length (text_of source)) ps outline) refl
    where
      by : (b : Bool) → fits (length (text_of source)) ps outline ≡ b → A.fitted S source outline table_room output_room ps (fits (length (text_of source)) ps outline) ≡ told (judged (length (text_of source)) ps outline)
      by true e = rw e (by_comment (first_comment (statements outline).0 ps))
      by false e = rw e refl

  -- a source that is cut into tokens for which there is room: the answer has the verdict's number and place
  pub answer-judged : source_of source ≡ cut_into ps → 3 * length ps ≤ table_room → {n place : ℕ} → Judges (text_of source) outline n place
      → answer S source outline table_room output_room ≡ checked S source outline table_room output_room n place (written S source outline ps n) (words_of ps)
  unfolding answer answered placed_in
  answer-judged c h {n} {place} j =
      let w = source_whole source ps c in
      let end = length (text_of source) in
      ap (answered S source outline table_room output_room) c
      ∙ ap (λ (b : Bool). if b then A.refused 13 (length ps) else A.fitted S source outline table_room output_room ps (fits end ps outline)) (le-ltb table_room (3 * length ps) h)
      ∙ by_fit
      ∙ ap (λ (qs : List Placed). told (judged end qs outline)) w.cut
      ∙ (λ i. checked S source outline table_room output_room (sym j.numbered i) (sym j.located i) (written S source outline ps (sym j.numbered i)) (words_of ps))

-- What holds where the number is 0 --------------------------------------------------------------------------------------

pub record Fine (text outline : List ℕ) : Type 0 where
  pub fit : fits (length text) (placed_in text) outline ≡ true
  pub quiet : first_comment (statements outline).0 (placed_in text) ≡ none
  pub shallow : deep_opener (statements outline).0 (placed_in text) ≡ none

pub fine_says : (text outline : List ℕ) {place : ℕ} → Judges text outline 0 place → Fine text outline
unfolding judged commented filled nested
fine_says text outline j =
    by (fits (length text) (placed_in text) outline) refl (first_comment (statements outline).0 (placed_in text)) refl j.numbered
  where
    full : (l : List Piece) (o : Option ℕ) → 0 ≡ (filled l o).0 → o ≡ none
    full [] o e = absurd (omega arith)
    full (q ∷ l) none e = refl
    full (q ∷ l) (some n) e = absurd (omega arith)

    by : (b : Bool) → fits (length text) (placed_in text) outline ≡ b → (o : Option ℕ) → first_comment (statements outline).0 (placed_in text) ≡ o
        → 0 ≡ (judged (length text) (placed_in text) outline).0 → Fine text outline
    by false f o c e = absurd (let z : 0 ≡ 4 = rw f at e in omega arith)
    by true f (some n) c e = absurd (let z : 0 ≡ 2 = rw (f, c) at e in omega arith)
    by true f none c e =
        let z : 0 ≡ (filled (pieces (statements outline).0 (placed_in text)) (deep_opener (statements outline).0 (placed_in text))).0 = rw (f, c) at e in
        record { fit = f; quiet = c; shallow = full (pieces (statements outline).0 (placed_in text)) (deep_opener (statements outline).0 (placed_in text)) z }
