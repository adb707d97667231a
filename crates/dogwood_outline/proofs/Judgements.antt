-- A table that has the words of a text's tokens: what is judged by it is what the rules answer.
use Rattle.std.specs.Prelude.{if◌then◌else◌}
use mathlib.Core.Path.{◌≡◌, refl, sym, ◌∙◌, ap}
use mathlib.Core.Bool.{Bool, true, false, ◌&&◌}
use mathlib.Core.List.{List, [], ◌∷◌}
use mathlib.Core.Option.{Option, none, some}
use Prim.Native.Nat.{ℕ}
use native.Mathlib.Omega.{arith}
use lib.Dec.{eqb}
use lib.ListN.{length, get_or}
use Rattle.dogwood_rules.specs.Token.{Placed, kind_number, words_of}
use Rattle.dogwood_rules.specs.Outline.{statements, fits}
use Rattle.dogwood_rules.specs.File.{Piece, pieces}
use Rattle.dogwood_rules.specs.Searches.{comment_in, first_comment, deep_opener, too_deep}
use Rattle.dogwood_tokens.specs.Cursor.{tokens_at}
use Rattle.dogwood_words.specs.Brackets.{opening, closing}
use Rattle.dogwood_outline.specs.Judges.{JudgesIn}
use Rattle.dogwood_outline.specs.Pass.{placed_in, passes}
use Rattle.dogwood_words.specs.Search.{absent}
use Rattle.dogwood_outline.specs.Table.{fits_in, judged_in}
use Rattle.dogwood_searches.specs.Searches.{comment_before, first_comment_in}
use Rattle.dogwood_outline.specs.Verdicts.{nested, filled, commented, judged, Judges}
use Rattle.dogwood_outline.proofs.Deep.{deep_law}
use Rattle.dogwood_outline.proofs.NoPiece.{pieces_none, pieces_some}
use Rattle.dogwood_outline.proofs.Spans.{below_all}
use Rattle.dogwood_outline.proofs.Symbols.{opens_at, closes_at}
use Rattle.dogwood_outline.proofs.Tabled.{Bracketed, bracketed_end, bracketed-more, statements_words, comment_words, first_comment_words, deep_words}
use Rattle.dogwood_outline.proofs.Texts.{text_below, fit_law, tokens_start}
use Rattle.dogwood_outline.proofs.Took.{Pace, pace_on, pace_off, pace}

bracketed_at : (s : List ℕ) (i : ℕ) (ps : List Placed) → tokens_at s i ≡ ps → Bracketed s ps
bracketed_at s i [] w = bracketed_end
bracketed_at s i (p ∷ ps) w = by (λ (i : ℕ) (w : tokens_at s i ≡ ps). bracketed_at s i ps w) (pace s i)
  where
    by : ((i : ℕ) → tokens_at s i ≡ ps → Bracketed s ps) → Pace s i → Bracketed s (p ∷ ps)
    by ih (pace_off h) = let z : ◌≡◌ {A = List Placed} [] (p ∷ ps) = sym h ∙ w in absurd (let y : ◌≡◌ {A = ℕ} 0 1 = cc in omega arith)
    by ih (pace_on {c} t) =
        let z : t.first ∷ tokens_at s c.at ≡ p ∷ ps = sym t.tokens ∙ w in
        let r : tokens_at s c.at ≡ ps = cc in
        let f : t.first ≡ p = cc in
        let m : p.start ≡ i = sym (ap (λ (v : Placed). v.start) f) ∙ t.starts in
        bracketed-more
        (ap (λ (n : ℕ). opening (kind_number p.token.kind) (get_or s n 0)) m ∙ opens_at s i p ps w)
        (ap (λ (n : ℕ). closing (kind_number p.token.kind) (get_or s n 0)) m ∙ closes_at s i p ps w)
        (ih c.at r)

some_filled : (qs : List Piece) (o : Option ℕ) → (qs ≡ [] → ⊥) → filled qs o ≡ nested o
unfolding filled
some_filled [] o n = absurd (n refl)
some_filled (q ∷ qs) o n = refl

module _ (s ws : List ℕ) where
  abbrev table : List ℕ
  table = words_of (placed_in s)

  bracketed : Bracketed s (placed_in s)
  bracketed = bracketed_at s 0 (placed_in s) (tokens_start s)

  pub fits-table : fits_in s table ws ≡ fits (length s) (placed_in s) ws
  unfolding fits_in passes
  fits-table = ap (λ (b : Bool). eqb (length (statements ws).1) 0 && b) (statements_words s table (statements ws).0 0 bracketed refl) ∙ fit_law s ws

  first_table : first_comment_in table (statements ws).0 0 ≡ first_comment (statements ws).0 (placed_in s)
  first_table = first_comment_words s table (statements ws).0 0 (placed_in s) refl

  any_table : comment_before (length s) table ≡ comment_in (placed_in s)
  any_table = comment_words (length s) (placed_in s) ∙ ap comment_in (below_all (length s) (placed_in s) (text_below s))

  abbrev judged_row : Bool → Option ℕ → Option ℕ → Option ℕ → ℕ × ℕ
  judged_row b first any deep =
      if b then elim first [ some n ↦ (2, n) | none ↦ if eqb (length ws) 0 && absent any then (3, 0) else nested deep ] else (4, 0)

  judged-table : judged_in s table ws ≡ judged (length s) (placed_in s) ws
  unfolding judged_in judged commented filled
  judged-table =
      (λ i. judged_row (fits-table i) (first_table i) (any_table i) (deep_words s 0 bracketed i))
      ∙ by (fits (length s) (placed_in s) ws) refl (first_comment (statements ws).0 (placed_in s)) refl (eqb (length ws) 0 && absent (comment_in (placed_in s))) refl
    where
      by : (b : Bool) → fits (length s) (placed_in s) ws ≡ b → (o : Option ℕ) → first_comment (statements ws).0 (placed_in s) ≡ o → (n : Bool) → eqb (length ws) 0 && absent (comment_in (placed_in s)) ≡ n
          → judged_row (fits (length s) (placed_in s) ws) (first_comment (statements ws).0 (placed_in s)) (comment_in (placed_in s)) (too_deep 0 (placed_in s))
          ≡ (if fits (length s) (placed_in s) ws then commented (first_comment (statements ws).0 (placed_in s)) (pieces (statements ws).0 (placed_in s)) (deep_opener (statements ws).0 (placed_in s)) else (4, 0))
      by false e o f n g = rw e refl
      by true e (some p) f n g = rw e (rw f refl)
      by true e none f true g = rw e (rw f (rw g (sym (ap (λ (qs : List Piece). filled qs (deep_opener (statements ws).0 (placed_in s))) (pieces_none s ws e g)))))
      by true e none f false g = rw e (rw f (rw g (ap nested (deep_law s ws e) ∙ sym (some_filled (pieces (statements ws).0 (placed_in s)) (deep_opener (statements ws).0 (placed_in s)) (pieces_some s ws e g)))))

  pub judges_table : {n p : ℕ} → JudgesIn s table ws n p → Judges s ws n p
  judges_table j = record { numbered = j.numbered ∙ ap (λ (x : ℕ × ℕ). x.0) judged-table; located = j.located ∙ ap (λ (x : ℕ × ℕ). x.1) judged-table }
