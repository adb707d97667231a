-- The two smaller calls treat the token table as the whole call does.
use mathlib.Core.Path.{◌≡◌, refl, sym, ◌∙◌}
use mathlib.Core.Bool.{Bool, true, false}
use mathlib.Core.List.{List, [], ◌∷◌}
use mathlib.Core.Option.{Option, none, some}
use Prim.Native.Nat.{ℕ, ◌*◌}
use lib.Dec.{ltb, leb}
use lib.ListN.{length}
use Rattle.dogwood_rules.specs.Utf8.{text_of}
use Rattle.dogwood_rules.specs.Token.{Placed, words_of}
use Rattle.dogwood_rules.specs.Layout.{Settings}
use Rattle.dogwood_rules.specs.Outline.{statements, fits}
use Rattle.dogwood_rules.specs.File.{Piece, pieces}
use Rattle.dogwood_rules.specs.Searches.{first_comment, deep_opener}
use Rattle.dogwood_rules.specs.Source.{Source, too_long, not_utf8, unended, cut_into, source_of}
use Rattle.dogwood_rules.specs.Answer.{answer, answered, checked, nested, filled, commented, fitted, refused}
use Rattle.dogwood_rules.specs.Alone.{Alone, stopped, told, total, verdict, tokenised, tested}

module _ (S : Settings) (source outline : List ℕ) (table_room output_room : ℕ) where
  checked-table : (n place : ℕ) (output table : List ℕ) → (checked S source outline table_room output_room n place output table).table ≡ table
  unfolding checked
  checked-table n place output table = by (leb (length output) output_room) refl
    where
      by : (t : Bool) → leb (length output) output_room ≡ t → (checked S source outline table_room output_room n place output table).table ≡ table
      by true e = rw e refl
      by false e = rw e refl

  nested-table : (ps : List Placed) (qs : List Piece) (o : Option ℕ) → (nested S source outline table_room output_room ps qs o).table ≡ words_of ps
  unfolding nested
  nested-table ps qs (some place) = checked-table 5 place source (words_of ps)
  nested-table ps qs none = checked-table 0 0 _ (words_of ps)

  filled-table : (ps : List Placed) (qs : List Piece) → (filled S source outline table_room output_room ps qs).table ≡ words_of ps
  unfolding filled
  filled-table ps [] = checked-table 3 0 source (words_of ps)
  filled-table ps (q ∷ qs) = nested-table ps (q ∷ qs) (deep_opener (statements outline).0 ps)

  commented-table : (ps : List Placed) (o : Option ℕ) → (commented S source outline table_room output_room ps o).table ≡ words_of ps
  unfolding commented
  commented-table ps (some place) = checked-table 2 place source (words_of ps)
  commented-table ps none = filled-table ps (pieces (statements outline).0 ps)

  fitted-table : (ps : List Placed) (b : Bool) → (fitted S source outline table_room output_room ps b).table ≡ words_of ps
  unfolding fitted
  fitted-table ps false = checked-table 4 0 source (words_of ps)
  fitted-table ps true = commented-table ps (first_comment (statements outline).0 ps)

  -- whatever is told of the tokens, if it leaves the tokens' words in the table
  told-table : (f : List Placed → Alone) → ((ps : List Placed) → (f ps).table ≡ words_of ps) → (s : Source) → (answered S source outline table_room output_room s).table ≡ (told table_room f s).table
  unfolding answered told stopped refused
  told-table f w too_long = refl
  told-table f w (not_utf8 place) = refl
  told-table f w (unended before place) = checked-table 1 place source []
  told-table f w (cut_into ps) = by (ltb table_room (3 * length ps)) refl
    where
      by : (t : Bool) → ltb table_room (3 * length ps) ≡ t → (answered S source outline table_room output_room (cut_into ps)).table ≡ (told table_room f (cut_into ps)).table
      by true e = rw e refl
      by false e = rw e (fitted-table ps (fits (length (text_of source)) ps outline) ∙ sym (w ps))

  pub tokenised-table : (answer S source outline table_room output_room).table ≡ (tokenised source table_room).table
  unfolding answer tokenised total
  tokenised-table = told-table total (λ ps. refl) (source_of source)

  pub tested-table : (answer S source outline table_room output_room).table ≡ (tested source outline table_room).table
  unfolding answer tested verdict
  tested-table = told-table (verdict (length (text_of source)) outline) (λ ps. refl) (source_of source)
