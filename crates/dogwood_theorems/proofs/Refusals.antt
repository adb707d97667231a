-- What the output is under each number but 0.
use Rattle.std.specs.Prelude.{if◌then◌else◌}
use mathlib.Core.Path.{◌≡◌, refl}
use mathlib.Core.Bool.{Bool, true, false}
use mathlib.Core.List.{List, [], ◌∷◌}
use mathlib.Core.Option.{Option, none, some}
use Prim.Native.Nat.{ℕ, ◌*◌, ◌<◌, ◌≤◌}
use native.Mathlib.Omega.{arith}
use lib.Dec.{leb, ltb}
use lib.ListN.{length}
use Rattle.dogwood_rules.specs.Utf8.{text_of}
use Rattle.dogwood_rules.specs.Token.{Placed, words_of}
use Rattle.dogwood_rules.specs.Source.{Source, too_long, not_utf8, unended, cut_into, source_of}
use Rattle.dogwood_rules.specs.Layout.{Settings}
use Rattle.dogwood_rules.specs.Outline.{statements, fits}
use Rattle.dogwood_rules.specs.File.{Piece, pieces}
use Rattle.dogwood_rules.specs.Searches.{first_comment, deep_opener}
use Rattle.dogwood_rules.specs.Answer.{Answer, refused, checked, nested, filled, commented, fitted, answered, answer}

-- the source under 1 to 5, nothing under 11 and more
pub record Refusing (source : List ℕ) (a : Answer) : Type 0 where
  pub back : 0 < a.number → a.number ≤ 5 → a.output ≡ source
  pub nothing : 11 ≤ a.number → a.output ≡ []

module _ (S : Settings) (source outline : List ℕ) (table_room output_room : ℕ) where
  offered : (n p : ℕ) (bytes words : List ℕ) → n ≤ 5 → (0 < n → bytes ≡ source) → Refusing source (checked S source outline table_room output_room n p bytes words)
  unfolding checked
  offered n p bytes words h k = by (leb (length bytes) output_room)
    where
      by : (b : Bool) → Refusing source (if b then record { number = n; place = p; output = bytes; table = words } else record { number = 15; place = length bytes; output = []; table = words })
      by true = record { back = λ z w. k z; nothing = λ z. absurd (omega arith) }
      by false = record { back = λ z w. absurd (omega arith); nothing = λ z. refl }

  handed : (n p : ℕ) (words : List ℕ) → n ≤ 5 → Refusing source (checked S source outline table_room output_room n p source words)
  handed n p words h = offered n p source words h (λ z. refl)

  by_depth : (ps : List Placed) (qs : List Piece) (o : Option ℕ) → Refusing source (nested S source outline table_room output_room ps qs o)
  unfolding nested
  by_depth ps qs (some p) = handed 5 p (words_of ps) (omega arith)
  by_depth ps qs none = offered 0 0 _ (words_of ps) (omega arith) (λ z. absurd (omega arith))

  by_pieces : (ps : List Placed) (qs : List Piece) → Refusing source (filled S source outline table_room output_room ps qs)
  unfolding filled
  by_pieces ps [] = handed 3 0 (words_of ps) (omega arith)
  by_pieces ps (q ∷ qs) = by_depth ps (q ∷ qs) (deep_opener (statements outline).0 ps)

  by_comment : (ps : List Placed) (o : Option ℕ) → Refusing source (commented S source outline table_room output_room ps o)
  unfolding commented
  by_comment ps (some p) = handed 2 p (words_of ps) (omega arith)
  by_comment ps none = by_pieces ps (pieces (statements outline).0 ps)

  by_fit : (ps : List Placed) (b : Bool) → Refusing source (fitted S source outline table_room output_room ps b)
  unfolding fitted
  by_fit ps false = handed 4 0 (words_of ps) (omega arith)
  by_fit ps true = by_comment ps (first_comment (statements outline).0 ps)

  stopped : (n p : ℕ) → 11 ≤ n → Refusing source (refused n p)
  unfolding refused
  stopped n p h = record { back = λ z w. absurd (omega arith); nothing = λ z. refl }

  by_source : (x : Source) → Refusing source (answered S source outline table_room output_room x)
  unfolding answered
  by_source too_long = stopped 11 0 (omega arith)
  by_source (not_utf8 p) = stopped 12 p (omega arith)
  by_source (unended before p) = handed 1 p [] (omega arith)
  by_source (cut_into ps) = by (ltb table_room (3 * length ps))
    where
      by : (b : Bool) → Refusing source (if b then refused 13 (length ps) else fitted S source outline table_room output_room ps (fits (length (text_of source)) ps outline))
      by true = stopped 13 (length ps) (omega arith)
      by false = by_fit ps (fits (length (text_of source)) ps outline)

  pub answer_refusing : Refusing source (answer S source outline table_room output_room)
  unfolding answer
  answer_refusing = by_source (source_of source)
