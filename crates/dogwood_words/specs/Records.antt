-- Records by the places of their words.
use Rattle.std.specs.Prelude.{List, [], ◌∷◌, Option, None, Some, ℕ, zero, suc, ◌+◌, length, get_or, drop}
use Rattle.std.proofs.Math.Option.{Option as Maybe, none, some}
use Rattle.dogwood_rules.specs.Outline.{Span, Statement, statement}
use Rattle.dogwood_words.specs.declared.records.Record.{Record}

-- n spans among the words from k on; 0 for a word that is not there
unfoldable pub spans_at : List ℕ → ℕ → ℕ → List Span
spans_at ws zero k = []
spans_at ws (suc n) k = record { start = get_or ws k 0; stop = get_or ws (k + 1) 0 } ∷ spans_at ws n (k + 2)

-- the spans of words by pairs: a word left over at the end bounds none
unfoldable pub spans_in : List ℕ → List Span
spans_in [] = []
spans_in (a ∷ []) = []
spans_in (a ∷ b ∷ ws) = record { start = a; stop = b } ∷ spans_in ws

-- the record of the words from i on; 0 for a word that is not there
unfoldable pub statement_at : List ℕ → ℕ → Statement
statement_at ws i =
    record {
      kind = get_or ws i 0;
      span = record { start = get_or ws (i + 1) 0; stop = get_or ws (i + 2) 0 };
      parts = spans_at ws (get_or ws (i + 3) 0) (i + 4);
    }

-- what the code reads where the rules give a statement, with how many words it has besides the first
abbrev pub reading_of : ℕ → Maybe (Statement × ℕ) → Option Record
reading_of i none = None
reading_of i (some p) =
    Some (record { start = p.0.span.start; end = p.0.span.stop; parts = length p.0.parts; next = i + (1 + p.1) })

unfoldable pub record_at : List ℕ → ℕ → Option Record
record_at ws i = reading_of i (statement (drop i ws))
