-- What the functions of this crate promise. Each promise is one equation, and no second answer keeps it.
use Rattle.std.specs.Prelude.{◌≡◌, Bool, false, List, Option, ℕ, drop}
use Rattle.std.proofs.Common.{sym, ◌∙◌}
use Rattle.dogwood_words.specs.declared.rows.Row.{Row}
use Rattle.dogwood_words.specs.declared.walks.Walked.{Walked}
use Rattle.dogwood_words.specs.declared.records.Record.{Record}
use Rattle.dogwood_words.specs.Search.{found_of}
use Rattle.dogwood_words.specs.Rows.{row_of, walked_of, skip_in, gap_in, part_in}
use Rattle.dogwood_words.specs.Records.{record_at}

-- r tells whether a token is a bracket of a side, by its kind and its first byte
abbrev pub BracketIs : (ℕ → ℕ → Bool) → ℕ → ℕ → Bool → Type 0
BracketIs side kind first r = r ≡ side kind first

pub bracket_only : (side : ℕ → ℕ → Bool) (kind first : ℕ) (r r' : Bool) → BracketIs side kind first r → BracketIs side kind first r' → r ≡ r'
bracket_only side kind first r r' p q = p ∙ sym q

-- r is the row whose words begin at i, with the word behind it
abbrev pub RowIs : List ℕ → ℕ → Option Row → Type 0
RowIs table i r = r ≡ row_of i (drop i table)

pub row_only : (table : List ℕ) (i : ℕ) (r r' : Option Row) → RowIs table i r → RowIs table i r' → r ≡ r'
row_only table i r r' p q = p ∙ sym q

-- r is the first word of the first row from a word on that starts at n or behind it
abbrev pub SkipIs : List ℕ → ℕ → ℕ → ℕ → Type 0
SkipIs table from n r = r ≡ skip_in n from (drop from table)

pub skip_only : (table : List ℕ) (from n r r' : ℕ) → SkipIs table from n r → SkipIs table from n r' → r ≡ r'
skip_only table from n r r' p q = p ∙ sym q

-- r is where n stands, if only white space and comments stand between a word and it
abbrev pub GapIs : List ℕ → ℕ → ℕ → ℕ → Option ℕ → Type 0
GapIs table from end n r = r ≡ found_of (gap_in end n from (drop from table))

pub gap_only : (table : List ℕ) (from end n : ℕ) (r r' : Option ℕ) → GapIs table from end n r → GapIs table from end n r' → r ≡ r'
gap_only table from end n r r' p q = p ∙ sym q

-- r is where n stands, if brackets balance between a word and it
abbrev pub PartIs : List ℕ → List ℕ → ℕ → ℕ → Option Walked → Type 0
PartIs text table from n r = r ≡ walked_of (part_in text n 0 false from (drop from table))

pub part_only : (text table : List ℕ) (from n : ℕ) (r r' : Option Walked) → PartIs text table from n r → PartIs text table from n r' → r ≡ r'
part_only text table from n r r' p q = p ∙ sym q

-- r is the record of an outline whose words begin at i
abbrev pub RecordIs : List ℕ → ℕ → Option Record → Type 0
RecordIs outline i r = r ≡ record_at outline i

pub record_only : (outline : List ℕ) (i : ℕ) (r r' : Option Record) → RecordIs outline i r → RecordIs outline i r' → r ≡ r'
record_only outline i r r' p q = p ∙ sym q
