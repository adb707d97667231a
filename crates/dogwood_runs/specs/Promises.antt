-- What the functions of this crate promise. Each promise is one equation, and no second answer keeps it.
use Rattle.std.specs.Prelude.{◌≡◌, refl, Bool, true, List, ℕ, ◌*◌, drop, Option, Some, None}
use Rattle.std.proofs.Common.{sym, ◌∙◌}
use Rattle.std.specs.Iterator.{YieldsFirst}
use Rattle.dogwood_rules.specs.Tree.{run_of}
use Rattle.dogwood_layout.specs.declared.Entry.{Entry}
use Rattle.dogwood_layout.specs.declared.Part.{Part}
use Rattle.dogwood_layout.specs.View.{entry_at, tokens, rows}
use Rattle.dogwood_layout.specs.Ends.{front_len, trimmed_of}
use Rattle.dogwood_layout.specs.Choice.{is_filled, chosen}
use Rattle.dogwood_layout.specs.Scan.{item_len}
use Rattle.dogwood_layout.specs.Pieces.{piece_len}
use Rattle.dogwood_runs.specs.declared.entries.Entries.{Entries}
use Rattle.dogwood_runs.specs.declared.parts.Separator.{Separator}
use Rattle.dogwood_runs.specs.Separators.{set_number, set_same}

-- r is the entry at word i
abbrev pub EntryIs : List ℕ → ℕ → Entry → Type 0
EntryIs table i r = r ≡ entry_at table i

pub entry_only : (table : List ℕ) (i : ℕ) (r r' : Entry) → EntryIs table i r → EntryIs table i r' → r ≡ r'
entry_only table i r r' p q = p ∙ sym q

-- the entries that are left
abbrev pub entries_left : Entries → List Entry
entries_left s = rows (drop s.at s.table.now)

-- all entries of a table are left
abbrev pub EntriesOf : List ℕ → Entries → Type 0
EntriesOf table r = entries_left r ≡ rows table

pub entries_of_only : (table : List ℕ) (r r' : Entries) → EntriesOf table r → EntriesOf table r' → entries_left r ≡ entries_left r'
entries_of_only table r r' p q = p ∙ sym q

-- r is the first of the entries that are left, and t has left the others; or none is left
abbrev pub EntriesGive : Entries → Option Entry → Entries → Type 0
EntriesGive = YieldsFirst entries_left

pub entries_only : (s t t' : Entries) (r r' : Option Entry) → EntriesGive s r t → EntriesGive s r' t' → (r ≡ r') × (entries_left t ≡ entries_left t')
entries_only s t t' (Some e) (Some e') p q = (cc, cc)
entries_only s t t' (Some e) None p q = cc (p, q.0)
entries_only s t t' None (Some e) p q = cc (p.0, q)
entries_only s t t' None None p q = (refl, p.1 ∙ sym q.1)

-- r is how many words of white space stand at the front
abbrev pub LeadIs : List ℕ → ℕ → Type 0
LeadIs table r = r ≡ 3 * front_len table

pub lead_only : (table : List ℕ) (r r' : ℕ) → LeadIs table r → LeadIs table r' → r ≡ r'
lead_only table r r' p q = p ∙ sym q

-- r is what is left without the white space at both ends
abbrev pub TrimmedIs : List ℕ → Part → Type 0
TrimmedIs table r = r ≡ trimmed_of table

pub trimmed_only : (table : List ℕ) (r r' : Part) → TrimmedIs table r → TrimmedIs table r' → r ≡ r'
trimmed_only table r r' p q = p ∙ sym q

-- r says whether a table has more than white space
abbrev pub FilledIs : List ℕ → Bool → Type 0
FilledIs table r = r ≡ is_filled table

pub filled_only : (table : List ℕ) (r r' : Bool) → FilledIs table r → FilledIs table r' → r ≡ r'
filled_only table r r' p q = p ∙ sym q

-- r is how many words the item at the front has, cut by a set
abbrev pub ItemIs : List ℕ → List ℕ → ℕ → ℕ → Type 0
ItemIs text table set r = r ≡ 3 * item_len true set 0 (tokens text table)

pub item_only : (text table : List ℕ) (set r r' : ℕ) → ItemIs text table set r → ItemIs text table set r' → r ≡ r'
item_only text table set r r' p q = p ∙ sym q

-- r is how many words the piece at the front has
abbrev pub PieceIs : List ℕ → List ℕ → ℕ → Type 0
PieceIs text table r = r ≡ 3 * piece_len (tokens text table)

pub piece_only : (text table : List ℕ) (r r' : ℕ) → PieceIs text table r → PieceIs text table r' → r ≡ r'
piece_only text table r r' p q = p ∙ sym q

-- r is the first separator set that gives more than one item, if one does
abbrev pub SetIs : List ℕ → List ℕ → Option Separator → Type 0
SetIs text table r = set_number r ≡ chosen (run_of (tokens text table))

pub set_only : (text table : List ℕ) (r r' : Option Separator) → SetIs text table r → SetIs text table r' → r ≡ r'
set_only text table r r' p q = set_same r r' (p ∙ sym q)
