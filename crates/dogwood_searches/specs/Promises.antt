-- What the functions of this crate promise. Each promise is one equation, and no second answer keeps it.
use Rattle.std.specs.Prelude.{◌≡◌, Bool, ◌&&◌, List, Option, ℕ, eqb, length}
use Rattle.std.proofs.Common.{sym, ◌∙◌}
use Rattle.dogwood_rules.specs.Outline.{statements}
use Rattle.dogwood_words.specs.Search.{found_of, absent}
use Rattle.dogwood_searches.specs.Searches.{comment_before, first_comment_in, deep_in}

-- r is where the first comment inside a statement begins
abbrev pub CommentIs : List ℕ → List ℕ → Option ℕ → Type 0
CommentIs table outline r = r ≡ found_of (first_comment_in table (statements outline).0 0)

pub comment_only : (table outline : List ℕ) (r r' : Option ℕ) → CommentIs table outline r → CommentIs table outline r' → r ≡ r'
comment_only table outline r r' p q = p ∙ sym q

-- r tells whether an outline has no words and a table no comment that starts in the text
abbrev pub NothingIs : List ℕ → List ℕ → List ℕ → Bool → Type 0
NothingIs text table outline r = r ≡ (eqb (length outline) 0 && absent (comment_before (length text) table))

pub nothing_only : (text table outline : List ℕ) (r r' : Bool) → NothingIs text table outline r → NothingIs text table outline r' → r ≡ r'
nothing_only text table outline r r' p q = p ∙ sym q

-- r is where the first opener stands that is nested above 64
abbrev pub DeepIs : List ℕ → List ℕ → Option ℕ → Type 0
DeepIs text table r = r ≡ found_of (deep_in text 0 table)

pub deep_only : (text table : List ℕ) (r r' : Option ℕ) → DeepIs text table r → DeepIs text table r' → r ≡ r'
deep_only text table r r' p q = p ∙ sym q
