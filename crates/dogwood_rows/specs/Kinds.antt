-- The kinds of the code and the numbers that document 01 gives them.
use Rattle.std.specs.Prelude.{◌≡◌, ℕ, eqb, refl, if◌then◌else◌}
use Rattle.std.proofs.Common.{sym, ◌∙◌}
use Rattle.dogwood_rules.specs.Token.{kind_number}
use Rattle.dogwood_rules.specs.Token as R
use Rattle.dogwood_rows.specs.declared.kind.Kind.{Kind}
use Rattle.dogwood_rows.specs.declared.kind.Kind.TheVariants.{Whitespace, Comment, String, Identifier, Number, Symbol, Other}

-- a kind of the rules as the code has it
abbrev pub kind_of : R.Kind → Kind
kind_of R.Whitespace = Whitespace
kind_of R.Comment = Comment
kind_of R.String = String
kind_of R.Identifier = Identifier
kind_of R.Number = Number
kind_of R.Symbol = Symbol
kind_of R.Other = Other

-- the number that document 01 gives a kind
abbrev pub word_of : Kind → ℕ
word_of Whitespace = 0
word_of Comment = 1
word_of String = 2
word_of Identifier = 3
word_of Number = 4
word_of Symbol = 5
word_of Other = 6

-- the kind that a word stands for, as the layout takes it: Other where no kind has the number
abbrev pub kind_at : ℕ → Kind
kind_at n =
    if eqb n 0 then Whitespace
    else if eqb n 1 then Comment
    else if eqb n 2 then String
    else if eqb n 3 then Identifier
    else if eqb n 4 then Number
    else if eqb n 5 then Symbol
    else Other

-- n is the number of k
abbrev pub IsWordOf : Kind → ℕ → Type 0
IsWordOf k n = n ≡ word_of k

pub word_only : (k : Kind) (n n' : ℕ) → IsWordOf k n → IsWordOf k n' → n ≡ n'
word_only k n n' p q = p ∙ sym q

-- k is the kind whose number is n, or Other
abbrev pub IsKindOf : ℕ → Kind → Type 0
IsKindOf n k = k ≡ kind_at n

pub kind_only : (n : ℕ) (k k' : Kind) → IsKindOf n k → IsKindOf n k' → k ≡ k'
kind_only n k k' p q = p ∙ sym q

-- what is written for a kind is read as that kind
pub kind_at-word_of : (k : Kind) → kind_at (word_of k) ≡ k
kind_at-word_of Whitespace = refl
kind_at-word_of Comment = refl
kind_at-word_of String = refl
kind_at-word_of Identifier = refl
kind_at-word_of Number = refl
kind_at-word_of Symbol = refl
kind_at-word_of Other = refl

-- the numbers are those of document 01
pub word_of-kind_of : (k : R.Kind) → word_of (kind_of k) ≡ kind_number k
unfolding kind_number
word_of-kind_of R.Whitespace = refl
word_of-kind_of R.Comment = refl
word_of-kind_of R.String = refl
word_of-kind_of R.Identifier = refl
word_of-kind_of R.Number = refl
word_of-kind_of R.Symbol = refl
word_of-kind_of R.Other = refl
