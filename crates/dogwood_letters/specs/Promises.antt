-- What the functions of this crate promise. Each promise is one equation, and no second answer keeps it.
use Rattle.std.specs.Prelude.{◌≡◌, Bool, not, ℕ, Option}
use Rattle.std.proofs.Common.{sym, ◌∙◌}
use Rattle.dogwood_rules.specs.Token.{line_end}
use Rattle.dogwood_letters.specs.Symbol.{symbol_len}

-- r tells whether the character c is of a class
abbrev pub ClassIs : (ℕ → Bool) → ℕ → Bool → Type 0
ClassIs class c r = r ≡ class c

pub class_only : (class : ℕ → Bool) (c : ℕ) (r r' : Bool) → ClassIs class c r → ClassIs class c r' → r ≡ r'
class_only class c r r' p q = p ∙ sym q

-- what a comment may go on with
abbrev pub in_line : ℕ → Bool
in_line c = not (line_end c)

-- r is the length of the symbol that the character a and the byte b begin with
abbrev pub SymbolIs : ℕ → ℕ → Option ℕ → Type 0
SymbolIs a b r = r ≡ symbol_len a b

pub symbol_only : (a b : ℕ) (r r' : Option ℕ) → SymbolIs a b r → SymbolIs a b r' → r ≡ r'
symbol_only a b r r' p q = p ∙ sym q
