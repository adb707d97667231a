-- An answer in three numbers.
use Rattle.std.specs.Prelude.{ℕ, ◌≡◌, Result}
use Rattle.dogwood_syntax.specs.declared.tokenizing.NotTokenized.{NotTokenized}
use Rattle.dogwood_syntax.specs.Numbers as Tokens
use Rattle.dogwood_outline.specs.declared.testing.NotFitting.{NotFitting}
use Rattle.dogwood_outline.specs.Numbers as Tests
use Rattle.dogwood_formatter.specs.declared.format.Reason.{Reason}
use Rattle.dogwood_formatter.specs.Numbers.{Formatted, number, place, length, reason_number, reason_place}
use Rattle.dogwood_told.specs.declared.Told.{Told}

-- n, p and l are the number of the answer of the whole call, its place and how many bytes were written
pub record Tells (answer : Formatted) (n p l : ℕ) : Type 0 where
  pub number_is : n ≡ number answer
  pub place_is : p ≡ place answer
  pub length_is : l ≡ length answer

abbrev pub TellsCall : Formatted → Told → Type 0
TellsCall answer t = Tells answer t.number t.place t.len

-- no second three numbers keep that promise
pub tell_only : (answer : Formatted) (n p l n' p' l' : ℕ) → Tells answer n p l → Tells answer n' p' l' → (n ≡ n') × (p ≡ p') × (l ≡ l')
tell_only answer n p l n' p' l' a b = (cc, cc, cc)

-- a number and its place, and nothing is written
pub record TellsBare (number place : ℕ) (t : Told) : Type 0 where
  pub number_is : t.number ≡ number
  pub place_is : t.place ≡ place
  pub none_written : t.len ≡ 0

-- why there are no tokens, and why a source is handed back
abbrev pub TellsRefusal : NotTokenized → Told → Type 0
TellsRefusal why t = TellsBare (Tokens.refusal_number why) (Tokens.refusal_value why) t

abbrev pub TellsReason : Reason → Told → Type 0
TellsReason why t = TellsBare (reason_number why) (reason_place why) t

-- the answer of tokenising alone, and of testing an outline alone
abbrev pub TellsTokens : Result ℕ NotTokenized → Told → Type 0
TellsTokens answer t = TellsBare (Tokens.number answer) (Tokens.value answer) t

abbrev pub TellsTest : Result (Unit {0}) NotFitting → Told → Type 0
TellsTest answer t = TellsBare (Tests.number answer) (Tests.value answer) t

-- no second numbers keep these promises
pub bare_only : (number place : ℕ) (t t' : Told) → TellsBare number place t → TellsBare number place t' → (t.number ≡ t'.number) × (t.place ≡ t'.place) × (t.len ≡ t'.len)
bare_only number place t t' a b = (cc, cc, cc)
