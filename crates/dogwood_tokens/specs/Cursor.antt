-- What a cursor reads, in the words of dogwood_rules: of any bytes, at any place.
use Rattle.std.specs.Prelude.{ℕ, ◌+◌, ◌-◌, ◌≡◌, List, [], ◌∷◌, drop}
use Rattle.std.proofs.Common.{sym, ◌∙◌}
use Rattle.std.proofs.Math.Option.{Option, none, some}
use Rattle.dogwood_rules.specs.Utf8.{decode, byte_length}
use Rattle.dogwood_rules.specs.Token.{Placed, placed, token, tokenise}
use Rattle.dogwood_rules.specs.Token as R
use Rattle.dogwood_tokens.specs.declared.cursor.Cursor.{Cursor as CursorOf}
use Rattle.dogwood_tokens.specs.declared.cursor.Step.{Step}
use Rattle.dogwood_tokens.specs.declared.cursor.Step.TheVariants.{Token, Unended, Ended}
use Rattle.dogwood_rows.specs.Kinds.{kind_of}

-- a token of dogwood_rules, and the cursor behind it
abbrev pub step_to : Placed → Step
step_to p = Token (record { kind = kind_of p.token.kind; start = p.start; end = p.stop }) (record { at = p.stop })

-- by what the rules give at the front
abbrev pub given : ℕ → Option (R.Token × ℕ) → Step
given at none = Unended at
given at (some p) = step_to (record { token = p.0; start = at; stop = at + byte_length p.0.text })

abbrev pub step_of : ℕ → List ℕ → Step
step_of at [] = Ended
step_of at (c ∷ cs) = given at (token (c ∷ cs))

-- the characters from a place on, up to the end or the first bad place, decide
unfoldable pub next_of : List ℕ → ℕ → Step
next_of text at = step_of at (decode (drop at text)).0

-- no second answer keeps the promise of `new`, nor that of `next`
pub new_only : (r r' : CursorOf) → r.at ≡ 0 → r'.at ≡ 0 → r ≡ r'
new_only r r' p q = λ i. record { at = (p ∙ sym q) i }

pub next_only : (text : List ℕ) (at : ℕ) (r r' : Step) → r ≡ next_of text at → r' ≡ next_of text at → r ≡ r'
next_only text at r r' p q = p ∙ sym q

-- the tokens from a place on
unfoldable pub tokens_at : List ℕ → ℕ → List Placed
tokens_at text at = placed at (tokenise (decode (drop at text)).0).0

-- Walking ------------------------------------------------------------------------------------------

-- from a place on, the cursor gives these tokens and then this last answer
pub data Walk (text : List ℕ) : ℕ → List Placed → Step → Type 0 where
  walk_end : {at : ℕ} → next_of text at ≡ Ended → Walk text at [] Ended
  walk_open : {at i : ℕ} → next_of text at ≡ Unended i → Walk text at [] (Unended i)
  walk_more : {at : ℕ} {p : Placed} {ps : List Placed} {last : Step} → next_of text at ≡ step_to p → Walk text p.stop ps last → Walk text at (p ∷ ps) last

-- the last answer, in a text of l bytes, by what is left of it
abbrev pub last_of : ℕ → List ℕ → Step
last_of l [] = Ended
last_of l (c ∷ cs) = Unended (l - byte_length (c ∷ cs))
