-- What each function of a reader promises, and right under it that no second result keeps the promise.
use Rattle.std.specs.Prelude.{ℕ, ◌≡◌, refl, List}
use Rattle.std.proofs.Common.{sym, ap, ◌∙◌}
use Rattle.std.specs.Borrow.{Bor}
use Rattle.dogwood_rules.specs.Readings as R
use Rattle.dogwood_reader.specs.declared.TokenReader.{TokenReader}
use Rattle.dogwood_reader.specs.declared.Reading.{Reading}
use Rattle.dogwood_reader.specs.declared.Reading.TheVariants.{Token, Ended, NoEnd, Refused}
use Rattle.dogwood_reader.specs.declared.Refusal.TheVariants.{TooLong, NotUtf8}
use Rattle.dogwood_rows.specs.declared.kind.Kind.{Kind}
use Rattle.dogwood_rows.specs.Kinds.{kind_at-word_of}
use Rattle.dogwood_reader.specs.Standing.{told, state_of, standing, onwards}

-- `nth_reading` says which of dogwood_rules' readings it gives: `told` tells the answers apart
answer-told : (t : Reading) → state_of (told t) ≡ t
answer-told (Token t) = ap (λ (k : Kind). Token (record { kind = k; start = t.start; end = t.end })) (kind_at-word_of t.kind)
answer-told Ended = refl
answer-told (NoEnd p) = refl
answer-told (Refused TooLong) = refl
answer-told (Refused (NotUtf8 p)) = refl

pub told_only : (x : R.Reading) (t t' : Reading) → told t ≡ x → told t' ≡ x → t ≡ t'
told_only x t t' p q = sym (answer-told t) ∙ ap state_of (p ∙ sym q) ∙ answer-told t'

-- `reading`: the reading at which the reader stands
pub reading_only : (r : TokenReader) (t t' : Reading) → t ≡ r.state → t' ≡ r.state → t ≡ t'
reading_only r t t' p q = p ∙ sym q

-- `new`: the reader holds the source, and stands at its reading 0
pub record Makes (src : Bor (List ℕ)) (r : TokenReader) : Type 0 where
  pub holds : r.src ≡ src
  pub stands : r.state ≡ standing src.now 0

pub makes_only : (src : Bor (List ℕ)) (r r' : TokenReader) → Makes src r → Makes src r' → r ≡ r'
makes_only src r r' a b = λ i. record { src = (a.holds ∙ sym b.holds) i; state = (a.stands ∙ sym b.stands) i }

-- `next` and `skip`: the reader holds the same source, and stands n readings on
pub record Moves (n : ℕ) (r r' : TokenReader) : Type 0 where
  pub holds : r'.src ≡ r.src
  pub stands : r'.state ≡ onwards r.src.now n r.state

pub moves_only : (n : ℕ) (r r' r'' : TokenReader) → Moves n r r' → Moves n r r'' → r' ≡ r''
moves_only n r r' r'' a b = λ i. record { src = (a.holds ∙ sym b.holds) i; state = (a.stands ∙ sym b.stands) i }

-- `read`: the reading at which the reader stood, and the reader at the next
pub record Gives (r r' : TokenReader) (t : Reading) : Type 0 where
  pub gives : t ≡ r.state
  pub moves : Moves 1 r r'

pub gives_only : (r r' r'' : TokenReader) (t t' : Reading) → Gives r r' t → Gives r r'' t' → (r' ≡ r'') × (t ≡ t')
gives_only r r' r'' t t' a b = (moves_only 1 r r' r'' a.moves b.moves, a.gives ∙ sym b.gives)
