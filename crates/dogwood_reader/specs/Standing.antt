-- The readings of the code, the next one, and what is read off.
use Rattle.std.specs.Prelude.{ℕ, zero, suc, List, eqb, if◌then◌else◌}
use Rattle.dogwood_rules.specs.Utf8.{text_of}
use Rattle.dogwood_rules.specs.Readings.{reading, token, ended, no_end, refused}
use Rattle.dogwood_rules.specs.Readings as R
use Rattle.dogwood_rows.specs.Kinds.{word_of, kind_at}
use Rattle.dogwood_tokens.specs.declared.cursor.Step.{Step}
use Rattle.dogwood_tokens.specs.declared.cursor.Step.TheVariants as S
use Rattle.dogwood_tokens.specs.Cursor.{next_of}
use Rattle.dogwood_reader.specs.declared.Refusal.TheVariants.{TooLong, NotUtf8}
use Rattle.dogwood_reader.specs.declared.Reading.{Reading}
use Rattle.dogwood_reader.specs.declared.Reading.TheVariants.{Token, Ended, NoEnd, Refused}

-- document 01's reading for each case of the enum
abbrev pub told : Reading → R.Reading
told (Token t) = token (word_of t.kind) t.start t.end
told Ended = ended
told (NoEnd p) = no_end p
told (Refused TooLong) = refused 11 0
told (Refused (NotUtf8 p)) = refused 12 p

-- document 01's reading as the enum has it
abbrev pub state_of : R.Reading → Reading
state_of (token k s e) = Token (record { kind = kind_at k; start = s; end = e })
state_of ended = Ended
state_of (no_end p) = NoEnd p
state_of (refused n p) = Refused (if eqb n 11 then TooLong else NotUtf8 p)

-- where a reader of a source stands at its n-th reading, counted from 0
unfoldable pub standing : List ℕ → ℕ → Reading
standing source n = state_of (reading source n)

abbrev pub step_state : Step → Reading
step_state (S.Token t c) = Token t
step_state (S.Unended i) = NoEnd i
step_state S.Ended = Ended

-- the reading at a place of the text
unfoldable pub place_of : List ℕ → ℕ → Reading
place_of source at = step_state (next_of (text_of source) at)

-- the reading after any reading: behind a token the one there, else the same
unfoldable pub moved : List ℕ → Reading → Reading
moved source (Token t) = place_of source t.end
moved source Ended = Ended
moved source (NoEnd p) = NoEnd p
moved source (Refused r) = Refused r

-- n moves on from a reading
unfoldable pub onwards : List ℕ → ℕ → Reading → Reading
onwards source zero r = r
onwards source (suc n) r = onwards source n (moved source r)
