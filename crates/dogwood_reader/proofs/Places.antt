-- The readings of a source, by the cursor's walk over its text.
use Prim.Native.Nat.{ℕ, zero, suc, ◌+◌, ◌-◌, ◌<◌, ◌≤◌}
use mathlib.Core.Path.{◌≡◌, refl, sym, ap, ◌∙◌, subst}
use mathlib.Core.Bool.{Bool, true, false}
use mathlib.Core.List.{List, [], ◌∷◌}
use native.Mathlib.Omega.{arith}
use borrow.Author.Tests.{ltb-true, ltb-false}
use lib.ListN.{length}
use lib.Dec.{ltb}
use Rattle.dogwood_rules.specs.Utf8.{decode, byte_length, mark_of, text_of}
use Rattle.dogwood_rules.specs.Token.{Placed, placed, tokenise}
use Rattle.dogwood_rules.specs.Source.{Source, source_of}
use Rattle.dogwood_rules.specs.Alone.{told as as_alone, total, tokenised, stopped}
use Rattle.dogwood_rules.specs.Readings.{nth, reading_of, reading, ended, no_end, refused}
use Rattle.dogwood_rules.specs.Readings as R
use Rattle.dogwood_rules.proofs.Sources.{source_long, source_bad, source_open, source_cut}
use Rattle.utf8.specs.Told.{left_at}
use Rattle.dogwood_tokens.specs.declared.cursor.Step.{Step}
use Rattle.dogwood_tokens.specs.declared.cursor.Step.TheVariants as S
use Rattle.dogwood_tokens.specs.Cursor.{next_of, last_of, Walk, walk_end, walk_open, walk_more}
use Rattle.dogwood_syntax.proofs.Promise.{bad_kept}
use Rattle.dogwood_tokens.proofs.Walks.{walks}
use Rattle.dogwood_rows.specs.declared.kind.Kind.{Kind}
use Rattle.dogwood_rows.specs.Kinds.{kind_of, word_of, kind_at, kind_at-word_of, word_of-kind_of}
use Rattle.dogwood_rules.specs.Token.{kind_number}
use Rattle.dogwood_rules.specs.Token as T
use Rattle.dogwood_reader.specs.declared.Reading.{Reading}
use Rattle.dogwood_reader.specs.declared.Reading.TheVariants.{Token, Refused}
use Rattle.dogwood_reader.specs.declared.Refusal.TheVariants.{TooLong, NotUtf8}
use Rattle.dogwood_reader.specs.Standing.{told, state_of, standing, step_state, place_of, moved}
use Rattle.std.specs.Prelude.{None, Some}

-- what the code finds behind the mark
pub place_is : (s text : List ℕ) (at : ℕ) {x : Step} → text ≡ text_of s → next_of text at ≡ x → step_state x ≡ place_of s at
unfolding place_of
place_is s text at e q = ap step_state (sym q) ∙ ap (λ (l : List ℕ). step_state (next_of l at)) e

from_source : (s : List ℕ) (n : ℕ) {x : Source} → source_of s ≡ x → reading s n ≡ reading_of x n
unfolding reading
from_source s n e = ap (λ (x : Source). reading_of x n) e

-- ---- a source that is refused

long_reads : (s : List ℕ) (n : ℕ) → 1048576 < length s → reading s n ≡ refused 11 0
unfolding reading_of
long_reads s n h = from_source s n (source_long s h)

bad_reads : (s : List ℕ) (n : ℕ) → length s ≤ 1048576 → (b : ℕ) (l : List ℕ) → (decode (text_of s)).1 ≡ b ∷ l → reading s n ≡ refused 12 (length s - length (b ∷ l))
unfolding reading_of
bad_reads s n h b l e = from_source s n (source_bad s h b l e)

-- the place, as the code has it
bad_place : (s : List ℕ) (h : length s ≤ 1048576) (i b : ℕ) (l : List ℕ) → (decode (text_of s)).1 ≡ b ∷ l → left_at (length (text_of s)) (decode (text_of s)).1 ≡ Some i
    → length (mark_of s) + i ≡ length s - length (b ∷ l)
unfolding tokenised as_alone stopped
bad_place s h i b l e q =
    (bad_kept s [] h i q).valued ∙ ap (λ (x : Source). (as_alone (length {A = ℕ} []) total x).value) (source_bad s h b l e)

pub long_start : (s : List ℕ) → 1048576 < length s → standing s 0 ≡ Refused TooLong
unfolding standing
long_start s h = ap state_of (long_reads s 0 h)

pub bad_start : (s : List ℕ) → length s ≤ 1048576 → (i : ℕ) → left_at (length (text_of s)) (decode (text_of s)).1 ≡ Some i
    → standing s 0 ≡ Refused (NotUtf8 (length (mark_of s) + i))
unfolding standing
bad_start s h i q = by (decode (text_of s)).1 refl
  where
    by : (l : List ℕ) → (decode (text_of s)).1 ≡ l → state_of (reading s 0) ≡ Refused (NotUtf8 (length (mark_of s) + i))
    by [] e =
        let y : left_at (length (text_of s)) [] ≡ Some i = ap (left_at (length (text_of s))) (sym e) ∙ q in
        absurd (let z : ◌≡◌ {A = ℕ} 0 1 = cc in omega arith)
    by (b ∷ l) e = ap state_of (bad_reads s 0 h b l e ∙ ap (refused 12) (sym (bad_place s h i b l e q)))

-- ---- a source that is walked

abbrev pub last_reading : Step → R.Reading
last_reading (S.Token t c) = ended
last_reading (S.Unended i) = no_end i
last_reading S.Ended = ended

pub record Walked (s : List ℕ) : Type 0 where
  pub ps : List Placed
  pub last : Step
  pub walk : Walk (text_of s) 0 ps last
  pub reads : (n : ℕ) → reading s n ≡ nth (last_reading last) ps n

walked : (s : List ℕ) → length s ≤ 1048576 → (decode (text_of s)).1 ≡ [] → Walked s
unfolding reading_of
walked s h e = by (tokenise (decode (text_of s)).0).1 refl
  where
    good : decode (text_of s) ≡ ((decode (text_of s)).0, [])
    good = λ i. ((decode (text_of s)).0, e i)

    by : (l : List ℕ) → (tokenise (decode (text_of s)).0).1 ≡ l → Walked s
    by [] m = record {
      ps = placed 0 (tokenise (decode (text_of s)).0).0;
      last = S.Ended;
      walk = subst (λ (l : List ℕ). Walk (text_of s) 0 (placed 0 (tokenise (decode (text_of s)).0).0) (last_of (length (text_of s)) l)) m (walks (text_of s) (decode (text_of s)).0 good);
      reads = λ n. from_source s n (source_cut s h e m);
    }
    by (c ∷ l) m = record {
      ps = placed 0 (tokenise (decode (text_of s)).0).0;
      last = S.Unended (length (text_of s) - byte_length (c ∷ l));
      walk = subst (λ (l : List ℕ). Walk (text_of s) 0 (placed 0 (tokenise (decode (text_of s)).0).0) (last_of (length (text_of s)) l)) m (walks (text_of s) (decode (text_of s)).0 good);
      reads = λ n. from_source s n (source_open s h e c l m);
    }

-- a kind goes by its number and comes back
kind_again : (k : T.Kind) → kind_at (kind_number k) ≡ kind_of k
kind_again k = ap kind_at (sym (word_of-kind_of k)) ∙ kind_at-word_of (kind_of k)

number_again : (k : T.Kind) → word_of (kind_at (kind_number k)) ≡ kind_number k
number_again k = ap word_of (kind_again k) ∙ word_of-kind_of k

module _ (s : List ℕ) where
  abbrev at_place : ℕ → Reading
  at_place i = step_state (next_of (text_of s) i)

  walk_start : {at : ℕ} {ps : List Placed} {last : Step} → Walk (text_of s) at ps last → at_place at ≡ state_of (nth (last_reading last) ps 0)
  unfolding nth
  walk_start (walk_end e) = ap step_state e
  walk_start (walk_open e) = ap step_state e
  walk_start (walk_more {p} e w) = ap step_state e ∙ ap (λ (k : Kind). Token (record { kind = k; start = p.start; end = p.stop })) (sym (kind_again p.token.kind))

  pub walk-moved : {at : ℕ} {ps : List Placed} {last : Step} → Walk (text_of s) at ps last → (n : ℕ) → moved s (state_of (nth (last_reading last) ps n)) ≡ state_of (nth (last_reading last) ps (suc n))
  unfolding nth moved place_of
  walk-moved (walk_end e) n = refl
  walk-moved (walk_open e) n = refl
  walk-moved (walk_more e w) zero = walk_start w
  walk-moved (walk_more e w) (suc n) = walk-moved w n

  pub walk-told : {at : ℕ} {ps : List Placed} {last : Step} → Walk (text_of s) at ps last → (n : ℕ) → told (state_of (nth (last_reading last) ps n)) ≡ nth (last_reading last) ps n
  unfolding nth
  walk-told (walk_end e) n = refl
  walk-told (walk_open e) n = refl
  walk-told (walk_more {p} e w) zero = ap (λ (k : ℕ). R.token k p.start p.stop) (number_again p.token.kind)
  walk-told (walk_more e w) (suc n) = walk-told w n

-- ---- any source

pub good_start : (s : List ℕ) → length s ≤ 1048576 → left_at (length (text_of s)) (decode (text_of s)).1 ≡ None → place_of s 0 ≡ standing s 0
unfolding standing place_of
good_start s h q = by (decode (text_of s)).1 refl
  where
    by : (l : List ℕ) → (decode (text_of s)).1 ≡ l → step_state (next_of (text_of s) 0) ≡ state_of (reading s 0)
    by [] e = let w = walked s h e in walk_start s w.walk ∙ ap state_of (sym (w.reads 0))
    by (b ∷ l) e =
        let y : left_at (length (text_of s)) (b ∷ l) ≡ None = ap (left_at (length (text_of s))) (sym e) ∙ q in
        absurd (let z : ◌≡◌ {A = ℕ} 0 1 = cc in omega arith)

-- it is refused at each reading alike, or walked
pub data Seen (s : List ℕ) : Type 0 where
  seen_long : ((n : ℕ) → reading s n ≡ refused 11 0) → Seen s
  seen_bad : (place : ℕ) → ((n : ℕ) → reading s n ≡ refused 12 place) → Seen s
  seen_walked : Walked s → Seen s

pub seen : (s : List ℕ) → Seen s
seen s = by_length (ltb 1048576 (length s)) refl
  where
    by_bytes : length s ≤ 1048576 → (l : List ℕ) → (decode (text_of s)).1 ≡ l → Seen s
    by_bytes h [] e = seen_walked (walked s h e)
    by_bytes h (b ∷ l) e = seen_bad (length s - length (b ∷ l)) (λ n. bad_reads s n h b l e)

    by_length : (b : Bool) → ltb 1048576 (length s) ≡ b → Seen s
    by_length true e = seen_long (λ n. long_reads s n (ltb-true _ _ e))
    by_length false e = by_bytes (ltb-false _ _ e) (decode (text_of s)).1 refl
