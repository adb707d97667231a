-- Which set decides: where the loops over the sets and over the items stand.
use Rattle.std.specs.Prelude.{if◌then◌else◌}
use mathlib.Core.Path.{◌≡◌, refl, sym, ◌∙◌, ap, subst}
use mathlib.Core.Bool.{Bool, true, false}
use mathlib.Core.List.{List, [], ◌∷◌}
use Prim.Native.Nat.{ℕ, zero, suc, ◌+◌, ◌-◌, ◌*◌, ◌<◌, ◌≤◌}
use native.Mathlib.Omega.{arith}
use lib.Dec.{eqb, ltb}
use mir.Val.{bool_byte}
use lib.ListN.{length, take, drop, length-append, length-drop}
use lib.Seq.{take-append_seam, drop-append_seam}
use borrow.Author.Tests.{eqb-true, eqb-false, lt-ltb, le-ltb, ltb-true, ltb-false}
use Rattle.dogwood_rules.specs.Basic.{drop_back, trim, run_length}
use Rattle.dogwood_rules.specs.Token.{Token}
use Rattle.dogwood_rules.specs.Tree.{blank, Run, nothing, single, group, Items, tokens_of, run_of, add_item, tidy, several, trim_run, trim_left, trim_right}
use Rattle.dogwood_rules.proofs.Trim.{front_drops, front_keeps, back_keeps}
use Rattle.dogwood_layout.specs.Shape.{Shaped, Formed}
use Rattle.dogwood_layout.specs.Scan.{depth_after, cut_after_token, cut_len, item_len}
use Rattle.dogwood_layout.specs.Ends.{front_len}
use Rattle.dogwood_layout.specs.Choice.{cuts_of, chosen, is_filled, filled_of}
use Rattle.dogwood_layout.specs.View.{tokens, Holds, Ready}
use Rattle.dogwood_layout.proofs.Tables.{holds_length, no_words, part_rest, tokens-part, tokens-later, holds_later, ready_part}
use Rattle.dogwood_layout.proofs.Ends.{front_run}
use Rattle.dogwood_layout.proofs.Trims.{run_drops, run_keeps, trim-tokens}
use Rattle.dogwood_layout.proofs.Items.{First, first_item, count_items, several_count, count_none, count_some}

-- White space only --------------------------------------------------------------------------------------------------

run_bound : (ts : List Token) → run_length blank ts ≤ length ts
run_bound [] = omega arith
run_bound (t ∷ ts) = go (blank t) refl (run_bound ts)
  where
    go : (b : Bool) → blank t ≡ b → run_length blank ts ≤ length ts → run_length blank (t ∷ ts) ≤ suc (length ts)
    go true e h = let a = run_drops blank t ts e in omega arith
    go false e h = let a = run_keeps blank t ts e in omega arith

all_blank : (ts : List Token) → length ts ≤ run_length blank ts → trim blank ts ≡ []
all_blank [] h = refl
all_blank (t ∷ ts) h = go (blank t) refl (λ k. all_blank ts k)
  where
    go : (b : Bool) → blank t ≡ b → (length ts ≤ run_length blank ts → trim blank ts ≡ []) → trim blank (t ∷ ts) ≡ []
    go true e k = ap (drop_back blank) (front_drops blank t ts e) ∙ k (let a = run_drops blank t ts e in omega arith)
    go false e k = absurd (let a = run_keeps blank t ts e in omega arith)

not_blank : (ts : List Token) → run_length blank ts < length ts → trim blank ts ≡ [] → ⊥
not_blank [] h e = omega arith
not_blank (t ∷ ts) h e = go (blank t) refl (λ k q. not_blank ts k q)
  where
    go : (b : Bool) → blank t ≡ b → (run_length blank ts < length ts → trim blank ts ≡ [] → ⊥) → ⊥
    go true q k = k (let a = run_drops blank t ts q in omega arith) (ap (drop_back blank) (sym (front_drops blank t ts q)) ∙ e)
    go false q k =
        let a : t ∷ drop_back blank ts ≡ [] = sym (ap (drop_back blank) (front_keeps blank t ts q) ∙ back_keeps blank t ts q) ∙ e in
        let z : ◌≡◌ {A = ℕ} 0 1 = cc in omega arith

pub no_tokens : (r : Run) → tokens_of r ≡ [] → r ≡ nothing
unfolding tokens_of
no_tokens nothing e = refl
no_tokens (single t r) e = absurd (let z : ◌≡◌ {A = ℕ} 0 1 = cc in omega arith)
no_tokens (group o inside is c r) e = absurd (let z : ◌≡◌ {A = ℕ} 0 1 = cc in omega arith)

-- a run that is not all white space
pub trim_some : {r : Run} → Shaped r → run_length blank (tokens_of r) < length (tokens_of r) → trim_run r ≡ nothing → ⊥
unfolding tokens_of
trim_some {r} h k e = not_blank (tokens_of r) k (sym (trim-tokens h) ∙ ap tokens_of e)

pub trim_none : {r : Run} → Shaped r → length (tokens_of r) ≤ run_length blank (tokens_of r) → trim_run r ≡ nothing
trim_none {r} h k = no_tokens (trim_run r) (trim-tokens h ∙ all_blank (tokens_of r) k)

-- one more item for a table that is filled
pub count_filled : {r : Run} → Shaped r → (text ws : List ℕ) → Holds text ws → tokens_of r ≡ tokens text ws → (is : Items) → count_items (add_item (trim_run r) is) ≡ filled_of ws + count_items is
unfolding filled_of
count_filled {r} h text ws k e is = go (ltb (3 * front_len ws) (length ws)) refl
  where
    go : (b : Bool) → ltb (3 * front_len ws) (length ws) ≡ b → count_items (add_item (trim_run r) is) ≡ (if ltb (3 * front_len ws) (length ws) then 1 else 0) + count_items is
    go true q =
        let a = front_run text ws in
        let l = holds_length text ws k in
        let m = ltb-true (3 * front_len ws) (length ws) q in
        let n : run_length blank (tokens_of r) < length (tokens_of r) = rw e (omega arith) in
        let c : count_items (add_item (trim_run r) is) ≡ suc (count_items is) = count_some (trim_run r) is (trim_some h n) in
        rw q (omega arith)
    go false q =
        let a = front_run text ws in
        let l = holds_length text ws k in
        let m = ltb-false (3 * front_len ws) (length ws) q in
        let n : length (tokens_of r) ≤ run_length blank (tokens_of r) = rw e (omega arith) in
        let c : count_items (add_item (trim_run r) is) ≡ count_items is = ap (λ (u : Run). count_items (add_item u is)) (trim_none h n) ∙ count_none is in
        rw q (omega arith)

-- A walk over the items of a table ---------------------------------------------------------------------------------

-- at word i the rest of the table is a shaped run
pub record ItemsAt (text ws : List ℕ) (i : ℕ) : Type 0 where
  pub fits : i ≤ length ws
  pub holds : Holds text (drop i ws)
  pub run : Run
  pub shaped : Shaped run
  pub tokens : tokens_of run ≡ tokens text (drop i ws)

abbrev pub items_start : (text ws : List ℕ) → Ready text ws → (f : Formed (tokens text ws)) → ItemsAt text ws 0
items_start text ws r f = record { fits = omega arith; holds = r.holds; run = run_of (tokens text ws); shaped = f.shaped; tokens = f.tokens }

-- the first item has a token
pub item_full : (set : ℕ) (ts : List Token) → 0 < length ts → 0 < item_len true set 0 ts
unfolding item_len
item_full set [] k = absurd (omega arith)
item_full set (t ∷ ts) k = go (cut_after_token set 0 t)
  where
    go : (b : Bool) → 0 < cut_len false b (item_len false set (depth_after 0 t) ts)
    go true = omega arith
    go false = omega arith

-- the item at word i, m words long
pub record ItemHere (text ws : List ℕ) (set i m : ℕ) (run : Run) : Type 0 where
  pub first : First set run
  pub count : ℕ
  pub words : m ≡ 3 * count
  pub some : 0 < m
  pub fits : i + m ≤ length ws
  pub head_tokens : tokens_of first.head ≡ tokens text (take (i + m - i) (drop i ws))
  pub next : ItemsAt text ws (i + m)
  pub next_run : next.run ≡ first.tail

pub item_here : (text ws : List ℕ) (set i m : ℕ) (a : ItemsAt text ws i) → i < length ws → m ≡ 3 * item_len true set 0 (tokens text (take (length ws - i) (drop i ws)))
    → ItemHere text ws set i m a.run
unfolding item_len
item_here text ws set i m a h e =
    let f = first_item a.shaped set in
    let n = length (tokens_of f.head) in
    let p : m ≡ 3 * n = e ∙ ap (λ (ts : List Token). 3 * item_len true set 0 ts) (ap (tokens text) (part_rest ws i) ∙ sym a.tokens) ∙ ap (λ (k : ℕ). 3 * k) f.size in
    let l = holds_length text (drop i ws) a.holds in
    let d = length-drop i ws in
    let t : length (tokens text (drop i ws)) ≡ n + length (tokens_of f.tail) = ap length (sym a.tokens ∙ f.tokens) ∙ length-append (tokens_of f.head) (tokens_of f.tail) in
    let z : 0 < n = some f.size in
    record {
      first = f;
      count = n;
      words = p;
      some = omega arith;
      fits = omega arith;
      head_tokens = sym (tokens-part text ws i m n p ∙ ap (take n) (sym a.tokens ∙ f.tokens) ∙ take-append_seam (tokens_of f.head) (tokens_of f.tail));
      next = record {
        fits = omega arith;
        holds = holds_later text ws i m n p a.holds;
        run = f.tail;
        shaped = f.tail_shaped;
        tokens = sym (tokens-later text ws i m n p ∙ ap (drop n) (sym a.tokens ∙ f.tokens) ∙ drop-append_seam (tokens_of f.head) (tokens_of f.tail));
      };
      next_run = refl;
    }
  where
    some : item_len true set 0 (tokens_of a.run) ≡ length (tokens_of (first_item a.shaped set).head) → 0 < length (tokens_of (first_item a.shaped set).head)
    some q =
        let l = holds_length text (drop i ws) a.holds in
        let d = length-drop i ws in
        let t : length (tokens_of a.run) ≡ length (tokens text (drop i ws)) = ap length a.tokens in
        let x = item_full set (tokens_of a.run) (omega arith) in
        omega arith

-- The sets --------------------------------------------------------------------------------------------------------------

abbrev pub item_count : ℕ → Run → ℕ
item_count set r = count_items (tidy (cuts_of set r))

pub record FoundAt (text ws : List ℕ) (set found i : ℕ) : Type 0 where
  pub at : ItemsAt text ws i
  pub few : found ≤ 1
  pub left : found + item_count set at.run ≡ item_count set (run_of (tokens text ws))

pub found_start : (text ws : List ℕ) (set : ℕ) → Ready text ws → Formed (tokens text ws) → FoundAt text ws set 0 0
found_start text ws set r f = record { at = items_start text ws r f; few = omega arith; left = let e : 0 + item_count set (run_of (tokens text ws)) ≡ item_count set (run_of (tokens text ws)) = omega arith in e }

module _ (text ws : List ℕ) (set found i m : ℕ) (a : FoundAt text ws set found i) (h : ItemHere text ws set i m a.at.run) (k : Ready text ws) where
  found_more : filled_of (take (i + m - i) (drop i ws)) + item_count set h.first.tail ≡ item_count set a.at.run
  found_more =
      sym (ap count_items h.first.items
      ∙ count_filled h.first.head_shaped text (take (i + m - i) (drop i ws)) (ready_part text ws i m h.count k a.at.holds h.words).holds h.head_tokens (tidy (cuts_of set h.first.tail)))

  pub found_turn : {r : ℕ} → r ≡ filled_of (take (i + m - i) (drop i ws)) → found + r ≤ 1 → FoundAt text ws set (found + r) (i + m)
  found_turn e f =
      let p = found_more in
      let q = a.left in
      let n : item_count set h.next.run ≡ item_count set h.first.tail = ap (item_count set) h.next_run in
      record { at = h.next; few = f; left = omega arith }

  pub found_two : {r : ℕ} → r ≡ filled_of (take (i + m - i) (drop i ws)) → 1 < found + r → 1 < item_count set (run_of (tokens text ws))
  found_two e f = let p = found_more in let q = a.left in omega arith

pub found_end : (text ws : List ℕ) (set found i : ℕ) → FoundAt text ws set found i → length ws ≤ i → item_count set (run_of (tokens text ws)) ≤ 1
unfolding cuts_of tidy add_item trim_run trim_left trim_right tokens_of
found_end text ws set found i a h =
    let e : a.at.run ≡ nothing = no_tokens a.at.run (a.at.tokens ∙ no_words text ws i h) in
    let z : item_count set a.at.run ≡ 0 = ap (item_count set) e in
    let q = a.left in
    let f = a.few in
    omega arith

-- the sets before this one do not decide
pub record SetsAt (r : Run) (set : ℕ) : Type 0 where
  pub low : set ≤ 2
  pub none : (j : ℕ) → j < set → item_count j r ≤ 1

pub sets_start : (r : Run) → SetsAt r 0
sets_start r = record { low = omega arith; none = λ j (h : j < 0). absurd (omega arith) }

pub sets_turn : (r : Run) (set : ℕ) → SetsAt r set → set < 2 → item_count set r ≤ 1 → SetsAt r (set + 1)
sets_turn r set a h k = record { low = omega arith; none = λ j (l : j < set + 1). go j l (eqb j set) refl }
  where
    go : (j : ℕ) → j < set + 1 → (b : Bool) → eqb j set ≡ b → item_count j r ≤ 1
    go j l true e = subst (λ (n : ℕ). item_count n r ≤ 1) (sym (eqb-true j set e)) k
    go j l false e = a.none j (less (eqb-false j set e))
      where
        less : (j ≡ set → ⊥) → j < set
        less n = omega arith

chosen_by : (r : Run) (a b : Bool) → several (tidy (cuts_of 0 r)) ≡ a → several (tidy (cuts_of 1 r)) ≡ b → (if a then 0 else if b then 1 else 2) ≡ chosen r
unfolding chosen
chosen_by r a b e f = λ j. if sym e j then 0 else if sym f j then 1 else 2

count_few : (is : Items) → count_items is ≤ 1 → several is ≡ false
count_few is h = several_count is ∙ le-ltb 1 (count_items is) h

count_two : (is : Items) → 1 < count_items is → several is ≡ true
count_two is h = several_count is ∙ lt-ltb 1 (count_items is) h

pub sets_stop : (r : Run) (set : ℕ) → SetsAt r set → set < 2 → 1 < item_count set r → set ≡ chosen r
sets_stop r zero a h k = chosen_by r true (several (tidy (cuts_of 1 r))) (count_two _ k) refl
sets_stop r (suc zero) a h k = chosen_by r false true (count_few _ (a.none 0 (omega arith))) (count_two _ k)
sets_stop r (suc (suc n)) a h k = absurd (omega arith)

pub sets_end : (r : Run) (set : ℕ) → SetsAt r set → 2 ≤ set → 2 ≡ chosen r
sets_end r set a h =
    chosen_by r false false (count_few _ (a.none 0 (omega arith))) (count_few _ (a.none 1 (omega arith)))

-- one more for a table that is filled
pub filled-count : (ws : List ℕ) {b : Bool} → b ≡ is_filled ws → bool_byte b ≡ filled_of ws
unfolding filled_of
filled-count ws e = ap bool_byte e ∙ go (is_filled ws)
  where
    go : (b : Bool) → bool_byte b ≡ (if b then 1 else 0)
    go true = refl
    go false = refl
