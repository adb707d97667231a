-- The items of an inside, one after another: the first item of a shaped run and what is left of the run.
use Rattle.std.specs.Prelude.{if◌then◌else◌}
use mathlib.Core.Path.{◌≡◌, refl, sym, ◌∙◌, ap, subst}
use mathlib.Core.Bool.{Bool, true, false, not, ◌&&◌, ◌||◌}
use mathlib.Core.List.{List, [], ◌∷◌, ◌++◌, append_assoc}
use Prim.Native.Nat.{ℕ, suc, ◌+◌}
use native.Mathlib.Omega.{arith}
use lib.Dec.{eqb, ltb}
use lib.ListN.{length, length-append}
use borrow.Author.Tests.{ne_eqb, eqb-true, lt-ltb}
use Rattle.dogwood_rules.specs.Basic.{same}
use Rattle.dogwood_rules.specs.Token.{Token}
use Rattle.dogwood_rules.specs.Tree.{comma, and_or, opener, closer, Run, nothing, single, group, Items, end, item, tokens_of, items_of, front, after_commas, before_and_ors, add_item, tidy, several, trim_run, trim_left, trim_right}
use Rattle.dogwood_layout.specs.Shape.{Sound, Shaped, shaped_nothing, shaped_single, shaped_group}
use Rattle.dogwood_layout.specs.Scan.{depth_after, cut_after_token, cut_before, cut_len, item_len}
use Rattle.dogwood_layout.specs.Choice.{cuts_of, cut_off, chosen}
use Rattle.dogwood_layout.proofs.Shapes.{deeper, higher, level}

-- The cuts of the two sets ---------------------------------------------------------------------------------------

pub cuts_0 : (r : Run) → cuts_of 0 r ≡ after_commas r
unfolding cuts_of after_commas cut_after_token cut_before
cuts_0 nothing = refl
cuts_0 (single t r) = ap (λ (is : Items). if comma t then item (single t nothing) is else front (single t) is) (cuts_0 r)
cuts_0 (group o inside is c r) = ap (front (group o inside is c)) (cuts_0 r)

pub cuts_1 : (r : Run) → cuts_of 1 r ≡ before_and_ors r
unfolding cuts_of before_and_ors cut_after_token cut_before
cuts_1 nothing = refl
cuts_1 (single t r) = ap (λ (is : Items). if and_or t then item nothing (front (single t) is) else front (single t) is) (cuts_1 r)
cuts_1 (group o inside is c r) = ap (front (group o inside is c)) (cuts_1 r)

pub cuts_2 : (r : Run) → cuts_of 2 r ≡ item r end
unfolding cuts_of front cut_after_token cut_before
cuts_2 nothing = refl
cuts_2 (single t r) = ap (front (single t)) (cuts_2 r)
cuts_2 (group o inside is c r) = ap (front (group o inside is c)) (cuts_2 r)

-- Lengths ---------------------------------------------------------------------------------------------------------

deep_after : (set d : ℕ) (t : Token) → cut_after_token set (suc d) t ≡ false
unfolding cut_after_token
deep_after set d t = rw (ne_eqb (suc d) 0 (λ (q : suc d ≡ 0). omega arith)) (go (eqb set 0))
  where
    go : (b : Bool) → (b && false && comma t) ≡ false
    go true = refl
    go false = refl

deep_before : (set d : ℕ) (t : Token) (f : Bool) → (not f && cut_before set (suc d) t) ≡ false
unfolding cut_before
deep_before set d t f = rw (ne_eqb (suc d) 0 (λ (q : suc d ≡ 0). omega arith)) (go (eqb set 1) f)
  where
    go : (b f : Bool) → (not f && (b && false && and_or t)) ≡ false
    go b true = refl
    go true false = refl
    go false false = refl

len_step : (f : Bool) (set d : ℕ) (t : Token) (ts : List Token) (n : ℕ) → (not f && cut_before set d t) ≡ false → cut_after_token set d t ≡ false → depth_after d t ≡ n
    → item_len f set d (t ∷ ts) ≡ suc (item_len false set n ts)
unfolding item_len
len_step f set d t ts n a b e = λ j. cut_len (a j) (b j) (item_len false set (e j) ts)

len_before : (set d : ℕ) (t : Token) (ts : List Token) → cut_before set d t ≡ true → item_len false set d (t ∷ ts) ≡ 0
unfolding item_len
len_before set d t ts a = λ j. cut_len (a j) (cut_after_token set d t) (item_len false set (depth_after d t) ts)

len_after : (f : Bool) (set d : ℕ) (t : Token) (ts : List Token) → (not f && cut_before set d t) ≡ false → cut_after_token set d t ≡ true → item_len f set d (t ∷ ts) ≡ 1
unfolding item_len
len_after f set d t ts a b = λ j. cut_len (a j) (b j) (item_len false set (depth_after d t) ts)

-- inside of brackets nothing is cut
deep-past : {r : Run} → Shaped r → (set d : ℕ) (rest : List Token) → item_len false set (suc d) (tokens_of r ++ rest) ≡ length (tokens_of r) + item_len false set (suc d) rest
unfolding tokens_of
deep-past shaped_nothing set d rest = omega arith
deep-past (shaped_single {t} {r} o c s h) set d rest =
    let e = len_step false set (suc d) t (tokens_of r ++ rest) (suc d) (deep_before set d t false) (deep_after set d t) (level (suc d) t o c) in
    let f = deep-past h set d rest in
    omega arith
deep-past (shaped_group {o} {c} {i} {r} oo so oc cl sc hi h) set d rest =
    let a : item_len false set (suc d) ((o ∷ (tokens_of i ++ (c ∷ tokens_of r))) ++ rest) ≡ item_len false set (suc d) (o ∷ (tokens_of i ++ (c ∷ (tokens_of r ++ rest)))) = ap (λ (l : List Token). item_len false set (suc d) (o ∷ l)) (append_assoc (tokens_of i) (c ∷ tokens_of r) rest) in
    let e = len_step false set (suc d) o (tokens_of i ++ (c ∷ (tokens_of r ++ rest))) (suc (suc d)) (deep_before set d o false) (deep_after set d o) (deeper (suc d) o oo) in
    let f = deep-past hi set (suc d) (c ∷ (tokens_of r ++ rest)) in
    let g = len_step false set (suc (suc d)) c (tokens_of r ++ rest) (suc d) (deep_before set (suc d) c false) (deep_after set (suc d) c) (higher (suc d) c oc cl) in
    let k = deep-past h set d rest in
    let l : length (o ∷ (tokens_of i ++ (c ∷ tokens_of r))) ≡ suc (length (tokens_of i) + suc (length (tokens_of r))) = ap suc (length-append (tokens_of i) (c ∷ tokens_of r)) in
    omega arith

-- An opener is no separator ------------------------------------------------------------------------------------------

pub same_true : (xs ys : List ℕ) → same xs ys ≡ true → xs ≡ ys
same_true [] [] e = refl
same_true [] (y ∷ ys) e = absurd (let z : ◌≡◌ {A = ℕ} 0 1 = cc in omega arith)
same_true (x ∷ xs) [] e = absurd (let z : ◌≡◌ {A = ℕ} 0 1 = cc in omega arith)
same_true (x ∷ xs) (y ∷ ys) e = go (eqb x y) refl e (λ h. same_true xs ys h)
  where
    go : (b : Bool) → eqb x y ≡ b → (b && same xs ys) ≡ true → (same xs ys ≡ true → xs ≡ ys) → x ∷ xs ≡ y ∷ ys
    go true q f h = λ i. eqb-true x y q i ∷ h f i
    go false q f h = absurd (let z : ◌≡◌ {A = ℕ} 0 1 = cc in omega arith)

opener_no_cut : (t : Token) → opener t ≡ true → (comma t ≡ false) × (and_or t ≡ false)
unfolding opener comma and_or
opener_no_cut t e = go (same t.text (40 ∷ [])) refl (same t.text (91 ∷ [])) refl (same t.text (123 ∷ [])) refl e
  where
    by : (l : List ℕ) → t.text ≡ l → (same l (44 ∷ []) ≡ false) × ((same l (38 ∷ 38 ∷ []) || same l (124 ∷ 124 ∷ [])) ≡ false)
        → (same t.text (44 ∷ []) ≡ false) × ((same t.text (38 ∷ 38 ∷ []) || same t.text (124 ∷ 124 ∷ [])) ≡ false)
    by l q h = subst (λ (m : List ℕ). (same m (44 ∷ []) ≡ false) × ((same m (38 ∷ 38 ∷ []) || same m (124 ∷ 124 ∷ [])) ≡ false)) (sym q) h

    go : (a : Bool) → same t.text (40 ∷ []) ≡ a → (b : Bool) → same t.text (91 ∷ []) ≡ b → (c : Bool) → same t.text (123 ∷ []) ≡ c → (a || b || c) ≡ true
        → (same t.text (44 ∷ []) ≡ false) × ((same t.text (38 ∷ 38 ∷ []) || same t.text (124 ∷ 124 ∷ [])) ≡ false)
    go true p b q c r h = by (40 ∷ []) (same_true _ _ p) (refl, refl)
    go false p true q c r h = by (91 ∷ []) (same_true _ _ q) (refl, refl)
    go false p false q true r h = by (123 ∷ []) (same_true _ _ r) (refl, refl)
    go false p false q false r h = absurd (let z : ◌≡◌ {A = ℕ} 0 1 = cc in omega arith)

and_false : (a b : Bool) → (a && b && false) ≡ false
and_false true true = refl
and_false true false = refl
and_false false b = refl

opener_after : (set d : ℕ) (t : Token) → opener t ≡ true → cut_after_token set d t ≡ false
unfolding cut_after_token
opener_after set d t e = ap (λ (z : Bool). eqb set 0 && eqb d 0 && z) (opener_no_cut t e).0 ∙ and_false (eqb set 0) (eqb d 0)

opener_before : (set d : ℕ) (t : Token) (f : Bool) → opener t ≡ true → (not f && cut_before set d t) ≡ false
unfolding cut_before
opener_before set d t f e = ap (λ (z : Bool). not f && (eqb set 1 && eqb d 0 && z)) (opener_no_cut t e).1 ∙ go (not f)
  where
    go : (b : Bool) → (b && (eqb set 1 && eqb d 0 && false)) ≡ false
    go true = and_false (eqb set 1) (eqb d 0)
    go false = refl

-- a group at depth 0 is passed over
past-group : (f : Bool) (set : ℕ) (o c : Token) {i : Run} (ts : List Token) → opener o ≡ true → opener c ≡ false → closer c ≡ true → Shaped i
    → item_len f set 0 (o ∷ (tokens_of i ++ (c ∷ ts))) ≡ length (tokens_of i) + 2 + item_len false set 0 ts
past-group f set o c {i} ts oo oc cl hi =
    let e = len_step f set 0 o (tokens_of i ++ (c ∷ ts)) 1 (opener_before set 0 o f oo) (opener_after set 0 o oo) (deeper 0 o oo) in
    let g = deep-past hi set 0 (c ∷ ts) in
    let k = len_step false set 1 c ts 0 (deep_before set 0 c false) (deep_after set 0 c) (higher 0 c oc cl) in
    omega arith

-- The first item ---------------------------------------------------------------------------------------------------------

-- a run cut at its first cut: the items are those of the head, then those of the tail
record Cut (set : ℕ) (r : Run) : Type 0 where
  head : Run
  tail : Run
  others : Items
  head_shaped : Shaped head
  tail_shaped : Shaped tail
  tokens : tokens_of r ≡ tokens_of head ++ tokens_of tail
  size : item_len false set 0 (tokens_of r) ≡ length (tokens_of head)
  exact : cuts_of set r ≡ item head others
  rest : tidy others ≡ tidy (cuts_of set tail)

cut-group : (set : ℕ) (o c : Token) {i r : Run} → opener o ≡ true → Sound o → opener c ≡ false → closer c ≡ true → Sound c → Shaped i → Cut set r → Cut set (group o (tokens_of i) (items_of i) c r)
unfolding cuts_of front tokens_of
cut-group set o c {i} {r} oo so oc cl sc hi k =
    let e = past-group false set o c (tokens_of r) oo oc cl hi in
    let s = k.size in
    let l : length (o ∷ (tokens_of i ++ (c ∷ tokens_of k.head))) ≡ suc (length (tokens_of i) + suc (length (tokens_of k.head))) = ap suc (length-append (tokens_of i) (c ∷ tokens_of k.head)) in
    record {
      head = group o (tokens_of i) (items_of i) c k.head;
      tail = k.tail;
      others = k.others;
      head_shaped = shaped_group oo so oc cl sc hi k.head_shaped;
      tail_shaped = k.tail_shaped;
      tokens = ap (λ (ts : List Token). o ∷ (tokens_of i ++ (c ∷ ts))) k.tokens ∙ ap (λ (ts : List Token). o ∷ ts) (sym (append_assoc (tokens_of i) (c ∷ tokens_of k.head) (tokens_of k.tail)));
      size = omega arith;
      exact = ap (front (group o (tokens_of i) (items_of i) c)) k.exact;
      rest = k.rest;
    }

cut_more : {r : Run} → Shaped r → (set : ℕ) → Cut set r
unfolding cuts_of front tokens_of tidy add_item trim_run trim_left trim_right item_len
cut_more shaped_nothing set =
    record { head = nothing; tail = nothing; others = end; head_shaped = shaped_nothing; tail_shaped = shaped_nothing; tokens = refl; size = refl; exact = refl; rest = refl }
cut_more (shaped_group {o} {c} {i} {r} oo so oc cl sc hi h) set = cut-group set o c oo so oc cl sc hi (cut_more h set)
cut_more (shaped_single {t} {r} o c s h) set = go (cut_more h set) (cut_before set 0 t) refl (cut_after_token set 0 t) refl
  where
    go : Cut set r → (b : Bool) → cut_before set 0 t ≡ b → (a : Bool) → cut_after_token set 0 t ≡ a → Cut set (single t r)
    go k true e a f =
        let x : cuts_of set (single t r) ≡ cut_off true (cut_after_token set 0 t) t (cuts_of set r) = ap (λ (z : Bool). cut_off z (cut_after_token set 0 t) t (cuts_of set r)) e in
        record {
          head = nothing;
          tail = single t r;
          others = cut_off false (cut_after_token set 0 t) t (cuts_of set r);
          head_shaped = shaped_nothing;
          tail_shaped = shaped_single o c s h;
          tokens = refl;
          size = len_before set 0 t (tokens_of r) e;
          exact = x;
          rest = sym (ap tidy x);
        }
    go k false e true f =
        record {
          head = single t nothing;
          tail = r;
          others = cuts_of set r;
          head_shaped = shaped_single o c s shaped_nothing;
          tail_shaped = h;
          tokens = refl;
          size = len_after false set 0 t (tokens_of r) e f;
          exact = λ j. cut_off (e j) (f j) t (cuts_of set r);
          rest = refl;
        }
    go k false e false f =
        record {
          head = single t k.head;
          tail = k.tail;
          others = k.others;
          head_shaped = shaped_single o c s k.head_shaped;
          tail_shaped = k.tail_shaped;
          tokens = ap (λ (ts : List Token). t ∷ ts) k.tokens;
          size = len_step false set 0 t (tokens_of r) 0 e f (level 0 t o c) ∙ ap suc k.size;
          exact = (λ j. cut_off (e j) (f j) t (cuts_of set r)) ∙ ap (front (single t)) k.exact;
          rest = k.rest;
        }

-- the first item of a run and what is left: no cut before the first token
pub record First (set : ℕ) (r : Run) : Type 0 where
  pub head : Run
  pub tail : Run
  pub head_shaped : Shaped head
  pub tail_shaped : Shaped tail
  pub tokens : tokens_of r ≡ tokens_of head ++ tokens_of tail
  pub size : item_len true set 0 (tokens_of r) ≡ length (tokens_of head)
  pub items : tidy (cuts_of set r) ≡ add_item (trim_run head) (tidy (cuts_of set tail))

pub first_item : {r : Run} → Shaped r → (set : ℕ) → First set r
unfolding cuts_of front tokens_of tidy add_item trim_run trim_left trim_right item_len
first_item shaped_nothing set =
    record { head = nothing; tail = nothing; head_shaped = shaped_nothing; tail_shaped = shaped_nothing; tokens = refl; size = refl; items = refl }
first_item (shaped_group {o} {c} {i} {r} oo so oc cl sc hi h) set =
    let k = cut-group set o c oo so oc cl sc hi (cut_more h set) in
    let e = past-group true set o c (tokens_of r) oo oc cl hi in
    let g = past-group false set o c (tokens_of r) oo oc cl hi in
    let s = k.size in
    record {
      head = k.head;
      tail = k.tail;
      head_shaped = k.head_shaped;
      tail_shaped = k.tail_shaped;
      tokens = k.tokens;
      size = e ∙ sym g ∙ s;
      items = ap tidy k.exact ∙ ap (add_item (trim_run k.head)) k.rest;
    }
first_item (shaped_single {t} {r} o c s h) set = go (cut_more h set) (cut_after_token set 0 t) refl
  where
    drop_before : (b a : Bool) (is : Items) → tidy (cut_off b a t is) ≡ tidy (cut_off false a t is)
    drop_before true a is = refl
    drop_before false a is = refl

    go : Cut set r → (a : Bool) → cut_after_token set 0 t ≡ a → First set (single t r)
    go k true f =
        record {
          head = single t nothing;
          tail = r;
          head_shaped = shaped_single o c s shaped_nothing;
          tail_shaped = h;
          tokens = refl;
          size = len_after true set 0 t (tokens_of r) refl f;
          items = drop_before (cut_before set 0 t) (cut_after_token set 0 t) (cuts_of set r) ∙ ap (λ (z : Bool). tidy (cut_off false z t (cuts_of set r))) f;
        }
    go k false f =
        record {
          head = single t k.head;
          tail = k.tail;
          head_shaped = shaped_single o c s k.head_shaped;
          tail_shaped = k.tail_shaped;
          tokens = ap (λ (ts : List Token). t ∷ ts) k.tokens;
          size = len_step true set 0 t (tokens_of r) 0 refl f (level 0 t o c) ∙ ap suc k.size;
          items = drop_before (cut_before set 0 t) (cut_after_token set 0 t) (cuts_of set r) ∙ ap (λ (z : Bool). tidy (cut_off false z t (cuts_of set r))) f ∙ ap (λ (is : Items). tidy (front (single t) is)) k.exact ∙ ap (add_item (trim_run (single t k.head))) k.rest;
        }

-- The set that decides -----------------------------------------------------------------------------------------------------

add_item_lem : (r : Run) → (r ≡ nothing → ⊥) → add_item r end ≡ item r end
unfolding add_item
add_item_lem nothing h = absurd (h refl)
add_item_lem (single t r) h = refl
add_item_lem (group o inside is c r) h = refl

pub items_chosen : (r : Run) → (trim_run r ≡ nothing → ⊥) → items_of r ≡ tidy (cuts_of (chosen r) r)
unfolding items_of chosen tidy
items_chosen r h = go (several (tidy (cuts_of 0 r))) refl (several (tidy (cuts_of 1 r))) refl
  where
    pick : (a b : Bool) → several (tidy (cuts_of 0 r)) ≡ a → several (tidy (cuts_of 1 r)) ≡ b
        → items_of r ≡ (if a then tidy (after_commas r) else if b then tidy (before_and_ors r) else item (trim_run r) end)
    pick a b e f = λ j. if (ap (λ (is : Items). several (tidy is)) (sym (cuts_0 r)) ∙ e) j then tidy (after_commas r) else if (ap (λ (is : Items). several (tidy is)) (sym (cuts_1 r)) ∙ f) j then tidy (before_and_ors r) else item (trim_run r) end

    pick2 : (a b : Bool) → several (tidy (cuts_of 0 r)) ≡ a → several (tidy (cuts_of 1 r)) ≡ b → tidy (cuts_of (if a then 0 else if b then 1 else 2) r) ≡ tidy (cuts_of (chosen r) r)
    pick2 a b e f = λ j. tidy (cuts_of (if sym e j then 0 else if sym f j then 1 else 2) r)

    go : (a : Bool) → several (tidy (cuts_of 0 r)) ≡ a → (b : Bool) → several (tidy (cuts_of 1 r)) ≡ b → items_of r ≡ tidy (cuts_of (chosen r) r)
    go true e b f = pick true b e f ∙ ap tidy (sym (cuts_0 r)) ∙ pick2 true b e f
    go false e true f = pick false true e f ∙ ap tidy (sym (cuts_1 r)) ∙ pick2 false true e f
    go false e false f = pick false false e f ∙ sym (add_item_lem (trim_run r) h) ∙ ap tidy (sym (cuts_2 r)) ∙ pick2 false false e f

abbrev pub count_items : Items → ℕ
count_items end = 0
count_items (item r is) = suc (count_items is)

pub several_count : (is : Items) → several is ≡ ltb 1 (count_items is)
unfolding several
several_count end = refl
several_count (item r end) = refl
several_count (item r (item s is)) = sym (lt-ltb 1 (suc (suc (count_items is))) (omega arith))

pub count_none : (is : Items) → count_items (add_item nothing is) ≡ count_items is
unfolding add_item
count_none is = refl

pub count_some : (r : Run) (is : Items) → (r ≡ nothing → ⊥) → count_items (add_item r is) ≡ suc (count_items is)
unfolding add_item
count_some nothing is h = absurd (h refl)
count_some (single t r) is h = refl
count_some (group o inside js c r) is h = refl
