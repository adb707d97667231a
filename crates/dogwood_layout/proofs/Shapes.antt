-- A shaped tree is the tree of its tokens, and the scans on tokens say what the tree says.
use mathlib.Core.Path.{◌≡◌, refl, sym, ◌∙◌, ap, subst}
use mathlib.Core.Bool.{Bool, true, false}
use mathlib.Core.List.{List, [], ◌∷◌, ◌++◌, append-nil, append_assoc}
use Prim.Native.Nat.{ℕ, suc, ◌+◌}
use native.Mathlib.Omega.{arith}
use lib.Dec.{eqb}
use lib.ListN.{length, length-append}
use borrow.Author.Tests.{ne_eqb}
use Rattle.dogwood_rules.specs.Token.{Token}
use Rattle.dogwood_rules.specs.Tree.{blank, opener, closer, Run, nothing, single, group, tokens_of, items_of, Open, whole, up_to, ahead, opened, open?, closed, run_of}
use Rattle.dogwood_rules.proofs.Trim.{Solid}
use Rattle.dogwood_layout.specs.Shape.{Sound, blank_sound, word_sound, Shaped, shaped_nothing, shaped_single, shaped_group, Formed}
use Rattle.dogwood_layout.specs.Scan.{depth_after, last_len, group_len}

-- one run before another
abbrev pub onto : Run → Run → Run
onto nothing s = s
onto (single t r) s = single t (onto r s)
onto (group o inside is c r) s = group o inside is c (onto r s)

onto_nothing : (r : Run) → onto r nothing ≡ r
onto_nothing nothing = refl
onto_nothing (single t r) = ap (single t) (onto_nothing r)
onto_nothing (group o inside is c r) = ap (group o inside is c) (onto_nothing r)

ahead-ahead : (f g : Run → Run) (o : Open) → ahead f (ahead g o) ≡ ahead (λ r. f (g r)) o
unfolding ahead
ahead-ahead f g (whole r) = refl
ahead-ahead f g (up_to r c o) = refl

ahead-same : (o : Open) → ahead (onto nothing) o ≡ o
unfolding ahead
ahead-same (whole r) = refl
ahead-same (up_to r c o) = refl

opened_step : (o c : Token) (i : Run) (rest : Open) → opened o (ahead (onto i) (up_to nothing c rest)) ≡ ahead (group o (tokens_of i) (items_of i) c) rest
unfolding opened ahead
opened_step o c i rest = ap (λ (j : Run). ahead (group o (tokens_of j) (items_of j) c) rest) (onto_nothing i)

open_opener : (t : Token) (ts : List Token) → opener t ≡ true → open? (t ∷ ts) ≡ opened t (open? ts)
unfolding open?
open_opener t ts e = rw (open?, e) refl

open_closer : (t : Token) (ts : List Token) → opener t ≡ false → closer t ≡ true → open? (t ∷ ts) ≡ up_to nothing t (open? ts)
unfolding open?
open_closer t ts e f = rw (open?, e, f) refl

open_plain : (t : Token) (ts : List Token) → opener t ≡ false → closer t ≡ false → open? (t ∷ ts) ≡ ahead (single t) (open? ts)
unfolding open?
open_plain t ts e f = rw (open?, e, f) refl

-- the tokens of a shaped run are read as that run, whatever follows
open_onto : {r : Run} → Shaped r → (rest : List Token) → open? (tokens_of r ++ rest) ≡ ahead (onto r) (open? rest)
unfolding tokens_of
open_onto shaped_nothing rest = sym (ahead-same (open? rest))
open_onto (shaped_single {t} {r} o c s h) rest =
    open_plain t (tokens_of r ++ rest) o c ∙ ap (ahead (single t)) (open_onto h rest) ∙ ahead-ahead (single t) (onto r) (open? rest)
open_onto (shaped_group {o} {c} {i} {r} oo so oc cl sc hi h) rest =
    ap open? (ap (λ (l : List Token). o ∷ l) (append_assoc (tokens_of i) (c ∷ tokens_of r) rest))
    ∙ open_opener o (tokens_of i ++ (c ∷ (tokens_of r ++ rest))) oo
    ∙ ap (opened o) (open_onto hi (c ∷ (tokens_of r ++ rest)))
    ∙ ap (λ (l : Open). opened o (ahead (onto i) l)) (open_closer c (tokens_of r ++ rest) oc cl)
    ∙ opened_step o c i (open? (tokens_of r ++ rest))
    ∙ ap (ahead (group o (tokens_of i) (items_of i) c)) (open_onto h rest)
    ∙ ahead-ahead (group o (tokens_of i) (items_of i) c) (onto r) (open? rest)

-- a shaped run is the tree of its tokens
pub run_of_lem : {r : Run} → Shaped r → run_of (tokens_of r) ≡ r
unfolding run_of closed open? ahead
run_of_lem {r} h =
    ap (λ (l : List Token). closed (open? l)) (sym (append-nil (tokens_of r))) ∙ ap closed (open_onto h []) ∙ onto_nothing r

pub formed_of : {r : Run} → Shaped r → Formed (tokens_of r)
formed_of {r} h = record { shaped = subst Shaped (sym (run_of_lem h)) h; tokens = ap tokens_of (run_of_lem h) }

-- the same, of tokens that are a shaped run's
pub formed_from : {r : Run} {ts : List Token} → Shaped r → tokens_of r ≡ ts → Formed ts
formed_from h e = subst Formed e (formed_of h)

pub run_from : {r : Run} {ts : List Token} → Shaped r → tokens_of r ≡ ts → run_of ts ≡ r
run_from h e = ap run_of (sym e) ∙ run_of_lem h

-- Brackets -----------------------------------------------------------------------------------------------------

-- a bracket is no white space, and has a text
pub opener_word : {t : Token} → Sound t → opener t ≡ true → (blank t ≡ false) × Solid t.text
opener_word (blank_sound b o c) e = absurd (let z : ◌≡◌ {A = Bool} true false = sym e ∙ o in let y : ◌≡◌ {A = ℕ} 0 1 = cc in omega arith)
opener_word (word_sound b s) e = (b, s)

pub closer_word : {t : Token} → Sound t → closer t ≡ true → (blank t ≡ false) × Solid t.text
closer_word (blank_sound b o c) e = absurd (let z : ◌≡◌ {A = Bool} true false = sym e ∙ c in let y : ◌≡◌ {A = ℕ} 0 1 = cc in omega arith)
closer_word (word_sound b s) e = (b, s)

-- Depths -------------------------------------------------------------------------------------------------------

pub deeper : (d : ℕ) (t : Token) → opener t ≡ true → depth_after d t ≡ suc d
unfolding depth_after
deeper d t e = rw e refl

pub higher : (d : ℕ) (t : Token) → opener t ≡ false → closer t ≡ true → depth_after (suc d) t ≡ d
unfolding depth_after
higher d t e f = rw (e, f) (omega arith)

pub level : (d : ℕ) (t : Token) → opener t ≡ false → closer t ≡ false → depth_after d t ≡ d
unfolding depth_after
level d t e f = rw (e, f) refl

group-next : (d n : ℕ) (t : Token) (ts : List Token) → depth_after d t ≡ suc n → group_len d (t ∷ ts) ≡ suc (group_len (suc n) ts)
unfolding group_len
group-next d n t ts e =
    (λ j. last_len (eqb (e j) 0) (group_len (e j) ts)) ∙ ap (λ (b : Bool). last_len b (group_len (suc n) ts)) (ne_eqb (suc n) 0 (λ (q : suc n ≡ 0). omega arith))

group_last : (d : ℕ) (t : Token) (ts : List Token) → depth_after d t ≡ 0 → group_len d (t ∷ ts) ≡ 1
unfolding group_len
group_last d t ts e = λ j. last_len (eqb (e j) 0) (group_len (e j) ts)

-- within a group, a shaped run is passed over
group-past : {r : Run} → Shaped r → (d : ℕ) (rest : List Token) → group_len (suc d) (tokens_of r ++ rest) ≡ length (tokens_of r) + group_len (suc d) rest
unfolding tokens_of
group-past shaped_nothing d rest = omega arith
group-past (shaped_single {t} {r} o c s h) d rest =
    let e = group-next (suc d) d t (tokens_of r ++ rest) (level (suc d) t o c) in
    let f = group-past h d rest in
    omega arith
group-past (shaped_group {o} {c} {i} {r} oo so oc cl sc hi h) d rest =
    let a : group_len (suc d) ((o ∷ (tokens_of i ++ (c ∷ tokens_of r))) ++ rest) ≡ group_len (suc d) (o ∷ (tokens_of i ++ (c ∷ (tokens_of r ++ rest)))) = ap (λ (l : List Token). group_len (suc d) (o ∷ l)) (append_assoc (tokens_of i) (c ∷ tokens_of r) rest) in
    let e = group-next (suc d) (suc d) o (tokens_of i ++ (c ∷ (tokens_of r ++ rest))) (deeper (suc d) o oo) in
    let f = group-past hi (suc d) (c ∷ (tokens_of r ++ rest)) in
    let g = group-next (suc (suc d)) d c (tokens_of r ++ rest) (higher (suc d) c oc cl) in
    let k = group-past h d rest in
    let l : length (o ∷ (tokens_of i ++ (c ∷ tokens_of r))) ≡ suc (length (tokens_of i) + suc (length (tokens_of r))) = ap suc (length-append (tokens_of i) (c ∷ tokens_of r)) in
    omega arith

-- a group is its inside and two brackets long
pub group-size : (o c : Token) {i : Run} (ts : List Token) → opener o ≡ true → opener c ≡ false → closer c ≡ true → Shaped i → group_len 0 (o ∷ (tokens_of i ++ (c ∷ ts))) ≡ length (tokens_of i) + 2
group-size o c {i} ts oo oc cl hi =
    let e = group-next 0 0 o (tokens_of i ++ (c ∷ ts)) (deeper 0 o oo) in
    let f = group-past hi 0 (c ∷ ts) in
    let g = group_last 1 c ts (higher 0 c oc cl) in
    omega arith
