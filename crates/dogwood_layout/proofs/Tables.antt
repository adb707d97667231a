-- Laws of the view of a table: its parts, and what an entry's token says.
use Rattle.std.specs.Prelude.{if◌then◌else◌, map}
use mathlib.Core.Path.{◌≡◌, refl, sym, ◌∙◌, ap, subst}
use mathlib.Core.Bool.{Bool, true, false, ◌&&◌, ◌||◌}
use mathlib.Core.List.{List, [], ◌∷◌}
use Prim.Native.Nat.{ℕ, zero, suc, ◌+◌, ◌-◌, ◌*◌, ◌<◌, ◌≤◌}
use native.Mathlib.Numerals.{add-one, add-two, add-three}
use native.Mathlib.Omega.{arith}
use lib.Dec.{eqb}
use lib.ListN.{length, take, drop, get_or, length-take, length-drop, drop_of_length-le}
use lib.Seq.{drop-cons, take_all, take-nil, drop-nil, drop-drop}
use borrow.Author.Tests.{eq-eqb, ne_eqb}
use Rattle.dogwood_rules.specs.Basic.{same}
use Rattle.dogwood_rules.specs.Utf8.{encode}
use Rattle.dogwood_rules.specs.Token.{Token, Whitespace, Comment, String, Identifier, Number, Symbol, Other}
use Rattle.dogwood_rules.specs.Tree.{blank, comma, and_or, opener, closer, is_whitespace, shown}
use Rattle.dogwood_layout.specs.declared.Entry.{Entry}
use Rattle.dogwood_layout.specs.View.{entry_at, kind_of, bytes_at, token_of, tokens, rows, Held, Holds, Ready}
use Rattle.dogwood_layout.proofs.Bytes.{Ascii, same-encode, encode_longer}

-- The table ---------------------------------------------------------------------------------------------------

-- the words from i on, at an entry
pub words_at : (ws : List ℕ) (i : ℕ) → i + 2 < length ws → drop i ws ≡ get_or ws i 0 ∷ get_or ws (i + 1) 0 ∷ get_or ws (i + 2) 0 ∷ drop (i + 3) ws
words_at ws i h =
    rw (add-one, add-two, add-three, drop-cons ws i 0 (omega arith), drop-cons ws (suc i) 0 (omega arith), drop-cons ws (suc (suc i)) 0 (omega arith))

pub tokens_at_lem : (text ws : List ℕ) (i : ℕ) → i + 2 < length ws → {e : Entry} → e ≡ entry_at ws i → tokens text (drop i ws) ≡ token_of text e ∷ tokens text (drop (i + 3) ws)
unfolding tokens
tokens_at_lem text ws i h q = ap (tokens text) (words_at ws i h) ∙ ap (λ (z : Entry). token_of text z ∷ tokens text (drop (i + 3) ws)) (sym q)

pub holds_at : (text ws : List ℕ) (i : ℕ) → i + 2 < length ws → Holds text (drop i ws) → Held text (entry_at ws i) × Holds text (drop (i + 3) ws)
unfolding Holds
holds_at text ws i h k = rw (words_at ws i h) at k

-- a table has whole entries
pub holds_length : (text ws : List ℕ) → Holds text ws → length ws ≡ 3 * length (tokens text ws)
unfolding Holds tokens
holds_length text [] h = refl
holds_length text (k ∷ []) h = absurd h
holds_length text (k ∷ s ∷ []) h = absurd h
holds_length text (k ∷ s ∷ e ∷ ws) h = let l = holds_length text ws h.1 in omega arith

-- parts
pub holds_drop : (text ws : List ℕ) (n : ℕ) → Holds text ws → Holds text (drop (3 * n) ws)
unfolding Holds
holds_drop text ws zero h = h
holds_drop text [] (suc n) h = subst (λ (l : List ℕ). Holds text l) (sym (drop-nil (3 * suc n))) tt
holds_drop text (k ∷ []) (suc n) h = absurd h
holds_drop text (k ∷ s ∷ []) (suc n) h = absurd h
holds_drop text (k ∷ s ∷ e ∷ ws) (suc n) h =
    let q : 3 * suc n ≡ suc (suc (suc (3 * n))) = omega arith in
    rw q (holds_drop text ws n h.1)

pub holds_take : (text ws : List ℕ) (n : ℕ) → Holds text ws → Holds text (take (3 * n) ws)
unfolding Holds
holds_take text ws zero h = tt
holds_take text [] (suc n) h = subst (λ (l : List ℕ). Holds text l) (sym (take-nil (3 * suc n))) tt
holds_take text (k ∷ []) (suc n) h = absurd h
holds_take text (k ∷ s ∷ []) (suc n) h = absurd h
holds_take text (k ∷ s ∷ e ∷ ws) (suc n) h =
    let q : 3 * suc n ≡ suc (suc (suc (3 * n))) = omega arith in
    rw q (h.0, holds_take text ws n h.1)

pub tokens-drop : (text ws : List ℕ) (n : ℕ) → tokens text (drop (3 * n) ws) ≡ drop n (tokens text ws)
unfolding tokens
tokens-drop text ws zero = refl
tokens-drop text [] (suc n) = ap (λ (l : List ℕ). tokens text l) (drop-nil (3 * suc n))
tokens-drop text (k ∷ []) (suc n) = let q : 3 * suc n ≡ suc (suc (suc (3 * n))) = omega arith in rw (q, drop-nil) refl
tokens-drop text (k ∷ s ∷ []) (suc n) = let q : 3 * suc n ≡ suc (suc (suc (3 * n))) = omega arith in rw (q, drop-nil) refl
tokens-drop text (k ∷ s ∷ e ∷ ws) (suc n) =
    let q : 3 * suc n ≡ suc (suc (suc (3 * n))) = omega arith in
    rw q (tokens-drop text ws n)

pub tokens-take : (text ws : List ℕ) (n : ℕ) → tokens text (take (3 * n) ws) ≡ take n (tokens text ws)
unfolding tokens
tokens-take text ws zero = refl
tokens-take text [] (suc n) = ap (λ (l : List ℕ). tokens text l) (take-nil (3 * suc n))
tokens-take text (k ∷ []) (suc n) = let q : 3 * suc n ≡ suc (suc (suc (3 * n))) = omega arith in rw (q, take-nil) refl
tokens-take text (k ∷ s ∷ []) (suc n) = let q : 3 * suc n ≡ suc (suc (suc (3 * n))) = omega arith in rw (q, take-nil) refl
tokens-take text (k ∷ s ∷ e ∷ ws) (suc n) =
    let q : 3 * suc n ≡ suc (suc (suc (3 * n))) = omega arith in
    rw q (ap (λ (l : List Token). token_of text (record { kind = k; start = s; end = e }) ∷ l) (tokens-take text ws n))

-- Entries -------------------------------------------------------------------------------------------------------

pub bytes-length : {text : List ℕ} {e : Entry} → Held text e → length (bytes_at text e) ≡ e.end - e.start
bytes-length {text} {e} h = let a = h.ordered in let b = h.inside in simp (length-take, length-drop) (omega arith)

-- an ASCII text is told by the entry's bytes
pub token-same : {text : List ℕ} {e : Entry} → Held text e → (q : List ℕ) → Ascii q → same (token_of text e).text q ≡ same (bytes_at text e) q
token-same {text} {e} h q a = same-encode (token_of text e).text q a ∙ ap (λ (l : List ℕ). same l q) h.spells

-- a text of one byte, or of two, is told by its length and its bytes
byte_at : (bs : List ℕ) (b : ℕ) → same bs (b ∷ []) ≡ (eqb (length bs) 1 && eqb (get_or bs 0 0) b)
byte_at [] b = refl
byte_at (x ∷ []) b = go (eqb x b)
  where
    go : (e : Bool) → (e && true) ≡ e
    go true = refl
    go false = refl
byte_at (x ∷ y ∷ bs) b = go (eqb x b) ∙ ap (λ (e : Bool). e && eqb x b) (sym (ne_eqb (suc (suc (length bs))) 1 (λ z. omega arith)))
  where
    go : (e : Bool) → (e && false) ≡ false
    go true = refl
    go false = refl

pair_at : (bs : List ℕ) (b : ℕ) → same bs (b ∷ b ∷ []) ≡ (eqb (length bs) 2 && (eqb (get_or bs 0 0) b && eqb (get_or bs 1 0) b))
pair_at [] b = refl
pair_at (x ∷ []) b = go (eqb x b)
  where
    go : (e : Bool) → (e && false) ≡ false
    go true = refl
    go false = refl
pair_at (x ∷ y ∷ []) b = go (eqb x b) (eqb y b)
  where
    go : (e f : Bool) → (e && (f && true)) ≡ (e && f)
    go true true = refl
    go true false = refl
    go false f = refl
pair_at (x ∷ y ∷ z ∷ bs) b = go (eqb x b) (eqb y b) ∙ ap (λ (e : Bool). e && (eqb x b && eqb y b)) (sym (ne_eqb (suc (suc (suc (length bs)))) 2 (λ z. omega arith)))
  where
    go : (e f : Bool) → (e && (f && false)) ≡ false
    go true true = refl
    go true false = refl
    go false f = refl

-- so is one of three bytes
one_at : (bs : List ℕ) (a b c : ℕ) → (same bs (a ∷ []) || same bs (b ∷ []) || same bs (c ∷ [])) ≡ (eqb (length bs) 1 && (eqb (get_or bs 0 0) a || eqb (get_or bs 0 0) b || eqb (get_or bs 0 0) c))
one_at bs a b c = (λ i. byte_at bs a i || byte_at bs b i || byte_at bs c i) ∙ go (eqb (length bs) 1)
  where
    go : (e : Bool) → ((e && eqb (get_or bs 0 0) a) || (e && eqb (get_or bs 0 0) b) || (e && eqb (get_or bs 0 0) c)) ≡ (e && (eqb (get_or bs 0 0) a || eqb (get_or bs 0 0) b || eqb (get_or bs 0 0) c))
    go true = refl
    go false = refl

module _ {text : List ℕ} {e : Entry} (h : Held text e) {bs : List ℕ} (q : bs ≡ bytes_at text e) where
  pub token-same_bytes : (w : List ℕ) → Ascii w → same (token_of text e).text w ≡ same bs w
  token-same_bytes w a = token-same h w a ∙ ap (λ (l : List ℕ). same l w) (sym q)

  pub opener_at : opener (token_of text e) ≡ (eqb (length bs) 1 && (eqb (get_or bs 0 0) 40 || eqb (get_or bs 0 0) 91 || eqb (get_or bs 0 0) 123))
  unfolding opener
  opener_at = (λ i. token-same_bytes (40 ∷ []) (omega arith, tt) i || token-same_bytes (91 ∷ []) (omega arith, tt) i || token-same_bytes (123 ∷ []) (omega arith, tt) i) ∙ one_at bs 40 91 123

  pub closer_at : closer (token_of text e) ≡ (eqb (length bs) 1 && (eqb (get_or bs 0 0) 41 || eqb (get_or bs 0 0) 93 || eqb (get_or bs 0 0) 125))
  unfolding closer
  closer_at = (λ i. token-same_bytes (41 ∷ []) (omega arith, tt) i || token-same_bytes (93 ∷ []) (omega arith, tt) i || token-same_bytes (125 ∷ []) (omega arith, tt) i) ∙ one_at bs 41 93 125

  pub comma_at : comma (token_of text e) ≡ (eqb (length bs) 1 && eqb (get_or bs 0 0) 44)
  unfolding comma
  comma_at = token-same_bytes (44 ∷ []) (omega arith, tt) ∙ byte_at bs 44

  pub and-or_at : and_or (token_of text e) ≡ ((eqb (length bs) 2 && (eqb (get_or bs 0 0) 38 && eqb (get_or bs 1 0) 38)) || (eqb (length bs) 2 && (eqb (get_or bs 0 0) 124 && eqb (get_or bs 1 0) 124)))
  unfolding and_or
  and-or_at =
      let a : same (token_of text e).text (38 ∷ 38 ∷ []) ≡ same bs (38 ∷ 38 ∷ []) = token-same_bytes (38 ∷ 38 ∷ []) (omega arith, (omega arith, tt)) in
      let o : same (token_of text e).text (124 ∷ 124 ∷ []) ≡ same bs (124 ∷ 124 ∷ []) = token-same_bytes (124 ∷ 124 ∷ []) (omega arith, (omega arith, tt)) in
      λ i. (a ∙ pair_at bs 38) i || (o ∙ pair_at bs 124) i

-- white space is told by the kind
pub token-blank : (text : List ℕ) (e : Entry) → blank (token_of text e) ≡ eqb e.kind 0
unfolding blank token_of kind_of is_whitespace
token-blank text e = go (eqb e.kind 0) (eqb e.kind 1) (eqb e.kind 2) (eqb e.kind 3) (eqb e.kind 4) (eqb e.kind 5)
  where
    go : (a b c d f g : Bool) → is_whitespace (if a then Whitespace else if b then Comment else if c then String else if d then Identifier else if f then Number else if g then Symbol else Other) ≡ a
    go true b c d f g = refl
    go false true c d f g = refl
    go false false true d f g = refl
    go false false false true f g = refl
    go false false false false true g = refl
    go false false false false false true = refl
    go false false false false false false = refl

pub shown-blank : (text : List ℕ) (e : Entry) → e.kind ≡ 0 → shown (token_of text e) ≡ 32 ∷ []
unfolding shown
shown-blank text e h = rw (token-blank text e, eq-eqb e.kind 0 h) refl

pub shown_word : (text : List ℕ) (e : Entry) → (e.kind ≡ 0 → ⊥) → shown (token_of text e) ≡ (token_of text e).text
unfolding shown
shown_word text e h = rw (token-blank text e, ne_eqb e.kind 0 h) refl

pub shown-bytes : {text : List ℕ} {e : Entry} → Held text e → (e.kind ≡ 0 → ⊥) → encode (shown (token_of text e)) ≡ bytes_at text e
shown-bytes {text} {e} h k = ap encode (shown_word text e k) ∙ h.spells

-- a token is no wider than the text is long
pub shown_bound : {text : List ℕ} {e : Entry} → Held text e → (n : ℕ) → length text ≤ n → 1 ≤ n → length (shown (token_of text e)) ≤ n
unfolding shown
shown_bound {text} {e} h n k o = go (blank (token_of text e))
  where
    wide : length (token_of text e).text ≤ n
    wide =
        let a = encode_longer (token_of text e).text in
        let b : length (encode (token_of text e).text) ≡ e.end - e.start = ap length h.spells ∙ bytes-length h in
        let i = h.inside in
        omega arith

    go : (b : Bool) → length (if b then 32 ∷ [] else (token_of text e).text) ≤ n
    go true = o
    go false = wide

-- where words are left, a whole entry is
pub entry_there : (text ws : List ℕ) (i : ℕ) → Holds text (drop i ws) → i < length ws → i + 2 < length ws
entry_there text ws i h k =
    let a = holds_length text (drop i ws) h in
    let b = length-drop i ws in
    omega arith

pub no_words : (text ws : List ℕ) (i : ℕ) → length ws ≤ i → tokens text (drop i ws) ≡ []
unfolding tokens
no_words text ws i h = rw (drop_of_length-le ws {i = i} h) refl

pub held_at : (text ws : List ℕ) (i : ℕ) → Holds text (drop i ws) → i < length ws → {e : Entry} → e ≡ entry_at ws i → Held text e
held_at text ws i h k q = subst (Held text) (sym q) (holds_at text ws i (entry_there text ws i h k) h).0

-- the words from i on, as they are lent
pub part_rest : (ws : List ℕ) (i : ℕ) → take (length ws - i) (drop i ws) ≡ drop i ws
part_rest ws i = take_all (length ws - i) (drop i ws) (simp length-drop (omega arith))

-- The entries, one after another ------------------------------------------------------------------------------

pub rows_bound : (ws : List ℕ) → 3 * length (rows ws) ≤ length ws
unfolding rows
rows_bound [] = omega arith
rows_bound (k ∷ []) = omega arith
rows_bound (k ∷ s ∷ []) = omega arith
rows_bound (k ∷ s ∷ e ∷ ws) = let b = rows_bound ws in omega arith

pub rows_short : (ws : List ℕ) → length ws < 3 → rows ws ≡ []
unfolding rows
rows_short [] h = refl
rows_short (k ∷ []) h = refl
rows_short (k ∷ s ∷ []) h = refl
rows_short (k ∷ s ∷ e ∷ ws) h = absurd (omega arith)

pub rows_first : (ws : List ℕ) (i : ℕ) → i + 2 < length ws → rows (drop i ws) ≡ entry_at ws i ∷ rows (drop (i + 3) ws)
unfolding rows
rows_first ws i h = ap rows (words_at ws i h)

-- the text holds each
abbrev pub AllHeld : List ℕ → List Entry → Type 0
AllHeld text [] = Unit {0}
AllHeld text (e ∷ es) = Held text e × AllHeld text es

pub rows_held : (text ws : List ℕ) → Holds text ws → AllHeld text (rows ws)
unfolding Holds rows
rows_held text [] h = tt
rows_held text (k ∷ []) h = tt
rows_held text (k ∷ s ∷ []) h = tt
rows_held text (k ∷ s ∷ e ∷ ws) h = (h.0, rows_held text ws h.1)

pub rows-tokens : (text ws : List ℕ) → map (token_of text) (rows ws) ≡ tokens text ws
unfolding rows tokens
rows-tokens text [] = refl
rows-tokens text (k ∷ []) = refl
rows-tokens text (k ∷ s ∷ []) = refl
rows-tokens text (k ∷ s ∷ e ∷ ws) = ap (λ (l : List Token). token_of text (record { kind = k; start = s; end = e }) ∷ l) (rows-tokens text ws)

-- Parts, as they are lent ---------------------------------------------------------------------------------------

pub ready_rest : (text ws : List ℕ) (i : ℕ) → Ready text ws → Holds text (drop i ws) → Ready text (take (length ws - i) (drop i ws))
ready_rest text ws i r h =
    let l = length-drop i ws in
    let s = r.short in
    subst (Ready text) (sym (part_rest ws i)) (record { small = r.small; short = omega arith; holds = h })

pub ready_part : (text ws : List ℕ) (i m n : ℕ) → Ready text ws → Holds text (drop i ws) → m ≡ 3 * n → Ready text (take (i + m - i) (drop i ws))
ready_part text ws i m n r h e =
    let q : i + m - i ≡ 3 * n = omega arith in
    let l = length-drop i ws in
    let t = length-take (3 * n) (drop i ws) in
    let s = r.short in
    subst (λ (k : ℕ). Ready text (take k (drop i ws))) (sym q) (record { small = r.small; short = omega arith; holds = holds_take text (drop i ws) n h })

pub tokens-part : (text ws : List ℕ) (i m n : ℕ) → m ≡ 3 * n → tokens text (take (i + m - i) (drop i ws)) ≡ take n (tokens text (drop i ws))
tokens-part text ws i m n e =
    let q : i + m - i ≡ 3 * n = omega arith in
    ap (λ (k : ℕ). tokens text (take k (drop i ws))) q ∙ tokens-take text (drop i ws) n

pub holds_later : (text ws : List ℕ) (i m n : ℕ) → m ≡ 3 * n → Holds text (drop i ws) → Holds text (drop (i + m) ws)
holds_later text ws i m n e h = subst (Holds text) (drop-drop (3 * n) i ws ∙ ap (λ (k : ℕ). drop (i + k) ws) (sym e)) (holds_drop text (drop i ws) n h)

pub tokens-later : (text ws : List ℕ) (i m n : ℕ) → m ≡ 3 * n → tokens text (drop (i + m) ws) ≡ drop n (tokens text (drop i ws))
tokens-later text ws i m n e = ap (λ (k : ℕ). tokens text (drop (i + k) ws)) e ∙ ap (tokens text) (sym (drop-drop (3 * n) i ws)) ∙ tokens-drop text (drop i ws) n
