-- A token is a bracket by its kind and its first character, and so by the byte at its start.
use mathlib.Core.Path.{◌≡◌, refl, sym, ◌∙◌, ap, subst}
use mathlib.Core.Bool.{Bool, true, false, not, ◌&&◌, ◌||◌, and-false}
use mathlib.Core.List.{List, [], ◌∷◌, ◌++◌}
use Prim.Native.Nat.{ℕ, ◌+◌, ◌<◌, ◌≤◌}
use native.Mathlib.Omega.{arith}
use lib.Dec.{ltb, eqb}
use lib.ListN.{length, get_or, drop}
use borrow.Author.Tests.{ltb-true, ne_eqb}
use Rattle.dogwood_rules.specs.Basic.{one_of, same}
use Rattle.dogwood_rules.specs.Utf8.{decode, byte_length}
use Rattle.dogwood_rules.specs.Token.{Token, Placed, Kind, Whitespace, Comment, String, Identifier, Number, Symbol, Other, kind_number, placed, tokenise, spell, next, white, letter, digit, single, double}
use Rattle.dogwood_rules.specs.Tree.{blank, comment, is_whitespace, is_comment, opener, closer}
use Rattle.dogwood_rules.specs.Outline.{plain}
use Rattle.dogwood_rules.proofs.Below.{and_true, not_true}
use Rattle.dogwood_rules.proofs.Rules.{Rule, r1, r2, r3, r4, r5, r6, r6', r7}
use Rattle.dogwood_rules.proofs.Chains.{Read, Chain, chain_more, tokenise_made}
use Rattle.utf8.proofs.Reading.{Reads, reads_more, reads_at, byte_at}
use Rattle.dogwood_tokens.specs.Cursor.{tokens_at}
use Rattle.dogwood_words.specs.Brackets.{opening, closing}
use Rattle.dogwood_words.proofs.Bools.{false_true}

-- One character ----------------------------------------------------------------------------------------------------

-- a symbol by itself, with which no other token begins
record Lone (x : ℕ) : Type 0 where
  no_white : white x ≡ false
  no_quote : eqb x 34 ≡ false
  no_slash : eqb x 47 ≡ false
  no_letter : letter x ≡ false
  no_digit : digit x ≡ false
  no_pair : (b : ℕ) → double x b ≡ false
  symbol : single x ≡ true
  ascii : x < 128

-- the same as one test
abbrev lone_test : ℕ → Bool
lone_test x =
    not (white x) && (not (eqb x 34) && (not (eqb x 47) && (not (letter x) && (not (digit x) && (not (one_of (61 ∷ 33 ∷ 60 ∷ 62 ∷ []) x) && (not (one_of (58 ∷ 38 ∷ 124 ∷ []) x) && (single x && ltb x 128)))))))

lone : (x : ℕ) → lone_test x ≡ true → Lone x
unfolding double
lone x h =
    let h₁ = and_true (not (white x)) _ h in
    let h₂ = and_true (not (eqb x 34)) _ h₁.1 in
    let h₃ = and_true (not (eqb x 47)) _ h₂.1 in
    let h₄ = and_true (not (letter x)) _ h₃.1 in
    let h₅ = and_true (not (digit x)) _ h₄.1 in
    let h₆ = and_true (not (one_of (61 ∷ 33 ∷ 60 ∷ 62 ∷ []) x)) _ h₅.1 in
    let h₇ = and_true (not (one_of (58 ∷ 38 ∷ 124 ∷ []) x)) _ h₆.1 in
    let h₈ = and_true (single x) (ltb x 128) h₇.1 in
    record {
      no_white = not_true (white x) h₁.0;
      no_quote = not_true (eqb x 34) h₂.0;
      no_slash = not_true (eqb x 47) h₃.0;
      no_letter = not_true (letter x) h₄.0;
      no_digit = not_true (digit x) h₅.0;
      no_pair = λ (b : ℕ). (λ i. and_right (eqb b 61) (not_true (one_of (61 ∷ 33 ∷ 60 ∷ 62 ∷ []) x) h₆.0) i || and_right (eqb x b) (not_true (one_of (58 ∷ 38 ∷ 124 ∷ []) x) h₇.0) i);
      symbol = h₈.0;
      ascii = ltb-true x 128 h₈.1;
    }
  where
    and_right : (a : Bool) {b : Bool} → b ≡ false → a && b ≡ false
    and_right a e = ap (λ (c : Bool). a && c) e ∙ and-false a

differ : (f : ℕ → Bool) (a x : ℕ) {u : Bool} → f a ≡ u → f x ≡ not u → eqb a x ≡ false
differ f a x {u} p q = ne_eqb a x (λ (e : a ≡ x). no u (sym p ∙ ap f e ∙ q))
  where
    no : (u : Bool) → u ≡ not u → ⊥
    no true e = let z : ◌≡◌ {A = ℕ} 0 1 = cc in omega arith
    no false e = let z : ◌≡◌ {A = ℕ} 0 1 = cc in omega arith

module _ (x : ℕ) (l : Lone x) (t : Token) (k : List ℕ) (r : Read t k) where
  apart : eqb r.first x ≡ false → same t.text (x ∷ []) ≡ eqb (kind_number t.kind) 5 && eqb r.first x
  apart e =
      ap (λ (cs : List ℕ). same cs (x ∷ [])) r.text ∙ ap (λ (b : Bool). b && same r.more []) e
      ∙ sym (ap (λ (b : Bool). eqb (kind_number t.kind) 5 && b) e ∙ and-false (eqb (kind_number t.kind) 5))

  alone : (more : List ℕ) → r.more ≡ more → length more ≡ 0 → t.kind ≡ Symbol → same t.text (x ∷ []) ≡ eqb (kind_number t.kind) 5 && eqb r.first x
  unfolding kind_number
  alone [] m n e =
      ap (λ (cs : List ℕ). same cs (x ∷ [])) (r.text ∙ ap (λ (cs : List ℕ). r.first ∷ cs) m)
      ∙ right (eqb r.first x) ∙ sym (ap (λ (j : Kind). eqb (kind_number j) 5 && eqb r.first x) e)
    where
      right : (b : Bool) → b && true ≡ b
      right true = refl
      right false = refl
  alone (c ∷ cs) m n e = absurd (omega arith)

  pair : (more : List ℕ) → length more ≡ 1 → next (double r.first) (more ++ k) ≡ true → eqb r.first x ≡ false
  pair [] n e = absurd (omega arith)
  pair (c ∷ cs) n e = differ (λ (a : ℕ). double a c) r.first x e (l.no_pair c)

  -- a token is the symbol x exactly if it is a Symbol that begins with x
  symbol_first : same t.text (x ∷ []) ≡ eqb (kind_number t.kind) 5 && eqb r.first x
  symbol_first = by refl r.rule
    where
      by : {n : ℕ} → length r.more ≡ n → Rule r.first (r.more ++ k) t.kind n → same t.text (x ∷ []) ≡ eqb (kind_number t.kind) 5 && eqb r.first x
      by n (r1 a e q) = apart (differ white r.first x a l.no_white)
      by n (r2 a b e q) = apart (differ (λ (c : ℕ). eqb c 34) r.first x b l.no_quote)
      by n (r3 a b d e q) = apart (differ (λ (c : ℕ). eqb c 47) r.first x (and_true (eqb r.first 47) (next (eqb 47) (r.more ++ k)) d).0 l.no_slash)
      by n (r4 a b d f e q) = apart (differ letter r.first x f l.no_letter)
      by n (r5 a b d f g e q) = apart (differ digit r.first x g l.no_digit)
      by n (r6 a b d f g h e q) = apart (pair r.more (n ∙ q) h)
      by n (r6' a b d f g h i e q) = alone r.more refl (n ∙ q) e
      by n (r7 a b d f g h i e q) = apart (differ single r.first x i l.symbol)

-- One of three ---------------------------------------------------------------------------------------------------------

module _ (x y z : ℕ) (lx : Lone x) (ly : Lone y) (lz : Lone z) where
  abbrev any : ℕ → Bool
  any b = eqb b x || eqb b y || eqb b z

  abbrev is_one : Token → Bool
  is_one t = same t.text (x ∷ []) || same t.text (y ∷ []) || same t.text (z ∷ [])

  share : (u a b c : Bool) → (u && a) || (u && b) || (u && c) ≡ u && (a || b || c)
  share true a b c = refl
  share false a b c = refl

  first_of : (t : Token) (k : List ℕ) (r : Read t k) → is_one t ≡ eqb (kind_number t.kind) 5 && any r.first
  first_of t k r =
      let u = eqb (kind_number t.kind) 5 in
      (λ i. symbol_first x lx t k r i || symbol_first y ly t k r i || symbol_first z lz t k r i)
      ∙ share u (eqb r.first x) (eqb r.first y) (eqb r.first z)

  wide : (b : ℕ) → 128 ≤ b → any b ≡ false
  wide b h =
      let p = lx.ascii in
      let q = ly.ascii in
      let s = lz.ascii in
      simp (ne_eqb b x (λ (e : b ≡ x). omega arith), ne_eqb b y (λ (e : b ≡ y). omega arith), ne_eqb b z (λ (e : b ≡ z). omega arith))

  byte_first : (s : List ℕ) (i c : ℕ) (cs : List ℕ) → Reads s i (c ∷ cs) → any (get_or s i 0) ≡ any c
  byte_first s i c cs (reads_more d r) = byte_at s i any wide d

  front : (s : List ℕ) (i : ℕ) (ts : List Token) (k cs : List ℕ) → Chain k ts → spell ts ++ k ≡ cs → Reads s i cs → (p : Placed) (ps : List Placed) → placed i ts ≡ p ∷ ps
      → eqb (kind_number p.token.kind) 5 && any (get_or s i 0) ≡ is_one p.token
  unfolding placed spell
  front s i [] k cs c w r p ps e = absurd (let q : ◌≡◌ {A = ℕ} 0 1 = cc in omega arith)
  front s i (t ∷ ts) k cs (chain_more v c) w r p ps e =
      let h : t ≡ p.token = ap (λ (q : Placed). q.token) (let q : record { token = t; start = i; stop = i + byte_length t.text } ≡ p = cc in q) in
      let d : (r₀ : Read t (spell ts ++ k)) → cs ≡ r₀.first ∷ (r₀.more ++ spell ts ++ k) = λ r₀. sym w ∙ ap (λ (l : List ℕ). (l ++ spell ts) ++ k) r₀.text in
      let b = byte_first s i v.first (v.more ++ spell ts ++ k) (subst (Reads s i) (d v) r) in
      subst (λ (u : Token). eqb (kind_number u.kind) 5 && any (get_or s i 0) ≡ is_one u) h
      (ap (λ (u : Bool). eqb (kind_number t.kind) 5 && u) b ∙ sym (first_of t (spell ts ++ k) v))

  at_start : (s : List ℕ) (i : ℕ) (p : Placed) (ps : List Placed) → tokens_at s i ≡ p ∷ ps → eqb (kind_number p.token.kind) 5 && any (get_or s i 0) ≡ is_one p.token
  unfolding tokens_at
  at_start s i p ps e =
      let cs = (decode (drop i s)).0 in
      front s i (tokenise cs).0 (tokenise cs).1 cs (tokenise_made cs).chain (tokenise_made cs).whole (reads_at s i) p ps e

-- ( [ { and ) ] } ------------------------------------------------------------------------------------------------------

module _ (s : List ℕ) (i : ℕ) (p : Placed) (ps : List Placed) (e : tokens_at s i ≡ p ∷ ps) where
  pub opens_at : opening (kind_number p.token.kind) (get_or s i 0) ≡ opener p.token
  unfolding opening opener white letter digit single
  opens_at = at_start 40 91 123 (lone 40 refl) (lone 91 refl) (lone 123 refl) s i p ps e

  pub closes_at : closing (kind_number p.token.kind) (get_or s i 0) ≡ closer p.token
  unfolding closing closer white letter digit single
  closes_at = at_start 41 93 125 (lone 41 refl) (lone 93 refl) (lone 125 refl) s i p ps e

-- White space and comments are no brackets
quiet_symbol : (k : Kind) → not (is_whitespace k) && not (is_comment k) ≡ false → eqb (kind_number k) 5 ≡ false
unfolding is_whitespace is_comment kind_number
quiet_symbol Whitespace e = refl
quiet_symbol Comment e = refl
quiet_symbol String e = refl
quiet_symbol Identifier e = refl
quiet_symbol Number e = refl
quiet_symbol Symbol e = false_true (sym e)
quiet_symbol Other e = refl

pub no_opener : (t : Token) (k : List ℕ) → Read t k → plain t ≡ false → opener t ≡ false
unfolding plain blank comment opener white letter digit single
no_opener t k r e =
    first_of 40 91 123 (lone 40 refl) (lone 91 refl) (lone 123 refl) t k r
    ∙ ap (λ (u : Bool). u && any 40 91 123 (lone 40 refl) (lone 91 refl) (lone 123 refl) r.first) (quiet_symbol t.kind e)

pub no_closer : (t : Token) (k : List ℕ) → Read t k → plain t ≡ false → closer t ≡ false
unfolding plain blank comment closer white letter digit single
no_closer t k r e =
    first_of 41 93 125 (lone 41 refl) (lone 93 refl) (lone 125 refl) t k r
    ∙ ap (λ (u : Bool). u && any 41 93 125 (lone 41 refl) (lone 93 refl) (lone 125 refl) r.first) (quiet_symbol t.kind e)
