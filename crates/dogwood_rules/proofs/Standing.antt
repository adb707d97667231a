-- The tokens of a text are the only ones that spell it and stand.
use mathlib.Core.Path.{◌≡◌, refl, sym, ◌∙◌, ap, subst}
use mathlib.Core.Bool.{Bool, true, false, not, ◌&&◌}
use mathlib.Core.List.{List, [], ◌∷◌, ◌++◌, append-nil}
use Prim.Native.Nat.{ℕ, ◌+◌}
use native.Mathlib.Omega.{arith}
use lib.Dec.{eqb}
use lib.ListN.{length}
use borrow.Author.Tests.{ne_eqb, eqb-true}
use Rattle.dogwood_rules.specs.Basic.{run_length, one_of, cut, cut_after}
use Rattle.dogwood_rules.specs.Token.{Token, Kind, Whitespace, Comment, String, Identifier, Number, Symbol, Other, white, letter, digit, wordly, single, double, other, line_end, next, tokenise, spell}
use Rattle.dogwood_rules.specs.Tree.{blank, is_whitespace}
use Rattle.dogwood_rules.specs.Stands.{symbol_stops, stops, stops_before, Stands, stands_end, stands_more}
use Rattle.dogwood_rules.proofs.Below.{and_true, not_true}
use Rattle.dogwood_rules.proofs.Runs.{run_stops, run_ends, next-stops, run_at_end, next_at_end}
use Rattle.dogwood_rules.proofs.Rules.{Rule, r1, r2, r3, r4, r5, r6, r6', r7, in_line, slash_second}
use Rattle.dogwood_rules.proofs.Calm.{closing_front, next-within, Plain, stays}
use Rattle.dogwood_rules.proofs.Chains.{Read, read_tokenise, Chain, chain_end, chain_more, Made, tokenise_made}

-- Characters that differ ------------------------------------------------------------------------------------------

-- a character that a test tells from another is another
apart : (f : ℕ → Bool) (c x : ℕ) (b : Bool) → f c ≡ b → f x ≡ not b → eqb c x ≡ false
apart f c x true e q = ne_eqb c x (λ (p : c ≡ x). let z : f c ≡ f x = ap f p in let y : ◌≡◌ {A = ℕ} 0 1 = cc in omega arith)
apart f c x false e q = ne_eqb c x (λ (p : c ≡ x). let z : f c ≡ f x = ap f p in let y : ◌≡◌ {A = ℕ} 0 1 = cc in omega arith)

slash_no_letter : letter 47 ≡ false
unfolding letter
slash_no_letter = refl

slash_no_digit : digit 47 ≡ false
unfolding digit
slash_no_digit = refl

slash_single : single 47 ≡ true
unfolding single
slash_single = refl

-- what is no slash begins no comment
no_slash : (c : ℕ) (b : Bool) → eqb c 47 ≡ false → eqb c 47 && b ≡ false
no_slash c b e = rw e refl

-- neither a symbol nor the first of two of the same: no double symbol begins with one that is not single, where no Other goes on
pair_false : (c x : ℕ) → single c ≡ false → other x ≡ false → eqb c x && one_of (58 ∷ 38 ∷ 124 ∷ []) c ≡ false
unfolding single other white wordly letter digit
pair_false c x s o = go (eqb c x) refl
  where
    colon : eqb 58 c ≡ false
    colon = apart single 58 c true refl s

    go : (b : Bool) → eqb c x ≡ b → eqb c x && one_of (58 ∷ 38 ∷ 124 ∷ []) c ≡ false
    go true e =
        let same : other c ≡ false = ap other (eqb-true c x e) ∙ o in
        simp (e, colon, apart other 38 c true refl same, apart other 124 c true refl same)
    go false e = rw e refl

equals_false : (c x : ℕ) → single c ≡ false → eqb x 61 && one_of (61 ∷ 33 ∷ 60 ∷ 62 ∷ []) c ≡ false
unfolding single
equals_false c x s = go (eqb x 61) refl
  where
    go : (b : Bool) → eqb x 61 ≡ b → eqb x 61 && one_of (61 ∷ 33 ∷ 60 ∷ 62 ∷ []) c ≡ false
    go true e = simp (e, apart single 61 c true refl s, apart single 33 c true refl s, apart single 60 c true refl s, apart single 62 c true refl s)
    go false e = rw e refl

other-double : (c x : ℕ) → single c ≡ false → other x ≡ false → double c x ≡ false
unfolding double
other-double c x s o = simp (equals_false c x s, pair_false c x s o)

-- A token that stands alone, with more behind it ------------------------------------------------------------------

next_front : (f : ℕ → Bool) (cs k : List ℕ) → next f (cs ++ []) ≡ true → next f (cs ++ k) ≡ true
next_front f [] k e = absurd (let z : ◌≡◌ {A = ℕ} 0 1 = cc in omega arith)
next_front f (c ∷ cs) k e = e

-- the character behind a token counts only where the token has one character
next_one : (f : ℕ → Bool) (cs : List ℕ) (x : ℕ) (k : List ℕ) → next f (cs ++ []) ≡ false → f x ≡ false → next f (cs ++ x ∷ k) ≡ false
next_one f cs x k e q = next-stops f cs [] k x e q

slash_behind : (c : ℕ) (cs : List ℕ) (x : ℕ) (k : List ℕ) → eqb c 47 && next (eqb 47) (cs ++ []) ≡ true → eqb c 47 && next (eqb 47) (cs ++ x ∷ k) ≡ true
slash_behind c cs x k e =
    let h = and_true (eqb c 47) (next (eqb 47) (cs ++ [])) e in
    let n = next_front (eqb 47) cs (x ∷ k) h.1 in
    simp (h.0, n)

-- no comment begins where the second character is the token's own, or is no slash
slash_one : (c : ℕ) (cs : List ℕ) (x : ℕ) (k : List ℕ) → eqb c 47 && next (eqb 47) (cs ++ []) ≡ false → eqb c 47 && eqb 47 x ≡ false → eqb c 47 && next (eqb 47) (cs ++ x ∷ k) ≡ false
slash_one c [] x k e q = q
slash_one c (d ∷ cs) x k e q = e

-- what a symbol of one character shows of the next
symbol_one : (c x : ℕ) (cs : List ℕ) → length cs ≡ 0 → symbol_stops (c ∷ cs) x ≡ true → (double c x ≡ false) × (eqb c 47 && eqb 47 x ≡ false)
unfolding symbol_stops
symbol_one c x [] n e =
    let h = and_true (not (double c x)) (not (eqb c 47 && eqb 47 x)) e in
    (not_true (double c x) h.0, not_true (eqb c 47 && eqb 47 x) h.1)
symbol_one c x (d ∷ cs) n e = absurd (omega arith)

in_line_ends : (x : ℕ) → line_end x ≡ true → in_line x ≡ false
in_line_ends x e = rw e refl

stop_rule : (c : ℕ) (cs : List ℕ) (x : ℕ) (k : List ℕ) (d : Kind) → stops d (c ∷ cs) x ≡ true → Rule c (cs ++ []) d (length cs) → Rule c (cs ++ x ∷ k) d (length cs)
unfolding stops
stop_rule c cs x k d h (r1 a e q) = r1 a e (run_stops white cs [] k x q (not_true (white x) (rw e at h)))
stop_rule c cs x k d h (r2 a b e q) = r2 a b e (closing_front false cs [] (x ∷ k) q)
stop_rule c cs x k d h (r3 a b s e q) = r3 a b (slash_behind c cs x k s) e (run_stops in_line cs [] k x q (in_line_ends x (rw e at h)))
stop_rule c cs x k d h (r4 a b s f e q) =
    r4 a b (no_slash c (next (eqb 47) (cs ++ x ∷ k)) (apart letter c 47 true f slash_no_letter)) f e (run_stops wordly cs [] k x q (not_true (wordly x) (rw e at h)))
stop_rule c cs x k d h (r5 a b s f g e q) =
    r5 a b (no_slash c (next (eqb 47) (cs ++ x ∷ k)) (apart digit c 47 true g slash_no_digit)) f g e (run_stops digit cs [] k x q (not_true (digit x) (rw e at h)))
stop_rule c cs x k d h (r6 a b s f g i e q) = r6 a b (slash_two cs q s) f g (next-within (double c) cs [] (x ∷ k) q i) e q
  where
    slash_two : (ds : List ℕ) → length ds ≡ 1 → eqb c 47 && next (eqb 47) (ds ++ []) ≡ false → eqb c 47 && next (eqb 47) (ds ++ x ∷ k) ≡ false
    slash_two [] n e = absurd (omega arith)
    slash_two (y ∷ ds) n e = e
stop_rule c cs x k d h (r6' a b s f g i j e q) =
    let w = symbol_one c x cs q (rw e at h) in
    r6' a b (slash_one c cs x k s w.1) f g (next_one (double c) cs x k i w.0) j e q
stop_rule c cs x k d h (r7 a b s f g i j e q) =
    let o = not_true (other x) (rw e at h) in
    r7 a b (no_slash c (next (eqb 47) (cs ++ x ∷ k)) (apart single c 47 false j slash_single)) f g (next_one (double c) cs x k i (other-double c x j o)) j e (run_stops other cs [] k x q o)

-- THE TOKENISATION IS THE ONLY ONE: tokens that stand are the tokens of the text that they spell.

-- a token that is a token by itself is read there
pub alone_read : (t : Token) → tokenise t.text ≡ (t ∷ [], []) → Read t []
unfolding spell
alone_read t e = first (subst (λ (r : List Token × List ℕ). Chain r.1 r.0) e (tokenise_made t.text).chain)
  where
    first : Chain [] (t ∷ []) → Read t []
    first (chain_more r c) = r

-- .. and with tokens behind it that it stops before
read_before : (t : Token) (ts : List Token) → tokenise t.text ≡ (t ∷ [], []) → stops_before t ts ≡ true → Read t (spell ts)
unfolding spell stops_before
read_before t [] e s = alone_read t e
read_before t (u ∷ us) e s = go u.text s
  where
    r : Read t []
    r = alone_read t e

    go : (l : List ℕ) → next (stops t.kind t.text) l ≡ true → Read t (l ++ spell us)
    go [] h = absurd (let z : ◌≡◌ {A = ℕ} 0 1 = cc in omega arith)
    go (x ∷ xs) h =
        record {
          first = r.first;
          more = r.more;
          text = r.text;
          rule = stop_rule r.first r.more x (xs ++ spell us) t.kind (subst (λ (l : List ℕ). stops t.kind l x ≡ true) r.text h) r.rule;
        }

pub stands-tokenise : {ts : List Token} → Stands ts → tokenise (spell ts) ≡ (ts, [])
unfolding tokenise cut cut_after spell
stands-tokenise stands_end = refl
stands-tokenise (stands_more {t} {ts} e s a) =
    read_tokenise t (spell ts) (read_before t ts e s) ∙ ap (λ (r : List Token × List ℕ). (t ∷ r.0, r.1)) (stands-tokenise a)

-- .. and the tokens of a text stand
and_false : (a b b' : Bool) → (b ≡ false → b' ≡ false) → a && b ≡ false → a && b' ≡ false
and_false true b b' f e = f e
and_false false b b' f e = refl

alone_slash : (c : ℕ) (cs k : List ℕ) → eqb c 47 && next (eqb 47) (cs ++ k) ≡ true → run_length in_line (cs ++ k) ≡ length cs → eqb c 47 && next (eqb 47) (cs ++ []) ≡ true
alone_slash c cs k s q =
    let h = slash_second c cs k s q in
    let f : eqb c 47 ≡ true = (and_true (eqb c 47) (next (eqb 47) (cs ++ k)) s).0 in
    rw (f, h.1) refl

alone_rule : (c : ℕ) (cs k : List ℕ) (d : Kind) → Rule c (cs ++ k) d (length cs) → Rule c (cs ++ []) d (length cs)
alone_rule c cs k d (r1 a e q) = r1 a e (run_at_end white cs k q)
alone_rule c cs k d (r2 a b e q) = r2 a b e (closing_front false cs k [] q)
alone_rule c cs k d (r3 a b s e q) = r3 a b (alone_slash c cs k s q) e (run_at_end in_line cs k q)
alone_rule c cs k d (r4 a b s f e q) = r4 a b (and_false (eqb c 47) _ _ (next_at_end (eqb 47) cs k) s) f e (run_at_end wordly cs k q)
alone_rule c cs k d (r5 a b s f g e q) = r5 a b (and_false (eqb c 47) _ _ (next_at_end (eqb 47) cs k) s) f g e (run_at_end digit cs k q)
alone_rule c cs k d (r6 a b s f g h e q) = r6 a b (and_false (eqb c 47) _ _ (next_at_end (eqb 47) cs k) s) f g (next-within (double c) cs k [] q h) e q
alone_rule c cs k d (r6' a b s f g h i e q) = r6' a b (and_false (eqb c 47) _ _ (next_at_end (eqb 47) cs k) s) f g (next_at_end (double c) cs k h) i e q
alone_rule c cs k d (r7 a b s f g h i e q) = r7 a b (and_false (eqb c 47) _ _ (next_at_end (eqb 47) cs k) s) f g (next_at_end (double c) cs k h) i e (run_at_end other cs k q)

pub read_alone : (t : Token) (k : List ℕ) → Read t k → tokenise t.text ≡ (t ∷ [], [])
unfolding tokenise cut cut_after
read_alone t k r = ap tokenise (sym (append-nil t.text)) ∙ read_tokenise t [] (record { first = r.first; more = r.more; text = r.text; rule = alone_rule r.first r.more k t.kind r.rule })

symbol_stops_lem : (c x : ℕ) (cs k : List ℕ) → length cs ≡ 0 → next (double c) (cs ++ x ∷ k) ≡ false → eqb c 47 && next (eqb 47) (cs ++ x ∷ k) ≡ false → symbol_stops (c ∷ cs) x ≡ true
unfolding symbol_stops
symbol_stops_lem c x [] k n d s = simp (d, s)
symbol_stops_lem c x (y ∷ cs) k n d s = absurd (omega arith)

double-stops : (c x : ℕ) (cs : List ℕ) → length cs ≡ 1 → symbol_stops (c ∷ cs) x ≡ true
unfolding symbol_stops
double-stops c x [] n = absurd (omega arith)
double-stops c x (y ∷ cs) n = refl

line_ends : (x : ℕ) → in_line x ≡ false → line_end x ≡ true
line_ends x e = go (line_end x) refl
  where
    go : (b : Bool) → line_end x ≡ b → line_end x ≡ true
    go true q = q
    go false q = let z : not false ≡ false = ap not (sym q) ∙ e in absurd (let y : ◌≡◌ {A = ℕ} 0 1 = cc in omega arith)

rule_stops : (c : ℕ) (cs : List ℕ) (x : ℕ) (k : List ℕ) (d : Kind) → Rule c (cs ++ x ∷ k) d (length cs) → stops d (c ∷ cs) x ≡ true
unfolding stops
rule_stops c cs x k d (r1 a e q) = rw e (ap not (run_ends white cs x k q))
rule_stops c cs x k d (r2 a b e q) = rw e refl
rule_stops c cs x k d (r3 a b s e q) = rw e (line_ends x (run_ends in_line cs x k q))
rule_stops c cs x k d (r4 a b s f e q) = rw e (ap not (run_ends wordly cs x k q))
rule_stops c cs x k d (r5 a b s f g e q) = rw e (ap not (run_ends digit cs x k q))
rule_stops c cs x k d (r6 a b s f g h e q) = rw e (double-stops c x cs q)
rule_stops c cs x k d (r6' a b s f g h i e q) = rw e (symbol_stops_lem c x cs k q h s)
rule_stops c cs x k d (r7 a b s f g h i e q) = rw e (ap not (run_ends other cs x k q))

read_stops : (t : Token) (x : ℕ) (k : List ℕ) → Read t (x ∷ k) → stops t.kind t.text x ≡ true
read_stops t x k r = subst (λ (l : List ℕ). stops t.kind l x ≡ true) (sym r.text) (rule_stops r.first r.more x k t.kind r.rule)

stops-next : (t : Token) {k : List ℕ} {ts : List Token} → Read t (spell ts ++ k) → Chain k ts → stops_before t ts ≡ true
unfolding stops_before spell
stops-next t r chain_end = refl
stops-next t {k} r (chain_more {t = u} {ts} d c) =
    rw d.text (read_stops t d.first ((d.more ++ spell ts) ++ k) (subst (λ (l : List ℕ). Read t ((l ++ spell ts) ++ k)) d.text r))

pub chain_stands : {k : List ℕ} {ts : List Token} → Chain k ts → Stands ts
chain_stands chain_end = stands_end
chain_stands {k} (chain_more {t} {ts} r c) = stands_more (read_alone t (spell ts ++ k) r) (stops-next t r c) (chain_stands c)

pub tokenise-stands : (cs : List ℕ) (ts : List Token) → tokenise cs ≡ (ts, []) → (spell ts ≡ cs) × Stands ts
tokenise-stands cs ts e =
    let m : Made cs (ts, []) = subst (λ (r : List Token × List ℕ). Made cs r) e (tokenise_made cs) in
    (sym (append-nil (spell ts)) ∙ m.whole, chain_stands m.chain)

pub tokenise_only : (cs : List ℕ) (ts : List Token) → spell ts ≡ cs → Stands ts → tokenise cs ≡ (ts, [])
tokenise_only cs ts e s = ap tokenise (sym e) ∙ stands-tokenise s

-- White space behind a token ---------------------------------------------------------------------------------------

-- white space ends every token but white space and a comment
pub white-stops : (t : Token) (x : ℕ) → Plain t.kind → tokenise t.text ≡ (t ∷ [], []) → white x ≡ true → stops t.kind t.text x ≡ true
white-stops t x p e w =
    let r = alone_read t e in
    subst (λ (l : List ℕ). stops t.kind l x ≡ true) (sym r.text) (rule_stops r.first r.more x [] t.kind (stays r.first r.more [] [] x t.kind p w r.rule))

-- only white space begins in white space
rule_first : {c : ℕ} {rest : List ℕ} {k : Kind} {n : ℕ} → Rule c rest k n → is_whitespace k ≡ white c
unfolding is_whitespace
rule_first (r1 a e q) = rw (e, a) refl
rule_first (r2 a b e q) = rw (e, a) refl
rule_first (r3 a b d e q) = rw (e, a) refl
rule_first (r4 a b d f e q) = rw (e, a) refl
rule_first (r5 a b d f g e q) = rw (e, a) refl
rule_first (r6 a b d f g h e q) = rw (e, a) refl
rule_first (r6' a b d f g h i e q) = rw (e, a) refl
rule_first (r7 a b d f g h i e q) = rw (e, a) refl

pub read_first : {t : Token} {k : List ℕ} (r : Read t k) → blank t ≡ white r.first
unfolding blank
read_first r = rule_first r.rule

-- White space that stands before a token that is none -----------------------------------------------------------------

blank_kind : (k : Kind) → is_whitespace k ≡ true → k ≡ Whitespace
unfolding is_whitespace
blank_kind Whitespace e = refl
blank_kind Comment e = absurd (let z : ◌≡◌ {A = ℕ} 0 1 = cc in omega arith)
blank_kind String e = absurd (let z : ◌≡◌ {A = ℕ} 0 1 = cc in omega arith)
blank_kind Identifier e = absurd (let z : ◌≡◌ {A = ℕ} 0 1 = cc in omega arith)
blank_kind Number e = absurd (let z : ◌≡◌ {A = ℕ} 0 1 = cc in omega arith)
blank_kind Symbol e = absurd (let z : ◌≡◌ {A = ℕ} 0 1 = cc in omega arith)
blank_kind Other e = absurd (let z : ◌≡◌ {A = ℕ} 0 1 = cc in omega arith)

-- white space stops before a token exactly if that is no white space
pub blank-stops : (g u : Token) (us : List Token) → blank g ≡ true → tokenise u.text ≡ (u ∷ [], []) → stops_before g (u ∷ us) ≡ not (blank u)
unfolding stops_before stops blank
blank-stops g u us b e =
    let r = alone_read u e in
    let w : blank u ≡ white r.first = read_first r in
    rw (blank_kind g.kind b, r.text) (ap not (sym w))
