-- Answer 5: where the outline fits, the depth in the text as a whole is the depth in each part.
use mathlib.Core.Path.{◌≡◌, refl, sym, ◌∙◌, ap}
use mathlib.Core.Bool.{Bool, true, false, not, ◌&&◌, ◌||◌, or-true}
use mathlib.Core.List.{List, [], ◌∷◌, ◌++◌}
use mathlib.Core.Option.{Option, none, some}
use Prim.Native.Nat.{ℕ, suc, ◌+◌, ◌-◌, ◌≤◌}
use native.Mathlib.Omega.{arith}
use lib.Dec.{leb, ltb, eqb}
use lib.ListN.{length}
use borrow.Author.Tests.{ltb-true, leb-true, eqb-true}
use Rattle.dogwood_rules.specs.Basic.{every}
use Rattle.dogwood_rules.specs.Utf8.{decode, byte_length}
use Rattle.dogwood_rules.specs.Token.{Token, Placed, tokenise, placed, tokens, spell}
use Rattle.dogwood_rules.specs.Tree.{opener, closer}
use Rattle.dogwood_rules.specs.Outline.{Span, Statement, statements, up_to, from, within, beyond, parts_of, plain, gaps_ok, ascending, balanced, spans_of, each_ok, parts_ok, covered_ok, balance_ok, fits}
use Rattle.dogwood_rules.specs.Searches.{or_else, too_deep, deep_part, deep_opener}
use Rattle.dogwood_rules.proofs.Below.{and_true}
use Rattle.dogwood_rules.proofs.Fitting.{fits_says}
use Rattle.dogwood_rules.proofs.Chains.{Read, Chain, chain_more, tokenise_made}
use Rattle.dogwood_outline.specs.Pass.{quiet, placed_in}
use Rattle.dogwood_words.proofs.Bools.{false_true}
use Rattle.dogwood_outline.proofs.Spans.{from_on, from_off, up_to_on, up_to_off, from_from}
use Rattle.dogwood_outline.proofs.PartsPass.{gaps_step, balance_step, within_step, beyond_step}
use Rattle.dogwood_outline.proofs.Symbols.{no_opener, no_closer}
use Rattle.dogwood_outline.proofs.SearchSteps.{deep_here, deep_open, deep_close, deep-plain}

-- White space and comments are no brackets
abbrev calm : Placed → Bool
calm p = plain p.token || (not (opener p.token) && not (closer p.token))

quiet_calm : (w o c : Bool) → not w ≡ true → w || (not o && not c) ≡ true → (o ≡ false) × (c ≡ false)
quiet_calm true o c q e = false_true q
quiet_calm false true c q e = false_true e
quiet_calm false false true q e = false_true e
quiet_calm false false false q e = (refl, refl)

gap-deep : (n : ℕ) (ps : List Placed) → every calm ps ≡ true → every quiet (tokens (up_to n ps)) ≡ true → too_deep 0 ps ≡ too_deep 0 (from n ps)
unfolding tokens up_to from
gap-deep n [] l q = refl
gap-deep n (p ∷ ps) l q = go (λ m r. gap-deep n ps m r) (ltb p.start n) refl
  where
    go : (every calm ps ≡ true → every quiet (tokens (up_to n ps)) ≡ true → too_deep 0 ps ≡ too_deep 0 (from n ps)) → (b : Bool) → ltb p.start n ≡ b → too_deep 0 (p ∷ ps) ≡ too_deep 0 (from n (p ∷ ps))
    go ih true e =
        let m = and_true (calm p) (every calm ps) l in
        let r = and_true (quiet p.token) (every quiet (tokens (up_to n ps))) (ap (λ (qs : List Placed). every quiet (tokens qs)) (sym (up_to_on n p ps e)) ∙ q) in
        let k = quiet_calm (plain p.token) (opener p.token) (closer p.token) r.0 m.0 in
        deep-plain 0 p ps k.0 k.1 ∙ ih m.1 r.1 ∙ ap (too_deep 0) (sym (from_on n p ps e))
    go ih false e = ap (too_deep 0) (sym (from_off n p ps e))

quiet-deep : (ps : List Placed) → every calm ps ≡ true → every quiet (tokens ps) ≡ true → too_deep 0 ps ≡ none
unfolding tokens too_deep
quiet-deep [] l q = refl
quiet-deep (p ∷ ps) l q =
    let m = and_true (calm p) (every calm ps) l in
    let r = and_true (quiet p.token) (every quiet (tokens ps)) q in
    let k = quiet_calm (plain p.token) (opener p.token) (closer p.token) r.0 m.0 in
    deep-plain 0 p ps k.0 k.1 ∙ quiet-deep ps m.1 r.1

calm_from : (n : ℕ) (ps : List Placed) → every calm ps ≡ true → every calm (from n ps) ≡ true
unfolding from
calm_from n [] l = refl
calm_from n (p ∷ ps) l = go (calm_from n ps (and_true (calm p) (every calm ps) l).1) (ltb p.start n) refl
  where
    go : every calm (from n ps) ≡ true → (b : Bool) → ltb p.start n ≡ b → every calm (from n (p ∷ ps)) ≡ true
    go h true e = ap (every calm) (from_on n p ps e) ∙ h
    go h false e = ap (every calm) (from_off n p ps e) ∙ l

-- A part --------------------------------------------------------------------------------------------------------------

abbrev Split : ℕ → ℕ → List Placed → Type 0
Split n d ps = too_deep d ps ≡ or_else (too_deep d (up_to n ps)) (too_deep 0 (from n ps))

part-deep : (n d : ℕ) (ps : List Placed) → balanced d (tokens (up_to n ps)) ≡ true → Split n d ps
unfolding tokens up_to from too_deep or_else balanced
part-deep n d [] e = refl
part-deep n d (p ∷ ps) e = go (λ d e. part-deep n d ps e) (ltb p.start n) (opener p.token) (closer p.token) (eqb d 64) refl refl refl refl
  where
    go : ((d : ℕ) → balanced d (tokens (up_to n ps)) ≡ true → Split n d ps) → (b o c f : Bool) → ltb p.start n ≡ b → opener p.token ≡ o → closer p.token ≡ c → eqb d 64 ≡ f → Split n d (p ∷ ps)
    go ih false o c f l x y z =
        let h : eqb d 0 ≡ true = ap (λ (qs : List Placed). balanced d (tokens qs)) (sym (up_to_off n p ps l)) ∙ e in
        ap (λ (k : ℕ). too_deep k (p ∷ ps)) (eqb-true d 0 h)
        ∙ sym (ap (λ (qs : List Placed). or_else (too_deep d qs) (too_deep 0 (from n (p ∷ ps)))) (up_to_off n p ps l) ∙ ap (too_deep 0) (from_off n p ps l))
    go ih true o c f l x y z =
        let h : balanced d (p.token ∷ tokens (up_to n ps)) ≡ true = ap (λ (qs : List Placed). balanced d (tokens qs)) (sym (up_to_on n p ps l)) ∙ e in
        inner o c f x y z h
        ∙ sym (ap (λ (qs : List Placed). or_else (too_deep d qs) (too_deep 0 (from n (p ∷ ps)))) (up_to_on n p ps l) ∙ ap (λ (qs : List Placed). or_else (too_deep d (p ∷ up_to n ps)) (too_deep 0 qs)) (from_on n p ps l))
      where
        inner : (o c f : Bool) → opener p.token ≡ o → closer p.token ≡ c → eqb d 64 ≡ f → balanced d (p.token ∷ tokens (up_to n ps)) ≡ true
            → too_deep d (p ∷ ps) ≡ or_else (too_deep d (p ∷ up_to n ps)) (too_deep 0 (from n ps))
        inner true c true x y z h = deep_here d p ps x z ∙ sym (ap (λ (a : Option ℕ). or_else a (too_deep 0 (from n ps))) (deep_here d p (up_to n ps) x z))
        inner true c false x y z h =
            let k : balanced (suc d) (tokens (up_to n ps)) ≡ true = rw (x, balanced) at h in
            deep_open d p ps x z ∙ ih (suc d) k ∙ sym (ap (λ (a : Option ℕ). or_else a (too_deep 0 (from n ps))) (deep_open d p (up_to n ps) x z))
        inner false true f x y z h =
            let k : ltb 0 d && balanced (d - 1) (tokens (up_to n ps)) ≡ true = rw (x, y, balanced) at h in
            deep_close d p ps x y ∙ ih (d - 1) (and_true (ltb 0 d) (balanced (d - 1) (tokens (up_to n ps))) k).1 ∙ sym (ap (λ (a : Option ℕ). or_else a (too_deep 0 (from n ps))) (deep_close d p (up_to n ps) x y))
        inner false false f x y z h =
            let k : balanced d (tokens (up_to n ps)) ≡ true = rw (x, y, balanced) at h in
            deep-plain d p ps x y ∙ ih d k ∙ sym (ap (λ (a : Option ℕ). or_else a (too_deep 0 (from n ps))) (deep-plain d p (up_to n ps) x y))

-- The parts of a statement, and statements --------------------------------------------------------------------------------

else_assoc : (a b c : Option ℕ) → or_else a (or_else b c) ≡ or_else (or_else a b) c
unfolding or_else
else_assoc none b c = refl
else_assoc (some n) b c = refl

parts_deep : (ss : List Span) (low b : ℕ) (ps : List Placed) → every calm ps ≡ true → ascending low b ss ≡ true → gaps_ok ss (up_to b ps) ≡ true → every (balanced 0) (parts_of ss (up_to b ps)) ≡ true
    → too_deep 0 ps ≡ or_else (deep_part ss (up_to b ps)) (too_deep 0 (from b ps))
unfolding deep_part or_else gaps_ok ascending
parts_deep [] low b ps l a g h = gap-deep b ps l g
parts_deep (s ∷ ss) low b ps l a g h =
    let ps₁ = from s.start ps in
    let ps₂ = from s.stop ps₁ in
    let a₀ = and_true (leb low s.start && ltb s.start s.stop && leb s.stop b) (ascending s.stop b ss) a in
    let a₁ = and_true (leb low s.start && ltb s.start s.stop) (leb s.stop b) a₀.0 in
    let a₂ = and_true (leb low s.start) (ltb s.start s.stop) a₁.0 in
    let lt = ltb-true s.start s.stop a₂.1 in
    let m = leb-true s.stop b a₁.1 in
    let k : s.start ≤ s.stop = omega arith in
    let g₀ = and_true (every quiet (tokens (up_to s.start ps))) (gaps_ok ss (up_to b ps₂)) (sym (gaps_step s ss b ps k m) ∙ g) in
    let h₀ = and_true (balanced 0 (tokens (up_to s.stop ps₁))) (every (balanced 0) (parts_of ss (up_to b ps₂))) (sym (balance_step s ss b ps k m) ∙ h) in
    let l₁ = calm_from s.start ps l in
    let ih = parts_deep ss s.stop b ps₂ (calm_from s.stop ps₁ l₁) a₀.1 g₀.1 h₀.1 in
    gap-deep s.start ps l g₀.0
    ∙ part-deep s.stop 0 ps₁ h₀.0
    ∙ ap (or_else (too_deep 0 (up_to s.stop ps₁))) (ih ∙ ap (λ (qs : List Placed). or_else (deep_part ss (up_to b ps₂)) (too_deep 0 qs)) (from_from s.stop b ps₁ m ∙ from_from s.start b ps (omega arith)))
    ∙ else_assoc (too_deep 0 (up_to s.stop ps₁)) (deep_part ss (up_to b ps₂)) (too_deep 0 (from b ps))
    ∙ ap (λ (qs : List Placed). or_else (or_else (too_deep 0 qs) (deep_part ss (up_to b ps₂))) (too_deep 0 (from b ps))) (sym (within_step s ss b ps k m))
    ∙ ap (λ (qs : List Placed). or_else (or_else (too_deep 0 (within s (up_to b ps))) (deep_part ss qs)) (too_deep 0 (from b ps))) (sym (beyond_step s ss b ps k m))

statements-deep : (ss : List Statement) (ps : List Placed) → every calm ps ≡ true → every parts_ok ss ≡ true → each_ok covered_ok ss ps ≡ true → gaps_ok (spans_of ss) ps ≡ true → each_ok balance_ok ss ps ≡ true
    → too_deep 0 ps ≡ deep_opener ss ps
unfolding deep_opener gaps_ok spans_of each_ok parts_ok covered_ok balance_ok within beyond
statements-deep [] ps l p c g h = quiet-deep ps l g
statements-deep (s ∷ ss) ps l p c g h =
    let a = s.span.start in
    let b = s.span.stop in
    let ps₁ = from a ps in
    let ps₂ = from b ps₁ in
    let p₀ = and_true (ascending a b s.parts) (every parts_ok ss) p in
    let c₀ = and_true (gaps_ok s.parts (up_to b ps₁)) (each_ok covered_ok ss ps₂) c in
    let g₀ = and_true (every quiet (tokens (up_to a ps))) (gaps_ok (spans_of ss) ps₂) g in
    let h₀ = and_true (every (balanced 0) (parts_of s.parts (up_to b ps₁))) (each_ok balance_ok ss ps₂) h in
    let l₁ = calm_from a ps l in
    gap-deep a ps l g₀.0
    ∙ parts_deep s.parts a b ps₁ l₁ p₀.0 c₀.0 h₀.0
    ∙ ap (or_else (deep_part s.parts (up_to b ps₁))) (statements-deep ss ps₂ (calm_from b ps₁ l₁) p₀.1 c₀.1 g₀.1 h₀.1)

-- A text -------------------------------------------------------------------------------------------------------------------

calm_token : (t : Token) (k : List ℕ) → Read t k → plain t || (not (opener t) && not (closer t)) ≡ true
calm_token t k r = by (plain t) refl
  where
    by : (b : Bool) → plain t ≡ b → plain t || (not (opener t) && not (closer t)) ≡ true
    by true e = ap (λ (w : Bool). w || (not (opener t) && not (closer t))) e
    by false e =
        (λ i. plain t || (not (no_opener t k r e i) && not (no_closer t k r e i))) ∙ or-true (plain t)

placed_calm : {k : List ℕ} (ts : List Token) (at : ℕ) → Chain k ts → every calm (placed at ts) ≡ true
unfolding placed
placed_calm [] at c = refl
placed_calm {k} (t ∷ ts) at (chain_more r c) = simp (calm_token t (spell ts ++ k) r, placed_calm ts (at + byte_length t.text) c)

text_calm : (s : List ℕ) → every calm (placed_in s) ≡ true
unfolding placed_in
text_calm s = placed_calm (tokenise (decode s).0).0 0 (tokenise_made (decode s).0).chain

pub deep_law : (s ws : List ℕ) → fits (length s) (placed_in s) ws ≡ true → too_deep 0 (placed_in s) ≡ deep_opener (statements ws).0 (placed_in s)
deep_law s ws f =
    let r = fits_says (length s) (placed_in s) ws f in
    statements-deep (statements ws).0 (placed_in s) (text_calm s) r.parts r.covered r.outside r.balance
