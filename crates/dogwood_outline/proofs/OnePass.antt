-- THE LAW OF THE PASS: over the tokens of a text it is the rules' test of fit.
use mathlib.Core.Path.{◌≡◌, refl, sym, ◌∙◌, ap}
use mathlib.Core.Bool.{Bool, true, false, ◌&&◌, ◌||◌, or-false, or-true}
use mathlib.Core.List.{List, [], ◌∷◌}
use Prim.Native.Nat.{ℕ, ◌<◌, ◌≤◌}
use native.Mathlib.Omega.{arith}
use lib.Dec.{leb, ltb, eqb}
use lib.ListN.{length}
use borrow.Author.Tests.{ltb-true, ltb-false, leb-true, lt-ltb, le-leb, eq-eqb, ne_eqb, eqb-false}
use Rattle.dogwood_rules.specs.Basic.{every, some?}
use Rattle.dogwood_rules.specs.Token.{Placed, tokens, Tiled, tiled_end, tiled_more}
use Rattle.dogwood_rules.specs.Outline.{Statement, statements, up_to, from, within, beyond, parts_of, plain, gaps_ok, ascending, balanced, spans_of, each_ok, kind_ok, parts_ok, covered_ok, plain_ok, balance_ok, boundary, boundaries, bounds_ok, fits}
use Rattle.dogwood_rules.proofs.Below.{and_true}
use Rattle.dogwood_rules.proofs.Fitting.{fits_says, says_fits}
use Rattle.dogwood_outline.specs.Pass.{quiet, here, stands, gap, parts_pass, statement_pass, outline_pass, passes}
use Rattle.std.specs.Cmp.{both_ways}
use Rattle.dogwood_words.proofs.Bools.{eqb_sym}
use Rattle.dogwood_outline.proofs.Spans.{from_on, from_off, stands-le, stands_here, word_below, Below, below_from, below_here, below_all, below_none}
use Rattle.dogwood_outline.proofs.PartsPass.{bounded_from, parts_say, parts_pass_lem}

-- Statements --------------------------------------------------------------------------------------------------------

module _ (end : ℕ) (all : List Placed) where
  -- a place from low on is a boundary exactly where it stands among some tokens
  abbrev From : ℕ → List Placed → Type 0
  From low ps = (n : ℕ) → low ≤ n → boundary end all n ≡ stands end n ps

  -- the sentences, of the statements from a place on
  record Rest (low : ℕ) (ss : List Statement) (ps : List Placed) : Type 0 where
    kinds : every kind_ok ss ≡ true
    apart : ascending low end (spans_of ss) ≡ true
    parts : every parts_ok ss ≡ true
    bounds : every (bounds_ok end all) ss ≡ true
    covered : each_ok covered_ok ss ps ≡ true
    used : each_ok plain_ok ss ps ≡ true
    outside : gaps_ok (spans_of ss) ps ≡ true
    balance : each_ok balance_ok ss ps ≡ true

  pass_says : (low : ℕ) (ss : List Statement) (ps : List Placed) → From low ps → low ≤ here end ps → Below end ps → outline_pass end ss ps ≡ true → Rest low ss ps
  unfolding outline_pass statement_pass gap ascending spans_of each_ok gaps_ok parts_ok bounds_ok boundaries covered_ok plain_ok balance_ok within beyond
  pass_says low [] ps B z L e =
      let g = and_true (every quiet (tokens (up_to end ps))) (stands end end ps) e in
      record { kinds = refl; apart = refl; parts = refl; bounds = refl; covered = refl; used = refl; outside = ap (λ (qs : List Placed). every quiet (tokens qs)) (sym (below_all end ps L)) ∙ g.0; balance = refl }
  pass_says low (s ∷ ss) ps B z L e =
      let a = s.span.start in
      let b = s.span.stop in
      let ps₁ = from a ps in
      let ps₂ = from b ps₁ in
      let qu = every quiet (tokens (up_to a ps)) in
      let pp = parts_pass end s.parts b false ps₁ in
      let h₀ = and_true (kind_ok s && ((qu && stands end a ps) && pp)) (outline_pass end ss ps₂) e in
      let h₁ = and_true (kind_ok s) ((qu && stands end a ps) && pp) h₀.0 in
      let h₂ = and_true (qu && stands end a ps) pp h₁.1 in
      let g = and_true qu (stands end a ps) h₂.0 in
      let le = stands-le end a ps g.1 in
      let l₁ : low ≤ a = omega arith in
      let B₁ = bounded_from end all low a ps B l₁ g.1 in
      let p = parts_say end all s.parts b false ps₁ B₁ h₂.1 in
      let at₁ = stands_here end a ps g.1 in
      let st₂ : stands end b ps₁ ≡ true = sym (B₁ b p.room) ∙ p.stop in
      let at₂ = stands_here end b ps₁ st₂ in
      let B₂ = bounded_from end all (here end ps₁) b ps₁ B₁ p.room st₂ in
      let L₁ = below_from end a ps L in
      let L₂ = below_from end b ps₁ L₁ in
      let ih = pass_says (here end ps₂) ss ps₂ B₂ (omega arith) L₂ h₀.1 in
      let lt = word_below end b ps₁ p.used in
      let top = below_here end ps₂ L₂ in
      let lt₁ : a < b = omega (arith, lt, at₁) in
      let le₁ : b ≤ end = omega (arith, top, at₂) in
      let asc : ascending b end (spans_of ss) ≡ true = ap (λ (n : ℕ). ascending n end (spans_of ss)) (sym at₂) ∙ ih.apart in
      let pas : ascending a b s.parts ≡ true = ap (λ (n : ℕ). ascending n b s.parts) (sym at₁) ∙ p.apart in
      let bo₁ : boundary end all a ≡ true = B a l₁ ∙ g.1 in
      record {
        kinds = simp (h₁.0, ih.kinds);
        apart = simp (le-leb low a l₁, lt-ltb a b lt₁, le-leb b end le₁, asc);
        parts = simp (pas, ih.parts);
        bounds = simp (bo₁, p.stop, p.bounds, ih.bounds);
        covered = simp (p.covered, ih.covered);
        used = simp (p.used, ih.used);
        outside = simp (g.0, ih.outside);
        balance = simp (p.balance, ih.balance);
      }

  rest_pass : (low : ℕ) (ss : List Statement) (ps : List Placed) → From low ps → Below end ps → Rest low ss ps → outline_pass end ss ps ≡ true
  unfolding outline_pass statement_pass gap ascending spans_of each_ok gaps_ok parts_ok bounds_ok boundaries covered_ok plain_ok balance_ok within beyond
  rest_pass low [] ps B L r =
      simp (below_all end ps L, below_none end ps L, r.outside, eq-eqb end end refl)
  rest_pass low (s ∷ ss) ps B L r =
      let a = s.span.start in
      let b = s.span.stop in
      let ps₁ = from a ps in
      let ps₂ = from b ps₁ in
      let qu = every quiet (tokens (up_to a ps)) in
      let k = and_true (kind_ok s) (every kind_ok ss) r.kinds in
      let a₀ = and_true (leb low a && ltb a b && leb b end) (ascending b end (spans_of ss)) r.apart in
      let a₁ = and_true (leb low a && ltb a b) (leb b end) a₀.0 in
      let a₂ = and_true (leb low a) (ltb a b) a₁.0 in
      let l₁ = leb-true low a a₂.0 in
      let lt = ltb-true a b a₂.1 in
      let pa = and_true (ascending a b s.parts) (every parts_ok ss) r.parts in
      let c₀ = and_true (boundary end all a && boundary end all b && every (boundaries end all) s.parts) (every (bounds_ok end all) ss) r.bounds in
      let c₁ = and_true (boundary end all a && boundary end all b) (every (boundaries end all) s.parts) c₀.0 in
      let c₂ = and_true (boundary end all a) (boundary end all b) c₁.0 in
      let cv = and_true (gaps_ok s.parts (up_to b ps₁)) (each_ok covered_ok ss ps₂) r.covered in
      let us = and_true (some? plain (tokens (up_to b ps₁))) (each_ok plain_ok ss ps₂) r.used in
      let ou = and_true qu (gaps_ok (spans_of ss) ps₂) r.outside in
      let ba = and_true (every (balanced 0) (parts_of s.parts (up_to b ps₁))) (each_ok balance_ok ss ps₂) r.balance in
      let st₁ : stands end a ps ≡ true = sym (B a l₁) ∙ c₂.0 in
      let B₁ = bounded_from end all low a ps B l₁ st₁ in
      let at₁ = stands_here end a ps st₁ in
      let room : here end ps₁ ≤ b = omega (arith, at₁, lt) in
      let st₂ : stands end b ps₁ ≡ true = sym (B₁ b room) ∙ c₂.1 in
      let B₂ = bounded_from end all (here end ps₁) b ps₁ B₁ room st₂ in
      let at₂ = stands_here end b ps₁ st₂ in
      let pp : parts_pass end s.parts b false ps₁ ≡ true =
      parts_pass_lem end all s.parts b false ps₁ B₁ (record {
        apart = ap (λ (n : ℕ). ascending n b s.parts) at₁ ∙ pa.0;
        bounds = c₁.1;
        stop = c₂.1;
        covered = cv.0;
        balance = ba.0;
        used = us.0;
        room = room;
      }) in
      let ih = rest_pass (here end ps₂) ss ps₂ B₂ (below_from end b ps₁ (below_from end a ps L)) (record {
        kinds = k.1;
        apart = ap (λ (n : ℕ). ascending n end (spans_of ss)) at₂ ∙ a₀.1;
        parts = pa.1;
        bounds = c₀.1;
        covered = cv.1;
        used = us.1;
        outside = ou.1;
        balance = ba.1;
      }) in
      simp (k.0, ou.0, st₁, pp, ih)

-- The tokens of a text ------------------------------------------------------------------------------------------------

-- tokens one behind the other up to some place of the text
module _ (end stop : ℕ) (le : stop ≤ end) where
  tiled_le : {at : ℕ} {ps : List Placed} → Tiled stop at ps → at ≤ stop
  tiled_le tiled_end = omega arith
  tiled_le (tiled_more l c) = let h = tiled_le c in omega arith

  pub tiled_below : {at : ℕ} {ps : List Placed} → Tiled stop at ps → Below end ps
  tiled_below tiled_end = refl
  tiled_below (tiled_more {p} {ps} l c) =
      let h = tiled_le c in
      let k = tiled_below c in
      simp (lt-ltb p.start end (omega arith), k)

  -- no boundary before the first token
  early : {at : ℕ} {ps : List Placed} → Tiled stop at ps → (n : ℕ) → n < at → boundary end ps n ≡ false
  unfolding boundary
  early tiled_end n h = simp (ne_eqb n end (λ (e : n ≡ end). omega arith))
  early (tiled_more {p} {ps} l c) n h = simp (ne_eqb n p.start (λ (e : n ≡ p.start). omega arith), early c n (omega arith))

  -- a place is a boundary exactly where it stands among the tokens
  tiled_bounded : {at : ℕ} {ps : List Placed} → Tiled stop at ps → (n : ℕ) → boundary end ps n ≡ stands end n ps
  unfolding boundary from
  tiled_bounded tiled_end n = or-false (eqb n end) ∙ eqb_sym n end
  tiled_bounded (tiled_more {p} {ps} l c) n = go (tiled_bounded c n) (ltb p.start n) (eqb p.start n) refl refl
    where
      go : boundary end ps n ≡ stands end n ps → (t u : Bool) → ltb p.start n ≡ t → eqb p.start n ≡ u → boundary end (p ∷ ps) n ≡ stands end n (p ∷ ps)
      go h true u e f =
          let k = ltb-true p.start n e in
          ap (λ (x : Bool). eqb n end || (x || some? (λ (q : Placed). eqb n q.start) ps)) (ne_eqb n p.start (λ (z : n ≡ p.start). omega arith))
          ∙ h ∙ ap (λ (qs : List Placed). eqb (here end qs) n) (sym (from_on n p ps e))
      go h false true e f =
          ap (λ (x : Bool). eqb n end || (x || some? (λ (q : Placed). eqb n q.start) ps)) (eqb_sym n p.start ∙ f)
          ∙ or-true (eqb n end) ∙ sym (ap (λ (qs : List Placed). eqb (here end qs) n) (from_off n p ps e) ∙ f)
      go h false false e f =
          let k = ltb-false p.start n e in
          let z = eqb-false p.start n f in
          early (tiled_more {p = p} {ps = ps} l c) n (omega (arith, k, z)) ∙ sym (ap (λ (qs : List Placed). eqb (here end qs) n) (from_off n p ps e) ∙ f)

  pub passes-fits : (ps : List Placed) (words : List ℕ) → Tiled stop 0 ps → passes end words ps ≡ fits end ps words
  unfolding passes
  passes-fits ps words c = both_ways (passes end words ps) (fits end ps words) there back
    where
      B : From end ps 0 ps
      B n l = tiled_bounded c n

      L : Below end ps
      L = tiled_below c

      there : passes end words ps ≡ true → fits end ps words ≡ true
      there e =
          let h = and_true (eqb (length (statements words).1) 0) (outline_pass end (statements words).0 ps) e in
          let r = pass_says end ps 0 (statements words).0 ps B (omega arith) L h.1 in
          says_fits end ps words (record {
            exact = h.0;
            kinds = r.kinds;
            apart = r.apart;
            parts = r.parts;
            bounds = r.bounds;
            covered = r.covered;
            used = r.used;
            outside = r.outside;
            balance = r.balance;
          })

      back : fits end ps words ≡ true → passes end words ps ≡ true
      back e =
          let f = fits_says end ps words e in
          let o = rest_pass end ps 0 (statements words).0 ps B L (record {
            kinds = f.kinds;
            apart = f.apart;
            parts = f.parts;
            bounds = f.bounds;
            covered = f.covered;
            used = f.used;
            outside = f.outside;
            balance = f.balance;
          }) in
          simp (f.exact, o)
