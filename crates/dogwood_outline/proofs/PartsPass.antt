-- The pass over a statement's parts, and what the rules say of them.
use mathlib.Core.Path.{◌≡◌, refl, sym, ◌∙◌, ap}
use mathlib.Core.Bool.{Bool, true, ◌&&◌, ◌||◌, or-false, or_assoc}
use mathlib.Core.List.{List, [], ◌∷◌}
use Prim.Native.Nat.{ℕ, ◌≤◌}
use native.Mathlib.Omega.{arith}
use lib.Dec.{leb, ltb, eqb}
use borrow.Author.Tests.{ltb-true, leb-true, le-leb}
use Rattle.dogwood_rules.specs.Basic.{every, some?}
use Rattle.dogwood_rules.specs.Token.{Placed, tokens}
use Rattle.dogwood_rules.specs.Outline.{Span, up_to, from, within, beyond, parts_of, plain, gaps_ok, ascending, balanced, boundary, boundaries}
use Rattle.dogwood_rules.proofs.Below.{and_true}
use Rattle.dogwood_outline.specs.Pass.{quiet, here, stands, spoken, gap, part, parts_pass}
use Rattle.dogwood_outline.proofs.Spans.{from_from, up_to-up_to, from_up_to, some_split, quiet_none, stands-le, stands_here}

-- One part --------------------------------------------------------------------------------------------------------

module _ (s : Span) (ss : List Span) (b : ℕ) (ps : List Placed) where
  -- the tokens from a part's start on, and behind it
  abbrev pub inside : List Placed
  inside = from s.start ps

  abbrev pub after : List Placed
  after = from s.stop (from s.start ps)

  module _ (l : s.start ≤ s.stop) (m : s.stop ≤ b) where
    pub beyond_step : beyond s (up_to b ps) ≡ up_to b after
    unfolding beyond
    beyond_step = ap (from s.stop) (from_up_to s.start b ps (omega arith)) ∙ from_up_to s.stop b inside m

    pub within_step : within s (up_to b ps) ≡ up_to s.stop inside
    unfolding within
    within_step = ap (up_to s.stop) (from_up_to s.start b ps (omega arith)) ∙ up_to-up_to s.stop b inside m

    pub gaps_step : gaps_ok (s ∷ ss) (up_to b ps) ≡ every quiet (tokens (up_to s.start ps)) && gaps_ok ss (up_to b after)
    unfolding gaps_ok
    gaps_step = simp (up_to-up_to s.start b ps (omega arith), beyond_step)

    pub balance_step : every (balanced 0) (parts_of (s ∷ ss) (up_to b ps)) ≡ balanced 0 (tokens (up_to s.stop inside)) && every (balanced 0) (parts_of ss (up_to b after))
    unfolding parts_of
    balance_step = simp (within_step, beyond_step)

    pub word_step : every quiet (tokens (up_to s.start ps)) ≡ true
        → some? plain (tokens (up_to b ps)) ≡ some? plain (tokens (up_to s.stop inside)) || some? plain (tokens (up_to b after))
    word_step q =
        some_split s.start b ps (omega arith)
        ∙ ap (λ (x : Bool). x || some? plain (tokens (up_to b inside))) (quiet_none (tokens (up_to s.start ps)) q)
        ∙ some_split s.stop b inside m

-- All parts -------------------------------------------------------------------------------------------------------

module _ (end : ℕ) (all : List Placed) where
  -- in some tokens of the text, a place from their first on is a boundary exactly where it stands among them
  abbrev pub Bounded : List Placed → Type 0
  Bounded ps = (n : ℕ) → here end ps ≤ n → boundary end all n ≡ stands end n ps

  -- the tokens from a place on that stands, in tokens of which that holds from some place on
  pub bounded_from : (low n : ℕ) (ps : List Placed) → ((m : ℕ) → low ≤ m → boundary end all m ≡ stands end m ps) → low ≤ n → stands end n ps ≡ true → Bounded (from n ps)
  bounded_from low n ps h k e m l =
      let b = stands_here end n ps e in
      h m (omega arith) ∙ ap (λ (qs : List Placed). eqb (here end qs) m) (sym (from_from n m ps (omega arith)))

  pub record PartsOk (ss : List Span) (b : ℕ) (seen : Bool) (ps : List Placed) : Type 0 where
    pub apart : ascending (here end ps) b ss ≡ true
    pub bounds : every (boundaries end all) ss ≡ true
    pub stop : boundary end all b ≡ true
    pub covered : gaps_ok ss (up_to b ps) ≡ true
    pub balance : every (balanced 0) (parts_of ss (up_to b ps)) ≡ true
    pub used : seen || some? plain (tokens (up_to b ps)) ≡ true
    pub room : here end ps ≤ b

  pub parts_say : (ss : List Span) (b : ℕ) (seen : Bool) (ps : List Placed) → Bounded ps → parts_pass end ss b seen ps ≡ true → PartsOk ss b seen ps
  unfolding parts_pass gap part spoken gaps_ok ascending boundaries parts_of
  parts_say [] b seen ps B e =
      let h = and_true seen (gap end b ps) e in
      let g = and_true (every quiet (tokens (up_to b ps))) (stands end b ps) h.1 in
      let r = stands-le end b ps g.1 in
      record { apart = refl; bounds = refl; stop = B b r ∙ g.1; covered = g.0; balance = refl; used = simp h.0; room = r }
  parts_say (s ∷ ss) b seen ps B e =
      let ps₁ = from s.start ps in
      let ps₂ = from s.stop ps₁ in
      let qu = every quiet (tokens (up_to s.start ps)) in
      let ba = balanced 0 (tokens (up_to s.stop ps₁)) in
      let some₁ = some? plain (tokens (up_to s.stop ps₁)) in
      let rest = parts_pass end ss b (seen || some₁) ps₂ in
      let h₀ = and_true (ltb s.start s.stop) ((qu && stands end s.start ps) && ((ba && stands end s.stop ps₁) && rest)) e in
      let h₁ = and_true (qu && stands end s.start ps) ((ba && stands end s.stop ps₁) && rest) h₀.1 in
      let h₂ = and_true (ba && stands end s.stop ps₁) rest h₁.1 in
      let g = and_true qu (stands end s.start ps) h₁.0 in
      let k = and_true ba (stands end s.stop ps₁) h₂.0 in
      let B₁ = bounded_from (here end ps) s.start ps B (stands-le end s.start ps g.1) g.1 in
      let B₂ = bounded_from (here end ps₁) s.stop ps₁ B₁ (stands-le end s.stop ps₁ k.1) k.1 in
      let ih = parts_say ss b (seen || some₁) ps₂ B₂ h₂.1 in
      let lt = ltb-true s.start s.stop h₀.0 in
      let low = stands-le end s.start ps g.1 in
      let at₁ = stands_here end s.start ps g.1 in
      let at₂ = stands_here end s.stop ps₁ k.1 in
      let l : s.start ≤ s.stop = omega arith in
      let m : s.stop ≤ b = omega (arith, ih.room, at₂) in
      let asc : ascending s.stop b ss ≡ true = ap (λ (n : ℕ). ascending n b ss) (sym at₂) ∙ ih.apart in
      let bo₁ : boundary end all s.start ≡ true = B s.start low ∙ g.1 in
      let bo₂ : boundary end all s.stop ≡ true = B₁ s.stop (omega (arith, at₁, l)) ∙ k.1 in
      record {
        apart = simp (le-leb (here end ps) s.start low, h₀.0, le-leb s.stop b m, asc);
        bounds = simp (bo₁, bo₂, ih.bounds);
        stop = ih.stop;
        covered = gaps_step s ss b ps l m ∙ simp (g.0, ih.covered);
        balance = balance_step s ss b ps l m ∙ simp (k.0, ih.balance);
        used = ap (λ (x : Bool). seen || x) (word_step s ss b ps l m g.0) ∙ sym (or_assoc seen some₁ (some? plain (tokens (up_to b ps₂)))) ∙ ih.used;
        room = omega (arith, low, l, m);
      }

  pub parts_pass_lem : (ss : List Span) (b : ℕ) (seen : Bool) (ps : List Placed) → Bounded ps → PartsOk ss b seen ps → parts_pass end ss b seen ps ≡ true
  unfolding parts_pass gap part spoken gaps_ok ascending boundaries parts_of
  parts_pass_lem [] b seen ps B p =
      let st : stands end b ps ≡ true = sym (B b p.room) ∙ p.stop in
      let no : seen ≡ true = sym (or-false seen) ∙ ap (λ (x : Bool). seen || x) (sym (quiet_none (tokens (up_to b ps)) p.covered)) ∙ p.used in
      simp (no, p.covered, st)
  parts_pass_lem (s ∷ ss) b seen ps B p =
      let ps₁ = from s.start ps in
      let ps₂ = from s.stop ps₁ in
      let qu = every quiet (tokens (up_to s.start ps)) in
      let ba = balanced 0 (tokens (up_to s.stop ps₁)) in
      let some₁ = some? plain (tokens (up_to s.stop ps₁)) in
      let a₀ = and_true (leb (here end ps) s.start && ltb s.start s.stop && leb s.stop b) (ascending s.stop b ss) p.apart in
      let a₁ = and_true (leb (here end ps) s.start && ltb s.start s.stop) (leb s.stop b) a₀.0 in
      let a₂ = and_true (leb (here end ps) s.start) (ltb s.start s.stop) a₁.0 in
      let low = leb-true (here end ps) s.start a₂.0 in
      let lt = ltb-true s.start s.stop a₂.1 in
      let m = leb-true s.stop b a₁.1 in
      let l : s.start ≤ s.stop = omega arith in
      let c₀ = and_true (boundary end all s.start && boundary end all s.stop) (every (boundaries end all) ss) p.bounds in
      let c₁ = and_true (boundary end all s.start) (boundary end all s.stop) c₀.0 in
      let st₁ : stands end s.start ps ≡ true = sym (B s.start low) ∙ c₁.0 in
      let B₁ = bounded_from (here end ps) s.start ps B low st₁ in
      let at₁ = stands_here end s.start ps st₁ in
      let st₂ : stands end s.stop ps₁ ≡ true = sym (B₁ s.stop (omega (arith, at₁, l))) ∙ c₁.1 in
      let B₂ = bounded_from (here end ps₁) s.stop ps₁ B₁ (omega (arith, at₁, l)) st₂ in
      let at₂ = stands_here end s.stop ps₁ st₂ in
      let g = and_true qu (gaps_ok ss (up_to b ps₂)) (sym (gaps_step s ss b ps l m) ∙ p.covered) in
      let k = and_true ba (every (balanced 0) (parts_of ss (up_to b ps₂))) (sym (balance_step s ss b ps l m) ∙ p.balance) in
      let ih = parts_pass_lem ss b (seen || some₁) ps₂ B₂ (record {
        apart = ap (λ (n : ℕ). ascending n b ss) at₂ ∙ a₀.1;
        bounds = c₀.1;
        stop = p.stop;
        covered = g.1;
        balance = k.1;
        used = or_assoc seen some₁ (some? plain (tokens (up_to b ps₂))) ∙ ap (λ (x : Bool). seen || x) (sym (word_step s ss b ps l m g.0)) ∙ p.used;
        room = omega (arith, at₂, m);
      }) in
      simp (a₂.1, g.0, st₁, k.0, st₂, ih)
