-- Testing an outline alone, by what tokenising alone answered.
use Rattle.std.specs.Prelude.{Result, if◌then◌else◌}
use mathlib.Core.Path.{◌≡◌, refl, sym, ◌∙◌, ap, subst}
use mathlib.Core.Bool.{Bool, true, false}
use mathlib.Core.List.{List}
use Prim.Native.Nat.{ℕ, ◌-◌, ◌*◌, ◌≤◌}
use native.Mathlib.Omega.{arith}
use lib.Dec.{ltb}
use lib.ListN.{length, take, drop, length-append}
use lib.Seq.{take-append_seam}
use borrow.Author.Tests.{ltb-false}
use Rattle.dogwood_rules.specs.Utf8.{mark_of, text_of}
use Rattle.dogwood_rules.specs.Token.{Placed, words_of}
use Rattle.dogwood_rules.specs.Source.{Source, too_long, not_utf8, unended, cut_into, source_of}
use Rattle.dogwood_rules.specs.Outline.{fits}
use Rattle.dogwood_rules.specs.Alone.{Alone, stopped, told, total, tokenised, verdict, tested}
use Rattle.dogwood_rules.specs.Promises.{Tokenises, Tests, over}
use Rattle.dogwood_rules.proofs.Wholes.{source_whole}
use Rattle.dogwood_syntax.specs.declared.tokenizing.NotTokenized.{NotTokenized}
use Rattle.dogwood_syntax.specs.declared.tokenizing.NotTokenized.TheVariants.{Unended, TooLong, NotUtf8, Small}
use Rattle.dogwood_syntax.specs.Numbers.{refusal_number, number, value}
use Rattle.dogwood_syntax.proofs.Filling.{length_words}
use Rattle.dogwood_outline.specs.Pass.{placed_in}
use Rattle.dogwood_outline.specs.Table.{fits_in}
use Rattle.dogwood_outline.proofs.Judgements.{fits-table}

-- any answer but 0 is the same, whatever is told of the tokens
same_refusal : (room : ℕ) (f : List Placed → Alone) (x : Source) → ((told room total x).number ≡ 0 → ⊥) → told room f x ≡ told room total x
unfolding told total stopped
same_refusal room f too_long n = refl
same_refusal room f (not_utf8 place) n = refl
same_refusal room f (unended before place) n = refl
same_refusal room f (cut_into ps) n = by (ltb room (3 * length ps)) refl
  where
    by : (b : Bool) → ltb room (3 * length ps) ≡ b → told room f (cut_into ps) ≡ told room total (cut_into ps)
    by true e = simp e
    by false e = absurd (n (simp e))

-- after 0 the source is cut into tokens for which there is room
pub record Cut (room : ℕ) (x : Source) : Type 0 where
  pub ps : List Placed
  pub is : x ≡ cut_into ps
  pub ample : 3 * length ps ≤ room
  pub tells : (f : List Placed → Alone) → told room f x ≡ f ps

pub cut_of : (room : ℕ) (x : Source) → (told room total x).number ≡ 0 → Cut room x
unfolding told total stopped
cut_of room too_long e = absurd (omega arith)
cut_of room (not_utf8 place) e = absurd (omega arith)
cut_of room (unended before place) e = absurd (omega arith)
cut_of room (cut_into ps) e = by (ltb room (3 * length ps)) refl
  where
    by : (b : Bool) → ltb room (3 * length ps) ≡ b → Cut room (cut_into ps)
    by true q = absurd (let z : 13 ≡ 0 = rw q at e in omega arith)
    by false q = record { ps = ps; is = refl; ample = ltb-false room (3 * length ps) q; tells = λ (f : List Placed → Alone). simp q }

-- no refusal is 0
pub refusal_some : (e : NotTokenized) → refusal_number e ≡ 0 → ⊥
refusal_some (Unended i) q = omega arith
refusal_some TooLong q = omega arith
refusal_some (NotUtf8 i) q = omega arith
refusal_some (Small n) q = omega arith

module _ (source table T : List ℕ) {x : Result ℕ NotTokenized} (y : Result ℕ NotTokenized) (q : x ≡ y) (t : Tokenises source table (number x) (value x) T) where
  pub kept : Tokenises source table (number y) (value y) T
  kept = subst (λ (z : Result ℕ NotTokenized). Tokenises source table (number z) (value z) T) q t

  pub refused_kept : (outline : List ℕ) → (number y ≡ 0 → ⊥) → Tests source outline table (number y) (value y) T
  unfolding tokenised tested
  refused_kept outline z =
      let k = kept in
      let e = same_refusal (length table) (verdict (length (text_of source)) outline) (source_of source) (λ (h : (told (length table) total (source_of source)).number ≡ 0). z (k.numbered ∙ h)) in
      record {
        numbered = k.numbered ∙ ap (λ (a : Alone). a.number) (sym e);
        valued = k.valued ∙ ap (λ (a : Alone). a.value) (sym e);
        tabled = k.tabled ∙ ap (λ (a : Alone). over a.table table) (sym e);
      }

  -- the tokens stand in the table
  module _ (o : number y ≡ 0) where
    pub cut : Cut (length table) (source_of source)
    unfolding tokenised
    cut = cut_of (length table) (source_of source) (sym kept.numbered ∙ o)

    pub same_places : cut.ps ≡ placed_in (text_of source)
    unfolding placed_in
    same_places = (source_whole source cut.ps cut.is).cut

    pub filled : T ≡ over (words_of (placed_in (text_of source))) table
    unfolding tokenised total
    filled = kept.tabled ∙ ap (λ (a : Alone). over a.table table) (cut.tells total) ∙ ap (λ (ps : List Placed). over (words_of ps) table) same_places

    counted : value y ≡ length (placed_in (text_of source))
    unfolding tokenised total
    counted = kept.valued ∙ ap (λ (a : Alone). a.value) (cut.tells total) ∙ ap (λ (ps : List Placed). length ps) same_places

    pub roomy : 3 * value y ≤ length table
    roomy = let a = cut.ample in let e = ap (λ (ps : List Placed). length ps) same_places in let c = counted in omega arith

    pub ample : 3 * value y ≤ length T
    ample =
        let f = ap length filled in
        let l = length-append (words_of (placed_in (text_of source))) (drop (length (words_of (placed_in (text_of source)))) table) in
        let w = length_words (placed_in (text_of source)) in
        let c = counted in
        omega arith

    -- the part of the table that was filled
    pub part_filled : take (3 * value y - 0) (drop 0 T) ≡ words_of (placed_in (text_of source))
    part_filled =
        let ps = placed_in (text_of source) in
        let n : 3 * value y - 0 ≡ length (words_of ps) = let w = length_words ps in let c = counted in omega arith in
        (λ i. take (n i) (filled i)) ∙ take-append_seam (words_of ps) (drop (length (words_of ps)) table)

    pub fit_kept : (outline : List ℕ) {behind : List ℕ} {b : Bool} → behind ≡ text_of source
        → b ≡ fits_in behind (take (3 * value y) T) outline → Tests source outline table (if b then 0 else 4) 0 T
    unfolding tokenised tested verdict total
    fit_kept outline {behind} {b} m h =
        let text = text_of source in
        let whole : 3 * value y ≡ 3 * value y - 0 = omega arith in
        let e = cut.tells (verdict (length text) outline) in
        let f : b ≡ fits (length text) (placed_in text) outline = h ∙ (λ i. fits_in (m i) ((ap (λ (n : ℕ). take n T) whole ∙ part_filled) i) outline) ∙ fits-table text outline in
        record {
          numbered = ap (λ (c : Bool). if c then 0 else 4) (f ∙ ap (λ (ps : List Placed). fits (length text) ps outline) (sym same_places)) ∙ sym (ap (λ (a : Alone). a.number) e);
          valued = sym (ap (λ (a : Alone). a.value) e);
          tabled = kept.tabled ∙ ap (λ (a : Alone). over a.table table) (cut.tells total) ∙ sym (ap (λ (a : Alone). over a.table table) e);
        }
