-- From what tokenising, judging and offering say to what the whole call answers.
use Rattle.std.specs.Prelude.{Result, Err, if◌then◌else◌}
use mathlib.Core.Path.{◌≡◌, refl, sym, ◌∙◌, ap, subst}
use mathlib.Core.Bool.{Bool, true, false}
use mathlib.Core.List.{List, []}
use Prim.Native.Nat.{ℕ, ◌-◌, ◌*◌, ◌<◌, ◌≤◌}
use native.Mathlib.Omega.{arith}
use lib.Dec.{leb, ltb, eqb}
use lib.ListN.{length, take}
use borrow.Author.Tests.{le-leb, lt-leb}
use Rattle.dogwood_rules.specs.Utf8.{text_of}
use Rattle.dogwood_rules.specs.Token.{Placed, words_of}
use Rattle.dogwood_rules.specs.Layout.{house}
use Rattle.dogwood_rules.specs.Source.{Source, too_long, not_utf8, unended, cut_into, source_of}
use Rattle.dogwood_rules.specs.Alone.{Alone, stopped, told, total, tokenised}
use Rattle.dogwood_rules.specs.Answer.{Answer, checked, refused, answered, answer}
use Rattle.dogwood_rules.specs.Promises.{over, Tokenises, Answered}
use Rattle.dogwood_syntax.specs.declared.tokenizing.NotTokenized.{NotTokenized}
use Rattle.dogwood_syntax.specs.Numbers.{number as number_tokens, value}
use Rattle.dogwood_outline.specs.declared.judging.Objection.{Objection}
use Rattle.dogwood_outline.specs.declared.judging.Objection.TheVariants.{Misfit, Remarked, Empty, Deep}
use Rattle.dogwood_outline.specs.Pass.{placed_in}
use Rattle.dogwood_outline.specs.Verdicts.{Judges, number as number_judged, place as place_judged}
use Rattle.dogwood_outline.specs.Judges.{JudgesIn}
use Rattle.dogwood_outline.proofs.Judgements.{judges_table}
use Rattle.dogwood_outline.proofs.Outcomes.{kept as same-call, cut, same_places, filled, part_filled}
use Rattle.dogwood_outline.proofs.Answers.{written as written_under, answer-judged}
use Rattle.dogwood_formatter.specs.declared.format.NotFormatted.TheVariants.{NoRoom}
use Rattle.dogwood_formatter.specs.Numbers.{Formatted, number, place, length as written}
use Rattle.dogwood_formatter.specs.Offers.{Offered}
use Rattle.dogwood_formatter.specs.Settled.{Given, Settled}

-- Offered under a number and a place ---------------------------------------------------------------------------------------

module _ {bytes old new : List ℕ} {len : ℕ} (o : Offered bytes old len new) (n p : ℕ) where
  pub given_room : {r : Formatted} → len ≤ length old → number r ≡ n → place r ≡ p → written r ≡ length bytes → Given n p bytes old r new
  given_room {r} h a b w =
      let c = o.count in
      let fits : leb (length bytes) (length old) ≡ true = le-leb (length bytes) (length old) (omega arith) in
      record {
        numbered = a ∙ ap (λ (t : Bool). if t then n else 15) (sym fits);
        placed = b ∙ ap (λ (t : Bool). if t then p else length bytes) (sym fits);
        sized = w ∙ ap (λ (t : Bool). if t then length bytes else 0) (sym fits);
        output = o.written;
      }

  pub given_none : length old < len → Given n p bytes old (Err (NoRoom len)) new
  given_none h =
      let c = o.count in
      let none : leb (length bytes) (length old) ≡ false = lt-leb (length bytes) (length old) (omega arith) in
      record {
        numbered = ap (λ (t : Bool). if t then n else 15) (sym none);
        placed = c ∙ ap (λ (t : Bool). if t then p else length bytes) (sym none);
        sized = ap (λ (t : Bool). if t then length bytes else 0) (sym none);
        output = o.written;
      }

-- Judged behind the mark ---------------------------------------------------------------------------------------------------

abbrev Verdict : Type 0
Verdict = Result (Unit {0}) Objection

pub judged_as : (source outline : List ℕ) {text table : List ℕ} {v : Verdict} (w : Verdict) → table ≡ words_of (placed_in (text_of source)) → text ≡ text_of source → v ≡ w
    → JudgesIn text table outline (number_judged v) (place_judged v) → Judges (text_of source) outline (number_judged w) (place_judged w)
judged_as source outline {text} {table} {v} w k e q j =
    subst (λ (x : Verdict). Judges (text_of source) outline (number_judged x) (place_judged x)) q
    (judges_table (text_of source) outline (subst (λ (l : List ℕ). JudgesIn (text_of source) l outline (number_judged v) (place_judged v)) k (subst (λ (l : List ℕ). JudgesIn l table outline (number_judged v) (place_judged v)) e j)))

-- under an objection the source is handed back
objected : (source outline : List ℕ) (o : Objection) → written_under house source outline (placed_in (text_of source)) (number_judged (Err o)) ≡ source
objected source outline Misfit = refl
objected source outline (Remarked place) = refl
objected source outline Empty = refl
objected source outline (Deep place) = refl

pub objected_given : (source outline : List ℕ) {old new : List ℕ} {r : Formatted} (o : Objection) → Given (number_judged (Err o)) (place_judged (Err o)) source old r new
    → Given (number_judged (Err o)) (place_judged (Err o)) (written_under house source outline (placed_in (text_of source)) (number_judged (Err o))) old r new
objected_given source outline {old} {new} {r} o g = subst (λ (bytes : List ℕ). Given (number_judged (Err o)) (place_judged (Err o)) bytes old r new) (sym (objected source outline o)) g

-- The whole call -----------------------------------------------------------------------------------------------------------

module _ (source outline table old : List ℕ) where
  abbrev whole : Answer
  whole = answer house source outline (length table) (length old)

  abbrev held : ℕ → ℕ → List ℕ → List ℕ → Answer
  held = checked house source outline (length table) (length old)

  given-answered : (n p : ℕ) (bytes words : List ℕ) {T new : List ℕ} {r : Formatted} → whole ≡ held n p bytes words → T ≡ over words table → Given n p bytes old r new
      → Answered house source outline table old (number r) (place r) (written r) T new
  unfolding checked
  given-answered n p bytes words {T} {new} {r} e t g = go (leb (length bytes) (length old)) refl
    where
      go : (b : Bool) → leb (length bytes) (length old) ≡ b → Answered house source outline table old (number r) (place r) (written r) T new
      go true f =
          let a : whole ≡ record { number = n; place = p; output = bytes; table = words } = e ∙ simp f in
          record {
            numbered = g.numbered ∙ ap (λ (x : Bool). if x then n else 15) f ∙ sym (ap (λ (x : Answer). x.number) a);
            placed = g.placed ∙ ap (λ (x : Bool). if x then p else length bytes) f ∙ sym (ap (λ (x : Answer). x.place) a);
            sized = g.sized ∙ ap (λ (x : Bool). if x then length bytes else 0) f ∙ sym (ap (λ (x : Answer). length x.output) a);
            tabled = t ∙ sym (ap (λ (x : Answer). over x.table table) a);
            written = g.output ∙ ap (λ (x : Bool). if x then over bytes old else old) f ∙ sym (ap (λ (x : Answer). over x.output old) a);
          }
      go false f =
          let a : whole ≡ record { number = 15; place = length bytes; output = []; table = words } = e ∙ simp f in
          record {
            numbered = g.numbered ∙ ap (λ (x : Bool). if x then n else 15) f ∙ sym (ap (λ (x : Answer). x.number) a);
            placed = g.placed ∙ ap (λ (x : Bool). if x then p else length bytes) f ∙ sym (ap (λ (x : Answer). x.place) a);
            sized = g.sized ∙ ap (λ (x : Bool). if x then length bytes else 0) f ∙ sym (ap (λ (x : Answer). length x.output) a);
            tabled = t ∙ sym (ap (λ (x : Answer). over x.table table) a);
            written = g.output ∙ ap (λ (x : Bool). if x then over bytes old else old) f ∙ sym (ap (λ (x : Answer). over x.output old) a);
          }

  abbrev alone : Source → Alone
  alone x = told (length table) total x

  -- 11, 12, 1 and 13 are as tokenising alone has them
  record Stopped (x : Source) : Type 0 where
    answers : answered house source outline (length table) (length old) x
        ≡ (if eqb (alone x).number 1 then held 1 (alone x).value source [] else refused (alone x).number (alone x).value)
    clean : (alone x).table ≡ []

  stopped_as : (x : Source) → ((alone x).number ≡ 0 → ⊥) → Stopped x
  unfolding answered told total stopped
  stopped_as too_long n = record { answers = refl; clean = refl }
  stopped_as (not_utf8 at) n = record { answers = refl; clean = refl }
  stopped_as (unended before at) n = record { answers = refl; clean = refl }
  stopped_as (cut_into ps) n = by (ltb (length table) (3 * length ps)) refl
    where
      by : (b : Bool) → ltb (length table) (3 * length ps) ≡ b → Stopped (cut_into ps)
      by true e = record { answers = simp e; clean = simp e }
      by false e = absurd (n (simp e))

  module _ (T : List ℕ) {x : Result ℕ NotTokenized} (y : Result ℕ NotTokenized) (q : x ≡ y) (t : Tokenises source table (number_tokens x) (value x) T) where
    kept : Tokenises source table (number_tokens y) (value y) T
    kept = same-call source table T y q t

    stop : (number_tokens y ≡ 0 → ⊥) → Stopped (source_of source)
    unfolding tokenised
    stop z = stopped_as (source_of source) (λ (h : (alone (source_of source)).number ≡ 0). z (kept.numbered ∙ h))

    -- 11, 12, 13
    pub refused_answered : (number_tokens y ≡ 0 → ⊥) → eqb (number_tokens y) 1 ≡ false → Answered house source outline table old (number_tokens y) (value y) 0 T old
    unfolding tokenised answer refused
    refused_answered z o =
        let s = stop z in
        let k = kept in
        let a : whole ≡ refused (number_tokens y) (value y) =
        s.answers
        ∙ (λ i. if eqb (sym k.numbered i) 1 then held 1 (sym k.valued i) source [] else refused (sym k.numbered i) (sym k.valued i))
        ∙ simp o in
        record {
          numbered = sym (ap (λ (w : Answer). w.number) a);
          placed = sym (ap (λ (w : Answer). w.place) a);
          sized = sym (ap (λ (w : Answer). length w.output) a);
          tabled = k.tabled ∙ ap (λ (l : List ℕ). over l table) s.clean ∙ sym (ap (λ (w : Answer). over w.table table) a);
          written = sym (ap (λ (w : Answer). over w.output old) a);
        }

    -- 1
    pub unended_answered : number_tokens y ≡ 1 → {r : Formatted} {new : List ℕ} → Given 1 (value y) source old r new
        → Answered house source outline table old (number r) (place r) (written r) T new
    unfolding tokenised answer
    unended_answered o g =
        let s = stop (λ (h : number_tokens y ≡ 0). omega arith) in
        let k = kept in
        given-answered 1 (value y) source []
        (s.answers ∙ (λ i. if eqb ((sym k.numbered ∙ o) i) 1 then held 1 (sym k.valued i) source [] else refused ((sym k.numbered ∙ o) i) (sym k.valued i)))
        (k.tabled ∙ ap (λ (l : List ℕ). over l table) s.clean)
        g

    module _ (o : number_tokens y ≡ 0) where
      cut_text : source_of source ≡ cut_into (placed_in (text_of source))
      cut_text = (cut source table T y q t o).is ∙ ap cut_into (same_places source table T y q t o)

      -- the part of the table that was filled
      pub part_ready : (source_of source ≡ cut_into (placed_in (text_of source))) × (take (3 * value y) T ≡ words_of (placed_in (text_of source)))
      part_ready = (cut_text, let n : 3 * value y ≡ 3 * value y - 0 = omega arith in ap (λ (k : ℕ). take k T) n ∙ part_filled source table T y q t o)

      -- 4, 2, 3, 5, else 0
      pub settled_answered : {r : Formatted} {new : List ℕ} → Settled source outline old r new → Answered house source outline table old (number r) (place r) (written r) T new
      settled_answered s =
          let room : 3 * length (placed_in (text_of source)) ≤ length table = let a = (cut source table T y q t o).ample in let e = ap (λ (ps : List Placed). length ps) (same_places source table T y q t o) in omega arith in
          given-answered s.verdict s.location (written_under house source outline (placed_in (text_of source)) s.verdict) (words_of (placed_in (text_of source)))
          (answer-judged house source outline (length table) (length old) (placed_in (text_of source)) cut_text room s.judged)
          (filled source table T y q t o)
          s.given
