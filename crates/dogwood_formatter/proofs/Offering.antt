-- What is offered to an output: written whole, or not at all.
use Rattle.std.specs.Prelude.{if◌then◌else◌}
use mathlib.Core.Path.{◌≡◌, sym, ◌∙◌, ap, subst}
use mathlib.Core.Bool.{Bool, true, false}
use mathlib.Core.List.{List, [], ◌∷◌, ◌++◌}
use Prim.Native.Nat.{ℕ, ◌+◌, ◌-◌, ◌<◌, ◌≤◌}
use native.Mathlib.Omega.{arith}
use lib.ListN.{length, take, drop, length-append}
use borrow.Author.Tests.{le-leb, lt-leb}
use borrow.Rule.Slice.PartMut.{put_mid}
use Rattle.pen.specs.Over.{cap, Wrote, over as written_over}
use Rattle.pen.proofs.Laws.{over-fits, over-part, length_over}
use Rattle.dogwood_rules.specs.Utf8.{encode, marked, mark_of, text_of}
use Rattle.dogwood_rules.specs.Outline.{statements}
use Rattle.dogwood_rules.specs.File.{pieces, join_pieces}
use Rattle.dogwood_rules.specs.Promises.{over}
use Rattle.dogwood_rules.proofs.Files.{AllSane}
use Rattle.dogwood_layout.specs.declared.Page.{Page}
use Rattle.dogwood_layout.specs.View.{Ready}
use Rattle.dogwood_layout.specs.Pieces.{settings, Bounded, WroteText}
use Rattle.dogwood_layout.specs.Places.{entries}
use Rattle.dogwood_formatter.specs.Offers.{Offered}
use Rattle.dogwood_layout.proofs.Totals.{file_bound}

-- there is room
pub offered_all : (bytes old : List ℕ) {r : ℕ} {new : List ℕ} → r ≡ length bytes → length bytes ≤ length old → new ≡ written_over old bytes → Offered bytes old r new
offered_all bytes old e h w =
    record {
      count = e;
      written = w ∙ over-fits old bytes h ∙ ap (λ (b : Bool). if b then over bytes old else old) (sym (le-leb (length bytes) (length old) h));
    }

-- there is none
pub offered_none : (bytes old : List ℕ) {r : ℕ} {new : List ℕ} → r ≡ length bytes → length old < length bytes → new ≡ old → Offered bytes old r new
offered_none bytes old e h w = record { count = e; written = w ∙ ap (λ (b : Bool). if b then over bytes old else old) (sym (lt-leb (length bytes) (length old) h)) }

mark_short : (source : List ℕ) → length (mark_of source) ≤ 3
unfolding mark_of
mark_short source = by (marked source)
  where
    by : (t : Bool) → length {A = ℕ} (if t then 0xef ∷ 0xbb ∷ 0xbf ∷ [] else []) ≤ 3
    by true = omega arith
    by false = omega arith

-- The mark and the layout ------------------------------------------------------------------------------------------------

module _ (source outline ws : List ℕ) (p : Page) {mark text : List ℕ} (e : mark ≡ mark_of source) (f : text ≡ text_of source) where
  abbrev laid_text : List ℕ → List ℕ
  laid_text cs = join_pieces (settings p) (pieces (statements outline).0 (entries cs ws))

  abbrev Given : List ℕ → Type 0
  Given cs = Ready cs ws × ((statements outline).1 ≡ []) × AllSane (pieces (statements outline).0 (entries cs ws)) × Bounded p 0 (length ws)

  pub given_text : Given (text_of source) → Given text
  given_text g = subst Given (sym f) g

  abbrev whole : List ℕ
  whole = mark_of source ++ encode (laid_text (text_of source))

  pub mark_few : length mark ≤ 3
  mark_few = let l = ap length e in let h = mark_short source in omega arith

  module _ {old : List ℕ} {r : ℕ} {new : List ℕ} (w : WroteText (laid_text text) old r new) where
    pub size_whole : length mark + r ≡ length whole
    size_whole =
        let c : r ≡ length (encode (laid_text (text_of source))) = w.count ∙ ap (λ (cs : List ℕ). length (encode (laid_text cs))) f in
        let m = ap length e in
        let l = length-append (mark_of source) (encode (laid_text (text_of source))) in
        omega arith

    pub size_small : Given (text_of source) → r ≤ cap
    size_small g = let c = w.count in let b = file_bound p text ws outline (given_text g).0 (given_text g).3 (given_text g).2 in omega arith

  pub file_written : {old ys new : List ℕ} {n r : ℕ} → length whole ≤ length old → Wrote old mark n ys → WroteText (laid_text text) (take (length ys - length mark) (drop (length mark) ys)) r new
      → put_mid (length mark) (length ys - length mark) ys new ≡ written_over old whole
  file_written {old} {ys} {new} h a b =
      let m = ap length e in
      let front : ys ≡ written_over old (mark_of source) = a.bytes ∙ ap (written_over old) e in
      let l = ap length front ∙ length_over old (mark_of source) in
      let t = length-append (mark_of source) (encode (laid_text (text_of source))) in
      over-part old ys new (mark_of source) (encode (laid_text (text_of source))) (length mark) front (omega arith)
      (b.bytes ∙ ap (λ (cs : List ℕ). written_over (take (length ys - length mark) (drop (length mark) ys)) (encode (laid_text cs))) f)
