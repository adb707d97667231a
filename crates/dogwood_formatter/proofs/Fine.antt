-- What a verdict that refuses nothing gives the layout of a file.
use Rattle.std.specs.Prelude.{if◌then◌else◌}
use mathlib.Core.Path.{◌≡◌, refl, sym, ◌∙◌, ap, subst}
use mathlib.Core.Bool.{Bool, true, false}
use mathlib.Core.List.{List, [], ◌++◌}
use Prim.Native.Nat.{ℕ, ◌≤◌}
use native.Mathlib.Omega.{arith}
use lib.Dec.{ltb}
use lib.ListN.{length}
use borrow.Author.Tests.{ltb-true, ltb-false}
use Rattle.dogwood_rules.specs.Utf8.{encode, decode, mark_of, text_of}
use Rattle.dogwood_rules.specs.Token.{Placed, words_of}
use Rattle.dogwood_rules.specs.Layout.{house}
use Rattle.dogwood_rules.specs.Source.{Source, too_long, not_utf8, unended, cut_into, source_of}
use Rattle.dogwood_rules.specs.Outline.{statements}
use Rattle.dogwood_rules.specs.File.{pieces, join_pieces}
use Rattle.dogwood_rules.proofs.Files.{AllSane}
use Rattle.dogwood_rules.proofs.Sources.{source_long}
use Rattle.dogwood_rules.proofs.Wholes.{Whole, source_whole}
use Rattle.utf8.proofs.Mark.{length_text}
use Rattle.dogwood_outline.specs.Pass.{placed_in}
use Rattle.dogwood_outline.specs.Verdicts.{Judges}
use Rattle.dogwood_outline.proofs.Answers.{written, fine_says}
use Rattle.dogwood_layout.specs.declared.Page.{Page}
use Rattle.dogwood_layout.specs.View.{Ready}
use Rattle.dogwood_layout.specs.Pieces.{settings, Bounded}
use Rattle.dogwood_layout.specs.Places.{entries}
use Rattle.dogwood_formatter.specs.Offers.{Offered}
use Rattle.dogwood_formatter.proofs.Tokenised.{table_ready}
use Rattle.dogwood_formatter.proofs.Accepted.{table-entries, outline_exact, outline_sane}

abbrev is_cut : Source → Bool
is_cut too_long = false
is_cut (not_utf8 place) = false
is_cut (unended before place) = false
is_cut (cut_into ps) = true

cut_short : (source : List ℕ) (ps : List Placed) → source_of source ≡ cut_into ps → length source ≤ 1048576
cut_short source ps e = go (ltb 1048576 (length source)) refl
  where
    clash : false ≡ true → ⊥
    clash q = let z : ◌≡◌ {A = ℕ} 0 1 = ap (λ (b : Bool). if b then 1 else 0) q in omega arith

    go : (b : Bool) → ltb 1048576 (length source) ≡ b → length source ≤ 1048576
    go true q = absurd (clash (ap is_cut (sym (source_long source (ltb-true 1048576 (length source) q)) ∙ e)))
    go false q = ltb-false 1048576 (length source) q

-- 01's page
abbrev page : Page
page = record { width = 80; indent = 2 }

module _ (source outline table : List ℕ) (given : (source_of source ≡ cut_into (placed_in (text_of source))) × (table ≡ words_of (placed_in (text_of source)))) where
  abbrev text : List ℕ
  text = text_of source

  whole : Whole source (placed_in text)
  whole = source_whole source (placed_in text) given.0

  read : decode text ≡ ((decode text).0, [])
  read i = ((decode text).0, whole.valid i)

  same_entries : entries text table ≡ placed_in text
  unfolding placed_in
  same_entries = ap (entries text) given.1 ∙ table-entries text (decode text).0 read whole.ended

  -- the page is 01's
  pub fine_ready : Judges text outline 0 0 → Ready text table × ((statements outline).1 ≡ []) × AllSane (pieces (statements outline).0 (entries text table)) × Bounded page 0 (length table)
  unfolding placed_in
  fine_ready j =
      let f = fine_says text outline j in
      let l = length_text source in
      let s = cut_short source (placed_in text) given.0 in
      let small : length text ≤ 1048576 = omega arith in
      let ready : Ready text table = subst (Ready text) (sym given.1) (table_ready text (decode text).0 read whole.ended small) in
      let short = ready.short in (
        ready,
        outline_exact text (decode text).0 read whole.ended outline f.fit,
        subst (λ (t : List ℕ). AllSane (pieces (statements outline).0 (entries text t))) (sym given.1) (outline_sane text (decode text).0 read whole.ended outline f.fit f.quiet),
        record { indent = omega arith; width = omega arith; deep = omega arith },
      )

  pub fine_offered : {old new : List ℕ} {r : ℕ} → Offered (mark_of source ++ encode (join_pieces (settings page) (pieces (statements outline).0 (entries text table)))) old r new
      → Offered (written house source outline (placed_in text) 0) old r new
  fine_offered {old} {new} {r} o = subst (λ (ps : List Placed). Offered (mark_of source ++ encode (join_pieces house (pieces (statements outline).0 ps))) old r new) same_entries o
