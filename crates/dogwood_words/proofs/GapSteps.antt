-- The walk over a gap and the walk over a part, by the rows' steps.
use Rattle.std.specs.Prelude.{None, if◌then◌else◌}
use Rattle.std.specs.Bool.{then_some}
use mathlib.Core.Path.{◌≡◌, refl, sym, ◌∙◌, ap}
use mathlib.Core.Bool.{Bool, true, false, ◌&&◌, ◌||◌}
use mathlib.Core.List.{List, ◌∷◌}
use mathlib.Core.Option.{Option as Maybe, none, some}
use Prim.Native.Nat.{ℕ, suc, ◌+◌, ◌-◌, ◌<◌, ◌≤◌}
use native.Mathlib.Omega.{arith}
use lib.Dec.{leb, eqb}
use lib.ListN.{length, get_or, drop}
use borrow.Author.Tests.{lt-ltb, le-ltb, eq-eqb, ne_eqb}
use Rattle.dogwood_words.specs.declared.rows.Row.{Row}
use Rattle.dogwood_words.specs.declared.walks.Walked.{Walked}
use Rattle.dogwood_words.specs.Brackets.{opening, closing}
use Rattle.dogwood_words.specs.Search.{found_of}
use Rattle.dogwood_words.specs.Rows.{row_of, walked_of, gap_in, part_in}
use Rattle.dogwood_words.proofs.RowSteps.{few, Stands}

-- A gap ---------------------------------------------------------------------------------------------------------------

found_if : (b : Bool) (i : ℕ) → then_some b i ≡ found_of (if b then some i else none)
found_if true i = refl
found_if false i = refl

module _ (ws : List ℕ) (end n i : ℕ) where
  pub gap_ends : None ≡ row_of i (drop i ws) → then_some (eqb end n) i ≡ found_of (gap_in end n i (drop i ws))
  unfolding gap_in
  gap_ends e =
      let h = found_if (eqb end n) i in
      few (λ (l : List ℕ). then_some (eqb end n) i ≡ found_of (gap_in end n i l)) h (λ k. h) (λ k s. h) i (drop i ws) e

  module _ {r : Row} (t : Stands ws i r) where
    pub gap_meets : n ≤ r.start → then_some (eqb r.start n) i ≡ found_of (gap_in end n i (drop i ws))
    unfolding gap_in
    gap_meets h = found_if (eqb r.start n) i ∙ ap found_of (sym (ap (gap_in end n i) t.words ∙ simp (le-ltb r.start n h)))

    module _ (h : r.start < n) where
      pub gap_filled : true ≡ leb 2 r.kind → None ≡ found_of (gap_in end n i (drop i ws))
      unfolding gap_in
      gap_filled q =
          let g : gap_in end n i (r.kind ∷ r.start ∷ t.end ∷ drop r.next ws) ≡ none = simp (lt-ltb r.start n h, sym q) in
          ap found_of (sym (ap (gap_in end n i) t.words ∙ g))

      pub gap_on : false ≡ leb 2 r.kind → gap_in end n r.next (drop r.next ws) ≡ gap_in end n i (drop i ws)
      unfolding gap_in
      gap_on q = ap (λ (m : ℕ). gap_in end n m (drop r.next ws)) t.on ∙ sym (ap (gap_in end n i) t.words ∙ simp (lt-ltb r.start n h, sym q))

-- A part --------------------------------------------------------------------------------------------------------------

abbrev sound : Bool → ℕ → Walked
sound w i = record { seen = w; at = i }

walked_if : (b : Bool) (w : Bool) (i : ℕ) → then_some b (sound w i) ≡ walked_of (if b then some (w, i) else none)
walked_if true w i = refl
walked_if false w i = refl

module _ (text ws : List ℕ) (n d : ℕ) (w : Bool) (i : ℕ) where
  pub part_done : None ≡ row_of i (drop i ws) → {x : Bool} → x ≡ eqb d 0 && eqb (length text) n → then_some x (sound w i) ≡ walked_of (part_in text n d w i (drop i ws))
  unfolding part_in
  part_done e {x} q =
      let h : then_some x (sound w i) ≡ walked_of (if eqb d 0 && eqb (length text) n then some (w, i) else none) = ap (λ (y : Bool). then_some y (sound w i)) q ∙ walked_if (eqb d 0 && eqb (length text) n) w i in
      few (λ (l : List ℕ). then_some x (sound w i) ≡ walked_of (part_in text n d w i l)) h (λ k. h) (λ k s. h) i (drop i ws) e

  module _ {r : Row} (t : Stands ws i r) where
    pub part_stop : n ≤ r.start → {x : Bool} → x ≡ eqb d 0 && eqb r.start n → then_some x (sound w i) ≡ walked_of (part_in text n d w i (drop i ws))
    unfolding part_in
    part_stop h e =
        let b = eqb d 0 && eqb r.start n in
        let g : part_in text n d w i (r.kind ∷ r.start ∷ t.end ∷ drop r.next ws) ≡ if b then some (w, i) else none = simp (le-ltb r.start n h) in
        ap (λ (y : Bool). then_some y (sound w i)) e ∙ walked_if b w i ∙ ap walked_of (sym (ap (part_in text n d w i) t.words ∙ g))

    -- behind a token that begins with the byte first and is plain or not, which is an opener, a closer, or neither
    module _ (l : r.start < n) {first : ℕ} (f : first ≡ get_or text r.start 0) {plain : Bool} (p : plain ≡ leb 2 r.kind) where
      abbrev turn : ℕ → Bool → Bool → Bool → Maybe (Bool × ℕ)
      turn m x o c =
          if o then part_in text n (suc d) (w || x) m (drop r.next ws)
          else if c then if eqb d 0 then none else part_in text n (d - 1) (w || x) m (drop r.next ws)
          else part_in text n d (w || x) m (drop r.next ws)

      turned : {o c : Bool} → o ≡ opening r.kind first → c ≡ closing r.kind first → part_in text n d w i (drop i ws) ≡ turn r.next plain o c
      unfolding part_in
      turned o c =
          ap (part_in text n d w i) t.words
          ∙ ap (λ (b : Bool). if b then turn (i + 3) (leb 2 r.kind) (opening r.kind (get_or text r.start 0)) (closing r.kind (get_or text r.start 0)) else if eqb d 0 && eqb r.start n then some (w, i) else none) (lt-ltb r.start n l)
          ∙ (λ j. turn (sym t.on j) (sym p j) (opening r.kind (sym f j)) (closing r.kind (sym f j)))
          ∙ (λ j. turn r.next plain (sym o j) (sym c j))

      pub part_open : true ≡ opening r.kind first → part_in text n (d + 1) (w || plain) r.next (drop r.next ws) ≡ part_in text n d w i (drop i ws)
      part_open o = sym (turned o refl ∙ ap (λ (m : ℕ). part_in text n m (w || plain) r.next (drop r.next ws)) (more d))
        where
          more : (d : ℕ) → suc d ≡ d + 1
          more d = omega arith

      module _ (o : false ≡ opening r.kind first) where
        module _ (c : true ≡ closing r.kind first) where
          pub part_under : (1 ≤ d → ⊥) → None ≡ walked_of (part_in text n d w i (drop i ws))
          part_under z = let g : turn r.next plain false true ≡ none = simp (eq-eqb d 0 (omega arith)) in ap walked_of (sym (turned o c ∙ g))

          pub part_close : {m : ℕ} → (1 ≤ d) × (m ≡ d - 1) → part_in text n m (w || plain) r.next (drop r.next ws) ≡ part_in text n d w i (drop i ws)
          part_close z = ap (λ (m : ℕ). part_in text n m (w || plain) r.next (drop r.next ws)) z.1 ∙ sym (turned o c ∙ simp (ne_eqb d 0 (λ (e : d ≡ 0). omega arith)))

        pub part_on : false ≡ closing r.kind first → part_in text n d (w || plain) r.next (drop r.next ws) ≡ part_in text n d w i (drop i ws)
        part_on c = sym (turned o c)
