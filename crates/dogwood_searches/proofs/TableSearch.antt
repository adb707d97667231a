-- The searches over a table's words, row by row.
use Rattle.std.specs.Prelude.{None, Some, if◌then◌else◌}
use mathlib.Core.Path.{◌≡◌, refl, sym, ◌∙◌, ap}
use mathlib.Core.Bool.{Bool, true, false}
use mathlib.Core.List.{List, ◌∷◌}
use mathlib.Core.Option.{Option as Maybe, none, some}
use Prim.Native.Nat.{ℕ, suc, ◌+◌, ◌*◌, ◌-◌, ◌<◌, ◌≤◌}
use native.Mathlib.Omega.{arith}
use lib.Dec.{ltb, eqb}
use lib.ListN.{length, get_or, drop}
use borrow.Author.Tests.{lt-ltb, le-ltb, ltb-true, ltb-false, eq-eqb, ne_eqb}
use Rattle.dogwood_rules.specs.Outline.{Statement, statement, statements}
use Rattle.dogwood_rules.specs.Searches.{or_else}
use Rattle.dogwood_words.specs.declared.rows.Row.{Row}
use Rattle.dogwood_words.specs.declared.records.Record.{Record}
use Rattle.dogwood_words.specs.Brackets.{opening, closing}
use Rattle.dogwood_words.specs.Records.{statement_at, record_at}
use Rattle.dogwood_words.specs.Search.{found_of}
use Rattle.dogwood_words.specs.Rows.{row_of, skip_in}
use Rattle.dogwood_searches.specs.Searches.{comment_before, deep_in, first_comment_in}
use Rattle.dogwood_words.proofs.RowSteps.{few, Stands}
use Rattle.dogwood_words.proofs.Founds.{found_none, found_some}
use Rattle.dogwood_words.proofs.Words.{records_end, records_stop, records_more, said, unsaid}

-- A comment ------------------------------------------------------------------------------------------------------------

module _ (ws : List ℕ) (n i : ℕ) where
  pub comment_done : None ≡ row_of i (drop i ws) → none ≡ comment_before n (drop i ws)
  unfolding comment_before
  comment_done e = few (λ (l : List ℕ). none ≡ comment_before n l) refl (λ k. refl) (λ k s. refl) i (drop i ws) e

  module _ {r : Row} (t : Stands ws i r) where
    pub comment_stop : n ≤ r.start → none ≡ comment_before n (drop i ws)
    unfolding comment_before
    comment_stop h = sym (ap (comment_before n) t.words ∙ simp (le-ltb r.start n h))

    module _ (h : r.start < n) where
      pub comment_here : r.kind ≡ 1 → some r.start ≡ comment_before n (drop i ws)
      unfolding comment_before
      comment_here e = sym (ap (comment_before n) t.words ∙ simp (lt-ltb r.start n h, eq-eqb r.kind 1 e))

      pub comment_on : (r.kind ≡ 1 → ⊥) → comment_before n (drop r.next ws) ≡ comment_before n (drop i ws)
      unfolding comment_before
      comment_on e = sym (ap (comment_before n) t.words ∙ simp (lt-ltb r.start n h, ne_eqb r.kind 1 e))

-- A deep opener --------------------------------------------------------------------------------------------------------

module _ (text ws : List ℕ) (d i : ℕ) where
  pub deep_done : None ≡ row_of i (drop i ws) → none ≡ deep_in text d (drop i ws)
  unfolding deep_in
  deep_done e = few (λ (l : List ℕ). none ≡ deep_in text d l) refl (λ k. refl) (λ k s. refl) i (drop i ws) e

  -- behind a token that begins with the byte first, which is an opener, a closer, or neither
  module _ {k s e : ℕ} {us : List ℕ} (t : drop i ws ≡ k ∷ s ∷ e ∷ us) {first : ℕ} (f : first ≡ get_or text s 0) where
    abbrev turn : Bool → Bool → Maybe ℕ
    turn o c =
        if o then if eqb d 64 then some s else deep_in text (suc d) us
        else if c then deep_in text (d - 1) us
        else deep_in text d us

    turned : {o c : Bool} → o ≡ opening k first → c ≡ closing k first → turn o c ≡ deep_in text d (drop i ws)
    unfolding deep_in
    turned o c = (λ x. turn (o x) (c x)) ∙ (λ x. turn (opening k (f x)) (closing k (f x))) ∙ ap (deep_in text d) (sym t)

    module _ (o : true ≡ opening k first) where
      pub deep_here : d ≡ 64 → some s ≡ deep_in text d (drop i ws)
      deep_here e = let g : turn true (closing k first) ≡ some s = simp (eq-eqb d 64 e) in sym g ∙ turned o refl

      pub deep_open : (d ≡ 64 → ⊥) → deep_in text (d + 1) us ≡ deep_in text d (drop i ws)
      deep_open e =
          let g : turn true (closing k first) ≡ deep_in text (suc d) us = simp (ne_eqb d 64 e) in
          ap (λ (m : ℕ). deep_in text m us) (more d) ∙ sym g ∙ turned o refl
        where
          more : (d : ℕ) → d + 1 ≡ suc d
          more d = omega arith

    module _ (o : false ≡ opening k first) where
      pub deep_close : true ≡ closing k first → {m : ℕ} → m ≡ d - 1 → deep_in text m us ≡ deep_in text d (drop i ws)
      deep_close c e = ap (λ (m : ℕ). deep_in text m us) e ∙ turned o c

      pub deep_on : false ≡ closing k first → deep_in text d us ≡ deep_in text d (drop i ws)
      deep_on c = turned o c

-- Record by record -----------------------------------------------------------------------------------------------------

module _ (table ws : List ℕ) (at i : ℕ) where
  abbrev pub comments_left : Maybe ℕ
  comments_left = first_comment_in table (statements (drop i ws)).0 at

  pub comments_end : length ws ≤ i → comments_left ≡ none
  unfolding first_comment_in
  comments_end h = ap (λ (r : List Statement × List ℕ). first_comment_in table r.0 at) (records_end ws i h)

  module _ (h : i < length ws) where
    comments_short : statement (drop i ws) ≡ none → comments_left ≡ none
    unfolding first_comment_in
    comments_short e = ap (λ (r : List Statement × List ℕ). first_comment_in table r.0 at) (records_stop ws i h e)

-- what a record leaves that ends at b, where its tokens begin at word j and the next record at word next
module _ (table ws : List ℕ) where
  abbrev pub comments_from : ℕ → ℕ → ℕ → Maybe ℕ
  comments_from j b next = or_else (comment_before b (drop j table)) (first_comment_in table (statements (drop next ws)).0 (skip_in b j (drop j table)))

module _ (table ws : List ℕ) (at i : ℕ) (h : i < length ws) where
  comments_step : statement (drop i ws) ≡ some (statement_at ws i, 3 + 2 * get_or ws (i + 3) 0)
      → comments_left table ws at i
      ≡ comments_from table ws (skip_in (get_or ws (i + 1) 0) at (drop at table)) (get_or ws (i + 2) 0) (i + 4 + 2 * get_or ws (i + 3) 0)
  unfolding first_comment_in statement_at
  comments_step e = ap (λ (r : List Statement × List ℕ). first_comment_in table r.0 at) (records_more ws i h (statement_at ws i) (get_or ws (i + 3) 0) e)

module _ (table ws : List ℕ) (at i : ℕ) where
  pub comments_none : None ≡ record_at ws i → none ≡ comments_left table ws at i
  comments_none e = by (ltb i (length ws)) refl
    where
      by : (b : Bool) → ltb i (length ws) ≡ b → none ≡ comments_left table ws at i
      by true h = sym (comments_short table ws at i (ltb-true i (length ws) h) (unsaid ws i e))
      by false h = sym (comments_end table ws at i (ltb-false i (length ws) h))

  module _ {r : Record} (q : Some r ≡ record_at ws i) {j : ℕ} (k : j ≡ skip_in r.start at (drop at table)) where
    step : comments_left table ws at i ≡ comments_from table ws j r.end r.next
    step =
        let s = said ws i q in
        comments_step table ws at i (let p = s.room in omega arith) s.stated
        ∙ ap (λ (x : Record). comments_from table ws (skip_in x.start at (drop at table)) x.end x.next) (sym s.is)
        ∙ ap (λ (m : ℕ). comments_from table ws m r.end r.next) (sym k)

    pub comments_here : {n : ℕ} → Some n ≡ found_of (comment_before r.end (drop j table)) → some n ≡ comments_left table ws at i
    unfolding or_else
    comments_here e = sym (step ∙ rw (found_some (comment_before r.end (drop j table)) e) refl)

    pub comments_on : {m : ℕ} → None ≡ found_of (comment_before r.end (drop j table)) → m ≡ skip_in r.end j (drop j table) → comments_left table ws m r.next ≡ comments_left table ws at i
    unfolding or_else
    comments_on e l = sym (step ∙ rw (found_none (comment_before r.end (drop j table)) e) (ap (first_comment_in table (statements (drop r.next ws)).0) (sym l)))
