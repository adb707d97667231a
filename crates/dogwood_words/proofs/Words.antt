-- Reading an outline's words by their places is reading its records.
use Rattle.std.specs.Prelude.{None, Some}
use mathlib.Core.Path.{◌≡◌, refl, sym, ◌∙◌, ap}
use mathlib.Core.Bool.{Bool, true, false}
use mathlib.Core.List.{List, [], ◌∷◌}
use mathlib.Core.Option.{Option as Maybe, none, some}
use Prim.Native.Nat.{ℕ, zero, suc, ◌+◌, ◌*◌, ◌-◌, ◌/◌, ◌<◌, ◌≤◌}
use native.Mathlib.Omega.{arith}
use native.Mathlib.Numerals.{towards_suc}
use lib.ListN.{length, get_or, take, drop, length-drop, length-take, drop_of_length-le}
use lib.Seq.{drop-cons, drop-drop, take_all}
use Rattle.std.specs.List.{slice_range}
use Rattle.std.proofs.lemmas.List.{get_or-drop, get_or-take}
use Rattle.dogwood_rules.specs.Basic.{cut, cut_after}
use Rattle.dogwood_rules.specs.Outline.{Span, Statement, add_span, spans, with_parts, statement, statements}
use Rattle.dogwood_rules.proofs.Cutting.{cut_step, cut_stop, before}
use Rattle.dogwood_words.specs.declared.records.Record.{Record}
use Rattle.dogwood_words.specs.Records.{spans_at, spans_in, statement_at, reading_of, record_at}
use Rattle.dogwood_words.proofs.Founds.{none_some, some_same}
use borrow.Author.Tests.{leb-true, leb-false}
use lib.Dec.{leb}

module _ (ws : List ℕ) where
  one : (k : ℕ) → k < length ws → drop k ws ≡ get_or ws k 0 ∷ drop (k + 1) ws
  one k h = drop-cons ws k 0 h ∙ simp towards_suc

  spans_at_lem : (n k : ℕ) → k + 2 * n ≤ length ws → spans n (drop k ws) ≡ some (spans_at ws n k)
  unfolding spans spans_at add_span
  spans_at_lem zero k h = refl
  spans_at_lem (suc n) k h =
      ap (spans (suc n)) (one k (omega arith) ∙ ap (λ (l : List ℕ). get_or ws k 0 ∷ l) (one (k + 1) (omega arith)))
      ∙ ap (add_span (get_or ws k 0) (get_or ws (k + 1) 0)) (ap (λ (m : ℕ). spans n (drop m ws)) (plus_two k) ∙ spans_at_lem n (k + 2) (omega arith))
    where
      plus_two : (k : ℕ) → k + 1 + 1 ≡ k + 2
      plus_two k = omega arith

  -- the same spans, by pairs
  pub spans_pairs : (n k : ℕ) → k + 2 * n ≤ length ws → spans_in (take (2 * n) (drop k ws)) ≡ spans_at ws n k
  unfolding spans_in spans_at
  spans_pairs zero k h = refl
  spans_pairs (suc n) k h =
      let q : 2 * suc n ≡ suc (suc (2 * n)) = omega arith in
      let e : k + 1 + 1 ≡ k + 2 = omega arith in
      let w : drop k ws ≡ get_or ws k 0 ∷ get_or ws (k + 1) 0 ∷ drop (k + 2) ws = one k (omega arith) ∙ ap (λ (l : List ℕ). get_or ws k 0 ∷ l) (one (k + 1) (omega arith) ∙ ap (λ (m : ℕ). get_or ws (k + 1) 0 ∷ drop m ws) e) in
      (λ i. spans_in (take (q i) (w i))) ∙ ap (λ (l : List Span). record { start = get_or ws k 0; stop = get_or ws (k + 1) 0 } ∷ l) (spans_pairs n (k + 2) (omega arith))

spans_short : (n : ℕ) (l : List ℕ) → length l < 2 * n → spans n l ≡ none
unfolding spans add_span
spans_short zero l h = absurd (omega arith)
spans_short (suc n) [] h = refl
spans_short (suc n) (a ∷ []) h = refl
spans_short (suc n) (a ∷ b ∷ l) h = ap (add_span a b) (spans_short n l (omega arith))

statement_few : (l : List ℕ) → length l < 4 → statement l ≡ none
unfolding statement
statement_few [] h = refl
statement_few (a ∷ []) h = refl
statement_few (a ∷ b ∷ []) h = refl
statement_few (a ∷ b ∷ c ∷ []) h = refl
statement_few (a ∷ b ∷ c ∷ d ∷ l) h = absurd (omega arith)

module _ (ws : List ℕ) (i : ℕ) (h : i + 4 ≤ length ws) where
  four : drop i ws ≡ get_or ws i 0 ∷ get_or ws (i + 1) 0 ∷ get_or ws (i + 2) 0 ∷ get_or ws (i + 3) 0 ∷ drop (i + 4) ws
  four =
      one ws i (omega arith)
      ∙ ap (λ (l : List ℕ). get_or ws i 0 ∷ l) (one ws (i + 1) (omega arith)
      ∙ ap (λ (l : List ℕ). get_or ws (i + 1) 0 ∷ l) (at 2 (i + 1) (omega arith) ∙ one ws (i + 2) (omega arith)
      ∙ ap (λ (l : List ℕ). get_or ws (i + 2) 0 ∷ l) (at 3 (i + 2) (omega arith) ∙ one ws (i + 3) (omega arith)
      ∙ ap (λ (l : List ℕ). get_or ws (i + 3) 0 ∷ l) (at 4 (i + 3) (omega arith)))))
    where
      at : (n k : ℕ) → k + 1 ≡ i + n → drop (k + 1) ws ≡ drop (i + n) ws
      at n k e = ap (λ (m : ℕ). drop m ws) e

  statement_at_lem : i + 4 + 2 * get_or ws (i + 3) 0 ≤ length ws → statement (drop i ws) ≡ some (statement_at ws i, 3 + 2 * get_or ws (i + 3) 0)
  unfolding statement with_parts statement_at
  statement_at_lem k =
      ap statement four
      ∙ ap (with_parts (get_or ws i 0) (get_or ws (i + 1) 0) (get_or ws (i + 2) 0) (get_or ws (i + 3) 0)) (spans_at_lem ws (get_or ws (i + 3) 0) (i + 4) k)

  statement_short : length ws < i + 4 + 2 * get_or ws (i + 3) 0 → statement (drop i ws) ≡ none
  unfolding statement with_parts
  statement_short k =
      ap statement four
      ∙ ap (with_parts (get_or ws i 0) (get_or ws (i + 1) 0) (get_or ws (i + 2) 0) (get_or ws (i + 3) 0)) (spans_short (get_or ws (i + 3) 0) (drop (i + 4) ws) (let e = length-drop (i + 4) ws in omega arith))

-- What is read at a place ---------------------------------------------------------------------------------------------

spans_count : (ws : List ℕ) (n k : ℕ) → length (spans_at ws n k) ≡ n
unfolding spans_at
spans_count ws zero k = refl
spans_count ws (suc n) k = ap suc (spans_count ws n (k + 2))

module _ (ws : List ℕ) (i : ℕ) where
  -- the record of the words there
  abbrev pub whole : Record
  whole = record { start = get_or ws (i + 1) 0; end = get_or ws (i + 2) 0; parts = get_or ws (i + 3) 0; next = i + 4 + 2 * get_or ws (i + 3) 0 }

  less : length (drop i ws) < 4 → None ≡ record_at ws i
  unfolding record_at
  less h = ap (reading_of i) (sym (statement_few (drop i ws) h))

  module _ (l : i + 4 ≤ length ws) where
    short : length ws < i + 4 + 2 * get_or ws (i + 3) 0 → None ≡ record_at ws i
    unfolding record_at
    short k = ap (reading_of i) (sym (statement_short ws i l k))

    full : i + 4 + 2 * get_or ws (i + 3) 0 ≤ length ws → Some whole ≡ record_at ws i
    unfolding record_at statement_at
    full k =
        let n = get_or ws (i + 3) 0 in
        (λ j. Some (record { start = get_or ws (i + 1) 0; end = get_or ws (i + 2) 0; parts = sym (spans_count ws n (i + 4)) j; next = plus i n j }))
        ∙ ap (reading_of i) (sym (statement_at_lem ws i l k))
      where
        plus : (i n : ℕ) → i + 4 + 2 * n ≡ i + (1 + (3 + 2 * n))
        plus i n = omega arith

  -- what the code makes of the words from there on
  pub rest_of : {xs : List ℕ} → xs ≡ slice_range ws i (length ws) → xs ≡ drop i ws
  rest_of q = let l = length-drop i ws in q ∙ take_all (length ws - i) (drop i ws) (omega arith)

  pub read_none : length ws < i → None ≡ record_at ws i
  read_none h = let l = length-drop i ws in less (omega arith)

  module _ {xs : List ℕ} (q : xs ≡ drop i ws) where
    at : (k : ℕ) → get_or xs k 0 ≡ get_or ws (i + k) 0
    at k = ap (λ (l : List ℕ). get_or l k 0) q ∙ get_or-drop i ws k 0

    pub read_less : length xs < 4 → None ≡ record_at ws i
    read_less h = let e = ap length q in less (omega arith)

    module _ (h : 4 ≤ length xs) where
      -- the words behind the head
      abbrev left : ℕ
      left = length (slice_range xs 4 (length xs))

      left_len : left ≡ length xs - 4
      left_len = let d = length-drop 4 xs in let t = length-take (length xs - 4) (drop 4 xs) in omega arith

      pub read_short : left / 2 < get_or xs 3 0 → None ≡ record_at ws i
      read_short k = let m = left_len in let e = ap length q in let l = length-drop i ws in let n = at 3 in short (omega arith) (omega arith)

      pub read_whole : get_or xs 3 0 ≤ left / 2
          → Some (record { start = get_or xs 1 0; end = get_or xs 2 0; parts = get_or xs 3 0; next = i + 4 + 2 * get_or xs 3 0 }) ≡ record_at ws i
      read_whole k =
          let m = left_len in
          let e = ap length q in
          let l = length-drop i ws in
          let n = at 3 in
          (λ j. Some (record { start = at 1 j; end = at 2 j; parts = at 3 j; next = i + 4 + 2 * at 3 j })) ∙ full (omega arith) (omega arith)

  -- what a record says
  pub record Said (r : Record) : Type 0 where
    pub is : r ≡ whole
    pub room : i + 4 + 2 * get_or ws (i + 3) 0 ≤ length ws
    pub stated : statement (drop i ws) ≡ some (statement_at ws i, 3 + 2 * get_or ws (i + 3) 0)

  pub said : {r : Record} → Some r ≡ record_at ws i → Said r
  said {r} e = by (leb (i + 4) (length ws)) refl (leb (i + 4 + 2 * get_or ws (i + 3) 0) (length ws)) refl
    where
      by : (b : Bool) → leb (i + 4) (length ws) ≡ b → (c : Bool) → leb (i + 4 + 2 * get_or ws (i + 3) 0) (length ws) ≡ c → Said r
      by false h c k = let l = leb-false (i + 4) (length ws) h in let d = length-drop i ws in none_some (less (omega arith) ∙ sym e)
      by true h false k = none_some (short (leb-true (i + 4) (length ws) h) (leb-false (i + 4 + 2 * get_or ws (i + 3) 0) (length ws) k) ∙ sym e)
      by true h true k =
          let l = leb-true (i + 4) (length ws) h in
          let m = leb-true (i + 4 + 2 * get_or ws (i + 3) 0) (length ws) k in
          record { is = some_same (e ∙ sym (full l m)); room = m; stated = statement_at_lem ws i l m }

  -- its words are there, and the next record stands behind them
  pub next_room : {r : Record} → Some r ≡ record_at ws i → (i + 4 ≤ r.next) × (r.next ≤ length ws)
  next_room {r} e =
      let q = said e in
      let p : r.next ≡ i + 4 + 2 * get_or ws (i + 3) 0 = ap (λ (x : Record). x.next) q.is in
      (omega (arith, p), omega (arith, q.room, p))

  -- its words alone
  module _ {r : Record} (e : Some r ≡ record_at ws i) where
    abbrev pub alone : List ℕ
    alone = slice_range ws i r.next

    next_is : r.next ≡ i + 4 + 2 * get_or ws (i + 3) 0
    next_is = ap (λ (x : Record). x.next) (said e).is

    alone_len : length alone ≡ r.next - i
    alone_len = let q = (said e).room in let n = next_is in let d = length-drop i ws in let t = length-take (r.next - i) (drop i ws) in omega arith

    word : (k : ℕ) → k < r.next - i → get_or alone k 0 ≡ get_or ws (i + k) 0
    word k h = get_or-take (r.next - i) (drop i ws) k 0 h ∙ get_or-drop i ws k 0

    spans_alone : (n k : ℕ) → k + 2 * n ≤ r.next - i → spans_at alone n k ≡ spans_at ws n (i + k)
    unfolding spans_at
    spans_alone zero k h = refl
    spans_alone (suc n) k h =
        let a = word k (omega arith) in
        let b = word (k + 1) (omega arith) ∙ ap (λ (m : ℕ). get_or ws m 0) (let z : i + (k + 1) ≡ i + k + 1 = omega arith in z) in
        let c = spans_alone n (k + 2) (omega arith) ∙ ap (spans_at ws n) (let z : i + (k + 2) ≡ i + k + 2 = omega arith in z) in
        (λ j. record { start = a j; stop = b j } ∷ c j)

    pub alone_counts : length alone ≡ 4 + 2 * get_or alone 3 0
    alone_counts = let n = next_is in let l = alone_len in let w = word 3 (omega arith) in omega arith

    pub alone_states : statement_at alone 0 ≡ statement_at ws i
    unfolding statement_at
    alone_states =
        let n = next_is in
        let first = word 0 (omega arith) ∙ ap (λ (m : ℕ). get_or ws m 0) (let z : i + 0 ≡ i = omega arith in z) in
        let count = word 3 (omega arith) in
        let parts = ap (λ (m : ℕ). spans_at alone m 4) count ∙ spans_alone (get_or ws (i + 3) 0) 4 (omega arith) in
        (λ j. record { kind = first j; span = record { start = word 1 (omega arith) j; stop = word 2 (omega arith) j }; parts = parts j })

    -- the bounds of its parts
    pub alone_bounds : spans_in (slice_range alone 4 (length alone)) ≡ spans_at ws r.parts (i + 4)
    alone_bounds =
        let n = next_is in
        let l = alone_len in
        let p : r.parts ≡ get_or ws (i + 3) 0 = ap (λ (x : Record). x.parts) (said e).is in
        let m : length alone - 4 ≡ 2 * r.parts = omega arith in
        ap (λ (k : ℕ). spans_in (take k (drop 4 alone))) m ∙ spans_pairs alone r.parts 4 (omega arith) ∙ spans_alone r.parts 4 (omega arith)

  -- where there is none
  pub unsaid : None ≡ record_at ws i → statement (drop i ws) ≡ none
  unfolding record_at
  unsaid e = by (statement (drop i ws)) refl e
    where
      by : (o : Maybe (Statement × ℕ)) → statement (drop i ws) ≡ o → None ≡ reading_of i o → statement (drop i ws) ≡ none
      by none h q = h
      by (some p) h q = none_some q

-- All records -----------------------------------------------------------------------------------------------------------

module _ (ws : List ℕ) (i : ℕ) where
  pub records_end : length ws ≤ i → statements (drop i ws) ≡ ([], [])
  unfolding statements cut cut_after
  records_end h = ap statements (drop_of_length-le ws {i = i} h)

  module _ (h : i < length ws) where
    pub records_stop : statement (drop i ws) ≡ none → statements (drop i ws) ≡ ([], get_or ws i 0 ∷ drop (i + 1) ws)
    unfolding statements
    records_stop e =
        let c = one ws i h in
        ap (cut statement) c ∙ cut_stop statement (get_or ws i 0) (drop (i + 1) ws) (ap statement (sym c) ∙ e)

    pub records_more : (s : Statement) (n : ℕ) → statement (drop i ws) ≡ some (s, 3 + 2 * n) → statements (drop i ws) ≡ before statement s (statements (drop (i + 4 + 2 * n) ws))
    unfolding statements
    records_more s n e =
        let c = one ws i h in
        ap (cut statement) c
        ∙ cut_step statement (get_or ws i 0) (drop (i + 1) ws) s (3 + 2 * n) (ap statement (sym c) ∙ e)
        ∙ ap (λ (l : List ℕ). before statement s (cut statement l)) (drop-drop (3 + 2 * n) (i + 1) ws ∙ ap (λ (m : ℕ). drop m ws) (plus i n))
      where
        plus : (i n : ℕ) → i + 1 + (3 + 2 * n) ≡ i + 4 + 2 * n
        plus i n = omega arith
