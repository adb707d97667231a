-- The walk over a run: white space at its ends, and the layout by the trimmed run.
use Rattle.std.specs.Prelude.{if◌then◌else◌}
use mathlib.Core.Path.{◌≡◌, refl, sym, ◌∙◌, ap}
use mathlib.Core.Bool.{Bool, true, false, ◌||◌}
use mathlib.Core.List.{List, [], ◌∷◌, ◌++◌, append-nil, append_assoc}
use Prim.Native.Nat.{ℕ, suc, ◌+◌, ◌*◌}
use native.Mathlib.Omega.{arith}
use lib.Dec.{leb}
use lib.ListN.{length}
use Rattle.dogwood_rules.specs.Basic.{drop_front, drop_back, or_drop, trim, run_length}
use Rattle.dogwood_rules.specs.Token.{Token, white}
use Rattle.dogwood_rules.specs.Tree.{blank, shown, joined, flat, Run, nothing, single, group, tokens_of, items_of, trim_left, trim_right, or_nothing, trim_run, run_of}
use Rattle.dogwood_rules.specs.Layout.{Settings, column, walk, lines, fit_or, fit_group, spaces, following, join_lines, empty, layout}
use Rattle.dogwood_rules.proofs.Trim.{Solid}
use Rattle.dogwood_rules.proofs.Trim.{front_drops, front_keeps, back_keeps, space-white}
use Rattle.dogwood_layout.specs.Shape.{blank_sound, word_sound, Shaped, shaped_nothing, shaped_single, shaped_group, Formed}
use Rattle.dogwood_layout.proofs.Shapes.{opener_word, closer_word}
use Rattle.dogwood_layout.proofs.Trims.{back_append, back_all, back_tail, run_drops, run_keeps, trim_back, left_shaped, right_shaped, right_tokens}

pub shown-space : (t : Token) → blank t ≡ true → shown t ≡ 32 ∷ []
unfolding shown
shown-space t e = rw e refl

pub shown_text : (t : Token) → blank t ≡ false → shown t ≡ t.text
unfolding shown
shown_text t e = rw e refl

pub joined-append : (ts us : List Token) → joined (ts ++ us) ≡ joined ts ++ joined us
unfolding joined
joined-append [] us = refl
joined-append (t ∷ ts) us = ap (λ (l : List ℕ). shown t ++ l) (joined-append ts us) ∙ sym (append_assoc (shown t) (joined ts) (joined us))

-- a group's flat text is its tokens'
pub whole_flat : (o c : Token) (inside : List Token) → blank o ≡ false → blank c ≡ false → flat (o ∷ (inside ++ (c ∷ []))) ≡ joined (o ∷ (inside ++ (c ∷ [])))
unfolding flat
whole_flat o c inside bo bc =
    ap joined (ap (drop_back blank) (front_keeps blank o (inside ++ (c ∷ [])) bo) ∙ back_append blank (o ∷ inside) c [] (c ∷ []) (back_keeps blank c [] bc))

pub append-empty : (xs ys : List ℕ) → xs ++ ys ≡ [] → xs ≡ []
append-empty [] ys e = refl
append-empty (x ∷ xs) ys e = absurd (let z : ◌≡◌ {A = ℕ} 0 1 = cc in omega arith)

-- a text that ends in a solid one keeps all of it
solid_back : {cs : List ℕ} → Solid cs → (xs w : List ℕ) → drop_back white ((xs ++ cs) ++ w) ≡ (xs ++ cs) ++ drop_back white w
solid_back {cs} s xs w =
    ap (drop_back white) (append_assoc xs cs w)
    ∙ back_all white xs (cs ++ w) (cs ++ drop_back white w) (s.back w) (λ e. s.full (append-empty cs (drop_back white w) e))
    ∙ sym (append_assoc xs cs (drop_back white w))

module _ (S : Settings) where
  -- a group's text begins with its opener and ends with its closer
  record Ends (o c : Token) (out : List ℕ) : Type 0 where
    mid : List ℕ
    made : out ≡ (o.text ++ mid) ++ c.text

  fit_ends : (d n m : ℕ) (o c : Token) (inside : List Token) (broken : List ℕ) → blank o ≡ false → blank c ≡ false → Ends o c (fit_group S d n m o inside c broken)
  unfolding fit_group joined
  fit_ends d n m o c inside broken bo bc = go (empty (flat inside) || leb (n + length (flat (o ∷ (inside ++ (c ∷ [])))) + m) S.width)
    where
      flatly : flat (o ∷ (inside ++ (c ∷ []))) ≡ (o.text ++ joined inside) ++ c.text
      flatly =
          whole_flat o c inside bo bc
          ∙ joined-append (o ∷ inside) (c ∷ [])
          ∙ (λ j. (shown_text o bo j ++ joined inside) ++ (shown_text c bc j ++ []))
          ∙ ap (λ (l : List ℕ). (o.text ++ joined inside) ++ l) (append-nil c.text)

      go : (b : Bool) → Ends o c (if b then flat (o ∷ (inside ++ (c ∷ []))) else o.text ++ 10 ∷ broken ++ 10 ∷ spaces S d ++ c.text)
      go true = record { mid = joined inside; made = flatly }
      go false = record { mid = (10 ∷ broken) ++ (10 ∷ spaces S d); made = ap (λ (l : List ℕ). l ++ c.text) (append_assoc o.text (10 ∷ broken) (10 ∷ spaces S d)) }

  pub following_right : {r : Run} → Shaped r → following S (trim_right r) ≡ following S r
  unfolding following flat
  following_right {r} h = ap (λ (ts : List Token). length (joined (trim blank ts))) (right_tokens h) ∙ ap (λ (ts : List Token). length (joined ts)) (trim_back blank (tokens_of r))

  or_word : (t : Token) (r : Run) → blank t ≡ false → or_nothing t r ≡ single t r
  unfolding or_nothing
  or_word t nothing e = rw e refl
  or_word t (single u r) e = refl
  or_word t (group o inside is c r) e = refl

  -- what the walk writes of a run is not empty
  walk_full : {r : Run} → Shaped r → (r ≡ nothing → ⊥) → (d n : ℕ) → walk S d n r ≡ [] → ⊥
  unfolding walk
  walk_full shaped_nothing h d n e = h refl
  walk_full (shaped_single {t} {r} o c (blank_sound b p q) k) h d n e =
      let z : ◌≡◌ {A = List ℕ} (32 ∷ []) [] = sym (shown-space t b) ∙ append-empty (shown t) _ e in
      let y : ◌≡◌ {A = ℕ} 0 1 = cc in omega arith
  walk_full (shaped_single {t} {r} o c (word_sound b s) k) h d n e = s.full (sym (shown_text t b) ∙ append-empty (shown t) _ e)
  walk_full (shaped_group {o} {c} {i} {r} oo so oc cl sc hi k) h d n e =
      let w = opener_word so oo in
      let g = fit_ends d n (following S r) o c (tokens_of i) (join_lines (lines S (suc d) (items_of i))) w.0 (closer_word sc cl).0 in
      w.1.full (append-empty o.text g.mid (append-empty (o.text ++ g.mid) c.text (sym g.made ∙ append-empty _ _ e)))

  -- at the end
  walk_back : {r : Run} → Shaped r → (d n : ℕ) → drop_back white (walk S d n r) ≡ walk S d n (trim_right r)
  unfolding walk trim_right or_nothing
  walk_back shaped_nothing d n = refl
  walk_back (shaped_single {t} {r} o c (word_sound b s) h) d n =
      ap (λ (l : List ℕ). drop_back white (l ++ walk S d (column n (shown t)) r)) (shown_text t b)
      ∙ s.back (walk S d (column n (shown t)) r)
      ∙ (λ j. sym (shown_text t b) j ++ walk_back h d (column n (shown t)) j)
      ∙ ap (walk S d n) (sym (or_word t (trim_right r) b))
  walk_back (shaped_single {t} {r} o c (blank_sound b p q) h) d n =
      ap (λ (l : List ℕ). drop_back white (l ++ walk S d (column n (shown t)) r)) (shown-space t b)
      ∙ ap (or_drop white 32) (walk_back h d (column n (shown t)))
      ∙ go (trim_right r) (right_shaped h)
    where
      keep : (l : List ℕ) → (l ≡ [] → ⊥) → or_drop white 32 l ≡ shown t ++ l
      keep [] f = absurd (f refl)
      keep (x ∷ l) f = ap (λ (m : List ℕ). m ++ (x ∷ l)) (sym (shown-space t b))

      go : (u : Run) → Shaped u → or_drop white 32 (walk S d (column n (shown t)) u) ≡ walk S d n (or_nothing t u)
      go nothing k = rw space-white (ap (walk S d n) (sym (none b)))
        where
          none : blank t ≡ true → or_nothing t nothing ≡ nothing
          none e = ap (λ (z : Bool). if z then nothing else single t nothing) e
      go (single x u) k = keep (walk S d (column n (shown t)) (single x u)) (walk_full k (λ e. single_some e) d (column n (shown t)))
        where
          single_some : single x u ≡ nothing → ⊥
          single_some e = let z : ◌≡◌ {A = ℕ} 0 1 = cc in omega arith
      go (group a inside is z u) k = keep (walk S d (column n (shown t)) (group a inside is z u)) (walk_full k (λ e. group_some e) d (column n (shown t)))
        where
          group_some : group a inside is z u ≡ nothing → ⊥
          group_some e = let z : ◌≡◌ {A = ℕ} 0 1 = cc in omega arith
  walk_back (shaped_group {o} {c} {i} {r} oo so oc cl sc hi h) d n = go (λ k. walk_back h d k) (following S r) (following_right h)
    where
      go : ((k : ℕ) → drop_back white (walk S d k r) ≡ walk S d k (trim_right r)) → (m : ℕ) → following S (trim_right r) ≡ m → drop_back white (fit_group S d n m o (tokens_of i) c (join_lines (lines S (suc d) (items_of i))) ++ walk S d (column n (fit_group S d n m o (tokens_of i) c (join_lines (lines S (suc d) (items_of i))))) r) ≡ walk S d n (group o (tokens_of i) (items_of i) c (trim_right r))
      go ih m e =
          let out = fit_group S d n m o (tokens_of i) c (join_lines (lines S (suc d) (items_of i))) in
          let g = fit_ends d n m o c (tokens_of i) (join_lines (lines S (suc d) (items_of i))) (opener_word so oo).0 (closer_word sc cl).0 in
          ap (λ (l : List ℕ). drop_back white (l ++ walk S d (column n out) r)) g.made
          ∙ solid_back (closer_word sc cl).1 (o.text ++ g.mid) (walk S d (column n out) r)
          ∙ (λ j. sym g.made j ++ ih (column n out) j)
          ∙ ap (λ (k : ℕ). fit_group S d n k o (tokens_of i) c (join_lines (lines S (suc d) (items_of i))) ++ walk S d (column n (fit_group S d n k o (tokens_of i) c (join_lines (lines S (suc d) (items_of i))))) (trim_right r)) (sym e)

  -- at the front
  left_drops : (t : Token) (r : Run) → blank t ≡ true → trim_left (single t r) ≡ trim_left r
  unfolding trim_left
  left_drops t r e = rw (e, trim_left) refl

  left_keeps : (t : Token) (r : Run) → blank t ≡ false → trim_left (single t r) ≡ single t r
  unfolding trim_left
  left_keeps t r e = rw (e, trim_left) refl

  walk_front : {r : Run} → Shaped r → (d n : ℕ) → drop_front white (walk S d n r) ≡ walk S d (n + run_length blank (tokens_of r)) (trim_left r)
  unfolding walk trim_left tokens_of column
  walk_front shaped_nothing d n = refl
  walk_front (shaped_single {t} {r} o c (blank_sound b p q) h) d n =
      let e : suc n + run_length blank (tokens_of r) ≡ n + suc (run_length blank (tokens_of r)) = omega arith in
      ap (λ (l : List ℕ). drop_front white (l ++ walk S d (column n l) r)) (shown-space t b)
      ∙ front_drops white 32 (walk S d (suc n) r) space-white
      ∙ walk_front h d (suc n)
      ∙ ap (λ (k : ℕ). walk S d k (trim_left r)) (e ∙ ap (λ (k : ℕ). n + k) (sym (run_drops blank t (tokens_of r) b)))
      ∙ ap (walk S d (n + run_length blank (t ∷ tokens_of r))) (sym (left_drops t r b))
  walk_front (shaped_single {t} {r} o c (word_sound b s) h) d n =
      let e : n ≡ n + 0 = omega arith in
      ap (λ (l : List ℕ). drop_front white (l ++ walk S d (column n (shown t)) r)) (shown_text t b)
      ∙ s.front (walk S d (column n (shown t)) r)
      ∙ ap (λ (l : List ℕ). l ++ walk S d (column n (shown t)) r) (sym (shown_text t b))
      ∙ ap (λ (k : ℕ). walk S d k (single t r)) (e ∙ ap (λ (k : ℕ). n + k) (sym (run_keeps blank t (tokens_of r) b)))
      ∙ ap (walk S d (n + run_length blank (t ∷ tokens_of r))) (sym (left_keeps t r b))
  walk_front (shaped_group {o} {c} {i} {r} oo so oc cl sc hi h) d n =
      let e : n ≡ n + 0 = omega arith in
      let out = fit_group S d n (following S r) o (tokens_of i) c (join_lines (lines S (suc d) (items_of i))) in
      let g = fit_ends d n (following S r) o c (tokens_of i) (join_lines (lines S (suc d) (items_of i))) (opener_word so oo).0 (closer_word sc cl).0 in
      let w = walk S d (column n out) r in
      let a : ((o.text ++ g.mid) ++ c.text) ++ w ≡ o.text ++ ((g.mid ++ c.text) ++ w) = simp append_assoc in
      ap (λ (l : List ℕ). drop_front white (l ++ w)) g.made
      ∙ ap (drop_front white) a
      ∙ (opener_word so oo).1.front ((g.mid ++ c.text) ++ w)
      ∙ sym a
      ∙ ap (λ (l : List ℕ). l ++ w) (sym g.made)
      ∙ ap (λ (k : ℕ). walk S d k (group o (tokens_of i) (items_of i) c r)) (e ∙ ap (λ (k : ℕ). n + k) (sym (run_keeps blank o (tokens_of i ++ (c ∷ tokens_of r)) (opener_word so oo).0)))

  pub walk_trim : {r : Run} → Shaped r → (d n : ℕ) → trim white (walk S d n r) ≡ walk S d (n + run_length blank (tokens_of r)) (trim_run r)
  unfolding trim_run
  walk_trim {r} h d n = ap (drop_back white) (walk_front h d n) ∙ walk_back (left_shaped h) d (n + run_length blank (tokens_of r))

  -- the layout by the trimmed run: what the code does
  pub layout_trimmed : (d : ℕ) (ts : List Token) → Formed ts
      → layout S d ts ≡ (if leb (S.indent * d + length (joined (trim blank ts))) S.width then joined (trim blank ts) else walk S d (S.indent * d + run_length blank ts) (trim_run (run_of ts)))
  unfolding layout fit_or flat
  layout_trimmed d ts f =
      ap (λ (l : List ℕ). if leb (S.indent * d + length (joined (trim blank ts))) S.width then joined (trim blank ts) else l)
      (walk_trim f.shaped d (S.indent * d) ∙ ap (λ (us : List Token). walk S d (S.indent * d + run_length blank us) (trim_run (run_of ts))) f.tokens)

-- the flat width of a run with nothing to drop at its end
pub flat_width : (ts : List Token) → drop_back blank ts ≡ ts → length (flat ts) + run_length blank ts ≡ length (joined ts)
unfolding flat joined
flat_width [] e = refl
flat_width (t ∷ ts) e = go (blank t) refl (flat_width ts (back_tail blank t ts e))
  where
    go : (b : Bool) → blank t ≡ b → length (joined (trim blank ts)) + run_length blank ts ≡ length (joined ts) → length (joined (trim blank (t ∷ ts))) + run_length blank (t ∷ ts) ≡ length (joined (t ∷ ts))
    go true q h =
        let a : length (joined (trim blank (t ∷ ts))) ≡ length (joined (trim blank ts)) = ap (λ (us : List Token). length (joined (drop_back blank us))) (front_drops blank t ts q) in
        let b = run_drops blank t ts q in
        let s : length (shown t ++ joined ts) ≡ suc (length (joined ts)) = ap (λ (l : List ℕ). length (l ++ joined ts)) (shown-space t q) in
        omega arith
    go false q h =
        let a : length (joined (trim blank (t ∷ ts))) ≡ length (joined (t ∷ ts)) = ap (λ (us : List Token). length (joined us)) (ap (drop_back blank) (front_keeps blank t ts q) ∙ e) in
        let b = run_keeps blank t ts q in
        omega arith
