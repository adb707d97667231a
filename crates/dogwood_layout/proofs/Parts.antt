-- A table without the white space at its ends, and a group without its brackets.
use mathlib.Core.Path.{◌≡◌, refl, sym, ◌∙◌, ap, subst}
use mathlib.Core.Bool.{true, false}
use mathlib.Core.List.{List, [], ◌∷◌, ◌++◌}
use Prim.Native.Nat.{ℕ, suc, ◌+◌, ◌-◌, ◌*◌, ◌<◌, ◌≤◌}
use native.Mathlib.Omega.{arith}
use lib.ListN.{length, take, drop, length-append, length-take, length-drop}
use lib.Seq.{take-append_seam, drop-append_seam, drop-drop}
use borrow.Author.Tests.{ltb-true, ltb-false}
use Rattle.dogwood_rules.specs.Basic.{drop_back, trim, run_length}
use Rattle.dogwood_rules.specs.Token.{Token}
use Rattle.dogwood_rules.specs.Tree.{blank, opener, closer, shown, joined, flat, Run, nothing, group, tokens_of, items_of, run_of, trim_run}
use Rattle.dogwood_rules.specs.Layout.{empty}
use Rattle.dogwood_layout.specs.declared.Part.{Part}
use Rattle.dogwood_layout.specs.Shape.{Sound, blank_sound, word_sound, Shaped, shaped_nothing, shaped_single, shaped_group, Formed}
use Rattle.dogwood_layout.specs.View.{entry_at, token_of, tokens, Holds, Ready}
use Rattle.dogwood_layout.specs.Ends.{front_len, back_len, trimmed_of}
use Rattle.dogwood_layout.specs.Choice.{is_filled}
use Rattle.dogwood_layout.specs.Pieces.{OnePiece, one_token, one_group}
use Rattle.dogwood_layout.proofs.Tables.{holds_length, holds_drop, ready_part, tokens_at_lem, tokens-drop, tokens-take}
use Rattle.dogwood_layout.proofs.Ends.{front_run, front_fits, back_fits, front_tokens, back_tokens}
use Rattle.dogwood_layout.proofs.Shapes.{formed_from, run_from, opener_word}
use Rattle.dogwood_layout.proofs.Trims.{trim_shaped, trim-tokens, trim_kept}
use Rattle.dogwood_layout.proofs.Splits.{no_tokens, trim_some, trim_none}
use Rattle.dogwood_layout.proofs.Walks.{append-empty, shown-space, shown_text}

-- White space at both ends ------------------------------------------------------------------------------------------

-- from word a to word b stand the tokens without the white space at both ends
pub record TrimmedHere (text ws : List ℕ) (a b : ℕ) : Type 0 where
  pub ordered : a ≤ b
  pub fits : b ≤ length ws
  pub lead : a ≡ 3 * run_length blank (tokens text ws)
  pub ready : Ready text (take (b - a) (drop a ws))
  pub trims : tokens text (take (b - a) (drop a ws)) ≡ trim blank (tokens text ws)
  pub shaped : Shaped (trim_run (run_of (tokens text ws)))
  pub same : tokens_of (trim_run (run_of (tokens text ws))) ≡ tokens text (take (b - a) (drop a ws))

trimmed_at : (text ws : List ℕ) → Ready text ws → Formed (tokens text ws) → TrimmedHere text ws (trimmed_of ws).start (trimmed_of ws).end
trimmed_at text ws r f =
    let a = 3 * front_len ws in
    let n = back_len (drop a ws) in
    let ff = front_fits ws in
    let bf = back_fits (drop a ws) in
    let l = length-drop a ws in
    let run = front_run text ws in
    let q : a + 3 * n - a ≡ 3 * n = omega arith in
    let ts : tokens text (take (a + 3 * n - a) (drop a ws)) ≡ trim blank (tokens text ws) =
    ap (λ (k : ℕ). tokens text (take k (drop a ws))) q ∙ back_tokens text (drop a ws) ∙ ap (drop_back blank) (front_tokens text ws) in
    record {
      ordered = omega arith;
      fits = omega arith;
      lead = ap (λ (k : ℕ). 3 * k) run;
      ready = ready_part text ws a (3 * n) n r (holds_drop text ws (front_len ws) r.holds) refl;
      trims = ts;
      shaped = trim_shaped f.shaped;
      same = trim-tokens f.shaped ∙ ap (trim blank) f.tokens ∙ sym ts;
    }

pub trimmed_here : (text ws : List ℕ) → Ready text ws → Formed (tokens text ws) → {r : Part} → r ≡ trimmed_of ws → TrimmedHere text ws r.start r.end
trimmed_here text ws r f e = subst (λ (p : Part). TrimmedHere text ws p.start p.end) (sym e) (trimmed_at text ws r f)

module _ {text ws : List ℕ} {a b : ℕ} (h : TrimmedHere text ws a b) where
  pub trimmed_formed : Formed (tokens text (take (b - a) (drop a ws)))
  trimmed_formed = formed_from h.shaped h.same

  pub trimmed_run : run_of (tokens text (take (b - a) (drop a ws))) ≡ trim_run (run_of (tokens text ws))
  trimmed_run = run_from h.shaped h.same

  pub trimmed_kept : drop_back blank (tokens text (take (b - a) (drop a ws))) ≡ tokens text (take (b - a) (drop a ws))
  trimmed_kept = ap (drop_back blank) h.trims ∙ trim_kept blank (tokens text ws) ∙ sym h.trims

  pub trimmed_length : length (take (b - a) (drop a ws)) ≡ b - a
  trimmed_length =
      let o = h.ordered in
      let f = h.fits in
      let x = length-take (b - a) (drop a ws) in
      let y = length-drop a ws in
      omega arith

  -- words are left just where the run is more than white space
  pub trimmed_none : a ≡ b → trim_run (run_of (tokens text ws)) ≡ nothing
  unfolding tokens_of
  trimmed_none e =
      let x = trimmed_length in
      let y = holds_length text (take (b - a) (drop a ws)) h.ready.holds in
      let z : length (tokens_of (trim_run (run_of (tokens text ws)))) ≡ 0 = ap length h.same ∙ (let w : length (tokens text (take (b - a) (drop a ws))) ≡ 0 = omega arith in w) in
      no_tokens (trim_run (run_of (tokens text ws))) (none (tokens_of (trim_run (run_of (tokens text ws)))) z)
    where
      none : (ts : List Token) → length ts ≡ 0 → ts ≡ []
      none [] q = refl
      none (t ∷ ts) q = absurd (omega arith)

  pub trimmed_some : (a ≡ b → ⊥) → trim_run (run_of (tokens text ws)) ≡ nothing → ⊥
  unfolding tokens_of
  trimmed_some k e =
      let o = h.ordered in
      let x = trimmed_length in
      let y = holds_length text (take (b - a) (drop a ws)) h.ready.holds in
      let z : length (tokens text (take (b - a) (drop a ws))) ≡ 0 = ap length (sym h.same ∙ ap tokens_of e) in
      k (omega arith)

-- A group and its inside ---------------------------------------------------------------------------------------------

pub record GroupHere (text ws : List ℕ) (u : Run) : Type 0 where
  pub o : Token
  pub c : Token
  pub inner : Run
  pub whole : u ≡ group o (tokens_of inner) (items_of inner) c nothing
  pub opens : opener o ≡ true
  pub open_sound : Sound o
  pub closes : closer c ≡ true
  pub close_sound : Sound c
  pub shaped : Shaped inner
  pub long : 6 ≤ length ws
  pub first : token_of text (entry_at ws 0) ≡ o
  pub last : token_of text (entry_at ws (length ws - 3)) ≡ c
  pub last_holds : Holds text (drop (length ws - 3) ws)
  pub ready : Ready text (take (length ws - 3 - 3) (drop 3 ws))
  pub inside : tokens_of inner ≡ tokens text (take (length ws - 3 - 3) (drop 3 ws))

heads : {x y : Token} {xs ys : List Token} → x ∷ xs ≡ y ∷ ys → x ≡ y
heads e = cc

tails : {x y : Token} {xs ys : List Token} → x ∷ xs ≡ y ∷ ys → xs ≡ ys
tails e = cc

pub group_here : (text ws : List ℕ) → Ready text ws → {u : Run} → Shaped u → OnePiece u → tokens_of u ≡ tokens text ws → (length ws ≡ 3 → ⊥) → GroupHere text ws u
unfolding tokens_of
group_here text ws r s (one_token {t}) e k =
    absurd (let l = holds_length text ws r.holds in let m : 1 ≡ length (tokens text ws) = ap length e in k (omega arith))
group_here text ws r (shaped_group {o} {c} {i} oo so oc cl sc hi h) one_group e k =
    let n = length (tokens_of i) in
    let l = holds_length text ws r.holds in
    let la = length-append (tokens_of i) (c ∷ []) in
    let m : suc (length (tokens_of i ++ (c ∷ []))) ≡ length (tokens text ws) = ap length e in
    let w : length ws ≡ 3 * n + 6 = omega arith in
    let at0 : tokens text ws ≡ token_of text (entry_at ws 0) ∷ tokens text (drop 3 ws) = tokens_at_lem text ws 0 (omega arith) refl in
    let rest : tokens text (drop 3 ws) ≡ tokens_of i ++ (c ∷ []) = tails (sym at0 ∙ sym e) in
    let q : length ws - 3 - 3 ≡ 3 * n = omega arith in
    let p : length ws - 3 ≡ 3 + 3 * n = omega arith in
    let p2 : length ws - 3 + 2 < length ws = omega arith in
    let back : tokens text (drop (length ws - 3) ws) ≡ c ∷ [] =
    ap (λ (z : ℕ). tokens text (drop z ws)) p ∙ ap (tokens text) (sym (drop-drop (3 * n) 3 ws)) ∙ tokens-drop text (drop 3 ws) n ∙ ap (drop n) rest ∙ drop-append_seam (tokens_of i) (c ∷ []) in
    record {
      o = o;
      c = c;
      inner = i;
      whole = refl;
      opens = oo;
      open_sound = so;
      closes = cl;
      close_sound = sc;
      shaped = hi;
      long = omega arith;
      first = heads (sym at0 ∙ sym e);
      last = heads (sym (tokens_at_lem text ws (length ws - 3) p2 refl) ∙ back);
      last_holds = subst (λ (z : ℕ). Holds text (drop z ws)) (let z : 3 * suc n ≡ length ws - 3 = omega arith in z) (holds_drop text ws (suc n) r.holds);
      ready = subst (λ (z : ℕ). Ready text (take z (drop 3 ws))) (let z : 3 + 3 * n - 3 ≡ length ws - 3 - 3 = omega arith in z) (ready_part text ws 3 (3 * n) n r (holds_drop text ws 1 r.holds) refl);
      inside = sym (ap (λ (z : ℕ). tokens text (take z (drop 3 ws))) q ∙ tokens-take text (drop 3 ws) n ∙ ap (take n) rest ∙ take-append_seam (tokens_of i) (c ∷ []));
    }

module _ {text ws : List ℕ} {u : Run} (h : GroupHere text ws u) where
  abbrev inside_words : List ℕ
  inside_words = take (length ws - 3 - 3) (drop 3 ws)

  pub group_formed : Formed (tokens text inside_words)
  group_formed = formed_from h.shaped h.inside

  pub group_inner : run_of (tokens text inside_words) ≡ h.inner
  group_inner = run_from h.shaped h.inside

  pub group_none : is_filled inside_words ≡ false → trim_run h.inner ≡ nothing
  group_none q =
      let a = front_run text inside_words in
      let l = holds_length text inside_words h.ready.holds in
      let m = ltb-false (3 * front_len inside_words) (length inside_words) q in
      trim_none h.shaped (rw h.inside (omega arith))

  pub group_some : is_filled inside_words ≡ true → trim_run h.inner ≡ nothing → ⊥
  group_some q =
      let a = front_run text inside_words in
      let l = holds_length text inside_words h.ready.holds in
      let m = ltb-true (3 * front_len inside_words) (length inside_words) q in
      trim_some h.shaped (rw h.inside (omega arith))

-- a run that is something shows something
joined_full : {r : Run} → Shaped r → (r ≡ nothing → ⊥) → joined (tokens_of r) ≡ [] → ⊥
unfolding tokens_of joined
joined_full shaped_nothing h e = h refl
joined_full (shaped_single {t} {r} o c (blank_sound b p q) k) h e =
    let z : ◌≡◌ {A = List ℕ} (32 ∷ []) [] = sym (shown-space t b) ∙ append-empty (shown t) _ e in
    let y : ◌≡◌ {A = ℕ} 0 1 = cc in omega arith
joined_full (shaped_single {t} {r} o c (word_sound b s) k) h e = s.full (sym (shown_text t b) ∙ append-empty (shown t) _ e)
joined_full (shaped_group {o} {c} {i} {r} oo so oc cl sc hi k) h e =
    let w = opener_word so oo in
    w.1.full (sym (shown_text o w.0) ∙ append-empty (shown o) _ e)

-- its flat text is not empty
pub flat_some : {r : Run} → Shaped r → (trim_run r ≡ nothing → ⊥) → empty (flat (tokens_of r)) ≡ false
unfolding flat empty
flat_some {r} h k = go (joined (trim blank (tokens_of r))) (λ e. joined_full (trim_shaped h) k (ap joined (trim-tokens h) ∙ e))
  where
    go : (l : List ℕ) → (l ≡ [] → ⊥) → empty l ≡ false
    go [] f = absurd (f refl)
    go (x ∷ l) f = refl
