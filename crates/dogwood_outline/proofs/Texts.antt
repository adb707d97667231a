-- The tokens of any bytes stand one behind the other; so the pass over them is the rules' test of fit.
use mathlib.Core.Path.{◌≡◌, refl, ◌∙◌, subst}
use mathlib.Core.List.{List, ◌∷◌}
use Prim.Native.Nat.{ℕ, ◌≤◌}
use native.Mathlib.Omega.{arith}
use lib.ListN.{length}
use Rattle.dogwood_rules.specs.Token.{Placed, Tiled, tiled_end, tiled_more}
use Rattle.dogwood_rules.specs.Outline.{fits}
use Rattle.dogwood_tokens.specs.declared.cursor.Step.{Step}
use Rattle.dogwood_tokens.specs.Cursor.{tokens_at, Walk, walk_end, walk_open, walk_more}
use Rattle.dogwood_tokens.proofs.Walks.{walks_all}
use Rattle.dogwood_tokens.proofs.Steps.{next_onward}
use Rattle.dogwood_outline.specs.Pass.{placed_in, passes}
use Rattle.dogwood_outline.proofs.Spans.{Below}
use Rattle.dogwood_outline.proofs.OnePass.{tiled_below, passes-fits}
use Rattle.dogwood_outline.proofs.Took.{took}

-- up to some place of the text
record Tiles (s : List ℕ) (at : ℕ) (ps : List Placed) : Type 0 where
  stop : ℕ
  tiled : Tiled stop at ps
  within : stop ≤ length s

walk_tiles : (s : List ℕ) {at : ℕ} {ps : List Placed} {last : Step} → at ≤ length s → Walk s at ps last → Tiles s at ps
walk_tiles s {at} l (walk_end e) = record { stop = at; tiled = tiled_end; within = l }
walk_tiles s {at} l (walk_open e) = record { stop = at; tiled = tiled_end; within = l }
walk_tiles s {at} l (walk_more {p} {ps} e w) =
    let o = next_onward s at e in
    let k = took s at e in
    let r = walk_tiles s o.1 w in
    let h : p.start ≡ at = k.start ∙ k.starts in
    record {
      stop = r.stop;
      tiled = subst (λ (n : ℕ). Tiled r.stop n (p ∷ ps)) h (tiled_more {p = p} (omega arith) r.tiled);
      within = r.within;
    }

text_tiles : (s : List ℕ) → Tiles s 0 (placed_in s)
unfolding placed_in
text_tiles s = walk_tiles s (omega arith) (walks_all s)

pub text_below : (s : List ℕ) → Below (length s) (placed_in s)
text_below s = let t = text_tiles s in tiled_below (length s) t.stop t.within t.tiled

-- THE LAW OF THE PASS, of any bytes and any words
pub fit_law : (s words : List ℕ) → passes (length s) words (placed_in s) ≡ fits (length s) (placed_in s) words
fit_law s words = let t = text_tiles s in passes-fits (length s) t.stop t.within (placed_in s) words t.tiled

-- they are those from the start on
pub tokens_start : (s : List ℕ) → tokens_at s 0 ≡ placed_in s
unfolding tokens_at placed_in
tokens_start s = refl
