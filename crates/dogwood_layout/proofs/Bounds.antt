-- A part of a table is no longer than the table, and its layout stays within bounds.
use mathlib.Core.Path.{◌≡◌, ap}
use mathlib.Core.List.{List}
use Prim.Native.Nat.{ℕ, ◌+◌, ◌-◌, ◌≤◌, ◌<◌}
use native.Mathlib.Omega.{arith}
use lib.ListN.{length, take, drop, length-take, length-drop}
use Rattle.dogwood_layout.specs.declared.Page.{Page}
use Rattle.dogwood_layout.specs.declared.Span.{Span}
use Rattle.dogwood_layout.specs.Measure.{span_after}
use Rattle.dogwood_layout.specs.Pieces.{Bounded}

pub length_part : (ws : List ℕ) (i m : ℕ) → i + m ≤ length ws → length (take (i + m - i) (drop i ws)) ≡ m
length_part ws i m h = let a = length-take (i + m - i) (drop i ws) in let b = length-drop i ws in omega arith

pub bounded_part : (p : Page) (d i m : ℕ) (ws : List ℕ) → Bounded p d (length ws) → i + m ≤ length ws → Bounded p d (length (take (i + m - i) (drop i ws)))
bounded_part p d i m ws b h = let l = length_part ws i m h in let k = b.deep in record { indent = b.indent; width = b.width; deep = omega arith }

-- a level deeper, or fewer words
pub bounded_less : {p : Page} {d n : ℕ} (e m : ℕ) → Bounded p d n → e + m ≤ d + n → Bounded p e m
bounded_less e m b h = let k = b.deep in record { indent = b.indent; width = b.width; deep = omega arith }

-- where words are left, the part from there on has some
pub rest_some : (ws : List ℕ) (i : ℕ) → i < length ws → 0 < length (take (length ws - i) (drop i ws))
rest_some ws i h = let a = length-take (length ws - i) (drop i ws) in let b = length-drop i ws in omega arith

-- a part's width is no more than the whole's
pub width_le : (s : Span) (c a b : ℕ) (cs : List ℕ) → s ≡ span_after (record { width = 0; col = c }) cs → a ≡ length cs + b → s.width ≤ a
width_le s c a b cs e f = let w : s.width ≡ 0 + length cs = ap (λ (z : Span). z.width) e in omega arith
