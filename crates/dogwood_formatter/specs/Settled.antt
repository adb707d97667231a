-- What is written under a number and a place, and what is said of it.
use Rattle.std.specs.Prelude.{◌≡◌, List, ℕ, leb, length as count, if◌then◌else◌}
use Rattle.dogwood_rules.specs.Utf8.{text_of}
use Rattle.dogwood_rules.specs.Layout.{house}
use Rattle.dogwood_rules.specs.Promises.{over}
use Rattle.dogwood_outline.specs.Pass.{placed_in}
use Rattle.dogwood_outline.specs.Verdicts.{Judges}
use Rattle.dogwood_outline.proofs.Answers.{written}
use Rattle.dogwood_formatter.specs.Numbers.{Formatted, number, place, length}

-- some bytes are offered to old, which is now new, under a number and a place; r says so, or, for want of room, 15
pub record Given (n p : ℕ) (bytes old : List ℕ) (r : Formatted) (new : List ℕ) : Type 0 where
  pub numbered : number r ≡ (if leb (count bytes) (count old) then n else 15)
  pub placed : place r ≡ (if leb (count bytes) (count old) then p else count bytes)
  pub sized : length r ≡ (if leb (count bytes) (count old) then count bytes else 0)
  pub output : new ≡ (if leb (count bytes) (count old) then over bytes old else old)

-- a text is judged with its outline, and what that asks for is offered to old, which is now new
pub record Settled (source outline old : List ℕ) (r : Formatted) (new : List ℕ) : Type 0 where
  pub verdict : ℕ
  pub location : ℕ
  pub judged : Judges (text_of source) outline verdict location
  pub given : Given verdict location (written house source outline (placed_in (text_of source)) verdict) old r new
