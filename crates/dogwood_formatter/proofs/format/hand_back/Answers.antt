use mathlib.Core.Path.{refl}
use native.Mathlib.Omega.{arith}
use Rattle.dogwood_formatter.proofs.Answering.{given_room, given_none}
use Rattle.dogwood_formatter.proofs.format.hand_back.Goals as goal

pub returns-then-output-len : goal.returns-then-output-len
returns-then-output-len c = given_none c.offer-len.ensures _ _ (omega (arith, c.if-output-len.true, c.well_formed))

pub returns : goal.returns
returns c = let o = c.offer-len.ensures in given_room o _ _ (omega (arith, c.if-output-len.false, c.well_formed)) refl refl o.count
