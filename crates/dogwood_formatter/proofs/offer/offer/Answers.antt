use mathlib.Core.Path.{refl}
use native.Mathlib.Omega.{arith}
use Rattle.dogwood_formatter.proofs.Offering.{offered_all, offered_none}
use Rattle.dogwood_formatter.proofs.offer.offer.Goals as goal

pub returns-then-bytes-out : goal.returns-then-bytes-out
returns-then-bytes-out c =
    let w = c.put_all.ensures in
    let n = w.count in
    let g = c.well_formed in
    offered_all _ _ (omega arith) c.if-bytes-out.true w.bytes

pub returns : goal.returns
returns c = offered_none _ _ refl (omega (arith, c.if-bytes-out.false)) refl
