use native.Mathlib.Omega.{arith}
use borrow.Author.Tests.{eq-eqb, ne_eqb, lt-ltb, le-ltb}
use Rattle.utf8.proofs.Laws.{by_bits_lem}
use Rattle.utf8.proofs.sequence.Goals as goal

pub returns-then-n-eq0 : goal.returns-then-n-eq0
returns-then-n-eq0 c = rw (← by_bits_lem c.args.b c.ranges.b.fits) (simp (eq-eqb _ _ c.if-n-eq0.true))

pub returns-then-b-lt194 : goal.returns-then-b-lt194
returns-then-b-lt194 c = rw (← by_bits_lem c.args.b c.ranges.b.fits) (simp (ne_eqb _ _ c.if-n-eq0.false, lt-ltb _ _ c.if-b-lt194.true))

pub returns-then-b-gt244 : goal.returns-then-b-gt244
returns-then-b-gt244 c = rw (← by_bits_lem c.args.b c.ranges.b.fits) (simp (ne_eqb _ _ c.if-n-eq0.false, le-ltb _ _ c.if-b-lt194.false, lt-ltb _ _ c.if-b-gt244.true))

pub returns : goal.returns
returns c = rw (← by_bits_lem c.args.b c.ranges.b.fits) (simp (ne_eqb _ _ c.if-n-eq0.false, le-ltb c.args.b 194 (omega arith), le-ltb _ _ c.if-b-gt244.false))
