use mathlib.Core.Path.{◌≡◌, ◌∙◌}
use native.Mathlib.Omega.{arith}
use borrow.Author.Tests.{lt-ltb, le-ltb}
use Rattle.utf8.specs.Utf8.{bytes_at, length_of}
use Rattle.utf8.proofs.Character.{bytes_at_lem}
use Rattle.utf8.proofs.Laws.{some_is, none_is, length_few}
use Rattle.utf8.proofs.decode.Goals as goal

pub returns-then-s-at : goal.returns-then-s-at
unfolding bytes_at
returns-then-s-at c = rw (← bytes_at_lem c.args.s.now c.args.at) (simp (le-ltb _ _ c.if-s-at.true))

pub returns-in_err-sequence : goal.returns-in_err-sequence
unfolding bytes_at
returns-in_err-sequence c =
    let e = none_is (length_of c.byte-a.result) c.in_err-sequence.ensures in
    c.from_residual.ensures ∙ rw (← bytes_at_lem c.args.s.now c.args.at) (simp (lt-ltb _ _ c.if-s-at.false, ← c.byte-a.ensures, e))

pub returns-in-1 : goal.returns-in-1
unfolding bytes_at
returns-in-1 c =
    let e : length_of c.byte-a.result ≡ 1 = (some_is (length_of c.byte-a.result) c.in_ok-sequence.ensures).0 ∙ c.in-1.is in
    rw (← bytes_at_lem c.args.s.now c.args.at) (simp (lt-ltb _ _ c.if-s-at.false, ← c.byte-a.ensures, e, c.from.ensures))

pub returns-in-2 : goal.returns-in-2
unfolding bytes_at
returns-in-2 c =
    let e : length_of c.byte-a.result ≡ 2 = (some_is (length_of c.byte-a.result) c.in_ok-sequence.ensures).0 ∙ c.in-2.is in
    rw (← bytes_at_lem c.args.s.now c.args.at) (simp (lt-ltb _ _ c.if-s-at.false, ← c.byte-a.ensures, e, ← c.byte.ensures) c.two.ensures)

pub returns-in-3 : goal.returns-in-3
unfolding bytes_at
returns-in-3 c =
    let e : length_of c.byte-a.result ≡ 3 = (some_is (length_of c.byte-a.result) c.in_ok-sequence.ensures).0 ∙ c.in-3.is in
    rw (← bytes_at_lem c.args.s.now c.args.at) (simp (lt-ltb _ _ c.if-s-at.false, ← c.byte-a.ensures, e, ← c.byte-in-3.ensures, ← c.byte-in-3-2.ensures) c.three.ensures)

pub returns-in_default : goal.returns-in_default
unfolding bytes_at
returns-in_default c =
    let e : length_of c.byte-a.result ≡ 4 = let l = some_is (length_of c.byte-a.result) c.in_ok-sequence.ensures in let k = l.0 in let m = l.1 in omega (arith, length_few c.byte-a.result) in
    rw (← bytes_at_lem c.args.s.now c.args.at) (simp (lt-ltb _ _ c.if-s-at.false, ← c.byte-a.ensures, e, ← c.byte-in_default.ensures, ← c.byte-in_default-2.ensures, ← c.byte-in_default-3.ensures) c.four.ensures)
