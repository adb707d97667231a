use Rattle.std.proofs.Common.{◌+◌, arith}
use Rattle.std.proofs.Math.ListN.{get_or-eq_default}
use Rattle.files.specs.Word.{word_at}
use Rattle.files.proofs.words.word.Goals as goal

pub returns-then-s-at : goal.returns-then-s-at
unfolding word_at
returns-then-s-at c =
    let a = get_or-eq_default c.args.s.now 0 {n = c.args.at} (omega arith) in
    let b = get_or-eq_default c.args.s.now 0 {n = c.args.at + 1} (omega arith) in
    let d = get_or-eq_default c.args.s.now 0 {n = c.args.at + 2} (omega arith) in
    let e = get_or-eq_default c.args.s.now 0 {n = c.args.at + 3} (omega arith) in
    omega arith

pub returns : goal.returns
unfolding word_at
returns c = omega (arith, c.byte.ensures, c.byte-2.ensures, c.byte-3.ensures, c.byte-4.ensures)
