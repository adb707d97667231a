use Rattle.std.proofs.Common.{codes, ◌++◌}
use Rattle.std.proofs.KnownBytes.{Appends-trans}
use Rattle.files.specs.Written.{pair_of, spaced}
use Rattle.files.proofs.Parts.{on_any, on_err, part_longer, part_after}
use Rattle.files.proofs.output.put_answer.Goals as goal

pub returns-in_err-put_pair-clause-err : goal.returns-in_err-put_pair-clause-err
returns-in_err-put_pair-clause-err g c =
    let pair = pair_of c.args.number c.args.value in
    let table = spaced c.args.table.now in
    on_any _ _ (part_longer _ _ (pair ++ table) (codes "\n") (part_longer _ _ pair table c.in_err-put_pair.ensures.err))

pub returns-in_err-put_words-clause-err : goal.returns-in_err-put_words-clause-err
returns-in_err-put_words-clause-err g c =
    let pair = pair_of c.args.number c.args.value in
    let table = spaced c.args.table.now in
    on_any _ _ (part_longer _ _ (pair ++ table) (codes "\n") (part_after _ _ _ pair table c.in_ok-put_pair.ensures.ok c.in_err-put_words.ensures.err))

pub returns-clause-err : goal.returns-clause-err
returns-clause-err g c =
    let pair = pair_of c.args.number c.args.value in
    let table = spaced c.args.table.now in
    let before = Appends-trans _ _ _ pair table c.in_ok-put_pair.ensures.ok c.in_ok-put_words.ensures.ok in
    on_err c.put_text.result _ _ (part_after _ _ _ (pair ++ table) (codes "\n") before) c.put_text.ensures.err
