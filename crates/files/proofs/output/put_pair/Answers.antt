use Rattle.std.proofs.Common.{codes, decimal, ◌++◌, ap, subst}
use Rattle.std.proofs.KnownBytes.{Appends-trans}
use Rattle.files.specs.Written.{AppendsPart, pair_of}
use Rattle.files.proofs.Parts.{on_any, on_err, part_longer, part_after}
use Rattle.files.proofs.output.put_pair.Goals as goal

pub returns-in_err-put_number-clause-err : goal.returns-in_err-put_number-clause-err
returns-in_err-put_number-clause-err g c =
    let first = decimal c.from.result in
    let place = decimal c.args.place in
    let part = part_longer _ _ (first ++ codes " ") place (part_longer _ _ first (codes " ") c.in_err-put_number.ensures.err) in
    on_any _ _ (subst (AppendsPart _ _) (ap (λ n. pair_of n c.args.place) c.from.ensures) part)

pub returns-in_err-put_text-clause-err : goal.returns-in_err-put_text-clause-err
returns-in_err-put_text-clause-err g c =
    let first = decimal c.from.result in
    let place = decimal c.args.place in
    let part = part_longer _ _ (first ++ codes " ") place (part_after _ _ _ first (codes " ") c.in_ok-put_number.ensures.ok c.in_err-put_text.ensures.err) in
    on_any _ _ (subst (AppendsPart _ _) (ap (λ n. pair_of n c.args.place) c.from.ensures) part)

pub returns-clause-err : goal.returns-clause-err
returns-clause-err g c =
    let first = decimal c.from.result in
    let place = decimal c.args.place in
    let before = Appends-trans _ _ _ first (codes " ") c.in_ok-put_number.ensures.ok c.in_ok-put_text.ensures.ok in
    on_err c.put_number-2.result _ _ (λ part. subst (AppendsPart _ _) (ap (λ n. pair_of n c.args.place) c.from.ensures) (part_after _ _ _ (first ++ codes " ") place before part)) c.put_number-2.ensures.err
