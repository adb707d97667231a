use mathlib.Core.Path.{refl}
use native.Mathlib.Omega.{arith}
use Rattle.dogwood_formatter.proofs.Fine.{fine_ready, fine_offered}
use Rattle.dogwood_formatter.proofs.Answering.{given_room, given_none, judged_as, objected_given}
use Rattle.dogwood_formatter.proofs.format.format_tokens.Goals as goal

pub returns-in-Err : goal.returns-in-Err
returns-in-Err c =
    record {
      verdict = _;
      location = _;
      judged = judged_as c.args.source.now c.args.outline.now _ c.requires.1 c.split_bom.ensures.text c.in-Err.is c.judge.ensures;
      given = objected_given c.args.source.now c.args.outline.now c.in-Err.objection c.hand_back.ensures;
    }

pub offer_file-size-requires : goal.offer_file-size-requires
offer_file-size-requires c =
    fine_ready c.args.source.now c.args.outline.now c.args.table.now c.requires
    (judged_as c.args.source.now c.args.outline.now _ c.requires.1 c.split_bom.ensures.text c.in_default.is c.judge.ensures)

pub returns-then-output-size : goal.returns-then-output-size
returns-then-output-size c =
    record {
      verdict = 0;
      location = 0;
      judged = judged_as c.args.source.now c.args.outline.now _ c.requires.1 c.split_bom.ensures.text c.in_default.is c.judge.ensures;
      given = given_none (fine_offered c.args.source.now c.args.outline.now c.args.table.now c.requires c.offer_file-size.ensures) 0 0 (omega (arith, c.if-output-size.true));
    }

pub returns : goal.returns
returns c =
    let o = fine_offered c.args.source.now c.args.outline.now c.args.table.now c.requires c.offer_file-size.ensures in
    record {
      verdict = 0;
      location = 0;
      judged = judged_as c.args.source.now c.args.outline.now _ c.requires.1 c.split_bom.ensures.text c.in_default.is c.judge.ensures;
      given = given_room o 0 0 (omega (arith, c.if-output-size.false)) refl refl o.count;
    }
