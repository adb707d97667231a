use Rattle.dogwood_theorems.proofs.Promises.{call_promised}
use Rattle.dogwood_theorems.proofs.promised.Goals as goal

pub returns : goal.returns
returns c =
    call_promised
    (record {
      source = c.args.source.now;
      outline = c.args.outline.now;
      table = c.args.table.now;
      output = c.args.output.now;
      answer = _;
      table' = _;
      output' = _;
      kept = c.format_policies.ensures;
    })
