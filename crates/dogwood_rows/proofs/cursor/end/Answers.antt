use Rattle.dogwood_rows.proofs.Places.{end_of_lem}
use Rattle.dogwood_rows.proofs.cursor.end.Goals as goal

pub returns : goal.returns
returns c = end_of_lem c.args.table.now
