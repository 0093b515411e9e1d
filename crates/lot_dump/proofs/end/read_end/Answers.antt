use Rattle.lot_dump.proofs.EndLemmas.{end_read, end_says}
use Rattle.lot_dump.proofs.end.read_end.Goals as goal

pub returns-clause-end : goal.returns-clause-end
returns-clause-end c = end_says c.args.line.now c.cut_end.result c.cut_end.ensures

pub returns-clause-every : goal.returns-clause-every
returns-clause-every c = end_read c.args.line.now c.cut_end.result c.cut_end.ensures
