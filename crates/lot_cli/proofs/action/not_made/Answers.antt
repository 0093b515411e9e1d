use Rattle.lot_cli.proofs.action.not_made.Goals as goal

pub returns-clause-says : goal.returns-clause-says
returns-clause-says g c = c.halted.ensures.says
