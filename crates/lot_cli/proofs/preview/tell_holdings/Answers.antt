use Rattle.lot_cli.proofs.preview.tell_holdings.Goals as goal

pub returns-clause-tells : goal.returns-clause-tells
returns-clause-tells g c = c.tell_report.ensures.tells
