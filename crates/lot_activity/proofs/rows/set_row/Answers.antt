use Rattle.lot_activity.proofs.rows.set_row.Goals as goal

pub returns-clause-entries : goal.returns-clause-entries
returns-clause-entries c = c.in_ok-insert.ensures.entries
