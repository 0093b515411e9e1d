use Rattle.std.proofs.Common.{◌∙◌}
use Rattle.lot_tally.proofs.RowLemmas.{kept_sums, lot_added, lot_unfit}
use Rattle.lot_tally.proofs.counted.add_lot.Goals as goal

pub returns-in-Some : goal.returns-in-Some
returns-in-Some c lots lot own has =
    lot_added lots lot c.args.rows.now c.set_row.new.rows c.args.key c.args.cost c.args.gain _ _ c.set_row.result own has
    (c.unwrap_or-sums.ensures ∙ kept_sums lots c.args.rows.now c.args.key c.copied.result c.none.result has (c.copied.ensures ∙ c.get.ensures.value) c.none.ensures)
    c.in-Some.ensures c.set_row.ensures.entries c.set_row.ensures.cause

pub returns-in-None : goal.returns-in-None
returns-in-None c lots lot own has =
    lot_unfit lots lot c.args.key c.args.cost c.args.gain _ own
    (c.unwrap_or-sums.ensures ∙ kept_sums lots c.args.rows.now c.args.key c.copied.result c.none.result has (c.copied.ensures ∙ c.get.ensures.value) c.none.ensures)
    c.in-None.ensures
