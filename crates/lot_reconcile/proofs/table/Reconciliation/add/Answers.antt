use Rattle.std.proofs.Common.{◌∙◌, refl, sym}
use Rattle.lot_reconcile.proofs.TableLemmas.{leg_counted, leg_passed}
use Rattle.lot_reconcile.proofs.table.Reconciliation.add.Goals as goal

pub returns-then-has : goal.returns-then-has
returns-then-has c terms legs table =
    leg_counted terms legs c.args.leg.now c.args.self.now
    (record {
      alloc = c.args.self.now.alloc;
      scope = c.args.self.now.scope;
      form = c.args.self.now.form;
      rows = c.add_leg.new.rows;
    })
    c.add_leg.result table refl refl (sym c.has.ensures ∙ c.if-has.true) c.add_leg.ensures

pub returns-else-has : goal.returns-else-has
returns-else-has c terms legs table =
    leg_passed terms legs c.args.leg.now c.args.self.now table (sym c.has.ensures ∙ c.if-has.false)
