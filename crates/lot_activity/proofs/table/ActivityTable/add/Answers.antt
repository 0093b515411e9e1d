use Rattle.std.proofs.Common.{◌∙◌, refl, sym}
use Rattle.lot_activity.proofs.RowLemmas.{leg_counted, leg_passed}
use Rattle.lot_activity.proofs.table.ActivityTable.add.Goals as goal

pub returns-then-is_counted : goal.returns-then-is_counted
returns-then-is_counted c terms legs table =
    leg_counted terms legs c.args.leg.now c.args.self.now
    (record {
      alloc = c.args.self.now.alloc;
      length = c.args.self.now.length;
      scope = c.args.self.now.scope;
      form = c.args.self.now.form;
      rows = c.add_leg.new.rows;
    })
    c.add_leg.result table refl (sym c.is_counted.ensures ∙ c.if-is_counted.true) c.add_leg.ensures

pub returns-else-is_counted : goal.returns-else-is_counted
returns-else-is_counted c terms legs table =
    leg_passed terms legs c.args.leg.now c.args.self.now table (sym c.is_counted.ensures ∙ c.if-is_counted.false)
