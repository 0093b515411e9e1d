use Rattle.std.proofs.Common.{refl, subst, ◌∷◌, ◌++◌, ◌∙◌, []}
use Rattle.lot_tally.specs.Lots.{all_lots, sale_lots}
use Rattle.lot_tally.specs.Rows.{Adds, lots_fit}
use Rattle.lot_tally.proofs.RowLemmas.{sale_counted}
use Rattle.lot_tally.proofs.table.GainsTable.add.Goals as goal

pub returns : goal.returns
returns c by form sales table =
    sale_counted by form sales c.args.sale.now c.args.self.now
    (record { alloc = c.args.self.now.alloc; by = c.args.self.now.by; form = c.args.self.now.form; counted = c.add.new.self })
    c.add.result _ refl table refl refl c.add.ensures
