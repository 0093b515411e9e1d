use Rattle.lot_rows.proofs.MigrationLemmas.{list_query, list_rows}
use Rattle.lot_rows.proofs.migration.list.Goals as goal

pub select-requires : goal.select-requires
select-requires g c = list_query.selects

pub returns-clause-lists : goal.returns-clause-lists
returns-clause-lists g c =
    list_rows (g.D.Queryable.shown c.args.conn.now) (g.D.Queryable.shown c.select.new.conn) c.select.result c.select.ensures.selects
