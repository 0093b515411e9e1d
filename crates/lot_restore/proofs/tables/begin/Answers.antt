use Rattle.sqlite.specs.Held.{state}
use Rattle.lot_table.proofs.BookLemmas.{on_ok}
use Rattle.lot_restore.proofs.BeginLemmas.{none_at}
use Rattle.lot_restore.proofs.tables.begin.Goals as goal

pub returns-clause-made : goal.returns-clause-made
returns-clause-made g c clean =
    on_ok c.make_tables.result _ _ (λ made empty sound. none_at (state g.S.Store c.make_tables.new.tx.conn.now) (made empty sound))
    (c.make_tables.ensures.made clean)
