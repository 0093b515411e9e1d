use Rattle.std.proofs.Common.{pos}
use Rattle.sqlite.specs.Held.{state}
use Rattle.lot_recall.proofs.EntryLemmas.{asks_few, few_taken}
use Rattle.lot_recall.proofs.notes.page_from.Goals as goal

pub ask-requires : goal.ask-requires
ask-requires g c = asks_few.selects

pub returns : goal.returns
returns g c =
    let told = c.ask.ensures in
    record {
      takes =
          few_taken (state g.S.Store c.args.conn.now) (state g.S.Store c.ask.new.conn) (pos c.args.first) c.ask.result
          (rw (c.to_cell.ensures, c.to_cell-2.ensures) at told.shown) told.same (rw (c.to_cell.ensures, c.to_cell-2.ensures) at told.refused) told.device
          told.err told.crash;
    }
