use Rattle.std.proofs.Common.{arith, rules}
use Rattle.sqlite.specs.declared.types.Value.TheVariants.{Int}
use Rattle.lot_page.specs.Page.{is_from, page_rows}
use Rattle.lot_page.proofs.LegLemmas.{asks_from, from_takes}
use Rattle.lot_page.proofs.WalkLemmas.{taken}
use Rattle.lot_rows.specs.Leg.{leg_cells}
use Rattle.lot_page.proofs.leg.legs_from.Goals as goal

pub ask-requires : goal.ask-requires
ask-requires g c = asks_from.selects

pub returns : goal.returns
returns g c =
    let told = c.ask.ensures in
    let old = g.D.Queryable.shown c.args.conn.now in
    let new = g.D.Queryable.shown c.ask.new.conn in
    record {
      same_reference = search rules;
      pages = λ n is.
          let first =
          from_takes old new n c.ask.result (rw (c.to_cell.ensures, is) at told.shown) told.same
          (rw (c.to_cell.ensures, is) at told.refused) told.device told.err told.crash in
          taken leg_cells (λ b. b.leg) page_rows (omega arith) (is_from (Int n)) old new c.ask.result
          first;
    }
