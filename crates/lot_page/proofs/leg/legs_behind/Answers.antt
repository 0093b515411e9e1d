use Rattle.std.proofs.Common.{arith, refl, rules}
use Rattle.std.proofs.lemmas.List.{nil_from_length}
use Rattle.lot_page.specs.Page.{page_rows}
use Rattle.lot_page.proofs.LegLemmas.{all_legs, asks_place, mounts_2, place_takes}
use Rattle.lot_page.proofs.NextLemmas.{least}
use Rattle.lot_page.proofs.WalkLemmas.{later_pages, level_fails, level_pages}
use Rattle.lot_rows.specs.Leg.{leg_cells}
use Rattle.lot_page.proofs.leg.legs_behind.Goals as goal

pub returns-in_default : goal.returns-in_default
returns-in_default g c =
    let old = g.D.Queryable.shown c.args.conn.now in
    let new = g.D.Queryable.shown c.legs_from.new.conn in
    record {
      same_reference = search rules;
      pages = rw (c.in_default.is)
          (all_legs old new c.legs_from.result (c.legs_from.ensures.pages least refl));
    }

pub ask-requires : goal.ask-requires
ask-requires g c = asks_place.selects

pub returns-in_err-rest : goal.returns-in_err-rest
returns-in_err-rest g c =
    let told = c.ask.ensures in
    let row = c.in-Some.row in
    let old = g.D.Queryable.shown c.args.conn.now in
    let new = g.D.Queryable.shown c.ask.new.conn in
    let first =
    place_takes old new row c.ask.result
    (rw (c.to_cell.ensures, c.to_cell-2.ensures, c.to_cell-3.ensures, c.to_cell-4.ensures)
    at told.shown) told.same
    (rw (c.to_cell.ensures, c.to_cell-2.ensures, c.to_cell-3.ensures, c.to_cell-4.ensures)
    at told.refused) told.device told.err told.crash in
    let pages =
    level_fails leg_cells (λ b. b.leg) page_rows (omega arith) 2 (leg_cells row) mounts_2 old new
    c.in_err-rest.field-0.0 (rw (c.in_err-rest.was) at first) in
    record { same_reference = search rules; pages = rw (c.in-Some.is) (search rules) }

pub returns-then-not-is_empty : goal.returns-then-not-is_empty
returns-then-not-is_empty g c =
    let told = c.ask.ensures in
    let row = c.in-Some.row in
    let old = g.D.Queryable.shown c.args.conn.now in
    let new = g.D.Queryable.shown c.ask.new.conn in
    let first =
    place_takes old new row c.ask.result
    (rw (c.to_cell.ensures, c.to_cell-2.ensures, c.to_cell-3.ensures, c.to_cell-4.ensures)
    at told.shown) told.same
    (rw (c.to_cell.ensures, c.to_cell-2.ensures, c.to_cell-3.ensures, c.to_cell-4.ensures)
    at told.refused) told.device told.err told.crash in
    record {
      same_reference = search rules;
      pages = rw (c.in-Some.is)
          (level_pages leg_cells (λ b. b.leg) page_rows (omega arith) 2 (leg_cells row) mounts_2
          old new c.in_ok-rest.rest (search rules) (rw (c.in_ok-rest.was) at first));
    }

pub returns : goal.returns
returns g c =
    let told = c.ask.ensures in
    let row = c.in-Some.row in
    let old = g.D.Queryable.shown c.args.conn.now in
    let mid = g.D.Queryable.shown c.ask.new.conn in
    let first =
    place_takes old mid row c.ask.result
    (rw (c.to_cell.ensures, c.to_cell-2.ensures, c.to_cell-3.ensures, c.to_cell-4.ensures)
    at told.shown) told.same
    (rw (c.to_cell.ensures, c.to_cell-2.ensures, c.to_cell-3.ensures, c.to_cell-4.ensures)
    at told.refused) told.device told.err told.crash in
    let new = g.D.Queryable.shown c.behind_posting.new.conn in
    let later = c.behind_posting.ensures.pages in
    record {
      same_reference = search rules;
      pages = rw (c.in-Some.is)
          (later_pages leg_cells (λ b. b.leg) page_rows (omega arith) 2 (leg_cells row) mounts_2
          old mid c.in_ok-rest.rest (nil_from_length c.in_ok-rest.rest.items (search rules))
          (rw (c.in_ok-rest.was) at first) new c.behind_posting.result later);
    }
