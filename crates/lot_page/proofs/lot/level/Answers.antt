use Rattle.std.proofs.Common.{arith, inl, inr}
use Rattle.sqlite.specs.Held.{state}
use Rattle.lot_page.proofs.LotLemmas.{asks_from, cases_4, level_takes}
use Rattle.lot_page.proofs.lot.level.Goals as goal

pub ask-requires : goal.ask-requires
ask-requires g c = elim (cases_4 c.args.same c.requires.same) [
  | inl is ↦ rw (is) (asks_from 0 (omega arith)).selects
  | inr (inl is) ↦ rw (is) (asks_from 1 (omega arith)).selects
  | inr (inr (inl is)) ↦ rw (is) (asks_from 2 (omega arith)).selects
  | inr (inr (inr (inl is))) ↦ rw (is) (asks_from 3 (omega arith)).selects
  | inr (inr (inr (inr is))) ↦ rw (is) (asks_from 4 (omega arith)).selects
]

pub returns : goal.returns
returns g c =
    let told = c.ask.ensures in
    let row = c.args.row.now in
    let old = state g.S.Store c.args.conn.now in
    let new = state g.S.Store c.ask.new.conn in
    elim (cases_4 c.args.same c.requires.same) [
      | inl is ↦
          record { takes = rw (is) (level_takes 0 (omega arith) old new row c.ask.result (rw (is, c.to_cell.ensures, c.as_slice.ensures.value, c.requires.texts.account) at told.shown) told.same (rw (is, c.to_cell.ensures, c.as_slice.ensures.value, c.requires.texts.account) at told.refused) told.device told.err told.crash) }
      | inr (inl is) ↦
          record { takes = rw (is) (level_takes 1 (omega arith) old new row c.ask.result (rw (is, c.to_cell.ensures, c.to_cell-2.ensures, c.as_slice-2.ensures.value, c.requires.texts.commodity) at told.shown) told.same (rw (is, c.to_cell.ensures, c.to_cell-2.ensures, c.as_slice-2.ensures.value, c.requires.texts.commodity) at told.refused) told.device told.err told.crash) }
      | inr (inr (inl is)) ↦
          record { takes = rw (is) (level_takes 2 (omega arith) old new row c.ask.result (rw (is, c.to_cell.ensures, c.to_cell-2.ensures, c.to_cell-3.ensures, c.day_behind.ensures) at told.shown) told.same (rw (is, c.to_cell.ensures, c.to_cell-2.ensures, c.to_cell-3.ensures, c.day_behind.ensures) at told.refused) told.device told.err told.crash) }
      | inr (inr (inr (inl is))) ↦
          record { takes = rw (is) (level_takes 3 (omega arith) old new row c.ask.result (rw (is, c.to_cell.ensures, c.to_cell-2.ensures, c.to_cell-3.ensures, c.to_cell-4.ensures, c.as_slice-3.ensures.value, c.requires.texts.currency) at told.shown) told.same (rw (is, c.to_cell.ensures, c.to_cell-2.ensures, c.to_cell-3.ensures, c.to_cell-4.ensures, c.as_slice-3.ensures.value, c.requires.texts.currency) at told.refused) told.device told.err told.crash) }
      | inr (inr (inr (inr is))) ↦
          record { takes = rw (is) (level_takes 4 (omega arith) old new row c.ask.result (rw (is, c.to_cell.ensures, c.to_cell-2.ensures, c.to_cell-3.ensures, c.to_cell-4.ensures, c.to_cell-5.ensures, c.rate_behind.ensures) at told.shown) told.same (rw (is, c.to_cell.ensures, c.to_cell-2.ensures, c.to_cell-3.ensures, c.to_cell-4.ensures, c.to_cell-5.ensures, c.rate_behind.ensures) at told.refused) told.device told.err told.crash) }
    ]
