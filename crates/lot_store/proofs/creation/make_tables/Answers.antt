use Rattle.std.proofs.Common.{◌≡◌, [], arith}
use Rattle.std.proofs.lemmas.Result.{err_from_is_err_and}
use Rattle.sqlite.proofs.StateLemmas.{survives_then}
use Rattle.sqlite.specs.Held.{state}
use Rattle.sqlite.specs.State.{HasCleanDisk}
use Rattle.sqlite_catalog.specs.Listing.{IsSound}
use Rattle.lot_stored.specs.Rows.{migration_row, this_edition}
use Rattle.lot_rows.specs.Tables.{Has, book_table, migration_table, no_rows_yet}
use Rattle.lot_table.specs.Shape.{schema_of}
use Rattle.lot_store.proofs.CreateLemmas.{marked, only_marked, placed}
use Rattle.lot_store.proofs.RefusalLemmas.{edition_has_room, place_has_room, puts_none}
use Rattle.lot_store.proofs.creation.make_tables.Goals as goal

pub returns-clause-made : goal.returns-clause-made
returns-clause-made g c clean none sound =
    let first = c.in_ok-put.ensures.puts in
    let second = c.in_ok-put-2.ensures.puts in
    placed (state g.S.Store c.put.new.tx.conn.now) (state g.S.Store c.put-2.new.tx.conn.now)
    (marked (state g.S.Store c.make.new.tx.conn.now) (state g.S.Store c.put.new.tx.conn.now) c.args.row.now c.requires.row
    (c.in_ok-make.ensures.made (omega (arith, clean, second.crash.clean, first.crash.clean)) none sound) (first.turns (omega (arith, clean, second.crash.clean))))
    (second.turns clean)

pub returns-in_err-put-clause-refused : goal.returns-in_err-put-clause-refused
returns-in_err-put-clause-refused g c clean live =
    let fault = err_from_is_err_and c.from_residual-in_err-put.result c.from_residual-in_err-put.ensures.1 in
    let made = c.in_ok-make.ensures in
    rw (fault.1, fault.2)
    (puts_none book_table this_edition no_rows_yet (state g.S.Store c.args.tx.now.conn.now) (state g.S.Store c.make.new.tx.conn.now) (state g.S.Store c.put.new.tx.conn.now)
    c.in_err-put.field-0.0 edition_has_room clean live c.requires.unlimited made.crash made.made (rw c.requires.row at c.in_err-put.ensures.puts))

pub returns-in_err-put-2-clause-refused : goal.returns-in_err-put-2-clause-refused
returns-in_err-put-2-clause-refused g c clean live =
    let old = state g.S.Store c.args.tx.now.conn.now in
    let begun = state g.S.Store c.make.new.tx.conn.now in
    let mid = state g.S.Store c.put.new.tx.conn.now in
    let fault = err_from_is_err_and c.from_residual-in_err-put-2.result c.from_residual-in_err-put-2.ensures.1 in
    let made = c.in_ok-make.ensures in
    let first = c.in_ok-put.ensures.puts in
    let has : HasCleanDisk mid → old.now.schema ≡ schema_of [] → IsSound (schema_of []) old.now.trees → Has mid only_marked =
    λ early none sound.
    marked begun mid c.args.row.now c.requires.row (made.made (omega (arith, early, first.crash.clean)) none sound) (first.turns early) in
    rw (fault.1, fault.2)
    (puts_none migration_table (migration_row 0) only_marked old mid (state g.S.Store c.put-2.new.tx.conn.now) c.in_err-put-2.field-0.0 place_has_room clean live c.requires.unlimited
    (survives_then old begun mid (λ _. ⊥) (λ _. ⊥) (λ _. ⊥) (λ _ db none. none) (λ _ db none. none) made.crash first.crash) has c.in_err-put-2.ensures.puts)
