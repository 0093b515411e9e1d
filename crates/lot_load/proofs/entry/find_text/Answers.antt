-- The row of the key has the text.
use Rattle.std.specs.Prelude.{◌≡◌, List, Some, None, option_map, slice_get}
use Rattle.std.specs.String.{string_bytes}
use Rattle.std.proofs.Common.{Err, sym, ap, ◌∙◌}
use Rattle.std.proofs.lemmas.List.Elements.{recursion_from_All}
use Rattle.lot_book.specs.Facts.{Entry, text_under}
use Rattle.lot_command.specs.Sayable.{IsSayable}
use Rattle.lot_rows.specs.Entry.{IsEntryRow, entry_cells, is_named, named}
use Rattle.lot_rows.specs.declared.entry.EntryRow.{EntryRow}
use Rattle.lot_load.proofs.DamageLemmas.{no_row_has_none, no_row_is_sound, row_has_text, row_is_sound, said_text}
use Rattle.lot_load.proofs.ReadLemmas.{fails_first, passes, reads_first, refuses, tells}
use Rattle.lot_load.proofs.RowLemmas.{good_filtered, named_text}
use Rattle.lot_print.specs.Canonical.{IsCanonical}
use Rattle.lot_load.proofs.entry.find_text.Goals as goal

pub returns-in_err-row-clause-tells : goal.returns-in_err-row-clause-tells
returns-in_err-row-clause-tells g c =
    let old = g.D.Queryable.shown c.args.conn.now in
    let new = g.D.Queryable.shown c.find.new.conn in
    let key = c.args.key.now in
    passes _ old new c.in_err-row.field-0.0 c.from_residual.result c.from_residual.ensures.1
    (fails_first _ _ _ _ old new c.in_err-row.field-0.0 c.in_err-row.ensures.finds
    (λ tables entries book stand. good_filtered IsEntryRow (λ row. is_named key.source key.name (entry_cells row)) tables.entry stand.good.entry))

pub returns-in_ok-text_of-in-Some-clause-tells : goal.returns-in_ok-text_of-in-Some-clause-tells
returns-in_ok-text_of-in-Some-clause-tells g c =
    let old = g.D.Queryable.shown c.args.conn.now in
    let new = g.D.Queryable.shown c.find.new.conn in
    let key = c.args.key.now in
    let text = c.in_ok-text_of-in-Some.field-0 in
    tells _ old new (Some text)
    (reads_first _ _ _ (λ entries. option_map string_bytes (Some text) ≡ text_under entries key) old new c.in_ok-row.field-0 c.in_ok-row.ensures.finds
    (λ tables entries book stand good is.
    ap Some c.in_ok-text_of-in-Some.ensures.ok
    ∙ ap (option_map (λ (row : EntryRow). row.body)) (sym c.in-Some.is ∙ is ∙ ap (λ (rows : List EntryRow). slice_get (named key.source key.name rows) 0) stand.entry)
    ∙ named_text 1 entries key))

pub returns-in_ok-text_of-in-Some-clause-damage : goal.returns-in_ok-text_of-in-Some-clause-damage
returns-in_ok-text_of-in-Some-clause-damage g c clean tables has damaged =
    absurd (row_is_sound tables c.args.key.now c.in_ok-row.field-0 (c.in_ok-row.ensures.finds.says clean tables has) c.in-Some.row c.in-Some.is
    c.in_ok-text_of-in-Some.ensures.canonical damaged)

pub returns-in_err-text_of-in-Some-clause-tells : goal.returns-in_err-text_of-in-Some-clause-tells
returns-in_err-text_of-in-Some-clause-tells g c =
    let old = g.D.Queryable.shown c.args.conn.now in
    let new = g.D.Queryable.shown c.find.new.conn in
    let key = c.args.key.now in
    let body = c.in-Some.row.body in
    let refused = c.in_err-text_of-in-Some.ensures in
    passes _ old new c.in_err-text_of-in-Some.field-0.0 c.from_residual-in_err-text_of-in-Some.result c.from_residual-in_err-text_of-in-Some.ensures.1
    (refuses (IsCanonical body) _ old new c.in_err-text_of-in-Some.field-0.0 (λ e. refused.no_device (ap Err e)) (λ e. refused.damaged (ap Err e))
    (reads_first _ _ _ (λ entries. IsCanonical body) old new c.in_ok-row.field-0 c.in_ok-row.ensures.finds
    (λ tables entries book stand good is.
    said_text entries key body (recursion_from_All (λ (entry : Entry). IsSayable entry.command) entries stand.said)
    (ap (option_map (λ (row : EntryRow). row.body)) (sym c.in-Some.is ∙ is ∙ ap (λ (rows : List EntryRow). slice_get (named key.source key.name rows) 0) stand.entry)
    ∙ named_text 1 entries key))))

pub returns-in-None-clause-tells : goal.returns-in-None-clause-tells
returns-in-None-clause-tells g c =
    let old = g.D.Queryable.shown c.args.conn.now in
    let new = g.D.Queryable.shown c.find.new.conn in
    let key = c.args.key.now in
    tells (λ text entries. option_map string_bytes text ≡ text_under entries key) old new None
    (reads_first _ _ _ (λ entries. None ≡ text_under entries key) old new c.in_ok-row.field-0 c.in_ok-row.ensures.finds
    (λ tables entries book stand good is.
    ap (option_map (λ (row : EntryRow). row.body)) (sym c.in-None.is ∙ is ∙ ap (λ (rows : List EntryRow). slice_get (named key.source key.name rows) 0) stand.entry)
    ∙ named_text 1 entries key))

pub returns-in-None-clause-damage : goal.returns-in-None-clause-damage
returns-in-None-clause-damage g c clean tables has damaged =
    absurd (no_row_is_sound tables c.args.key.now c.in_ok-row.field-0 (c.in_ok-row.ensures.finds.says clean tables has) c.in-None.is damaged)

pub returns-in_ok-text_of-in-Some-clause-text : goal.returns-in_ok-text_of-in-Some-clause-text
returns-in_ok-text_of-in-Some-clause-text g c clean tables has =
    row_has_text tables c.args.key.now c.in_ok-row.field-0 (c.in_ok-row.ensures.finds.says clean tables has) c.in-Some.row
    (string_bytes c.in_ok-text_of-in-Some.field-0) c.in-Some.is c.in_ok-text_of-in-Some.ensures.ok c.in_ok-text_of-in-Some.ensures.canonical

pub returns-in-None-clause-text : goal.returns-in-None-clause-text
returns-in-None-clause-text g c clean tables has =
    no_row_has_none tables c.args.key.now c.in_ok-row.field-0 (c.in_ok-row.ensures.finds.says clean tables has) c.in-None.is
