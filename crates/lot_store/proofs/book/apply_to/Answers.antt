use Rattle.std.proofs.Common.{◌≡◌, ◌∙◌, Err, ap, arith, not, refl, sym}
use Rattle.std.proofs.lemmas.Result.{err_from_is_err_and}
use Rattle.std.specs.Result.{result_ok}
use Rattle.sqlite.specs.Held.{state}
use Rattle.sqlite.specs.State.{HasCleanDisk}
use Rattle.lot_book.specs.Openings.{IsAcceptedWith, ties_on}
use Rattle.lot_book.specs.declared.refusal.Stop.TheVariants.{Refused}
use Rattle.lot_laws.proofs.RecordedBook.{room_where_decided}
use Rattle.lot_ledger.specs.declared.decision.Outcome.TheVariants.{Repeat}
use Rattle.lot_load.specs.Kept.{IsOf, Keeps, seen, seen_with_openings}
use Rattle.lot_write.specs.Writes.{writes_of}
use Rattle.lot_store.specs.Apply.{store_fault_of}
use Rattle.lot_store.specs.declared.fault.StoreFault.TheVariants.{Device}
use Rattle.lot_store.proofs.ApplyLemmas.{LooksOn, accepts, fails, fails_unwritten, refused, refused_number, refuses, repeats}
use Rattle.lot_store.proofs.ByTextLemmas.{has_along, turns_accepted}
use Rattle.lot_store.proofs.CommitLemmas.{of_damaged, of_device}
use Rattle.lot_store.proofs.DamageLemmas.{looked_at}
use Rattle.lot_store.proofs.KeptLemmas.{accepted_on, comes_on, kept_then, stops_on, writes_on}
use Rattle.lot_store.proofs.PairedLemmas.{none_whole, whole_recorded}
use Rattle.lot_store.proofs.book.apply_to.Goals as goal

pub writes-requires : goal.writes-requires
writes-requires g c =
    let looked = c.in_ok-looked.looked in
    let comes : IsAcceptedWith (seen_with_openings looked) c.args.command.now c.in-Ok-Accept.change = accepted_on looked c.view.result.now c.view.ensures c.args.command.now _ _ c.in-Ok-Accept.field-0-is c.in-Ok-Accept.ensures.decided in
    rw c.view-in-Ok-Accept.ensures (room_where_decided (ties_on (seen_with_openings looked)) (seen looked) c.args.command.now c.in-Ok-Accept.change.legs comes.0)

pub record-requires : goal.record-requires
record-requires g c =
    let looked = c.in_ok-looked.looked in
    let comes : IsAcceptedWith (seen_with_openings looked) c.args.command.now c.in-Ok-Accept.change = accepted_on looked c.view.result.now c.view.ensures c.args.command.now _ _ c.in-Ok-Accept.field-0-is c.in-Ok-Accept.ensures.decided in
    room_where_decided (ties_on (seen_with_openings looked)) (seen looked) c.args.command.now c.in-Ok-Accept.change.legs comes.0

pub returns-in-Ok-Repeat-clause-applies : goal.returns-in-Ok-Repeat-clause-applies
returns-in-Ok-Repeat-clause-applies g c =
    let old = state g.S.Store c.args.conn.now in
    let mid = state g.S.Store c.look_on.new.conn in
    let looked = c.in_ok-looked.looked in
    let read = c.in_ok-looked.ensures.looks in
    let looks : HasCleanDisk mid → LooksOn (IsOf c.args.kept.now) (Keeps looked) (seen_with_openings looked) c.args.key.now c.args.command.now old =
    λ clean tables has entries book stand is_kept. read.says clean tables has entries book stand (rw c.take.ensures.value is_kept) in
    repeats (IsOf c.args.kept.now) (Keeps looked) c.args.key.now c.args.command.now (seen_with_openings looked) old mid read.same looks
    (λ clean opened. c.is_autocommit-settled.ensures.settled (rw c.is_autocommit-settled.ensures.value (ap not (c.requires.outside (omega (arith, clean, read.crash.clean))))) opened)
    read.crash (comes_on looked c.view.result.now c.view.ensures c.args.command.now _ Repeat c.in-Ok-Repeat.field-0-is c.in-Ok-Repeat.ensures.decided)

pub returns-in-Err-Refused-clause-applies : goal.returns-in-Err-Refused-clause-applies
returns-in-Err-Refused-clause-applies g c =
    let old = state g.S.Store c.args.conn.now in
    let mid = state g.S.Store c.look_on.new.conn in
    let looked = c.in_ok-looked.looked in
    let read = c.in_ok-looked.ensures.looks in
    let looks : HasCleanDisk mid → LooksOn (IsOf c.args.kept.now) (Keeps looked) (seen_with_openings looked) c.args.key.now c.args.command.now old =
    λ clean tables has entries book stand is_kept. read.says clean tables has entries book stand (rw c.take.ensures.value is_kept) in
    rw c.in-Err-Refused.refusal-is
    (refuses (IsOf c.args.kept.now) (Keeps looked) c.args.key.now c.args.command.now (seen_with_openings looked) old mid read.same looks
    (λ clean opened. c.is_autocommit-settled.ensures.settled (rw c.is_autocommit-settled.ensures.value (ap not (c.requires.outside (omega (arith, clean, read.crash.clean))))) opened)
    read.crash c.in-Err-Refused.refusal (stops_on looked c.view.result.now c.view.ensures c.args.command.now _ (Refused c.in-Err-Refused.refusal) c.in-Err-Refused.field-0-is c.in-Err-Refused.ensures.stops))

pub returns-in_err-writes-in-Ok-Accept-clause-applies : goal.returns-in_err-writes-in-Ok-Accept-clause-applies
returns-in_err-writes-in-Ok-Accept-clause-applies g c =
    let read = c.in_ok-looked.ensures.looks in
    let cause = c.in_err-writes-in-Ok-Accept.field-0.0 in
    let fault = err_from_is_err_and c.from_residual-in_err-writes-in-Ok-Accept.result c.from_residual-in_err-writes-in-Ok-Accept.ensures.1 in
    rw (fault.1, fault.2)
    (fails_unwritten (IsOf c.args.kept.now) (IsOf c.take.new.self) c.args.key.now c.args.command.now (state g.S.Store c.args.conn.now) (state g.S.Store c.look_on.new.conn)
    (store_fault_of cause) (λ is. c.in_err-writes-in-Ok-Accept.ensures.fault (ap Err (of_damaged cause is))) read.same read.crash)

pub returns-in_err-commit-in-Ok-Accept-clause-applies : goal.returns-in_err-commit-in-Ok-Accept-clause-applies
returns-in_err-commit-in-Ok-Accept-clause-applies g c =
    let old = state g.S.Store c.args.conn.now in
    let mid = state g.S.Store c.look_on.new.conn in
    let new = state g.S.Store c.commit.new.conn in
    let looked = c.in_ok-looked.looked in
    let comes : IsAcceptedWith (seen_with_openings looked) c.args.command.now c.in-Ok-Accept.change = accepted_on looked c.view.result.now c.view.ensures c.args.command.now _ _ c.in-Ok-Accept.field-0-is c.in-Ok-Accept.ensures.decided in
    let read = c.in_ok-looked.ensures.looks in
    let looks : HasCleanDisk mid → LooksOn (IsOf c.args.kept.now) (Keeps looked) (seen_with_openings looked) c.args.key.now c.args.command.now old =
    λ clean tables has entries book stand is_kept. read.says clean tables has entries book stand (rw c.take.ensures.value is_kept) in
    let made = c.in_ok-writes-in-Ok-Accept.ensures in
    let are : c.deref.result.now ≡ writes_of (seen looked) c.args.key.now c.args.command.now c.in-Ok-Accept.change = writes_on looked c.view-in-Ok-Accept.result.now c.view-in-Ok-Accept.ensures c.args.command.now c.args.key.now c.in-Ok-Accept.change c.deref.result.now (c.deref.ensures.value ∙ made.writes) in
    let fault = err_from_is_err_and c.from_residual-in_err-commit-in-Ok-Accept.result c.from_residual-in_err-commit-in-Ok-Accept.ensures.1 in
    rw (fault.1, fault.2)
    (fails c.what_is_written_stands_for_the_book.ensures (IsOf c.args.kept.now) (Keeps looked) c.args.key.now c.args.command.now (seen_with_openings looked) c.in-Ok-Accept.change c.deref.result.now are comes made.ordered
    c.is_sayable.ensures (rw c.deref.ensures.value made.good) old mid new read.same looks
    (λ clean opened. c.is_autocommit-settled.ensures.settled (rw c.is_autocommit-settled.ensures.value (ap not (c.requires.outside (omega (arith, clean, read.crash.clean))))) opened)
    read.crash (IsOf c.take.new.self) _ c.in_err-commit-in-Ok-Accept.ensures.kept c.in_err-commit-in-Ok-Accept.ensures.settled
    (λ clean is. c.in_err-commit-in-Ok-Accept.ensures.damaged clean (ap Err is) (read.crash.limit ∙ c.requires.unlimited)) c.in_err-commit-in-Ok-Accept.ensures.crash)

pub returns-in_ok-commit-in-Ok-Accept-clause-applies : goal.returns-in_ok-commit-in-Ok-Accept-clause-applies
returns-in_ok-commit-in-Ok-Accept-clause-applies g c =
    let old = state g.S.Store c.args.conn.now in
    let mid = state g.S.Store c.look_on.new.conn in
    let new = state g.S.Store c.commit.new.conn in
    let looked = c.in_ok-looked.looked in
    let comes : IsAcceptedWith (seen_with_openings looked) c.args.command.now c.in-Ok-Accept.change = accepted_on looked c.view.result.now c.view.ensures c.args.command.now _ _ c.in-Ok-Accept.field-0-is c.in-Ok-Accept.ensures.decided in
    let read = c.in_ok-looked.ensures.looks in
    let looks : HasCleanDisk mid → LooksOn (IsOf c.args.kept.now) (Keeps looked) (seen_with_openings looked) c.args.key.now c.args.command.now old =
    λ clean tables has entries book stand is_kept. read.says clean tables has entries book stand (rw c.take.ensures.value is_kept) in
    let made = c.in_ok-writes-in-Ok-Accept.ensures in
    let are : c.deref.result.now ≡ writes_of (seen looked) c.args.key.now c.args.command.now c.in-Ok-Accept.change = writes_on looked c.view-in-Ok-Accept.result.now c.view-in-Ok-Accept.ensures c.args.command.now c.args.key.now c.in-Ok-Accept.change c.deref.result.now (c.deref.ensures.value ∙ made.writes) in
    rw c.ok.ensures.value
    (accepts c.what_is_written_stands_for_the_book.ensures (IsOf c.args.kept.now) (Keeps looked) c.args.key.now c.args.command.now (seen_with_openings looked) c.in-Ok-Accept.change c.deref.result.now are comes made.ordered
    c.is_sayable.ensures (rw c.deref.ensures.value made.good) old mid new read.same looks
    (λ clean opened. c.is_autocommit-settled.ensures.settled (rw c.is_autocommit-settled.ensures.value (ap not (c.requires.outside (omega (arith, clean, read.crash.clean))))) opened)
    read.crash
    (IsOf (result_ok c.record.result)) (kept_then looked c.args.key.now c.args.command.now c.in-Ok-Accept.change c.record.result c.record.ensures.keeps comes)
    c.in_ok-commit-in-Ok-Accept.ensures.done c.in_ok-commit-in-Ok-Accept.ensures.crash)

pub returns-in_err-writes-in-Ok-Accept-clause-device : goal.returns-in_err-writes-in-Ok-Accept-clause-device
returns-in_err-writes-in-Ok-Accept-clause-device g c clean is =
    let old = state g.S.Store c.args.conn.now in
    let mid = state g.S.Store c.look_on.new.conn in
    let looked = c.in_ok-looked.looked in
    let comes : IsAcceptedWith (seen_with_openings looked) c.args.command.now c.in-Ok-Accept.change = accepted_on looked c.view.result.now c.view.ensures c.args.command.now _ _ c.in-Ok-Accept.field-0-is c.in-Ok-Accept.ensures.decided in
    let read = c.in_ok-looked.ensures.looks in
    let looks : HasCleanDisk mid → LooksOn (IsOf c.args.kept.now) (Keeps looked) (seen_with_openings looked) c.args.key.now c.args.command.now old =
    λ clean tables has entries book stand is_kept. read.says clean tables has entries book stand (rw c.take.ensures.value is_kept) in
    let fault = err_from_is_err_and c.from_residual-in_err-writes-in-Ok-Accept.result c.from_residual-in_err-writes-in-Ok-Accept.ensures.1 in
    let both = sym fault.1 ∙ is in
    let said = fault.2 in
    let told : store_fault_of c.in_err-writes-in-Ok-Accept.field-0.0 ≡ Device = cc in
    refused_number (IsOf c.args.kept.now) (Keeps looked) c.args.key.now c.args.command.now (seen_with_openings looked) c.in-Ok-Accept.change old mid comes (looks clean)
    (c.in_err-writes-in-Ok-Accept.ensures.device (ap Err (of_device c.in_err-writes-in-Ok-Accept.field-0.0 told)))

pub returns-in_err-commit-in-Ok-Accept-clause-device : goal.returns-in_err-commit-in-Ok-Accept-clause-device
returns-in_err-commit-in-Ok-Accept-clause-device g c clean is =
    let old = state g.S.Store c.args.conn.now in
    let mid = state g.S.Store c.look_on.new.conn in
    let new = state g.S.Store c.commit.new.conn in
    let looked = c.in_ok-looked.looked in
    let comes : IsAcceptedWith (seen_with_openings looked) c.args.command.now c.in-Ok-Accept.change = accepted_on looked c.view.result.now c.view.ensures c.args.command.now _ _ c.in-Ok-Accept.field-0-is c.in-Ok-Accept.ensures.decided in
    let read = c.in_ok-looked.ensures.looks in
    let looks : HasCleanDisk mid → LooksOn (IsOf c.args.kept.now) (Keeps looked) (seen_with_openings looked) c.args.key.now c.args.command.now old =
    λ clean tables has entries book stand is_kept. read.says clean tables has entries book stand (rw c.take.ensures.value is_kept) in
    let made = c.in_ok-writes-in-Ok-Accept.ensures in
    let are : c.deref.result.now ≡ writes_of (seen looked) c.args.key.now c.args.command.now c.in-Ok-Accept.change = writes_on looked c.view-in-Ok-Accept.result.now c.view-in-Ok-Accept.ensures c.args.command.now c.args.key.now c.in-Ok-Accept.change c.deref.result.now (c.deref.ensures.value ∙ made.writes) in
    let fault = err_from_is_err_and c.from_residual-in_err-commit-in-Ok-Accept.result c.from_residual-in_err-commit-in-Ok-Accept.ensures.1 in
    let both = sym fault.1 ∙ is in
    let said = fault.2 in
    let told : c.in_err-commit-in-Ok-Accept.field-0.0 ≡ Device = cc in
    refused c.what_is_written_stands_for_the_book.ensures (IsOf c.args.kept.now) (Keeps looked) c.args.key.now c.args.command.now (seen_with_openings looked) c.in-Ok-Accept.change c.deref.result.now are comes made.ordered
    c.is_sayable.ensures (rw c.deref.ensures.value made.good) old mid new read.same looks
    (λ clean opened. c.is_autocommit-settled.ensures.settled (rw c.is_autocommit-settled.ensures.value (ap not (c.requires.outside (omega (arith, clean, read.crash.clean))))) opened)
    read.crash (omega (arith, clean, c.in_err-commit-in-Ok-Accept.ensures.crash.clean)) (c.in_err-commit-in-Ok-Accept.ensures.device clean (ap Err told))

-- ---- the text under the key

pub returns-in_err-looked-clause-damage : goal.returns-in_err-looked-clause-damage
returns-in_err-looked-clause-damage g c clean tables has damaged =
    let fault = err_from_is_err_and c.from_residual.result c.from_residual.ensures.1 in
    looked_at c.in_err-looked.field-0.0 (state g.S.Store c.args.conn.now) (state g.S.Store c.look_on.new.conn) c.from_residual.result (fault.1 ∙ ap Err fault.2)
    (λ is. c.in_err-looked.ensures.looks.device clean (ap Err is))

pub returns-in_err-writes-in-Ok-Accept-clause-damage : goal.returns-in_err-writes-in-Ok-Accept-clause-damage
returns-in_err-writes-in-Ok-Accept-clause-damage g c clean tables has damaged = let none = c.in_ok-looked.ensures.damage clean tables has damaged in absurd cc

pub returns-in_err-commit-in-Ok-Accept-clause-damage : goal.returns-in_err-commit-in-Ok-Accept-clause-damage
returns-in_err-commit-in-Ok-Accept-clause-damage g c clean tables has damaged =
    let none = c.in_ok-looked.ensures.damage (omega (arith, clean, c.in_err-commit-in-Ok-Accept.ensures.crash.clean)) tables has damaged in absurd cc

pub returns-in_ok-commit-in-Ok-Accept-clause-damage : goal.returns-in_ok-commit-in-Ok-Accept-clause-damage
returns-in_ok-commit-in-Ok-Accept-clause-damage g c clean tables has damaged =
    let none = c.in_ok-looked.ensures.damage (omega (arith, clean, c.in_ok-commit-in-Ok-Accept.ensures.crash.clean)) tables has damaged in absurd cc

pub returns-in-Ok-Repeat-clause-damage : goal.returns-in-Ok-Repeat-clause-damage
returns-in-Ok-Repeat-clause-damage g c clean tables has damaged = let none = c.in_ok-looked.ensures.damage clean tables has damaged in absurd cc

pub returns-in-Err-Refused-clause-damage : goal.returns-in-Err-Refused-clause-damage
returns-in-Err-Refused-clause-damage g c clean tables has damaged = let none = c.in_ok-looked.ensures.damage clean tables has damaged in absurd cc

pub returns-in-Err-Memory-clause-damage : goal.returns-in-Err-Memory-clause-damage
returns-in-Err-Memory-clause-damage g c clean tables has damaged = let none = c.in_ok-looked.ensures.damage clean tables has damaged in absurd cc

pub returns-in_ok-commit-in-Ok-Accept-clause-text : goal.returns-in_ok-commit-in-Ok-Accept-clause-text
returns-in_ok-commit-in-Ok-Accept-clause-text g c clean tables has =
    let old = state g.S.Store c.args.conn.now in
    let mid = state g.S.Store c.look_on.new.conn in
    let new = state g.S.Store c.commit.new.conn in
    let looked = c.in_ok-looked.looked in
    let comes : IsAcceptedWith (seen_with_openings looked) c.args.command.now c.in-Ok-Accept.change = accepted_on looked c.view.result.now c.view.ensures c.args.command.now _ _ c.in-Ok-Accept.field-0-is c.in-Ok-Accept.ensures.decided in
    let made = c.in_ok-writes-in-Ok-Accept.ensures in
    let are : c.deref.result.now ≡ writes_of (seen looked) c.args.key.now c.args.command.now c.in-Ok-Accept.change = writes_on looked c.view-in-Ok-Accept.result.now c.view-in-Ok-Accept.ensures c.args.command.now c.args.key.now c.in-Ok-Accept.change c.deref.result.now (c.deref.ensures.value ∙ made.writes) in
    let early : HasCleanDisk mid = omega (arith, clean, c.in_ok-commit-in-Ok-Accept.ensures.crash.clean) in
    turns_accepted (seen_with_openings looked) c.args.key.now c.args.command.now c.in-Ok-Accept.change c.deref.result.now are comes c.is_sayable.ensures tables
    (c.in_ok-looked.ensures.text early tables has) new
    ((c.in_ok-commit-in-Ok-Accept.ensures.done clean).tables tables (has_along old mid tables (c.in_ok-looked.ensures.looks.same early).0.now_is has))

pub returns-in-Ok-Repeat-clause-text : goal.returns-in-Ok-Repeat-clause-text
returns-in-Ok-Repeat-clause-text g c clean tables has =
    let looked = c.in_ok-looked.looked in (
      tables,
      (
        seen_with_openings looked,
        c.in_ok-looked.ensures.text clean tables has,
        (comes_on looked c.view.result.now c.view.ensures c.args.command.now _ Repeat c.in-Ok-Repeat.field-0-is c.in-Ok-Repeat.ensures.decided, refl),
      ),
      has_along (state g.S.Store c.args.conn.now) (state g.S.Store c.look_on.new.conn) tables (c.in_ok-looked.ensures.looks.same clean).0.now_is has,
    )

pub returns-in-Err-Refused-clause-text : goal.returns-in-Err-Refused-clause-text
returns-in-Err-Refused-clause-text g c clean tables has =
    let looked = c.in_ok-looked.looked in
    rw c.in-Err-Refused.refusal-is (
      tables,
      (
        seen_with_openings looked,
        c.in_ok-looked.ensures.text clean tables has,
        (stops_on looked c.view.result.now c.view.ensures c.args.command.now _ (Refused c.in-Err-Refused.refusal) c.in-Err-Refused.field-0-is c.in-Err-Refused.ensures.stops, refl),
      ),
      has_along (state g.S.Store c.args.conn.now) (state g.S.Store c.look_on.new.conn) tables (c.in_ok-looked.ensures.looks.same clean).0.now_is has,
    )

-- ---- lots and their opening numbers

pub returns-in_err-looked-clause-unpaired : goal.returns-in_err-looked-clause-unpaired
returns-in_err-looked-clause-unpaired g c clean tables has unpaired =
    let fault = err_from_is_err_and c.from_residual.result c.from_residual.ensures.1 in
    looked_at c.in_err-looked.field-0.0 (state g.S.Store c.args.conn.now) (state g.S.Store c.look_on.new.conn) c.from_residual.result (fault.1 ∙ ap Err fault.2)
    (λ is. c.in_err-looked.ensures.looks.device clean (ap Err is))

pub returns-in_err-writes-in-Ok-Accept-clause-unpaired : goal.returns-in_err-writes-in-Ok-Accept-clause-unpaired
returns-in_err-writes-in-Ok-Accept-clause-unpaired g c clean tables has unpaired =
    absurd (unpaired ((rw c.take.ensures.value at c.in_ok-looked.ensures.paired) clean tables has))

pub returns-in_err-commit-in-Ok-Accept-clause-unpaired : goal.returns-in_err-commit-in-Ok-Accept-clause-unpaired
returns-in_err-commit-in-Ok-Accept-clause-unpaired g c clean tables has unpaired =
    absurd (unpaired ((rw c.take.ensures.value at c.in_ok-looked.ensures.paired) (omega (arith, clean, c.in_err-commit-in-Ok-Accept.ensures.crash.clean)) tables has))

pub returns-in_ok-commit-in-Ok-Accept-clause-unpaired : goal.returns-in_ok-commit-in-Ok-Accept-clause-unpaired
returns-in_ok-commit-in-Ok-Accept-clause-unpaired g c clean tables has unpaired =
    absurd (unpaired ((rw c.take.ensures.value at c.in_ok-looked.ensures.paired) (omega (arith, clean, c.in_ok-commit-in-Ok-Accept.ensures.crash.clean)) tables has))

pub returns-in-Ok-Repeat-clause-unpaired : goal.returns-in-Ok-Repeat-clause-unpaired
returns-in-Ok-Repeat-clause-unpaired g c clean tables has unpaired =
    absurd (unpaired ((rw c.take.ensures.value at c.in_ok-looked.ensures.paired) clean tables has))

pub returns-in-Err-Refused-clause-unpaired : goal.returns-in-Err-Refused-clause-unpaired
returns-in-Err-Refused-clause-unpaired g c clean tables has unpaired =
    absurd (unpaired ((rw c.take.ensures.value at c.in_ok-looked.ensures.paired) clean tables has))

pub returns-in-Err-Memory-clause-unpaired : goal.returns-in-Err-Memory-clause-unpaired
returns-in-Err-Memory-clause-unpaired g c clean tables has unpaired =
    absurd (unpaired ((rw c.take.ensures.value at c.in_ok-looked.ensures.paired) clean tables has))

pub returns-in_ok-commit-in-Ok-Accept-clause-paired : goal.returns-in_ok-commit-in-Ok-Accept-clause-paired
returns-in_ok-commit-in-Ok-Accept-clause-paired g c clean tables has =
    (rw c.take.ensures.value at c.in_ok-looked.ensures.paired) (omega (arith, clean, c.in_ok-commit-in-Ok-Accept.ensures.crash.clean)) tables has

pub returns-in-Ok-Repeat-clause-paired : goal.returns-in-Ok-Repeat-clause-paired
returns-in-Ok-Repeat-clause-paired g c clean tables has = (rw c.take.ensures.value at c.in_ok-looked.ensures.paired) clean tables has

pub returns-in-Err-Refused-clause-paired : goal.returns-in-Err-Refused-clause-paired
returns-in-Err-Refused-clause-paired g c clean tables has = (rw c.take.ensures.value at c.in_ok-looked.ensures.paired) clean tables has

pub returns-in_err-looked-clause-whole : goal.returns-in_err-looked-clause-whole
returns-in_err-looked-clause-whole g c clean tables has = none_whole c.args.kept.now tables c.take.new.self c.take.ensures.after

pub returns-in_err-writes-in-Ok-Accept-clause-whole : goal.returns-in_err-writes-in-Ok-Accept-clause-whole
returns-in_err-writes-in-Ok-Accept-clause-whole g c clean tables has = none_whole c.args.kept.now tables c.take.new.self c.take.ensures.after

pub returns-in_err-commit-in-Ok-Accept-clause-whole : goal.returns-in_err-commit-in-Ok-Accept-clause-whole
returns-in_err-commit-in-Ok-Accept-clause-whole g c clean tables has = none_whole c.args.kept.now tables c.take.new.self c.take.ensures.after

pub returns-in_ok-commit-in-Ok-Accept-clause-whole : goal.returns-in_ok-commit-in-Ok-Accept-clause-whole
returns-in_ok-commit-in-Ok-Accept-clause-whole g c clean tables has =
    rw c.ok.ensures.value
    (whole_recorded c.args.kept.now c.in_ok-looked.looked tables c.record.result c.record.ensures.whole
    ((rw c.take.ensures.value at c.in_ok-looked.ensures.whole) (omega (arith, clean, c.in_ok-commit-in-Ok-Accept.ensures.crash.clean)) tables has))

pub returns-in-Ok-Repeat-clause-whole : goal.returns-in-Ok-Repeat-clause-whole
returns-in-Ok-Repeat-clause-whole g c clean tables has = (rw c.take.ensures.value at c.in_ok-looked.ensures.whole) clean tables has

pub returns-in-Err-Refused-clause-whole : goal.returns-in-Err-Refused-clause-whole
returns-in-Err-Refused-clause-whole g c clean tables has = (rw c.take.ensures.value at c.in_ok-looked.ensures.whole) clean tables has

pub returns-in-Err-Memory-clause-whole : goal.returns-in-Err-Memory-clause-whole
returns-in-Err-Memory-clause-whole g c clean tables has = none_whole c.args.kept.now tables c.take.new.self c.take.ensures.after
