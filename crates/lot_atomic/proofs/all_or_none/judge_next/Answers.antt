-- A command is judged on what was looked at of the book that the open transaction has.
use Rattle.std.proofs.Common.{◌≡◌, ◌∙◌, Err, ap, arith, refl}
use Rattle.std.proofs.lemmas.Result.{err_from_is_err_and}
use Rattle.std.specs.Result.{result_ok}
use Rattle.sqlite.specs.Held.{state}
use Rattle.sqlite.specs.State.{HasCleanDisk}
use Rattle.lot_book.specs.Openings.{IsAcceptedWith, ties_on}
use Rattle.lot_book.specs.declared.refusal.Stop.TheVariants.{Refused}
use Rattle.lot_laws.proofs.RecordedBook.{room_where_decided}
use Rattle.lot_ledger.specs.declared.decision.Outcome.TheVariants.{Repeat}
use Rattle.lot_load.specs.Kept.{IsOf, Keeps, seen, seen_with_openings}
use Rattle.lot_write.specs.Writes.{writes_of}
use Rattle.lot_atomic.proofs.AllOrNoneLemmas.{accepts_inside, refuses_inside, repeats_inside, unmade_inside, unwritten_inside}
use Rattle.lot_store.proofs.ApplyLemmas.{LooksOn, refused_number}
use Rattle.lot_store.specs.Apply.{store_fault_of}
use Rattle.lot_store.proofs.ByTextLemmas.{has_along, turns_accepted}
use Rattle.lot_store.proofs.DamageLemmas.{looked_at}
use Rattle.lot_store.proofs.PairedLemmas.{none_whole, whole_recorded}
use Rattle.lot_store.proofs.KeptLemmas.{accepted_on, comes_on, kept_then, stops_on, writes_on}
use Rattle.lot_atomic.proofs.all_or_none.judge_next.Goals as goal

pub writes-requires : goal.writes-requires
writes-requires g c =
    let looked = c.in_ok-looked.looked in
    let comes : IsAcceptedWith (seen_with_openings looked) c.args.command.now c.in-Ok-Accept.change = accepted_on looked c.view.result.now c.view.ensures c.args.command.now _ _ c.in-Ok-Accept.field-0-is c.in-Ok-Accept.ensures.decided in
    rw c.view-in-Ok-Accept.ensures (room_where_decided (ties_on (seen_with_openings looked)) (seen looked) c.args.command.now c.in-Ok-Accept.change.legs comes.0)

pub record-requires : goal.record-requires
record-requires g c =
    let looked = c.in_ok-looked.looked in
    let comes : IsAcceptedWith (seen_with_openings looked) c.args.command.now c.in-Ok-Accept.change = accepted_on looked c.view.result.now c.view.ensures c.args.command.now _ _ c.in-Ok-Accept.field-0-is c.in-Ok-Accept.ensures.decided in
    room_where_decided (ties_on (seen_with_openings looked)) (seen looked) c.args.command.now c.in-Ok-Accept.change.legs comes.0

pub returns-in-Ok-Repeat-clause-judges : goal.returns-in-Ok-Repeat-clause-judges
returns-in-Ok-Repeat-clause-judges g c =
    let old = state g.S.Store c.args.tx.now.conn.now in
    let mid = state g.S.Store c.look_on.new.conn.conn.now in
    let looked = c.in_ok-looked.looked in
    let read = c.in_ok-looked.ensures.looks in
    let looks : HasCleanDisk mid → LooksOn (IsOf c.args.kept.now) (Keeps looked) (seen_with_openings looked) c.args.key.now c.args.command.now old =
    λ clean tables has entries book stand is_kept. read.says clean tables has entries book stand (rw c.take.ensures.value is_kept) in
    repeats_inside (IsOf c.args.kept.now) (Keeps looked) c.args.key.now c.args.command.now (seen_with_openings looked) old mid c.requires.inside read.same looks
    read.crash (comes_on looked c.view.result.now c.view.ensures c.args.command.now _ Repeat c.in-Ok-Repeat.field-0-is c.in-Ok-Repeat.ensures.decided)

pub returns-in-Err-Refused-clause-judges : goal.returns-in-Err-Refused-clause-judges
returns-in-Err-Refused-clause-judges g c =
    let old = state g.S.Store c.args.tx.now.conn.now in
    let mid = state g.S.Store c.look_on.new.conn.conn.now in
    let looked = c.in_ok-looked.looked in
    let read = c.in_ok-looked.ensures.looks in
    let looks : HasCleanDisk mid → LooksOn (IsOf c.args.kept.now) (Keeps looked) (seen_with_openings looked) c.args.key.now c.args.command.now old =
    λ clean tables has entries book stand is_kept. read.says clean tables has entries book stand (rw c.take.ensures.value is_kept) in
    rw c.in-Err-Refused.refusal-is
    (refuses_inside (IsOf c.args.kept.now) (Keeps looked) c.args.key.now c.args.command.now (seen_with_openings looked) old mid c.requires.inside read.same looks
    read.crash c.in-Err-Refused.refusal (stops_on looked c.view.result.now c.view.ensures c.args.command.now _ (Refused c.in-Err-Refused.refusal) c.in-Err-Refused.field-0-is c.in-Err-Refused.ensures.stops))

pub returns-in_err-writes-in-Ok-Accept-clause-judges : goal.returns-in_err-writes-in-Ok-Accept-clause-judges
returns-in_err-writes-in-Ok-Accept-clause-judges g c =
    let old = state g.S.Store c.args.tx.now.conn.now in
    let mid = state g.S.Store c.look_on.new.conn.conn.now in
    let looked = c.in_ok-looked.looked in
    let read = c.in_ok-looked.ensures.looks in
    let looks : HasCleanDisk mid → LooksOn (IsOf c.args.kept.now) (Keeps looked) (seen_with_openings looked) c.args.key.now c.args.command.now old =
    λ clean tables has entries book stand is_kept. read.says clean tables has entries book stand (rw c.take.ensures.value is_kept) in
    let comes : IsAcceptedWith (seen_with_openings looked) c.args.command.now c.in-Ok-Accept.change = accepted_on looked c.view.result.now c.view.ensures c.args.command.now _ _ c.in-Ok-Accept.field-0-is c.in-Ok-Accept.ensures.decided in
    let fault = err_from_is_err_and c.from_residual-in_err-writes-in-Ok-Accept.result c.from_residual-in_err-writes-in-Ok-Accept.ensures.1 in
    rw (fault.1, fault.2)
    (unwritten_inside (IsOf c.args.kept.now) (Keeps looked) c.args.key.now c.args.command.now (seen_with_openings looked) old mid c.requires.inside read.same looks
    read.crash (IsOf c.take.new.self) c.in_err-writes-in-Ok-Accept.field-0.0 (λ is. c.in_err-writes-in-Ok-Accept.ensures.fault (ap Err is))
    (λ clean is. refused_number (IsOf c.args.kept.now) (Keeps looked) c.args.key.now c.args.command.now (seen_with_openings looked) c.in-Ok-Accept.change old mid comes (looks clean)
    (c.in_err-writes-in-Ok-Accept.ensures.device (ap Err is))))

pub returns-in_err-write_all-in-Ok-Accept-clause-judges : goal.returns-in_err-write_all-in-Ok-Accept-clause-judges
returns-in_err-write_all-in-Ok-Accept-clause-judges g c =
    let old = state g.S.Store c.args.tx.now.conn.now in
    let mid = state g.S.Store c.look_on.new.conn.conn.now in
    let looked = c.in_ok-looked.looked in
    let read = c.in_ok-looked.ensures.looks in
    let looks : HasCleanDisk mid → LooksOn (IsOf c.args.kept.now) (Keeps looked) (seen_with_openings looked) c.args.key.now c.args.command.now old =
    λ clean tables has entries book stand is_kept. read.says clean tables has entries book stand (rw c.take.ensures.value is_kept) in
    let comes : IsAcceptedWith (seen_with_openings looked) c.args.command.now c.in-Ok-Accept.change = accepted_on looked c.view.result.now c.view.ensures c.args.command.now _ _ c.in-Ok-Accept.field-0-is c.in-Ok-Accept.ensures.decided in
    let new = state g.S.Store c.write_all.new.tx.conn.now in
    let made = c.in_ok-writes-in-Ok-Accept.ensures in
    let are : c.deref.result.now ≡ writes_of (seen looked) c.args.key.now c.args.command.now c.in-Ok-Accept.change = writes_on looked c.view-in-Ok-Accept.result.now c.view-in-Ok-Accept.ensures c.args.command.now c.args.key.now c.in-Ok-Accept.change c.deref.result.now (c.deref.ensures.value ∙ made.writes) in
    let fault = err_from_is_err_and c.from_residual-in_err-write_all-in-Ok-Accept.result c.from_residual-in_err-write_all-in-Ok-Accept.ensures.1 in
    rw (fault.1, fault.2)
    (unmade_inside (IsOf c.args.kept.now) (Keeps looked) c.args.key.now c.args.command.now (seen_with_openings looked) old mid c.requires.inside read.same looks
    read.crash c.what_is_written_stands_for_the_book.ensures c.in-Ok-Accept.change c.deref.result.now are comes made.ordered
    c.is_sayable.ensures (rw c.deref.ensures.value made.good) new (IsOf c.take.new.self) c.in_err-write_all-in-Ok-Accept.field-0.0 c.requires.unlimited
    c.in_err-write_all-in-Ok-Accept.ensures.writes)

pub returns-in_ok-write_all-in-Ok-Accept-clause-judges : goal.returns-in_ok-write_all-in-Ok-Accept-clause-judges
returns-in_ok-write_all-in-Ok-Accept-clause-judges g c =
    let old = state g.S.Store c.args.tx.now.conn.now in
    let mid = state g.S.Store c.look_on.new.conn.conn.now in
    let looked = c.in_ok-looked.looked in
    let read = c.in_ok-looked.ensures.looks in
    let looks : HasCleanDisk mid → LooksOn (IsOf c.args.kept.now) (Keeps looked) (seen_with_openings looked) c.args.key.now c.args.command.now old =
    λ clean tables has entries book stand is_kept. read.says clean tables has entries book stand (rw c.take.ensures.value is_kept) in
    let comes : IsAcceptedWith (seen_with_openings looked) c.args.command.now c.in-Ok-Accept.change = accepted_on looked c.view.result.now c.view.ensures c.args.command.now _ _ c.in-Ok-Accept.field-0-is c.in-Ok-Accept.ensures.decided in
    let new = state g.S.Store c.write_all.new.tx.conn.now in
    let made = c.in_ok-writes-in-Ok-Accept.ensures in
    let are : c.deref.result.now ≡ writes_of (seen looked) c.args.key.now c.args.command.now c.in-Ok-Accept.change = writes_on looked c.view-in-Ok-Accept.result.now c.view-in-Ok-Accept.ensures c.args.command.now c.args.key.now c.in-Ok-Accept.change c.deref.result.now (c.deref.ensures.value ∙ made.writes) in
    rw c.ok.ensures.value
    (accepts_inside (IsOf c.args.kept.now) (Keeps looked) c.args.key.now c.args.command.now (seen_with_openings looked) old mid c.requires.inside read.same looks
    read.crash c.what_is_written_stands_for_the_book.ensures c.in-Ok-Accept.change c.deref.result.now are comes made.ordered
    c.is_sayable.ensures (rw c.deref.ensures.value made.good) new (IsOf (result_ok c.record.result))
    (kept_then looked c.args.key.now c.args.command.now c.in-Ok-Accept.change c.record.result c.record.ensures.keeps comes)
    c.in_ok-write_all-in-Ok-Accept.ensures.writes)

-- ---- the text under the key

pub returns-in_err-looked-clause-damage : goal.returns-in_err-looked-clause-damage
returns-in_err-looked-clause-damage g c clean tables has damaged =
    let fault = err_from_is_err_and c.from_residual.result c.from_residual.ensures.1 in
    rw (fault.1, fault.2)
    (looked_at c.in_err-looked.field-0.0 (state g.S.Store c.args.tx.now.conn.now) (state g.S.Store c.look_on.new.conn.conn.now)
    (Err (store_fault_of c.in_err-looked.field-0.0)) refl (λ is. c.in_err-looked.ensures.looks.device clean (ap Err is)))

pub returns-in_err-writes-in-Ok-Accept-clause-damage : goal.returns-in_err-writes-in-Ok-Accept-clause-damage
returns-in_err-writes-in-Ok-Accept-clause-damage g c clean tables has damaged = let none = c.in_ok-looked.ensures.damage clean tables has damaged in absurd cc

pub returns-in_err-write_all-in-Ok-Accept-clause-damage : goal.returns-in_err-write_all-in-Ok-Accept-clause-damage
returns-in_err-write_all-in-Ok-Accept-clause-damage g c clean tables has damaged =
    let none = c.in_ok-looked.ensures.damage (omega (arith, clean, c.in_err-write_all-in-Ok-Accept.ensures.writes.crash.clean)) tables has damaged in absurd cc

pub returns-in_ok-write_all-in-Ok-Accept-clause-damage : goal.returns-in_ok-write_all-in-Ok-Accept-clause-damage
returns-in_ok-write_all-in-Ok-Accept-clause-damage g c clean tables has damaged =
    let none = c.in_ok-looked.ensures.damage (omega (arith, clean, c.in_ok-write_all-in-Ok-Accept.ensures.writes.crash.clean)) tables has damaged in absurd cc

pub returns-in-Ok-Repeat-clause-damage : goal.returns-in-Ok-Repeat-clause-damage
returns-in-Ok-Repeat-clause-damage g c clean tables has damaged = let none = c.in_ok-looked.ensures.damage clean tables has damaged in absurd cc

pub returns-in-Err-Refused-clause-damage : goal.returns-in-Err-Refused-clause-damage
returns-in-Err-Refused-clause-damage g c clean tables has damaged = let none = c.in_ok-looked.ensures.damage clean tables has damaged in absurd cc

pub returns-in-Err-Memory-clause-damage : goal.returns-in-Err-Memory-clause-damage
returns-in-Err-Memory-clause-damage g c clean tables has damaged = let none = c.in_ok-looked.ensures.damage clean tables has damaged in absurd cc

pub returns-in_ok-write_all-in-Ok-Accept-clause-text : goal.returns-in_ok-write_all-in-Ok-Accept-clause-text
returns-in_ok-write_all-in-Ok-Accept-clause-text g c clean tables has =
    let old = state g.S.Store c.args.tx.now.conn.now in
    let mid = state g.S.Store c.look_on.new.conn.conn.now in
    let new = state g.S.Store c.write_all.new.tx.conn.now in
    let looked = c.in_ok-looked.looked in
    let comes : IsAcceptedWith (seen_with_openings looked) c.args.command.now c.in-Ok-Accept.change = accepted_on looked c.view.result.now c.view.ensures c.args.command.now _ _ c.in-Ok-Accept.field-0-is c.in-Ok-Accept.ensures.decided in
    let made = c.in_ok-writes-in-Ok-Accept.ensures in
    let are : c.deref.result.now ≡ writes_of (seen looked) c.args.key.now c.args.command.now c.in-Ok-Accept.change = writes_on looked c.view-in-Ok-Accept.result.now c.view-in-Ok-Accept.ensures c.args.command.now c.args.key.now c.in-Ok-Accept.change c.deref.result.now (c.deref.ensures.value ∙ made.writes) in
    let wrote = c.in_ok-write_all-in-Ok-Accept.ensures.writes in
    let early : HasCleanDisk mid = omega (arith, clean, wrote.crash.clean) in
    let was = has_along old mid tables (c.in_ok-looked.ensures.looks.same early).0.now_is has in
    turns_accepted (seen_with_openings looked) c.args.key.now c.args.command.now c.in-Ok-Accept.change c.deref.result.now are comes c.is_sayable.ensures tables
    (c.in_ok-looked.ensures.text early tables has) new ((wrote.turns clean).book was.0, (wrote.turns clean).lists was.0 tables was.1 tt)

pub returns-in-Ok-Repeat-clause-text : goal.returns-in-Ok-Repeat-clause-text
returns-in-Ok-Repeat-clause-text g c clean tables has =
    let looked = c.in_ok-looked.looked in (
      tables,
      (
        seen_with_openings looked,
        c.in_ok-looked.ensures.text clean tables has,
        (comes_on looked c.view.result.now c.view.ensures c.args.command.now _ Repeat c.in-Ok-Repeat.field-0-is c.in-Ok-Repeat.ensures.decided, refl),
      ),
      has_along (state g.S.Store c.args.tx.now.conn.now) (state g.S.Store c.look_on.new.conn.conn.now) tables (c.in_ok-looked.ensures.looks.same clean).0.now_is has,
    )

pub returns-in-Err-Refused-clause-text : goal.returns-in-Err-Refused-clause-text
returns-in-Err-Refused-clause-text g c clean tables has =
    let looked = c.in_ok-looked.looked in
    rw c.in-Err-Refused.refusal-is (
      tables,
      (
        seen_with_openings looked,
        c.in_ok-looked.ensures.text clean tables has,
        (stops_on looked c.view.result.now c.view.ensures c.args.command.now _ (Refused c.in-Err-Refused.refusal) c.in-Err-Refused.field-0-is c.in-Err-Refused.ensures.stops, refl),
      ),
      has_along (state g.S.Store c.args.tx.now.conn.now) (state g.S.Store c.look_on.new.conn.conn.now) tables (c.in_ok-looked.ensures.looks.same clean).0.now_is has,
    )

-- ---- lots and their opening numbers

pub returns-in_err-looked-clause-pairs : goal.returns-in_err-looked-clause-pairs
returns-in_err-looked-clause-pairs g c =
    let fault = err_from_is_err_and c.from_residual.result c.from_residual.ensures.1 in
    rw (fault.1, fault.2) (record {
      unpaired = λ clean tables has unpaired.
          looked_at c.in_err-looked.field-0.0 (state g.S.Store c.args.tx.now.conn.now) (state g.S.Store c.look_on.new.conn.conn.now)
          (Err (store_fault_of c.in_err-looked.field-0.0)) refl (λ is. c.in_err-looked.ensures.looks.device clean (ap Err is));
      paired = λ clean. tt;
      whole = λ clean tables has. none_whole c.args.kept.now tables c.take.new.self c.take.ensures.after;
    })

pub returns-in_err-writes-in-Ok-Accept-clause-pairs : goal.returns-in_err-writes-in-Ok-Accept-clause-pairs
returns-in_err-writes-in-Ok-Accept-clause-pairs g c =
    let fault = err_from_is_err_and c.from_residual-in_err-writes-in-Ok-Accept.result c.from_residual-in_err-writes-in-Ok-Accept.ensures.1 in
    rw (fault.1, fault.2) (record {
      unpaired = λ clean tables has unpaired. absurd (unpaired ((rw c.take.ensures.value at c.in_ok-looked.ensures.paired) clean tables has));
      paired = λ clean. tt;
      whole = λ clean tables has. none_whole c.args.kept.now tables c.take.new.self c.take.ensures.after;
    })

pub returns-in_err-write_all-in-Ok-Accept-clause-pairs : goal.returns-in_err-write_all-in-Ok-Accept-clause-pairs
returns-in_err-write_all-in-Ok-Accept-clause-pairs g c =
    let fault = err_from_is_err_and c.from_residual-in_err-write_all-in-Ok-Accept.result c.from_residual-in_err-write_all-in-Ok-Accept.ensures.1 in
    rw (fault.1, fault.2) (record {
      unpaired = λ clean tables has unpaired.
          absurd (unpaired ((rw c.take.ensures.value at c.in_ok-looked.ensures.paired)
          (omega (arith, clean, c.in_err-write_all-in-Ok-Accept.ensures.writes.crash.clean)) tables has));
      paired = λ clean. tt;
      whole = λ clean tables has. none_whole c.args.kept.now tables c.take.new.self c.take.ensures.after;
    })

pub returns-in_ok-write_all-in-Ok-Accept-clause-pairs : goal.returns-in_ok-write_all-in-Ok-Accept-clause-pairs
returns-in_ok-write_all-in-Ok-Accept-clause-pairs g c = record {
  unpaired = λ clean tables has unpaired.
      absurd (unpaired ((rw c.take.ensures.value at c.in_ok-looked.ensures.paired)
      (omega (arith, clean, c.in_ok-write_all-in-Ok-Accept.ensures.writes.crash.clean)) tables has));
  paired = λ clean tables has.
      (rw c.take.ensures.value at c.in_ok-looked.ensures.paired) (omega (arith, clean, c.in_ok-write_all-in-Ok-Accept.ensures.writes.crash.clean)) tables has;
  whole = λ clean tables has.
      rw c.ok.ensures.value
      (whole_recorded c.args.kept.now c.in_ok-looked.looked tables c.record.result c.record.ensures.whole
      ((rw c.take.ensures.value at c.in_ok-looked.ensures.whole) (omega (arith, clean, c.in_ok-write_all-in-Ok-Accept.ensures.writes.crash.clean)) tables has));
}

pub returns-in-Ok-Repeat-clause-pairs : goal.returns-in-Ok-Repeat-clause-pairs
returns-in-Ok-Repeat-clause-pairs g c = record {
  unpaired = λ clean tables has unpaired. absurd (unpaired ((rw c.take.ensures.value at c.in_ok-looked.ensures.paired) clean tables has));
  paired = λ clean tables has. (rw c.take.ensures.value at c.in_ok-looked.ensures.paired) clean tables has;
  whole = λ clean tables has. (rw c.take.ensures.value at c.in_ok-looked.ensures.whole) clean tables has;
}

pub returns-in-Err-Refused-clause-pairs : goal.returns-in-Err-Refused-clause-pairs
returns-in-Err-Refused-clause-pairs g c = record {
  unpaired = λ clean tables has unpaired. absurd (unpaired ((rw c.take.ensures.value at c.in_ok-looked.ensures.paired) clean tables has));
  paired = λ clean tables has. (rw c.take.ensures.value at c.in_ok-looked.ensures.paired) clean tables has;
  whole = λ clean tables has. (rw c.take.ensures.value at c.in_ok-looked.ensures.whole) clean tables has;
}

pub returns-in-Err-Memory-clause-pairs : goal.returns-in-Err-Memory-clause-pairs
returns-in-Err-Memory-clause-pairs g c = record {
  unpaired = λ clean tables has unpaired. absurd (unpaired ((rw c.take.ensures.value at c.in_ok-looked.ensures.paired) clean tables has));
  paired = λ clean. tt;
  whole = λ clean tables has. none_whole c.args.kept.now tables c.take.new.self c.take.ensures.after;
}
