-- A command is judged on what was looked at of the book that the open transaction has.
use Rattle.std.proofs.Common.{◌≡◌, ◌∙◌, Err, ap, arith}
use Rattle.std.proofs.lemmas.Result.{err_from_is_err_and}
use Rattle.std.specs.Result.{result_ok}
use Rattle.sqlite.specs.Held.{state}
use Rattle.sqlite.specs.State.{HasCleanDisk}
use Rattle.lot_book.specs.Change.{IsAcceptedUnder}
use Rattle.lot_book.specs.Openings.{ties_for}
use Rattle.lot_book.specs.declared.refusal.Stop.TheVariants.{Refused}
use Rattle.lot_laws.proofs.RecordedBook.{room_where_decided}
use Rattle.lot_ledger.specs.declared.decision.Outcome.TheVariants.{Accept, Repeat}
use Rattle.lot_load.specs.Kept.{IsOf, Keeps, seen, seen_with_openings}
use Rattle.lot_view.specs.View.{known}
use Rattle.lot_view.specs.declared.view.View.{View}
use Rattle.lot_write.specs.Writes.{writes_of}
use Rattle.lot_restore.proofs.JudgeLemmas.{LooksAt, accepts_by, comes_by, kept_behind, refuses_by, repeats_by, stops_by, unmade_by, unwritten_by, writes_by}
use Rattle.lot_restore.proofs.judge.judge_by.Goals as goal

pub writes-requires : goal.writes-requires
writes-requires g c =
    let looked = c.in_ok-looked.looked in
    let comes : IsAcceptedUnder (ties_for c.args.edition (seen_with_openings looked)) (seen looked) c.args.command.now c.in-Ok-Accept.change =
    comes_by c.args.edition looked c.view.result.now c.view.ensures c.args.command.now _ (Accept c.in-Ok-Accept.change) c.in-Ok-Accept.field-0-is c.in-Ok-Accept.ensures.decided in
    rw c.view-in-Ok-Accept.ensures (room_where_decided (ties_for c.args.edition (seen_with_openings looked)) (seen looked) c.args.command.now c.in-Ok-Accept.change.legs comes.0)

pub enter-requires-clause-room : goal.enter-requires-clause-room
enter-requires-clause-room g c =
    let looked = c.in_ok-looked.looked in
    let comes : IsAcceptedUnder (ties_for c.args.edition (seen_with_openings looked)) (seen looked) c.args.command.now c.in-Ok-Accept.change =
    comes_by c.args.edition looked c.view.result.now c.view.ensures c.args.command.now _ (Accept c.in-Ok-Accept.change) c.in-Ok-Accept.field-0-is c.in-Ok-Accept.ensures.decided in
    let room = room_where_decided (ties_for c.args.edition (seen_with_openings looked)) (seen looked) c.args.command.now c.in-Ok-Accept.change.legs comes.0 in
    let counted = c.entries.ensures ∙ ap (λ (v : View). (known v).entries) c.view-in-Ok-Accept-2.ensures in
    omega (arith, room, counted)

pub record-requires : goal.record-requires
record-requires g c =
    let looked = c.in_ok-looked.looked in
    let comes : IsAcceptedUnder (ties_for c.args.edition (seen_with_openings looked)) (seen looked) c.args.command.now c.in-Ok-Accept.change =
    comes_by c.args.edition looked c.view.result.now c.view.ensures c.args.command.now _ (Accept c.in-Ok-Accept.change) c.in-Ok-Accept.field-0-is c.in-Ok-Accept.ensures.decided in
    room_where_decided (ties_for c.args.edition (seen_with_openings looked)) (seen looked) c.args.command.now c.in-Ok-Accept.change.legs comes.0

pub returns-in-Ok-Repeat-clause-judges : goal.returns-in-Ok-Repeat-clause-judges
returns-in-Ok-Repeat-clause-judges g c =
    let old = state g.S.Store c.args.tx.now.conn.now in
    let mid = state g.S.Store c.look_on.new.conn.conn.now in
    let looked = c.in_ok-looked.looked in
    let read = c.in_ok-looked.ensures.looks in
    let looks : HasCleanDisk mid → LooksAt (IsOf c.args.kept.now) (Keeps looked) (seen_with_openings looked) c.args.key.now c.args.command.now old =
    λ clean entries place at. read.says clean at.stands.tables at.stands.has entries at.stands.book at.stands.stand (rw c.take.ensures.value at.kept) in
    repeats_by c.args.edition (IsOf c.args.kept.now) (Keeps looked) c.args.key.now c.args.command.now (seen_with_openings looked) old mid c.requires.inside read.same looks
    read.crash (comes_by c.args.edition looked c.view.result.now c.view.ensures c.args.command.now _ Repeat c.in-Ok-Repeat.field-0-is c.in-Ok-Repeat.ensures.decided)

pub returns-in-Err-Refused-clause-judges : goal.returns-in-Err-Refused-clause-judges
returns-in-Err-Refused-clause-judges g c =
    let old = state g.S.Store c.args.tx.now.conn.now in
    let mid = state g.S.Store c.look_on.new.conn.conn.now in
    let looked = c.in_ok-looked.looked in
    let read = c.in_ok-looked.ensures.looks in
    let looks : HasCleanDisk mid → LooksAt (IsOf c.args.kept.now) (Keeps looked) (seen_with_openings looked) c.args.key.now c.args.command.now old =
    λ clean entries place at. read.says clean at.stands.tables at.stands.has entries at.stands.book at.stands.stand (rw c.take.ensures.value at.kept) in
    rw c.in-Err-Refused.refusal-is
    (refuses_by c.args.edition (IsOf c.args.kept.now) (Keeps looked) c.args.key.now c.args.command.now (seen_with_openings looked) old mid c.requires.inside read.same looks
    read.crash c.in-Err-Refused.refusal
    (stops_by c.args.edition looked c.view.result.now c.view.ensures c.args.command.now _ (Refused c.in-Err-Refused.refusal) c.in-Err-Refused.field-0-is c.in-Err-Refused.ensures.stops))

pub returns-in_err-writes-in-Ok-Accept-clause-judges : goal.returns-in_err-writes-in-Ok-Accept-clause-judges
returns-in_err-writes-in-Ok-Accept-clause-judges g c =
    let old = state g.S.Store c.args.tx.now.conn.now in
    let mid = state g.S.Store c.look_on.new.conn.conn.now in
    let looked = c.in_ok-looked.looked in
    let read = c.in_ok-looked.ensures.looks in
    let looks : HasCleanDisk mid → LooksAt (IsOf c.args.kept.now) (Keeps looked) (seen_with_openings looked) c.args.key.now c.args.command.now old =
    λ clean entries place at. read.says clean at.stands.tables at.stands.has entries at.stands.book at.stands.stand (rw c.take.ensures.value at.kept) in
    let comes : IsAcceptedUnder (ties_for c.args.edition (seen_with_openings looked)) (seen looked) c.args.command.now c.in-Ok-Accept.change =
    comes_by c.args.edition looked c.view.result.now c.view.ensures c.args.command.now _ (Accept c.in-Ok-Accept.change) c.in-Ok-Accept.field-0-is c.in-Ok-Accept.ensures.decided in
    let fault = err_from_is_err_and c.from_residual-in_err-writes-in-Ok-Accept.result c.from_residual-in_err-writes-in-Ok-Accept.ensures.1 in
    rw (fault.1, fault.2)
    (unwritten_by c.args.edition (IsOf c.args.kept.now) (Keeps looked) c.args.key.now c.args.command.now (seen_with_openings looked) old mid c.requires.inside read.same looks
    read.crash (IsOf c.take.new.self) c.in_err-writes-in-Ok-Accept.field-0.0 (λ is. c.in_err-writes-in-Ok-Accept.ensures.fault (ap Err is))
    (λ clean is. (c.in-Ok-Accept.change, comes, c.in_err-writes-in-Ok-Accept.ensures.device (ap Err is))))

pub returns-in_err-enter-in-Ok-Accept-clause-judges : goal.returns-in_err-enter-in-Ok-Accept-clause-judges
returns-in_err-enter-in-Ok-Accept-clause-judges g c =
    let old = state g.S.Store c.args.tx.now.conn.now in
    let mid = state g.S.Store c.look_on.new.conn.conn.now in
    let looked = c.in_ok-looked.looked in
    let read = c.in_ok-looked.ensures.looks in
    let looks : HasCleanDisk mid → LooksAt (IsOf c.args.kept.now) (Keeps looked) (seen_with_openings looked) c.args.key.now c.args.command.now old =
    λ clean entries place at. read.says clean at.stands.tables at.stands.has entries at.stands.book at.stands.stand (rw c.take.ensures.value at.kept) in
    let comes : IsAcceptedUnder (ties_for c.args.edition (seen_with_openings looked)) (seen looked) c.args.command.now c.in-Ok-Accept.change =
    comes_by c.args.edition looked c.view.result.now c.view.ensures c.args.command.now _ (Accept c.in-Ok-Accept.change) c.in-Ok-Accept.field-0-is c.in-Ok-Accept.ensures.decided in
    let new = state g.S.Store c.enter.new.tx.conn.now in
    let made = c.in_ok-writes-in-Ok-Accept.ensures in
    let are : c.deref.result.now ≡ writes_of (seen looked) c.args.key.now c.args.command.now c.in-Ok-Accept.change =
    writes_by c.args.edition looked c.view-in-Ok-Accept.result.now c.view-in-Ok-Accept.ensures c.args.command.now c.args.key.now c.in-Ok-Accept.change c.deref.result.now (rw c.deref.ensures.value made.writes) in
    let fault = err_from_is_err_and c.from_residual-in_err-enter-in-Ok-Accept.result c.from_residual-in_err-enter-in-Ok-Accept.ensures.1 in
    rw (fault.1, fault.2)
    (unmade_by c.args.edition (IsOf c.args.kept.now) (Keeps looked) c.args.key.now c.args.command.now (seen_with_openings looked) old mid c.requires.inside read.same looks
    read.crash c.what_edition_1_accepts_stands_for_the_book.ensures c.what_is_written_stands_for_the_book.ensures c.in-Ok-Accept.change c.deref.result.now are comes made.ordered
    c.is_sayable.ensures (rw c.deref.ensures.value made.good) c.entries.result (c.entries.ensures ∙ ap (λ (v : View). (known v).entries) c.view-in-Ok-Accept-2.ensures) new (IsOf c.take.new.self) c.in_err-enter-in-Ok-Accept.field-0.0 c.requires.unlimited
    c.in_err-enter-in-Ok-Accept.ensures.enters)

pub returns-in_ok-enter-in-Ok-Accept-clause-judges : goal.returns-in_ok-enter-in-Ok-Accept-clause-judges
returns-in_ok-enter-in-Ok-Accept-clause-judges g c =
    let old = state g.S.Store c.args.tx.now.conn.now in
    let mid = state g.S.Store c.look_on.new.conn.conn.now in
    let looked = c.in_ok-looked.looked in
    let read = c.in_ok-looked.ensures.looks in
    let looks : HasCleanDisk mid → LooksAt (IsOf c.args.kept.now) (Keeps looked) (seen_with_openings looked) c.args.key.now c.args.command.now old =
    λ clean entries place at. read.says clean at.stands.tables at.stands.has entries at.stands.book at.stands.stand (rw c.take.ensures.value at.kept) in
    let comes : IsAcceptedUnder (ties_for c.args.edition (seen_with_openings looked)) (seen looked) c.args.command.now c.in-Ok-Accept.change =
    comes_by c.args.edition looked c.view.result.now c.view.ensures c.args.command.now _ (Accept c.in-Ok-Accept.change) c.in-Ok-Accept.field-0-is c.in-Ok-Accept.ensures.decided in
    let new = state g.S.Store c.enter.new.tx.conn.now in
    let made = c.in_ok-writes-in-Ok-Accept.ensures in
    let are : c.deref.result.now ≡ writes_of (seen looked) c.args.key.now c.args.command.now c.in-Ok-Accept.change =
    writes_by c.args.edition looked c.view-in-Ok-Accept.result.now c.view-in-Ok-Accept.ensures c.args.command.now c.args.key.now c.in-Ok-Accept.change c.deref.result.now (rw c.deref.ensures.value made.writes) in
    rw c.ok.ensures.value
    (accepts_by c.args.edition (IsOf c.args.kept.now) (Keeps looked) c.args.key.now c.args.command.now (seen_with_openings looked) old mid c.requires.inside read.same looks
    read.crash c.what_edition_1_accepts_stands_for_the_book.ensures c.what_is_written_stands_for_the_book.ensures c.in-Ok-Accept.change c.deref.result.now are comes made.ordered
    c.is_sayable.ensures (rw c.deref.ensures.value made.good) c.entries.result (c.entries.ensures ∙ ap (λ (v : View). (known v).entries) c.view-in-Ok-Accept-2.ensures) new (IsOf (result_ok c.record.result))
    (kept_behind c.args.edition looked c.args.key.now c.args.command.now c.in-Ok-Accept.change c.record.result c.record.ensures.keeps comes)
    c.in_ok-enter-in-Ok-Accept.ensures.enters)
