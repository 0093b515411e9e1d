-- The days are taken one after another.
use Rattle.std.proofs.Common.{Err, refl, rules, subst, sym}
use Rattle.std.proofs.lemmas.Result.{err_from_is_err_and}
use Rattle.sqlite.specs.Held.{state}
use Rattle.lot_book_report.proofs.CsvLemmas.{walked}
use Rattle.lot_book_report.proofs.HoldingLemmas.{same_fault}
use Rattle.lot_book_report.proofs.ReadLemmas.{handed_holds}
use Rattle.lot_stored.specs.StandFor.{Stands}
use Rattle.lot_register_report.proofs.DayLemmas.{days_begin, no_days, of_day_keys, of_days}
use Rattle.lot_register_report.proofs.KeyLemmas.{keyed_reads}
use Rattle.lot_register_report.proofs.days.days_never_fall.Goals as goal

pub gather-requires-clause-begun : goal.gather-requires-clause-begun
gather-requires-clause-begun g c = λ entries stands.
    let walk = c.walk_from-walk.result in
    (tt, days_begin g.S.Store walk c.new-place.result c.walk_from-walk.ensures.going c.walk_from-walk.ensures.place entries stands c.new-place.ensures.begun)

-- ---- the days aren't all taken

pub returns-in_err-gather-clause-days : goal.returns-in_err-gather-clause-days
returns-in_err-gather-clause-days g c =
    let fault = err_from_is_err_and c.from_residual.result c.from_residual.ensures.1 in
    rw fault.1 (record { holds = λ clean entries stands. tt })

pub returns-in_err-gather-clause-reads : goal.returns-in_err-gather-clause-reads
returns-in_err-gather-clause-reads g c =
    let fault = err_from_is_err_and c.from_residual.result c.from_residual.ensures.1 in
    rw (fault.1, fault.2)
    (same_fault g.S.Store c.args.book.now _ c.in_err-gather.field-0.0
    (walked g.S.Store c.args.book.now c.walk_from-walk.result.book.now c.gather.new.walk.book.now _ (Err c.in_err-gather.field-0.0) c.walk_from-walk.ensures.same (search rules)
    c.in_err-gather.ensures.reads))

pub returns-in_err-gather-clause-fault : goal.returns-in_err-gather-clause-fault
returns-in_err-gather-clause-fault g c =
    let fault = err_from_is_err_and c.from_residual.result c.from_residual.ensures.1 in
    let (days, gathers) = c.in_err-gather.ensures.some tt (no_days _ refl) in
    rw (fault.1, fault.2) (of_day_keys days c.gather.new.tally c.in_err-gather.field-0.0 gathers)

-- ---- they are

pub returns-clause-days : goal.returns-clause-days
returns-clause-days g c =
    let walk = c.walk_from-walk.result in
    handed_holds g.S.Store c.args.book.now c.gather.new.walk.book.now _ _ (search rules) (record {
      holds = λ clean entries stands.
          let here = subst (λ book. Stands (state g.S.Store book.conn) entries) (sym c.walk_from-walk.ensures.same) stands in
          let has = days_begin g.S.Store walk c.new-place.result c.walk_from-walk.ensures.going c.walk_from-walk.ensures.place entries here c.new-place.ensures.begun in
          let (all, are, (fit, taken)) = c.in_ok-gather.ensures.gathers tt (no_days _ refl) (λ day. day) (λ day. refl) clean tt entries has in
          of_days entries all c.gather.new.tally are taken;
    })

pub returns-clause-reads : goal.returns-clause-reads
returns-clause-reads g c =
    keyed_reads g.S.Store c.args.book.now c.walk_from-walk.result.book.now c.gather.new.walk.book.now _ _ c.gather.new.tally.never_fall c.walk_from-walk.ensures.same (search rules)
    c.in_ok-gather.ensures.reads
