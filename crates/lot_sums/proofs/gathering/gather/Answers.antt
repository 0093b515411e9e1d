-- All rows of a walk are taken, row by row.
use Rattle.std.proofs.Common.{◌∙◌, [], Err, None, Some, arith, refl}
use Rattle.std.proofs.lemmas.Result.{err_from_is_err_and}
use Rattle.lot_report.specs.Fed.{CountsRow}
use Rattle.lot_report.specs.declared.fault.RowFault.TheVariants.{Report}
use Rattle.lot_book_report.proofs.ReadLemmas.{is_failure, reads_cut, reads_from, reads_short, reads_whole, stops, usable, walked_out, walks_on}
use Rattle.lot_store.specs.declared.fault.StoreFault.TheVariants.{Memory}
use Rattle.lot_sums.proofs.GatherLemmas.{cut, none_gathered, short, some_cut, some_whole, stopped, took_more, took_none, whole, whole_rows}
use Rattle.lot_sums.proofs.gathering.gather.Goals as goal

pub rows-init : goal.rows-init
rows-init g c = record {
  same_book = refl;
  reading = reads_from g.S.Store c.args.walk.now.book.now c.args.walk.now c.requires.going refl;
  usable = λ below. absurd (omega arith);
  took = took_none g.S.Store g.P.Place.shown g.P.Place.IsGood g.P.Place.AreAll g.P.Place.IsBehind g.P.Place.AreAllRows g.P.Place.IsBehindRows g.T.Tally.told g.T.Tally.fits g.T.Tally.HasTaken c.args.walk.now c.args.tally.now;
}

pub returns-in_err-row-clause-gathers : goal.returns-in_err-row-clause-gathers
returns-in_err-row-clause-gathers g c =
    let fault = err_from_is_err_and c.from_residual.result c.from_residual.ensures.1 in
    let loop = c.rows.invariant in
    let failure = is_failure g.S.Store g.P.Place.shown g.P.Place.IsGood g.P.Place.AreAll g.P.Place.IsBehind c.args.walk.now.book.now c.rows.walk c.next.new.self loop.reading c.in_err-row.field-0.0 c.in_err-row.ensures.walks in
    rw (fault.1, fault.2, failure.1)
    (stopped g.S.Store g.P.Place.shown g.P.Place.IsGood g.P.Place.AreAll g.P.Place.IsBehind g.P.Place.AreAllRows g.P.Place.IsBehindRows g.T.Tally.told g.T.Tally.fits g.T.Tally.HasTaken c.args.walk.now c.args.tally.now c.rows.walk c.next.new.self c.rows.tally loop.took c.in_err-row.field-0.0 c.in_err-row.ensures.walks failure.0)

pub returns-in_err-row-clause-some : goal.returns-in_err-row-clause-some
returns-in_err-row-clause-some g c =
    let fault = err_from_is_err_and c.from_residual.result c.from_residual.ensures.1 in
    let loop = c.rows.invariant in
    let failure = is_failure g.S.Store g.P.Place.shown g.P.Place.IsGood g.P.Place.AreAll g.P.Place.IsBehind c.args.walk.now.book.now c.rows.walk c.next.new.self loop.reading c.in_err-row.field-0.0 c.in_err-row.ensures.walks in
    rw (fault.1, fault.2, failure.1) (λ terms fresh. none_gathered (g.T.Tally.fits terms) (g.T.Tally.HasTaken terms) c.rows.tally failure.0)

pub returns-in_err-row-clause-rows : goal.returns-in_err-row-clause-rows
returns-in_err-row-clause-rows g c =
    let fault = err_from_is_err_and c.from_residual.result c.from_residual.ensures.1 in
    rw fault.1 (λ terms fresh tell same clean asked tables has. tt)

pub returns-in_err-row-clause-reads : goal.returns-in_err-row-clause-reads
returns-in_err-row-clause-reads g c =
    let fault = err_from_is_err_and c.from_residual.result c.from_residual.ensures.1 in
    let loop = c.rows.invariant in
    rw (fault.1, fault.2)
    (stops g.S.Store g.P.Place.shown g.P.Place.IsGood g.P.Place.AreAll g.P.Place.IsBehind c.args.walk.now.book.now c.rows.walk c.next.new.self loop.reading c.in_err-row.field-0.0
    (λ clean entries stands. let (asked, has) = c.requires.begun entries stands in (asked, _, loop.took.of_book clean asked entries has))
    c.in_err-row.ensures.walks)

pub returns-in_default-clause-gathers : goal.returns-in_default-clause-gathers
returns-in_default-clause-gathers g c =
    let loop = c.rows.invariant in
    let walks = rw c.in_default.is at c.in_ok-row.ensures.walks in
    whole g.S.Store g.P.Place.shown g.P.Place.IsGood g.P.Place.AreAll g.P.Place.IsBehind g.P.Place.AreAllRows g.P.Place.IsBehindRows g.T.Tally.told g.T.Tally.fits g.T.Tally.HasTaken c.args.walk.now c.args.tally.now c.rows.walk c.next.new.self c.rows.tally loop.took walks

pub returns-in_default-clause-some : goal.returns-in_default-clause-some
returns-in_default-clause-some g c =
    let loop = c.rows.invariant in
    some_whole g.S.Store g.P.Place.shown g.P.Place.IsGood g.P.Place.AreAll g.P.Place.IsBehind g.P.Place.AreAllRows g.P.Place.IsBehindRows g.T.Tally.told g.T.Tally.fits g.T.Tally.HasTaken c.args.walk.now c.args.tally.now c.rows.walk c.next.new.self c.rows.tally loop.took

pub returns-in_default-clause-rows : goal.returns-in_default-clause-rows
returns-in_default-clause-rows g c =
    let loop = c.rows.invariant in
    let walks = rw c.in_default.is at c.in_ok-row.ensures.walks in
    let rows = rw c.in_default.is at c.in_ok-row.ensures.rows in
    whole_rows g.S.Store g.P.Place.shown g.P.Place.IsGood g.P.Place.AreAll g.P.Place.IsBehind g.P.Place.AreAllRows g.P.Place.IsBehindRows g.T.Tally.told g.T.Tally.fits g.T.Tally.HasTaken c.args.walk.now c.args.tally.now c.rows.walk c.next.new.self c.rows.tally loop.took walks rows

pub returns-in_default-clause-reads : goal.returns-in_default-clause-reads
returns-in_default-clause-reads g c =
    let loop = c.rows.invariant in
    let walks = rw c.in_default.is at c.in_ok-row.ensures.walks in
    reads_whole g.S.Store c.args.walk.now.book.now c.next.new.self.book.now tt
    (walked_out g.S.Store g.P.Place.shown g.P.Place.IsGood g.P.Place.AreAll g.P.Place.IsBehind c.args.walk.now.book.now c.rows.walk c.next.new.self loop.reading walks)
    (usable g.S.Store g.P.Place.shown g.P.Place.IsGood g.P.Place.AreAll g.P.Place.IsBehind c.args.walk.now.book.now c.rows.walk c.next.new.self loop.reading None walks)

pub returns-clause-gathers : goal.returns-clause-gathers
returns-clause-gathers g c =
    rw c.from.ensures (short g.S.Store g.P.Place.shown g.P.Place.IsGood g.P.Place.AreAll g.P.Place.IsBehind g.P.Place.AreAllRows g.P.Place.IsBehindRows g.T.Tally.told g.T.Tally.fits g.T.Tally.HasTaken c.args.walk.now c.args.tally.now c.rows.walk c.rows.tally c.rows.invariant.took Memory)

pub returns-clause-some : goal.returns-clause-some
returns-clause-some g c = rw c.from.ensures (λ terms fresh. none_gathered (g.T.Tally.fits terms) (g.T.Tally.HasTaken terms) c.rows.tally Memory)

pub returns-clause-reads : goal.returns-clause-reads
returns-clause-reads g c =
    let loop = c.rows.invariant in
    rw c.from.ensures (reads_short g.S.Store c.args.walk.now.book.now c.rows.walk.book.now loop.reading.read (loop.usable (omega arith)))

pub returns-in-Err-clause-gathers : goal.returns-in-Err-clause-gathers
returns-in-Err-clause-gathers g c =
    let loop = c.rows.invariant in
    let walks = rw c.in-Some.is at c.in_ok-row.ensures.walks in
    cut g.S.Store g.P.Place.shown g.P.Place.IsGood g.P.Place.AreAll g.P.Place.IsBehind g.P.Place.AreAllRows g.P.Place.IsBehindRows g.T.Tally.told g.T.Tally.fits g.T.Tally.HasTaken c.args.walk.now c.args.tally.now c.rows.walk c.next.new.self c.rows.tally loop.took c.in-Some.row walks c.take.new.self c.in-Err.fault (rw c.in-Err.is at c.take.ensures)

pub returns-in-Err-clause-some : goal.returns-in-Err-clause-some
returns-in-Err-clause-some g c =
    let loop = c.rows.invariant in
    let walks = rw c.in-Some.is at c.in_ok-row.ensures.walks in
    some_cut g.S.Store g.P.Place.shown g.P.Place.IsGood g.P.Place.AreAll g.P.Place.IsBehind g.P.Place.AreAllRows g.P.Place.IsBehindRows g.T.Tally.told g.T.Tally.fits g.T.Tally.HasTaken c.args.walk.now c.args.tally.now c.rows.walk c.next.new.self c.rows.tally loop.took c.in-Some.row walks c.take.new.self c.in-Err.fault (rw c.in-Err.is at c.take.ensures)

pub returns-in-Err-clause-reads : goal.returns-in-Err-clause-reads
returns-in-Err-clause-reads g c =
    let loop = c.rows.invariant in
    let walks = rw c.in-Some.is at c.in_ok-row.ensures.walks in
    let on = walks_on g.S.Store g.P.Place.shown g.P.Place.IsGood g.P.Place.AreAll g.P.Place.IsBehind c.args.walk.now.book.now c.rows.walk c.next.new.self loop.reading c.in-Some.row walks in
    reads_cut g.S.Store c.args.walk.now.book.now c.next.new.self.book.now (Report c.in-Err.fault) (λ is. cc) on.read
    (usable g.S.Store g.P.Place.shown g.P.Place.IsGood g.P.Place.AreAll g.P.Place.IsBehind c.args.walk.now.book.now c.rows.walk c.next.new.self loop.reading (Some c.in-Some.row) walks)

pub rows-preserved : goal.rows-preserved
rows-preserved g c =
    let loop = c.rows.invariant in
    let walks = rw c.in-Some.is at c.in_ok-row.ensures.walks in
    let rows = rw c.in-Some.is at c.in_ok-row.ensures.rows in
    record {
      same_book = c.in_ok-row.ensures.same_reference ∙ loop.same_book;
      reading = walks_on g.S.Store g.P.Place.shown g.P.Place.IsGood g.P.Place.AreAll g.P.Place.IsBehind c.args.walk.now.book.now c.rows.walk c.next.new.self loop.reading c.in-Some.row walks;
      usable = λ below. usable g.S.Store g.P.Place.shown g.P.Place.IsGood g.P.Place.AreAll g.P.Place.IsBehind c.args.walk.now.book.now c.rows.walk c.next.new.self loop.reading (Some c.in-Some.row) walks;
      took = took_more g.S.Store g.P.Place.shown g.P.Place.IsGood g.P.Place.AreAll g.P.Place.IsBehind g.P.Place.AreAllRows g.P.Place.IsBehindRows g.T.Tally.told g.T.Tally.fits g.T.Tally.HasTaken c.args.walk.now c.args.tally.now c.rows.walk c.next.new.self c.rows.tally loop.took c.in-Some.row walks c.take.new.self _ rows (rw c.in-Ok.is at c.take.ensures);
    }
