-- The legs are taken, and then the positions are listed.
use Rattle.std.proofs.Common.{◌∙◌, Ok, Err, ap, refl, rules, subst}
use Rattle.std.proofs.lemmas.List.{map-id}
use Rattle.std.proofs.lemmas.Result.{err_from_is_err_and}
use Rattle.sqlite.specs.Held.{state}
use Rattle.lot_book_report.proofs.CsvLemmas.{walked}
use Rattle.lot_book_report.proofs.HoldingLemmas.{same_fault}
use Rattle.lot_book_report.proofs.ReadLemmas.{handed_holds, handed_tables}
use Rattle.lot_book_report.specs.declared.fault.ShowFault.TheVariants.{Row as AtRow}
use Rattle.lot_report.specs.declared.fault.RowFault.TheVariants.{Report}
use Rattle.lot_stored.specs.StandFor.{Stands}
use Rattle.lot_sums.proofs.HeldLemmas.{listed_reads, none_found, none_listed, told_legs, unlisted_reads}
use Rattle.lot_sums.specs.Held.{FindsHeld}
use Rattle.lot_sums.proofs.held.held_on.Goals as goal

pub gather-requires-clause-begun : goal.gather-requires-clause-begun
gather-requires-clause-begun g c = λ entries stands.
    (tt, c.legs-walk.ensures.begun entries (subst (λ book. Stands (state g.S.Store book.conn) entries) c.legs-walk.ensures.same stands))

-- ---- the legs aren't all taken

pub returns-in_err-gather-clause-finds : goal.returns-in_err-gather-clause-finds
returns-in_err-gather-clause-finds g c =
    let fault = err_from_is_err_and c.from_residual.result c.from_residual.ensures.1 in
    rw (fault.1, fault.2)
    (handed_holds g.S.Store c.args.book.now c.gather.new.walk.book.now _ _ (search rules) (record {
      holds = λ clean entries stands.
          let (all, are, gathers) = c.in_err-gather.ensures.gathers c.args.on c.new-positions.ensures (λ leg. leg) (λ leg. refl) clean tt entries (c.legs-walk.ensures.begun entries stands) in
          subst (λ legs. FindsHeld c.args.on legs (Err c.in_err-gather.field-0.0)) (told_legs entries all are)
          (none_found c.args.on _ c.gather.new.tally c.in_err-gather.field-0.0 gathers);
    }))

pub returns-in_err-gather-clause-some : goal.returns-in_err-gather-clause-some
returns-in_err-gather-clause-some g c =
    let fault = err_from_is_err_and c.from_residual.result c.from_residual.ensures.1 in
    let (legs, gathers) = c.in_err-gather.ensures.some c.args.on c.new-positions.ensures in
    rw (fault.1, fault.2) (legs, none_found c.args.on legs c.gather.new.tally c.in_err-gather.field-0.0 gathers)

pub returns-in_err-gather-clause-rows : goal.returns-in_err-gather-clause-rows
returns-in_err-gather-clause-rows g c =
    let fault = err_from_is_err_and c.from_residual.result c.from_residual.ensures.1 in
    rw fault.1 (record { holds = λ clean tables has. tt })

pub returns-in_err-gather-clause-reads : goal.returns-in_err-gather-clause-reads
returns-in_err-gather-clause-reads g c =
    let fault = err_from_is_err_and c.from_residual.result c.from_residual.ensures.1 in
    rw (fault.1, fault.2)
    (same_fault g.S.Store c.args.book.now _ c.in_err-gather.field-0.0
    (walked g.S.Store c.args.book.now c.legs-walk.result.book.now c.gather.new.walk.book.now _ (Err c.in_err-gather.field-0.0) c.legs-walk.ensures.same (search rules)
    c.in_err-gather.ensures.reads))

-- ---- the positions are listed

pub returns-in-Ok-clause-finds : goal.returns-in-Ok-clause-finds
returns-in-Ok-clause-finds g c =
    let lists = rw c.in-Ok.is at c.into_holdings.ensures.lists in
    let range = rw c.in-Ok.is at c.into_holdings.ensures.in_range in
    handed_holds g.S.Store c.args.book.now c.gather.new.walk.book.now _ _ (search rules) (record {
      holds = λ clean entries stands.
          let (all, are, (fit, taken)) = c.in_ok-gather.ensures.gathers c.args.on c.new-positions.ensures (λ leg. leg) (λ leg. refl) clean tt entries (c.legs-walk.ensures.begun entries stands) in
          subst (λ legs. FindsHeld c.args.on legs (Ok c.in-Ok.rows)) (told_legs entries all are)
          (range c.args.on _ taken, lists c.args.on _ taken);
    })

pub returns-in-Ok-clause-some : goal.returns-in-Ok-clause-some
returns-in-Ok-clause-some g c =
    let lists = rw c.in-Ok.is at c.into_holdings.ensures.lists in
    let range = rw c.in-Ok.is at c.into_holdings.ensures.in_range in
    let (legs, (fit, taken)) = c.in_ok-gather.ensures.some c.args.on c.new-positions.ensures in
    (legs, (range c.args.on legs taken, lists c.args.on legs taken))

pub returns-in-Ok-clause-rows : goal.returns-in-Ok-clause-rows
returns-in-Ok-clause-rows g c =
    let lists = rw c.in-Ok.is at c.into_holdings.ensures.lists in
    let range = rw c.in-Ok.is at c.into_holdings.ensures.in_range in
    handed_tables g.S.Store c.args.book.now c.gather.new.walk.book.now _ _ (search rules) (record {
      holds = λ clean tables has.
          let (all, are, good, (fit, taken)) = c.in_ok-gather.ensures.rows c.args.on c.new-positions.ensures (λ leg. leg) (λ leg. refl) clean tt tables (c.legs-walk.ensures.rows tables has) in
          (all, are, subst (λ legs. FindsHeld c.args.on legs (Ok c.in-Ok.rows)) (map-id all) (range c.args.on _ taken, lists c.args.on _ taken));
    })

pub returns-in-Ok-clause-reads : goal.returns-in-Ok-clause-reads
returns-in-Ok-clause-reads g c =
    listed_reads g.S.Store c.args.book.now c.legs-walk.result.book.now c.gather.new.walk.book.now _ _ c.legs-walk.ensures.same (search rules)
    c.in_ok-gather.ensures.reads c.in-Ok.rows

-- ---- they aren't

pub returns-clause-finds : goal.returns-clause-finds
returns-clause-finds g c =
    let cause = rw c.in-Err.is at c.into_holdings.ensures.cause in
    handed_holds g.S.Store c.args.book.now c.gather.new.walk.book.now _ _ (search rules) (record {
      holds = λ clean entries stands.
          let (all, are, (fit, taken)) = c.in_ok-gather.ensures.gathers c.args.on c.new-positions.ensures (λ leg. leg) (λ leg. refl) clean tt entries (c.legs-walk.ensures.begun entries stands) in
          subst (λ legs. FindsHeld c.args.on legs (Err (AtRow (Report c.in-Err.fault)))) (told_legs entries all are)
          (none_listed c.args.on _ c.in-Err.fault (λ is. c.into_holdings.ensures.range (c.in-Err.is ∙ ap Err is) c.args.on _ taken) cause);
    })

pub returns-clause-some : goal.returns-clause-some
returns-clause-some g c =
    let cause = rw c.in-Err.is at c.into_holdings.ensures.cause in
    let (legs, (fit, taken)) = c.in_ok-gather.ensures.some c.args.on c.new-positions.ensures in
    (legs, none_listed c.args.on legs c.in-Err.fault (λ is. c.into_holdings.ensures.range (c.in-Err.is ∙ ap Err is) c.args.on legs taken) cause)

pub returns-clause-reads : goal.returns-clause-reads
returns-clause-reads g c =
    unlisted_reads g.S.Store c.args.book.now c.legs-walk.result.book.now c.gather.new.walk.book.now _ _ c.legs-walk.ensures.same (search rules)
    c.in_ok-gather.ensures.reads c.in-Err.fault

pub returns-clause-rows : goal.returns-clause-rows
returns-clause-rows g c = record { holds = λ clean tables has. tt }
