-- The legs are taken, and then their keys are put into their order.
use Rattle.std.proofs.Common.{◌∙◌, List, Ok, Err, refl, rules, subst}
use Rattle.std.proofs.lemmas.List.{map-id}
use Rattle.std.proofs.lemmas.Result.{err_from_is_err_and}
use Rattle.sqlite.specs.Held.{state}
use Rattle.lot_book_report.proofs.CsvLemmas.{walked}
use Rattle.lot_book_report.proofs.HoldingLemmas.{same_fault}
use Rattle.lot_book_report.proofs.ReadLemmas.{handed_holds, handed_tables}
use Rattle.lot_legs.specs.declared.leg.DatedLeg.{DatedLeg}
use Rattle.lot_noted.specs.Book.{asked_in}
use Rattle.lot_noted.specs.Keys.{AreInOrder}
use Rattle.lot_stored.specs.StandFor.{Stands}
use Rattle.lot_register_report.proofs.KeyLemmas.{keyed_reads, of_keys, told_legs}
use Rattle.lot_register_report.proofs.keys.read_keys.Goals as goal

pub gather-requires-clause-begun : goal.gather-requires-clause-begun
gather-requires-clause-begun g c = λ entries stands.
    (tt, c.legs-walk.ensures.begun entries (subst (λ book. Stands (state g.S.Store book.conn) entries) c.legs-walk.ensures.same stands))

-- ---- the legs aren't all taken

pub returns-in_err-gather-clause-keys : goal.returns-in_err-gather-clause-keys
returns-in_err-gather-clause-keys g c =
    let fault = err_from_is_err_and c.from_residual.result c.from_residual.ensures.1 in
    rw fault.1 (record { holds = λ clean entries stands. tt })

pub returns-in_err-gather-clause-rows : goal.returns-in_err-gather-clause-rows
returns-in_err-gather-clause-rows g c =
    let fault = err_from_is_err_and c.from_residual.result c.from_residual.ensures.1 in
    rw fault.1 (record { holds = λ clean tables has. tt })

pub returns-in_err-gather-clause-reads : goal.returns-in_err-gather-clause-reads
returns-in_err-gather-clause-reads g c =
    let fault = err_from_is_err_and c.from_residual.result c.from_residual.ensures.1 in
    rw (fault.1, fault.2)
    (same_fault g.S.Store c.args.book.now _ c.in_err-gather.field-0.0
    (walked g.S.Store c.args.book.now c.legs-walk.result.book.now c.gather.new.walk.book.now _ (Err c.in_err-gather.field-0.0) c.legs-walk.ensures.same (search rules)
    c.in_err-gather.ensures.reads))

pub returns-in_err-gather-clause-fault : goal.returns-in_err-gather-clause-fault
returns-in_err-gather-clause-fault g c =
    let fault = err_from_is_err_and c.from_residual.result c.from_residual.ensures.1 in
    let (legs, gathers) = c.in_err-gather.ensures.some (asked_in c.args.scope.now) c.new.ensures in
    rw (fault.1, fault.2) (of_keys (asked_in c.args.scope.now) legs c.gather.new.tally c.in_err-gather.field-0.0 gathers)

-- ---- their keys

pub returns-clause-keys : goal.returns-clause-keys
returns-clause-keys g c =
    let asked = asked_in c.args.scope.now in
    handed_holds g.S.Store c.args.book.now c.gather.new.walk.book.now _ _ (search rules) (record {
      holds = λ clean entries stands.
          let (all, are, (fit, taken)) = c.in_ok-gather.ensures.gathers asked c.new.ensures (λ leg. leg) (λ leg. refl) clean tt entries (c.legs-walk.ensures.begun entries stands) in
          subst (λ (legs : List DatedLeg). AreInOrder asked legs c.into_sorted.result.items) (told_legs entries all are) (c.into_sorted.ensures asked _ taken);
    })

pub returns-clause-rows : goal.returns-clause-rows
returns-clause-rows g c =
    let asked = asked_in c.args.scope.now in
    handed_tables g.S.Store c.args.book.now c.gather.new.walk.book.now _ _ (search rules) (record {
      holds = λ clean tables has.
          let (all, are, good, (fit, taken)) = c.in_ok-gather.ensures.rows asked c.new.ensures (λ leg. leg) (λ leg. refl) clean tt tables (c.legs-walk.ensures.rows tables has) in
          (all, are, subst (λ (legs : List DatedLeg). AreInOrder asked legs c.into_sorted.result.items) (map-id all) (c.into_sorted.ensures asked _ taken));
    })

pub returns-clause-reads : goal.returns-clause-reads
returns-clause-reads g c =
    keyed_reads g.S.Store c.args.book.now c.legs-walk.result.book.now c.gather.new.walk.book.now _ _ c.into_sorted.result c.legs-walk.ensures.same (search rules)
    c.in_ok-gather.ensures.reads
