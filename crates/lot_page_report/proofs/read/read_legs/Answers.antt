-- The legs are added up, and no sum over a month has left its range.
use Rattle.std.proofs.Common.{◌≡◌, List, false, refl, rules, subst}
use Rattle.std.specs.Prelude.{true}
use Rattle.std.proofs.lemmas.List.{map-id}
use Rattle.std.proofs.lemmas.Result.{err_from_is_err_and}
use Rattle.sqlite.specs.Held.{state}
use Rattle.lot_legs.specs.declared.leg.DatedLeg.{DatedLeg}
use Rattle.lot_report.specs.declared.fault.ReportFault.TheVariants.{Range}
use Rattle.lot_stored.specs.StandFor.{Stands}
use Rattle.lot_sums.proofs.HeldLemmas.{told_legs}
use Rattle.lot_page_report.specs.Read.{Asked, HasAllLegs, HasLegs, MoveTooMuch}
use Rattle.lot_page_report.proofs.ReadLemmas.{gathered_all, gathered_none, gathered_out, gathers_unfit, gathers_unwritten, never_unfit}
use Rattle.lot_page_report.proofs.read.read_legs.Goals as goal

pub gather-requires-clause-begun : goal.gather-requires-clause-begun
gather-requires-clause-begun g c = λ entries stands.
    (tt, c.legs-walk.ensures.begun entries (subst (λ book. Stands (state g.S.Store book.conn) entries) c.legs-walk.ensures.same stands))

pub returns-in_err-gather : goal.returns-in_err-gather
returns-in_err-gather g c =
    let fault = err_from_is_err_and c.from_residual.result c.from_residual.ensures.1 in
    let (legs, gathers) = c.in_err-gather.ensures.some (c.args.day, c.args.range) c.new-tally.ensures in
    rw (fault.1, fault.2)
    (gathered_none g.S.Store _ _ _ _ c.args.book.now c.legs-walk.result.book.now c.gather.new.walk.book.now _ c.legs-walk.ensures.same (search rules)
    c.in_err-gather.field-0.0 c.in_err-gather.ensures.reads (gathers_unwritten (λ (legs : List DatedLeg) (leg : DatedLeg). true) (HasLegs (c.args.day, c.args.range)) legs c.gather.new.tally c.in_err-gather.field-0.0 gathers)
    (λ clean entries stands is.
    let (all, are, ended) = c.in_err-gather.ensures.gathers (c.args.day, c.args.range) c.new-tally.ensures (λ leg. leg) (λ leg. refl) clean tt entries (c.legs-walk.ensures.begun entries stands) in
    absurd (never_unfit _ (gathers_unfit (λ (legs : List DatedLeg) (leg : DatedLeg). true) (HasLegs (c.args.day, c.args.range)) _ c.gather.new.tally c.in_err-gather.field-0.0 ended is))))

pub returns-then-tally : goal.returns-then-tally
returns-then-tally g c =
    gathered_out g.S.Store _ _ _ _ c.args.book.now c.legs-walk.result.book.now c.gather.new.walk.book.now _ c.legs-walk.ensures.same (search rules)
    _ Range (λ is. cc) c.in_ok-gather.ensures.reads
    (λ clean entries stands is.
    let asked : Asked = (c.args.day, c.args.range) in
    let out : c.gather.new.tally.is_out ≡ true = search rules in
    let (all, are, (fit, taken)) = c.in_ok-gather.ensures.gathers asked c.new-tally.ensures (λ leg. leg) (λ leg. refl) clean tt entries (c.legs-walk.ensures.begun entries stands) in
    subst (MoveTooMuch c.args.range) (told_legs entries all are) (taken.out out))

pub returns : goal.returns
returns g c =
    let asked : Asked = (c.args.day, c.args.range) in
    let fine : c.gather.new.tally.is_out ≡ false = search rules in
    gathered_all g.S.Store _ _ _ _ c.args.book.now c.legs-walk.result.book.now c.gather.new.walk.book.now _ c.legs-walk.ensures.same (search rules)
    _ c.gather.new.tally c.in_ok-gather.ensures.reads
    (λ clean entries stands.
    let (all, are, (fit, taken)) = c.in_ok-gather.ensures.gathers asked c.new-tally.ensures (λ leg. leg) (λ leg. refl) clean tt entries (c.legs-walk.ensures.begun entries stands) in
    subst (λ (legs : List DatedLeg). HasAllLegs asked legs c.gather.new.tally) (told_legs entries all are)
    (record { positions = taken.positions; flows = taken.flows fine }))
    (λ clean tables has.
    let (all, are, good, (fit, taken)) = c.in_ok-gather.ensures.rows asked c.new-tally.ensures (λ leg. leg) (λ leg. refl) clean tt tables (c.legs-walk.ensures.rows tables has) in (
      all,
      are,
      subst (λ (legs : List DatedLeg). HasAllLegs asked legs c.gather.new.tally) (map-id all)
          (record { positions = taken.positions; flows = taken.flows fine }),
    ))
    (let (legs, (fit, taken)) = c.in_ok-gather.ensures.some asked c.new-tally.ensures in
    (legs, record { positions = taken.positions; flows = taken.flows fine }))
