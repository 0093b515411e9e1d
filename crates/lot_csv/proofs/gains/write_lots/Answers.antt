use Rattle.std.specs.Prelude.{None, zip}
use Rattle.std.specs.Iterator.Adapters.{zip_first, zip_second}
use Rattle.std.specs.Slice.Iter.{iter_rest}
use Rattle.std.proofs.Common.{◌∙◌, [], ap, refl, sym}
use Rattle.std.proofs.KnownBytes.{Appends-nil}
use Rattle.std.proofs.lemmas.Result.{err_from_is_err_and}
use Rattle.std.proofs.lemmas.Slice.Zip.{either_empty_from_Zip}
use Rattle.lot_report.proofs.EachLemmas.{each_ends, each_stops, each_written}
use Rattle.lot_csv.specs.Gains.{lot_record}
use Rattle.lot_csv.proofs.SumLemmas.{none_zipped}
use Rattle.lot_csv.proofs.gains.write_lots.Goals as goal

pub loop-leg-init : goal.loop-leg-init
loop-leg-init g c =
    let same = c.into_iter-leg-iterator.ensures.into_iter_gives in
    let zipped = c.zip-leg-items.ensures in
    let first = ap (λ zip. iter_rest (zip_first zip)) same ∙ ap iter_rest zipped.first ∙ c.iter.ensures.rest in
    let second = ap (λ zip. iter_rest (zip_second zip)) same ∙ zipped.second.0 in
    (([], (λ i. zip (sym first i) (sym second i)), Appends-nil (g.W.CountedWrite.contents c.args.writer.now)), refl)

pub loop-leg-preserved : goal.loop-leg-preserved
loop-leg-preserved g c = (
  each_written (lot_record c.args.seller.entry c.args.seller.posting c.args.sale.now)
      _ _ _ _ _ _ _ c.loop-leg.invariant.0 (λ i. zip (c.in-Some.ensures.steps.0 i) (c.in-Some.ensures.steps.1 i)) c.in_ok-write_lot.ensures.line,
  c.in_ok-write_lot.ensures.none_failed ∙ c.loop-leg.invariant.1,
)

pub returns-in_err-write_lot-clause-records : goal.returns-in_err-write_lot-clause-records
returns-in_err-write_lot-clause-records g c =
    let fault = err_from_is_err_and c.from_residual.result c.from_residual.ensures.1 in
    rw (fault.1, fault.2)
    (each_stops (lot_record c.args.seller.entry c.args.seller.posting c.args.sale.now)
    _ _ _ _ _ _ _ _ c.loop-leg.invariant.0 (λ i. zip (c.in-Some.ensures.steps.0 i) (c.in-Some.ensures.steps.1 i)) c.in_err-write_lot.ensures.line)

pub returns-clause-records : goal.returns-clause-records
returns-clause-records g c =
    each_ends (lot_record c.args.seller.entry c.args.seller.posting c.args.sale.now)
    _ _ _ _ c.loop-leg.invariant.0
    (none_zipped _ _ (either_empty_from_Zip c.loop-leg.leg-iterator c.next.new.self None refl c.in-None.ensures.steps))

pub returns-clause-none_failed : goal.returns-clause-none_failed
returns-clause-none_failed g c = c.loop-leg.invariant.1
