-- One more row is known; at the end all are.
use Rattle.std.specs.Prelude.{None}
use Rattle.std.specs.Iterator.Adapters.{zip_first, zip_second}
use Rattle.std.specs.Slice.Iter.{iter_rest}
use Rattle.std.proofs.Common.{ap, refl, sym, ◌∙◌}
use Rattle.std.proofs.lemmas.Slice.Zip.{either_empty_from_Zip}
use Rattle.lot_load.proofs.LotLemmas.{left_all_lots, left_lot, left_no_lots}
use Rattle.lot_view.specs.View.{known_with_openings}
use Rattle.lot_load.proofs.held.hold_lots.Goals as goal

pub loop-row-init : goal.loop-row-init
loop-row-init c book units numbers =
    let same = c.into_iter-row-iterator.ensures.into_iter_gives in
    let zipped = c.zip-row-items.ensures in
    left_all_lots c.args.pair.now c.args.lots.now _ c.args.openings.now _ book (known_with_openings c.args.view.now)
    (ap (λ zip. iter_rest (zip_first zip)) same ∙ ap iter_rest zipped.first ∙ c.iter.ensures.rest)
    (ap (λ zip. iter_rest (zip_second zip)) same ∙ zipped.second.0) (c.if-not-are_paired.ensures.0 refl) units numbers

pub loop-row-preserved : goal.loop-row-preserved
loop-row-preserved c book units numbers =
    left_lot c.args.pair.now c.args.lots.now (iter_rest (zip_first c.loop-row.row-iterator)) (iter_rest (zip_second c.loop-row.row-iterator))
    (iter_rest (zip_first c.next.new.self)) (iter_rest (zip_second c.next.new.self)) c.in-Some.row.now c.in-Some.numbered.now book
    (known_with_openings c.args.view.now) (known_with_openings c.loop-row.view) (known_with_openings c.hold.new.view)
    c.in-Some.ensures.steps.0 c.in-Some.ensures.steps.1 (c.loop-row.invariant book units numbers)
    (λ held number. c.in_ok-hold.ensures.learns book held (number ∙ sym c.number.ensures.value))

pub returns-clause-learns : goal.returns-clause-learns
returns-clause-learns c book units numbers =
    left_no_lots c.args.pair.now c.args.lots.now (iter_rest (zip_first c.loop-row.row-iterator)) (iter_rest (zip_second c.loop-row.row-iterator))
    book (known_with_openings c.args.view.now) (known_with_openings c.loop-row.view)
    (either_empty_from_Zip c.loop-row.row-iterator c.next.new.self None refl c.in-None.ensures.steps) (c.loop-row.invariant book units numbers)
