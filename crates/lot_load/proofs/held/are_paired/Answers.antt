-- Rows of another lot tell that not all are the same; at the end all are.
use Rattle.std.specs.Prelude.{None}
use Rattle.std.specs.Iterator.Adapters.{zip_first, zip_second}
use Rattle.std.specs.Slice.Iter.{iter_rest}
use Rattle.std.proofs.Common.{ap, refl, sym, ◌∙◌}
use Rattle.std.proofs.lemmas.Bool.{true≢false}
use Rattle.std.proofs.lemmas.Slice.Zip.{either_empty_from_Zip}
use Rattle.lot_load.proofs.PairedLemmas.{all_left, lot_same, none_left, not_as_long, not_paired, one_less, one_lot}
use Rattle.lot_load.proofs.PutLemmas.{not_false, not_true}
use Rattle.lot_load.proofs.held.are_paired.Goals as goal

pub returns-then-lots-openings : goal.returns-then-lots-openings
returns-then-lots-openings c = (
  (λ told. absurd (true≢false (sym told))),
  (λ paired. absurd (not_as_long c.args.lots.now c.args.openings.now c.if-lots-openings.true paired)),
)

pub loop-row-init : goal.loop-row-init
loop-row-init c =
    let same = c.into_iter-row-iterator.ensures.into_iter_gives in
    let zipped = c.zip-row-items.ensures in
    all_left c.args.lots.now c.args.openings.now _ _
    (ap (λ zip. iter_rest (zip_first zip)) same ∙ ap iter_rest zipped.first ∙ c.iter.ensures.rest)
    (ap (λ zip. iter_rest (zip_second zip)) same ∙ zipped.second.0) c.if-lots-openings.false

pub loop-row-preserved : goal.loop-row-preserved
loop-row-preserved c =
    let row = c.in-Some.row.now in
    let numbered = c.in-Some.numbered.now in
    one_less c.args.lots.now c.args.openings.now (iter_rest (zip_first c.loop-row.row-iterator)) (iter_rest (zip_first c.next.new.self))
    (iter_rest (zip_second c.loop-row.row-iterator)) (iter_rest (zip_second c.next.new.self)) row numbered
    c.in-Some.ensures.steps.0 c.in-Some.ensures.steps.1 c.loop-row.invariant
    (one_lot row.lot numbered.lot (not_false _ (sym c.ne.ensures ∙ c.if-ne.false)))

pub returns-then-ne : goal.returns-then-ne
returns-then-ne c =
    let row = c.in-Some.row.now in
    let numbered = c.in-Some.numbered.now in (
      (λ told. absurd (true≢false (sym told))),
      (λ paired. absurd (not_paired c.args.lots.now c.args.openings.now
          (iter_rest (zip_first c.loop-row.row-iterator)) (iter_rest (zip_first c.next.new.self))
          (iter_rest (zip_second c.loop-row.row-iterator)) (iter_rest (zip_second c.next.new.self)) row numbered
          c.in-Some.ensures.steps.0 c.in-Some.ensures.steps.1 c.loop-row.invariant
          (λ is. true≢false (sym (lot_same row.lot numbered.lot is) ∙ not_true _ (sym c.ne.ensures ∙ c.if-ne.true))) paired)),
    )

pub returns : goal.returns
returns c = (
  (λ told. none_left c.args.lots.now c.args.openings.now
      (iter_rest (zip_first c.loop-row.row-iterator)) (iter_rest (zip_second c.loop-row.row-iterator))
      (either_empty_from_Zip c.loop-row.row-iterator c.next.new.self None refl c.in-None.ensures.steps) c.loop-row.invariant),
  (λ paired. refl),
)
