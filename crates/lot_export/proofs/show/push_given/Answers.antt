-- One more row is shown; at the end none is left.
use Rattle.std.specs.Prelude.{None}
use Rattle.std.specs.String.{string_bytes}
use Rattle.std.specs.Iterator.Adapters.{zip_first, zip_second}
use Rattle.std.specs.Slice.Iter.{iter_rest}
use Rattle.std.proofs.Common.{◌≡◌, refl, ap, ◌∙◌}
use Rattle.std.proofs.lemmas.Slice.Zip.{either_empty_from_Zip}
use Rattle.lot_export.proofs.ShowLemmas.{shown_all, shows_next}
use Rattle.lot_export.proofs.show.push_given.Goals as goal

pub loop-number-init : goal.loop-number-init
loop-number-init c =
    let same = c.into_iter-number-iterator.ensures.into_iter_gives in
    let zipped = c.zip-number-items.ensures in
    let first : iter_rest (zip_first c.into_iter-number-iterator.result) ≡ c.args.given.now.numbers.items =
    ap (λ zip. iter_rest (zip_first zip)) same ∙ ap iter_rest zipped.first ∙ c.iter.ensures.rest ∙ c.deref.ensures.value in
    let second : iter_rest (zip_second c.into_iter-number-iterator.result) ≡ c.args.given.now.commands.items =
    ap (λ zip. iter_rest (zip_second zip)) same ∙ zipped.second.0 in
    record { are = rw (first, second) refl }

pub loop-number-preserved : goal.loop-number-preserved
loop-number-preserved c =
    shows_next c.args.given.now.numbers.items (iter_rest (zip_first c.loop-number.number-iterator)) (iter_rest (zip_first c.next.new.self))
    c.args.given.now.commands.items (iter_rest (zip_second c.loop-number.number-iterator)) (iter_rest (zip_second c.next.new.self))
    (string_bytes c.args.text.now) (string_bytes c.loop-number.text) (string_bytes c.push_row.new.text) c.in-Some.number.now c.in-Some.keyed.now
    c.loop-number.invariant c.in-Some.ensures.steps.0 c.in-Some.ensures.steps.1 c.in_ok-push_row.ensures

pub returns : goal.returns
returns c =
    shown_all c.args.given.now.numbers.items (iter_rest (zip_first c.loop-number.number-iterator)) c.args.given.now.commands.items
    (iter_rest (zip_second c.loop-number.number-iterator)) (string_bytes c.args.text.now) (string_bytes c.loop-number.text) c.loop-number.invariant
    (either_empty_from_Zip c.loop-number.number-iterator c.next.new.self None refl c.in-None.ensures.steps)
