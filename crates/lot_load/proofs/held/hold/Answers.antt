-- Units that are there are the book's; else the sum is what is added, in a lot under the book's number.
use Rattle.std.specs.Prelude.{option_copied, Some}
use Rattle.std.proofs.Common.{sym, ap, ◌∙◌}
use Rattle.lot_inv.specs.Inventory.{Position as Place, units_at}
use Rattle.lot_book.specs.declared.leg.Position.{Position}
use Rattle.lot_view.specs.View.{known_with_openings}
use Rattle.lot_load.proofs.PutLemmas.{put_units, test_equal, test_other, units_there}
use Rattle.lot_load.proofs.held.hold.Goals as goal

pub returns-then-ne-clause-learns : goal.returns-then-ne-clause-learns
returns-then-ne-clause-learns c book is numbered =
    let account = c.args.account.now in
    let place : Place = (c.args.commodity.now, option_copied c.args.lot) in
    let known = known_with_openings c.args.view.now in
    units_there account place book known
    (test_other c.units.result (units_at (known.facts.held account) place) c.units.ensures (sym c.ne.ensures ∙ c.if-ne.true))

pub returns-in-Ok-clause-learns : goal.returns-in-Ok-clause-learns
returns-in-Ok-clause-learns c book is numbered =
    let account = c.args.account.now in
    let place : Place = (c.args.commodity.now, option_copied c.args.lot) in
    let position : Position = record { account = account; commodity = c.args.commodity.now; lot = option_copied c.args.lot } in
    let known = known_with_openings c.args.view.now in
    put_units position c.units-2.result c.args.opening book known (known_with_openings c.put_position.new.self)
    c.in-Ok.ensures.ok c.in-Ok.ensures.openings (λ zero. c.units-2.ensures.not_zero.1 (sym c.units-2.ensures.value ∙ zero))
    (test_equal c.units.result (units_at (known.facts.held account) place) c.units.ensures (sym c.ne.ensures ∙ c.if-ne.false))
    (is ∙ ap Some (sym c.units-2.ensures.value)) numbered
