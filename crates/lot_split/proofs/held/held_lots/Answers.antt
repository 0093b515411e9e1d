-- The account holds what its inventory does, or nothing.
use Rattle.std.proofs.Common.{◌≡◌, ℕ, List, [], subst₂}
use Rattle.std.proofs.lemmas.Result.{IfOk-weaker}
use Rattle.lot_cost.specs.declared.lot_key.LotKey.{LotKey}
use Rattle.lot_inv.specs.Inventory.{Held, opening_at}
use Rattle.lot_booking.specs.Method.{ByOpening}
use Rattle.lot_book.specs.Openings.{ties_on}
use Rattle.lot_view.specs.View.{known, known_with_openings}
use Rattle.lot_split.specs.Held.{AreHeld}
use Rattle.lot_split.specs.declared.lot.HeldLot.{HeldLot}
use Rattle.lot_split.proofs.HeldLemmas.{nothing_held}
use Rattle.lot_split.proofs.held.held_lots.Goals as goal

pub returns-in-Some : goal.returns-in-Some
returns-in-Some c =
    let view = c.args.view.now in
    let account = c.args.asked.now.account in
    let commodity = c.args.asked.now.commodity in
    let inventory = c.in-Some.inventory.now in
    let opening : opening_at inventory commodity ≡ (known_with_openings view).opening account commodity = c.in-Some.ensures.openings commodity in
    let held : inventory.held ≡ (known view).held account = c.in-Some.ensures.value in
    IfOk-weaker c.lots_in.result _ _
    (λ (lots : List HeldLot) (are : AreHeld (ByOpening (opening_at inventory commodity)) inventory.held commodity lots).
    subst₂ (λ (f : LotKey → ℕ) (h : Held). AreHeld (ByOpening f) h commodity lots) opening held are)
    c.lots_in.ensures

pub returns-in-None : goal.returns-in-None
returns-in-None c =
    let asked = c.args.asked.now in
    nothing_held (ties_on (known_with_openings c.args.view.now) [] asked.account asked.commodity) ((known c.args.view.now).held asked.account)
    asked.commodity c.new.result c.in-None.ensures.value c.new.ensures
