-- The lots that an account holds of a commodity, with those at legs set, are its lots after the legs, with their numbers.
use Rattle.std.proofs.Common.{◌≡◌, ◌∷◌, [], ℕ, ◌+◌, Option, Some, List, ℤ, pos, add-one, sym, ap, subst, drop, ◌∙◌}
use Rattle.std.specs.FinMap.{get-empty}
use Rattle.std.specs.Option.{unwrap_or}
use Rattle.std.proofs.Math.Seq.{drop-cons}
use Rattle.std.proofs.lemmas.List.{drop_all}
use Rattle.lot_cost.specs.declared.lot_key.LotKey.{LotKey}
use Rattle.lot_inv.specs.Inventory.{Held, Stock, lots_of, only_lots, opening_at, position_cmp as place_cmp, units_at, with_lot}
use Rattle.lot_inv.proofs.OnlyLotsLemmas.{lots_of-only_lots}
use Rattle.lot_book.specs.declared.leg.Leg.{Leg}
use Rattle.lot_book.specs.Openings.{HaveSameOpenings}
use Rattle.lot_view.specs.View.{known_with_openings}
use Rattle.lot_posting.proofs.TallyLots.{AreSet, all_set, before_any, leaves_all, sets_lot}
use Rattle.lot_posting.proofs.tally.Tally.copy_lots.Goals as goal
use Rattle.lot_posting.proofs.tally.Tally.copy_lots.Goals.{in-Some+in_ok-lots-in-Some, in-None, then-is_lot_of+in_ok-set, else-is_lot_of}

pub loop-leg-init : goal.loop-leg-init
loop-leg-init c =
    let account = c.args.account.now in
    let commodity = c.args.commodity.now in
    let openings = c.args.self.now.openings in
    let now = known_with_openings c.args.view.now in
    let held = now.facts.held account in
    let alike : lots_of c.match-held.lots.held commodity ≡ lots_of held commodity = elim c.match-held.branch [
      | in-Some+in_ok-lots-in-Some w ↦
          ap (λ (lots : Stock). lots_of lots.held commodity) w.lots-is
          ∙ ap (λ (h : Held). lots_of h commodity) w.in_ok-lots-in-Some.ensures.lots
          ∙ ap (λ (h : Held). lots_of (only_lots h commodity) commodity) w.in-Some.ensures.value
          ∙ lots_of-only_lots held commodity
      | in-None w ↦
          ap (λ (lots : Stock). lots_of lots.held commodity) (w.lots-is ∙ w.new-lots.ensures)
          ∙ ap (λ (h : Held). lots_of h commodity) (sym w.in-None.ensures.value)
    ] in
    let same : HaveSameOpenings commodity held (opening_at c.match-held.lots commodity) (now.opening account commodity) = elim c.match-held.branch [
      | in-Some+in_ok-lots-in-Some w ↦ λ lot some.
          ap (λ (lots : Stock). opening_at lots commodity lot) w.lots-is
          ∙ ap (λ (found : Option ℕ). unwrap_or found 0) (w.in_ok-lots-in-Some.ensures.openings lot)
          ∙ ap (λ (f : LotKey → ℕ). f lot) (w.in-Some.ensures.openings commodity)
      | in-None w ↦ λ lot some.
          absurd
          (some
          (ap (λ (h : Held). units_at h (commodity, Some lot)) w.in-None.ensures.value
          ∙ ap (λ (found : Option ℤ). unwrap_or found (pos 0)) (get-empty place_cmp (commodity, Some lot))))
    ] in
    subst (λ (left : List Leg). AreSet now c.args.self.now.legs openings account commodity left c.match-held.lots)
    (sym c.as_slice-leg-items.ensures)
    (before_any now c.args.self.now.legs openings account commodity c.match-held.lots c.requires.openings alike same)

pub loop-leg-preserved : goal.loop-leg-preserved
loop-leg-preserved c =
    let account = c.args.account.now in
    let commodity = c.args.commodity.now in
    let legs = c.args.self.now.legs in
    let openings = c.args.self.now.openings in
    let now = known_with_openings c.args.view.now in
    let leg : Leg = c.leg-item.result in
    let items : List Leg = c.as_slice-leg-items.result.now in
    let index = c.loop-leg.leg-index in
    let rest = drop (index + 1) items in
    let steps : drop index items ≡ leg ∷ rest =
    drop-cons items index leg c.loop-leg-test.true ∙ (λ i. sym c.leg-item.is i ∷ drop (sym (add-one index) i) items) in
    let set : AreSet now legs openings account commodity (leg ∷ rest) c.loop-leg.lots =
    subst (λ (left : List Leg). AreSet now legs openings account commodity left c.loop-leg.lots) steps c.loop-leg.invariant in
    elim c.if-is_lot_of.branch [
      | then-is_lot_of+in_ok-set w ↦
          sets_lot now legs openings account commodity leg rest c.loop-leg.lots c.if-is_lot_of.lots w.units-units.result w.opening-opening.result
          (sym c.is_lot_of.ensures ∙ w.if-is_lot_of.true) c.held.ensures.no_zeros w.units-units.ensures w.opening-opening.ensures
          (w.lots-is ∙ w.in_ok-set.ensures.ok
          ∙ ap (λ (lot : Option LotKey). with_lot c.loop-leg.lots (commodity, lot) w.units-units.result w.opening-opening.result)
          w.as_ref.ensures.value)
          set
      | else-is_lot_of w ↦
          subst (λ (lots : Stock). AreSet now legs openings account commodity rest lots) (sym w.lots-is)
          (leaves_all now legs openings account commodity leg rest c.loop-leg.lots (sym c.is_lot_of.ensures ∙ w.if-is_lot_of.false) set)
    ]

none_left : (c : goal.After-loop-leg)
    → AreSet (known_with_openings c.args.view.now) c.args.self.now.legs c.args.self.now.openings c.args.account.now c.args.commodity.now []
    c.loop-leg.lots
none_left c =
    subst (λ (left : List Leg). AreSet (known_with_openings c.args.view.now) c.args.self.now.legs c.args.self.now.openings
    c.args.account.now c.args.commodity.now left c.loop-leg.lots)
    (drop_all c.loop-leg.leg-index c.as_slice-leg-items.result.now c.loop-leg-test.false) c.loop-leg.invariant

pub returns : goal.returns
returns c =
    all_set (known_with_openings c.args.view.now) c.args.self.now.legs c.args.self.now.openings c.args.account.now c.args.commodity.now
    c.loop-leg.lots (none_left c)
