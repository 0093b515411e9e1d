-- Where no leg is at a lot of the commodity in the account, the legs leave its lots and their numbers as they were.
use Rattle.std.proofs.Common.{◌≡◌, false, sym, ap, ◌∙◌}
use Rattle.std.specs.List.{list_any}
use Rattle.std.proofs.lemmas.List.{take_all}
use Rattle.lot_book.specs.declared.leg.Leg.{Leg}
use Rattle.lot_posting.specs.Tally.{is_lot_of}
use Rattle.lot_posting.proofs.TallyOpenings.{elsewhere, lots-elsewhere, opening-elsewhere}
use Rattle.lot_posting.proofs.tally.Tally.has_changed.Goals as goal

none_is : (c : goal.After-loop-leg)
    → list_any (λ (leg : Leg). is_lot_of c.args.account.now c.args.commodity.now leg.position) c.args.self.now.legs ≡ false
none_is c =
    let any = list_any (λ (leg : Leg). is_lot_of c.args.account.now c.args.commodity.now leg.position) in
    ap any (sym c.as_slice-leg-items.ensures ∙ sym (take_all c.loop-leg.leg-index c.as_slice-leg-items.result.now c.loop-leg-test.false))
    ∙ c.loop-leg.invariant

pub returns-clause-lots : goal.returns-clause-lots
returns-clause-lots c = λ never held.
    let account = c.args.account.now in
    let commodity = c.args.commodity.now in
    let legs = c.args.self.now.legs in
    lots-elsewhere account commodity held legs (λ key. elsewhere account commodity key legs (none_is c))

pub returns-clause-openings : goal.returns-clause-openings
returns-clause-openings c = λ never held opening lot.
    let account = c.args.account.now in
    let commodity = c.args.commodity.now in
    let legs = c.args.self.now.legs in
    opening-elsewhere account commodity lot held opening legs (elsewhere account commodity lot legs (none_is c))
