-- The position of the account has the sum, and every other account what it had.
use Rattle.std.proofs.Common.{◌≡◌, ◌+ℤ◌, option_copied, refl, rules}
use Rattle.lot_inv.specs.Inventory.{Position, units_at}
use Rattle.lot_view.specs.View.{held_in}
use Rattle.lot_view.proofs.ViewLemmas.{held_added}
use Rattle.lot_view.proofs.ViewOpenings.{number_or, openings-added}
use Rattle.lot_view.proofs.view.View.put_position.Goals as goal
use Rattle.lot_book.proofs.FactLemmas.{same_facts}
use Rattle.lot_book.proofs.HeldLemmas.{at}

pub returns-clause-ok : goal.returns-clause-ok
returns-clause-ok c =
    let old = c.args.self.now.held in
    let position : Position = (c.args.commodity.now, option_copied c.args.lot) in
    let sum : c.in-Some.sum ≡ units_at (held_in old c.args.account.now) position +ℤ c.args.units = search rules in
    let sets = held_added old c.set_units.new.held c.args.account.now position c.args.units c.in-Some.sum c.unwrap_or-number.result sum
    c.in_ok-set_units.ensures.ok in
    same_facts _ _ refl refl (λ account. refl) (λ commodity. refl) (λ account commodity. refl) sets

pub returns-clause-openings : goal.returns-clause-openings
returns-clause-openings c =
    let old = c.args.self.now.held in
    let account = c.args.account.now in
    let place : Position = (c.args.commodity.now, option_copied c.args.lot) in
    let number : c.unwrap_or-number.result ≡ number_or old (at account place) c.args.opening = search rules in
    openings-added old c.set_units.new.held account place c.in-Some.sum c.args.opening c.unwrap_or-number.result number
    c.opening_of.ensures.numbered c.opening_of.ensures.no_zeros c.in_ok-set_units.ensures.ok
