-- The one leg of a posting without braces, of all its units.
use Rattle.std.proofs.Common.{◌≡◌, ◌∷◌, [], ◌++◌, false, ℕ, List, Option, None, sym, ap, subst, ◌∙◌, ◌+ℤ◌, ℤ, refl}
use Rattle.std.proofs.lemmas.List.{append-nil}
use Rattle.lot_cost.specs.declared.cost.Cost.{Cost}
use Rattle.lot_book.specs.declared.leg.Leg.{Leg}
use Rattle.lot_book.specs.declared.refusal.Refusal.TheVariants.{Range}
use Rattle.lot_book.specs.declared.refusal.Stop.TheVariants.{Refused}
use Rattle.lot_book.specs.Balance.{residuals, weights_by}
use Rattle.lot_book.specs.Change.{units_after}
use Rattle.lot_book.specs.Facts.{Facts}
use Rattle.lot_book.specs.Leg.{leg_at, with_legs}
use Rattle.lot_command.specs.declared.transaction.Amount.{Amount}
use Rattle.lot_inv.specs.Inventory.{units_at}
use Rattle.lot_num.specs.Amount.{IsUnits}
use Rattle.lot_posting.specs.declared.draft.Draft.{Draft}
use Rattle.lot_posting.specs.Posting.{StopsPosting, line_at}
use Rattle.lot_posting.specs.Tally.{plain}
use Rattle.lot_book.specs.Booking.{HasLegs, TieRule, line_under, plain_leg}
use Rattle.lot_book.specs.Openings.{ties_for}
use Rattle.lot_view.specs.View.{known, known_with_openings}
use Rattle.lot_book.proofs.LegLemmas.{leave_range-passes}
use Rattle.lot_posting.proofs.PostingLemmas.{Adds, books, plain_out}
use Rattle.lot_posting.proofs.posting.book_plain.Goals as goal

-- ---- the one leg of the posting

-- what its position holds after it
abbrev sum_after : Facts → List Leg → Leg → List ℕ → ℤ
sum_after facts before leg account =
    units_at (with_legs account (facts.held account) before) (leg.position.commodity, leg.position.lot) +ℤ leg.units

in_range : (facts : Facts) (before : List Leg) (entry posting : ℕ) (account commodity : List ℕ) (units held : ℤ) (leg : Leg)
    → leg ≡ leg_at entry posting 0 account commodity None units
    → held ≡ units_after facts before (plain account commodity) → IsUnits (held +ℤ units)
    → (other : List ℕ) → leg.position.account ≡ other → IsUnits (sum_after facts before leg other)
in_range facts before entry posting account commodity units held leg is same within other own =
    subst (λ a. IsUnits (sum_after facts before leg a)) own
    (subst (λ (l : Leg). IsUnits (sum_after facts before l l.position.account)) (sym is)
    (subst (λ (h : ℤ). IsUnits (h +ℤ units)) same within))

-- its weight is that of the amount, whatever its legs
one_weight : (amount : Amount) (legs : List Leg) → amount.cost ≡ None → weights_by amount.cost amount [] ≡ weights_by amount.cost amount legs
one_weight amount legs is =
    subst (λ (cost : Option Cost). weights_by cost amount [] ≡ weights_by cost amount legs) (sym is) refl

pub returns-clause-books : goal.returns-clause-books
returns-clause-books c =
    let facts = known c.args.view.now in
    let site = c.args.site.now in
    let amount = site.amount.now in
    let leg = c.in_ok-leg.leg in
    let old = c.args.draft.now in
    let line = line_at (known_with_openings c.args.view.now) site old.tally.legs in
    let numbered = λ (entry : ℕ). leg_at entry site.posting 0 site.account.now amount.commodity None amount.units in
    let legs : leg ∷ [] ≡ plain_leg line ∷ [] =
    ap (λ (leg : Leg). leg ∷ []) (c.in_ok-leg.ensures ∙ ap numbered c.requires.entry) in
    let one_leg : HasLegs line amount.cost false (leg ∷ []) =
    subst (λ (cost : Option Cost). HasLegs line cost false (leg ∷ [])) (sym c.requires.plain) (refl, legs) in
    let new : Draft = record { tally = c.put.new.self; residuals = c.weigh.new.self; sales = old.sales } in
    let adds : Adds facts amount (leg ∷ []) old new = record {
      legs = c.in_ok-put.ensures.legs;
      sum = λ weights before. c.in_ok-weigh.ensures.sum weights before
          ∙ ap (λ more. residuals (weights ++ more)) (one_weight amount (leg ∷ []) c.requires.plain);
      within = c.in_ok-weigh.ensures.within;
      in_range = λ account posting of.
          leave_range-passes (with_legs account (facts.held account) old.tally.legs) leg []
          (in_range facts old.tally.legs site.entry site.posting site.account.now amount.commodity amount.units c.plain_units-held.result leg
          c.in_ok-leg.ensures c.plain_units-held.ensures c.in-Some.ensures.0 account of.0.0);
    } in
    books (ties_for site.edition (known_with_openings c.args.view.now)) facts site.day site.posting site.account.now amount old new false (leg ∷ [])
    one_leg adds (sym (append-nil old.sales))

pub returns-clause-lists : goal.returns-clause-lists
returns-clause-lists c =
    let facts = known c.args.view.now in
    let before = c.args.draft.now.tally.legs in
    let held = c.plain_units-held.result in
    c.in_ok-put.ensures.lists (known_with_openings c.args.view.now) c.requires.lists
    (c.plain_units-held.ensures ∙ ap (λ (leg : Leg). units_after facts before leg.position) (sym c.in_ok-leg.ensures))
    (c.in-Some.ensures.1 ∙ ap (λ (leg : Leg). held +ℤ leg.units) (sym c.in_ok-leg.ensures))

-- ---- where the sum after the posting leaves the range

module _ (ties : TieRule) (facts : Facts) (day : ℤ) (before : List Leg) (place : ℕ) (account : List ℕ) (amount : Amount) (held : ℤ) (is : amount.cost ≡ None)
    (same : held ≡ units_after facts before (plain account amount.commodity)) where
  out : (IsUnits (held +ℤ amount.units) → ⊥) → StopsPosting (line_under ties facts day before place account amount) (Refused (Range place))
  out leaves =
      plain_out ties facts day before place account amount is (λ within. leaves (subst (λ (h : ℤ). IsUnits (h +ℤ amount.units)) (sym same) within))

pub returns-in_default-clause-stops : goal.returns-in_default-clause-stops
returns-in_default-clause-stops c =
    let site = c.args.site.now in
    rw c.into.ensures
    (out (ties_for site.edition (known_with_openings c.args.view.now)) (known c.args.view.now) site.day c.args.draft.now.tally.legs site.posting site.account.now site.amount.now c.plain_units-held.result
    c.requires.plain c.plain_units-held.ensures c.in_default.ensures)
