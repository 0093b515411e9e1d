-- Once the first number that is left is given, the others are still to be.
use Rattle.std.proofs.Common.{◌≡◌, [], ◌∷◌, List, Some, ℕ, option_and_then, option_copied, rules, sym, ap, ◌∙◌}
use Rattle.std.specs.FinMap.{get}
use Rattle.std.specs.List.Sorted.{IsStrictlySortedBy}
use Rattle.std.specs.Map.{keys_of, lookup}
use Rattle.std.specs.Option.{unwrap_or}
use Rattle.std.proofs.lemmas.Map.Keys.{sorted_tail}
use Rattle.lot_inv.specs.Inventory.{Held, non_zero, opened_at, units_at}
use Rattle.lot_book.specs.declared.leg.Position.{Position}
use Rattle.lot_book.specs.Leg.{position_cmp, same_position}
use Rattle.lot_book.proofs.HeldLemmas.{at}
use Rattle.lot_view.specs.View.{held_in, openings_in, stock_in}
use Rattle.lot_view.proofs.ViewLemmas.{SetsLot}
use Rattle.lot_view.proofs.ViewOpenings.{held-again, openings-stay, openings-turn}
use Rattle.lot_view.proofs.view.keep_openings.Goals as goal

pub returns-clause-openings : goal.returns-clause-openings
returns-clause-openings c =
    let now = c.loop-position.held in
    let none : c.loop-position.position-iterator ≡ [] = c.in-None.ensures.steps.0 in
    λ account commodity lot some.
    c.loop-position.invariant.openings account commodity lot some
    ∙ ap (λ (rows : List (Position × ℕ)). unwrap_or (lookup (same_position (at account (commodity, Some lot))) rows)
    (openings_in now account commodity lot)) none

pub loop-position-preserved : goal.loop-position-preserved
loop-position-preserved c =
    let left = c.loop-position.position-iterator in
    let rest = c.next.new.self in
    let k = c.in-Some.position.now in
    let number = c.in-Some.opening.now in
    let units = c.units_of-units.result in
    let had = c.loop-position.held in
    let now = c.set_units.new.held in
    let first : left ≡ (k, number) ∷ rest = c.in-Some.ensures.steps in
    let sorted : IsStrictlySortedBy position_cmp (k ∷ keys_of rest) = rw first at c.loop-position.invariant.left in
    let lot : option_copied c.as_ref-lot.result ≡ k.lot = search rules in
    let sets : SetsLot had now k.account (k.commodity, k.lot) units number = rw lot at c.in_ok-set_units.ensures.ok in
    let is : get (held_in had k.account) (k.commodity, k.lot) ≡ non_zero units = rw lot at c.units_of-units.ensures.held in
    let again = held-again had now k units number is sets in
    record {
      units = λ account. again account ∙ c.loop-position.invariant.units account;
      openings = λ account commodity key some.
          c.loop-position.invariant.openings account commodity key (λ none.
          some (ap (λ (held : Held). units_at held (commodity, Some key)) (again account) ∙ none))
          ∙ ap (λ (rows : List (Position × ℕ)). unwrap_or (lookup (same_position (at account (commodity, Some key))) rows)
          (openings_in had account commodity key)) first
          ∙ sym (openings-turn had now k units number rest sorted sets account commodity key some);
      left = sorted_tail position_cmp k (keys_of rest) sorted;
    }

-- A lot that has its number already keeps it.
pub loop-position-preserved-then-eq : goal.loop-position-preserved-then-eq
loop-position-preserved-then-eq c =
    let left = c.loop-position.position-iterator in
    let rest = c.next.new.self in
    let k = c.in-Some.position.now in
    let number = c.in-Some.opening.now in
    let had = c.loop-position.held in
    let first : left ≡ (k, number) ∷ rest = c.in-Some.ensures.steps in
    let sorted : IsStrictlySortedBy position_cmp (k ∷ keys_of rest) = rw first at c.loop-position.invariant.left in
    let lot : option_copied c.as_ref-lot.result ≡ k.lot = search rules in
    let same : c.opening_of.result ≡ Some number = search rules in
    let has : option_and_then (opened_at (stock_in had k.account) k.commodity) k.lot ≡ Some number =
    ap (option_and_then (opened_at (stock_in had k.account) k.commodity)) (sym lot) ∙ sym c.opening_of.ensures.value ∙ same in
    record {
      units = c.loop-position.invariant.units;
      openings = λ account commodity key some.
          c.loop-position.invariant.openings account commodity key some
          ∙ ap (λ (rows : List (Position × ℕ)). unwrap_or (lookup (same_position (at account (commodity, Some key))) rows)
          (openings_in had account commodity key)) first
          ∙ sym (openings-stay had k number rest sorted has account commodity key);
      left = sorted_tail position_cmp k (keys_of rest) sorted;
    }
