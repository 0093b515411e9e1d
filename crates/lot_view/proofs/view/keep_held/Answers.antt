-- Once the first row that is left is kept, the others are still to be.
use Rattle.std.proofs.Common.{◌≡◌, [], ◌∷◌, List, ℤ, ℕ, option_copied, rules, sym, ap, subst, ◌∙◌}
use Rattle.std.specs.List.Sorted.{IsStrictlySortedBy}
use Rattle.std.specs.Map.{keys_of}
use Rattle.std.proofs.lemmas.Map.Keys.{sorted_tail}
use Rattle.lot_book.specs.declared.leg.Position.{Position}
use Rattle.lot_book.specs.Leg.{position_cmp}
use Rattle.lot_book.specs.Openings.{HaveSameOpenings, with_listed}
use Rattle.lot_book.specs.Recorded.{with_rows}
use Rattle.lot_view.specs.View.{held_in, openings_in}
use Rattle.lot_view.proofs.ViewHeld.{rows-turn}
use Rattle.lot_view.proofs.ViewLemmas.{SetsLot}
use Rattle.lot_view.proofs.ViewOpenings.{held-row, openings-row}
use Rattle.lot_view.proofs.view.keep_held.Goals as goal

pub returns-clause-openings : goal.returns-clause-openings
returns-clause-openings c =
    let start = c.args.held.now in
    let now = c.loop-position.held in
    let none : c.loop-position.position-iterator ≡ [] = c.in-None.ensures.steps.0 in
    let all : (account : List ℕ) → with_rows account (held_in start account) c.args.listed.now.entries ≡ held_in now account =
    λ account.
    sym (c.loop-position.invariant.all account)
    ∙ ap (λ (rows : List (Position × ℤ)). with_rows account (held_in now account) rows) none in
    λ account commodity.
    subst (λ held. HaveSameOpenings commodity held (with_listed c.args.openings.now (openings_in start) account commodity)
    (with_listed c.args.openings.now (openings_in now) account commodity))
    (all account) (c.loop-position.invariant.openings account commodity)

pub loop-position-preserved : goal.loop-position-preserved
loop-position-preserved c =
    let left = c.loop-position.position-iterator in
    let rest = c.next.new.self in
    let k = c.in-Some.position.now in
    let units = c.in-Some.units.now in
    let number = c.number_of-opening.result in
    let start = c.args.held.now in
    let had = c.loop-position.held in
    let now = c.set_units.new.held in
    let first : left ≡ (k, units) ∷ rest = c.in-Some.ensures.steps in
    let sorted : IsStrictlySortedBy position_cmp (k ∷ keys_of rest) = rw first at c.loop-position.invariant.left in
    let lot : option_copied c.as_ref.result ≡ k.lot = search rules in
    let sets : SetsLot had now k.account (k.commodity, k.lot) units number = rw lot at c.in_ok-set_units.ensures.ok in
    let all : (account : List ℕ) → with_rows account (held_in now account) rest
    ≡ with_rows account (held_in start account) c.args.listed.now.entries =
    λ account.
    ap (λ held. with_rows account held rest) (held-row had now k.account (k.commodity, k.lot) units number sets account)
    ∙ rows-turn account (held_in had account) k units rest sorted
    ∙ ap (λ (rows : List (Position × ℤ)). with_rows account (held_in had account) rows) (sym first)
    ∙ c.loop-position.invariant.all account in
    record {
      all = all;
      openings = λ account commodity.
          openings-row c.args.openings.now start had now k units number c.args.listed.now.entries rest sorted
          c.number_of-opening.ensures sets account commodity (all account)
          (c.loop-position.invariant.openings account commodity);
      left = sorted_tail position_cmp k (keys_of rest) sorted;
    }
