use Rattle.std.proofs.Common.{◌≡◌, ℕ, List, Some}
use Rattle.std.specs.List.Sorted.{IsStrictlySortedBy}
use Rattle.std.specs.Map.{keys_of, lookup}
use Rattle.std.specs.Option.{unwrap_or}
use Rattle.lot_book.specs.Leg.{position_cmp, same_position}
use Rattle.lot_book.specs.Openings.{HaveSameOpenings, with_listed}
use Rattle.lot_book.proofs.HeldLemmas.{at}
use Rattle.lot_view.specs.View.{held_in, openings_in}
use Rattle.lot_view.proofs.view.keep_openings.Given as goal

-- the units stay, and the opening numbers so far with those that are left are those with all
abbrev pub invariant-loop-position : goal.invariant-loop-position
invariant-loop-position l = record {
  units : (account : List ℕ) → held_in l.held account ≡ held_in l.fn.held account;
  openings : (account commodity : List ℕ) → HaveSameOpenings commodity (held_in l.held account)
      (with_listed l.fn.listed (openings_in l.fn.held) account commodity)
      (λ lot. unwrap_or (lookup (same_position (at account (commodity, Some lot))) l.position-iterator)
      (openings_in l.held account commodity lot));
  left : IsStrictlySortedBy position_cmp (keys_of l.position-iterator);
}
