-- What was held at the end of a day, and what the entries of a book up to it hold.
use Rattle.std.specs.Prelude.{◌≡◌, ◌↔◌, ◌≤◌, ℤ, cond, List, [], ◌∷◌, length, map, None, Some}
use Rattle.std.specs.Map.{lookup}
use Rattle.std.proofs.Common.{arith, refl, sym, ap, subst, ◌∙◌}
use Rattle.std.proofs.lemmas.List.{take_all}
use Rattle.lot_num.specs.Amount.{IsUnits}
use Rattle.lot_inv.specs.Inventory.{non_zero}
use Rattle.lot_book.specs.Book.{IsBook}
use Rattle.lot_book.specs.Edition.{After}
use Rattle.lot_book.specs.Facts.{Entry, legs_of}
use Rattle.lot_book.specs.Holding.{entry_of, position_of}
use Rattle.lot_book.specs.Leg.{position_cmp, same_position, sum_at}
use Rattle.lot_book.specs.declared.holding.Holding.{Holding}
use Rattle.lot_book.specs.declared.leg.Leg.{Leg}
use Rattle.lot_book.specs.declared.leg.Position.{Position}
use Rattle.lot_book.proofs.OrderLemmas.{exact_positions, positions_total, same_position-itself}
use Rattle.lot_laws.proofs.LawHoldings.{holds_sum}
use Rattle.lot_laws.proofs.LegRange.{stay_in_range}
use Rattle.lot_legs.specs.Legs.{dated_legs, day_of, entries_by, leg_in, legs_by}
use Rattle.lot_legs.specs.declared.leg.DatedLeg.{DatedLeg}
use Rattle.lot_legs.proofs.SumLemmas.{sums_by}
use Rattle.lot_walk.specs.Holdings.{IsHoldings}
use Rattle.lot_walk.proofs.LawLemmas.{one_holdings}
use Rattle.lot_walk.proofs.LookLemmas.{one_list}
use Rattle.lot_position.specs.Held.{AreInRange, IsBeforeAll, IsPastAll, ListsHeld, holding_at}
use Rattle.lot_position.proofs.SumLemmas.{behind_day, by_day}

-- ---- the entries up to a day

pub held_by_entries : (entries : List Entry) (day : ℤ) (rows : List Holding)
    → ListsHeld day (dated_legs entries) rows ↔ IsHoldings (entries_by day entries) rows
held_by_entries entries day rows = (
  λ lists. record {
    in_order = lists.in_order;
    each = λ position.
        lists.each position
        ∙ ap non_zero (sums_by day position entries ∙ sym (holds_sum (legs_of (entries_by day entries)) position));
  },
  λ holds. record {
    in_order = holds.in_order;
    each = λ position.
        holds.each position
        ∙ ap non_zero (holds_sum (legs_of (entries_by day entries)) position ∙ sym (sums_by day position entries));
  },
)

-- ---- a day past all entries

all_entries : (day : ℤ) (entries : List Entry) → IsPastAll day entries → entries_by day entries ≡ entries
all_entries day [] past = refl
all_entries day (entry ∷ entries) past =
    ap (λ b. cond b (entry ∷ entries_by day entries) (entries_by day entries)) (by_day day (day_of entry.command) past.0)
    ∙ ap (λ (l : List Entry). entry ∷ l) (all_entries day entries past.1)

pub held_by_book : (entries : List Entry) (day : ℤ) (rows : List Holding) → IsPastAll day entries
    → ListsHeld day (dated_legs entries) rows ↔ IsHoldings entries rows
held_by_book entries day rows past =
    subst (λ (l : List Entry). ListsHeld day (dated_legs entries) rows ↔ IsHoldings l rows) (all_entries day entries past)
    (held_by_entries entries day rows)

pub held_same : (entries : List Entry) (day : ℤ) (rows held : List Holding) → IsPastAll day entries → ListsHeld day (dated_legs entries) rows
    → IsHoldings entries held → rows ≡ held
held_same entries day rows held past lists holds = one_holdings entries rows held ((held_by_book entries day rows past).0 lists) holds

pub book_in_range : (entries : List Entry) (day : ℤ) → IsBook entries → IsPastAll day entries → AreInRange day (dated_legs entries)
book_in_range entries day book past position =
    let legs = legs_of entries in
    let whole : length legs ≤ length legs = grind (arith) in
    subst IsUnits
    (sym (sums_by day position entries ∙ ap (λ (l : List Entry). sum_at (legs_of l) position) (all_entries day entries past)))
    (subst (λ (l : List Leg). IsUnits (sum_at l position)) (take_all (length legs) legs whole)
    (stay_in_range (After book.place) entries book.is (length legs) position))

-- ---- a day before all legs

no_legs : (day : ℤ) (legs : List DatedLeg) → IsBeforeAll day legs → legs_by day legs ≡ []
no_legs day [] before = refl
no_legs day (leg ∷ legs) before =
    ap (λ b. cond b (leg ∷ legs_by day legs) (legs_by day legs)) (behind_day day leg.day before.0) ∙ no_legs day legs before.1

pub nothing_held : (day : ℤ) (legs : List DatedLeg) (rows : List Holding) → IsBeforeAll day legs → ListsHeld day legs rows → rows ≡ []
nothing_held day legs [] before lists = refl
nothing_held day legs (row ∷ rows) before lists =
    let here : lookup (same_position (position_of row)) (map entry_of (row ∷ rows)) ≡ Some row.units =
    ap (λ b. cond b (Some row.units) (lookup (same_position (position_of row)) (map entry_of rows))) (same_position-itself (position_of row)) in
    let none : lookup (same_position (position_of row)) (map entry_of (row ∷ rows)) ≡ None =
    lists.each (position_of row)
    ∙ ap (λ (l : List DatedLeg). non_zero (sum_at (map leg_in l) (position_of row))) (no_legs day legs before) in
    let no : Some row.units ≡ None = sym here ∙ none in absurd cc

-- ---- one list

holding_in : Position × ℤ → Holding
holding_in e = holding_at e.0 e.1

pub one_held : (day : ℤ) (legs : List DatedLeg) (a b : List Holding) → ListsHeld day legs a → ListsHeld day legs b → a ≡ b
unfolding holding_in
one_held day legs a b is other =
    one_list position_cmp positions_total exact_positions position_of (λ (h : Holding). h.units) holding_in (λ h. refl) a b is.in_order other.in_order
    (λ position. is.each position ∙ sym (other.each position))
