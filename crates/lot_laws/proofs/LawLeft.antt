-- What was bought into a lot is sold, or left.
use Rattle.std.specs.Prelude.{◌≡◌, ℕ, suc, Bool, true, false, not, cond, List, [], ◌∷◌, ◌++◌, filter, None, Some, ℤ, pos, ◌+ℤ◌}
use Rattle.std.proofs.Common.{refl, sym, ap, ◌∙◌, arith}
use Rattle.std.proofs.Math.IntN.{+ℤ_idl, +ℤ_idr}
use Rattle.std.proofs.lemmas.Grind.{flat_map-append}
use Rattle.std.proofs.lemmas.Int.{ints}
use Rattle.std.proofs.lemmas.List.Elements.{filter-append}
use Rattle.lot_cost.specs.declared.lot_key.LotKey.{LotKey}
use Rattle.lot_inv.specs.Inventory.{units_at}
use Rattle.lot_command.specs.declared.command.Command.{Command}
use Rattle.lot_command.specs.declared.command.Command.TheVariants.{Opening, Closing, Declaring, Quoting, Transaction}
use Rattle.lot_book.specs.declared.leg.Leg.{Leg}
use Rattle.lot_book.specs.declared.leg.Position.{Position}
use Rattle.lot_book.specs.Balance.{elided_postings, fill_from, fill_of, left_over, opposite, residuals, weights_in}
use Rattle.lot_book.specs.Booking.{Booked, legs_in, TieRule}
use Rattle.lot_book.specs.Edition.{Migration, edition_on, ties_in}
use Rattle.lot_book.specs.Facts.{Entry, Facts, facts_of, legs_of}
use Rattle.lot_book.specs.Leg.{inventory_of, leg_at, same_position, sum_at}
use Rattle.lot_book.specs.Step.{fill_legs}
use Rattle.lot_book.proofs.CaseLemmas.{by_bool}
use Rattle.lot_book.proofs.OrderLemmas.{one_position}
use Rattle.lot_book.proofs.SumLemmas.{sum_where-append, sum_where_apart}
use Rattle.lot_laws.specs.Laws.{BooksCommand, BooksEntries, BooksEntry, bought_into, lot_at, sold_of}
use Rattle.lot_laws.proofs.CollectLemmas.{over_collected}
use Rattle.lot_laws.proofs.LawHoldings.{holds_sum}

-- ---- Legs at a position.

abbrev is_there : Position → Leg → Bool
is_there p leg = same_position p leg.position

abbrev units_of : Leg → ℤ
units_of leg = leg.units

pub sum_at-append : (legs more : List Leg) (p : Position) → sum_at (legs ++ more) p ≡ sum_at legs p +ℤ sum_at more p
sum_at-append legs more p = sum_where-append (is_there p) units_of legs more

-- of booked postings
legs_in-append : (booked more : List Booked) (p : Position)
    → sum_at (legs_in (booked ++ more)) p ≡ sum_at (legs_in booked) p +ℤ sum_at (legs_in more) p
legs_in-append booked more p =
    ap (λ ls. sum_at ls p) (flat_map-append (λ (b : Booked). b.legs) booked more) ∙ sum_at-append (legs_in booked) (legs_in more) p

-- ---- Sales, and other postings.

pub sold-append : (booked more : List Booked) (p : Position) → sold_of (booked ++ more) p ≡ sold_of booked p +ℤ sold_of more p
sold-append booked more p =
    let sells = λ (b : Booked). b.reduces in
    ap (λ (bs : List Booked). sum_at (legs_in bs) p) (filter-append sells booked more)
    ∙ legs_in-append (filter sells booked) (filter sells more) p

pub sum_if : (b : Bool) (first : Booked) (more : List Booked) (p : Position)
    → sum_at (legs_in (cond b (first ∷ more) more)) p ≡ cond b (sum_at first.legs p) (pos 0) +ℤ sum_at (legs_in more) p
sum_if true first more p = sum_at-append first.legs (legs_in more) p
sum_if false first more p = sym (+ℤ_idl (sum_at (legs_in more) p))

one_of_both : (sale : Bool) (units bought sold : ℤ)
    → units +ℤ (bought +ℤ sold) ≡ (cond (not sale) units (pos 0) +ℤ bought) +ℤ (cond sale units (pos 0) +ℤ sold)
one_of_both true units bought sold = omega (arith, ints)
one_of_both false units bought sold = omega (arith, ints)

bought_or_sold : (booked : List Booked) (p : Position) → sum_at (legs_in booked) p ≡ bought_into booked p +ℤ sold_of booked p
bought_or_sold [] p = refl
bought_or_sold (first ∷ more) p =
    let others = filter (λ (b : Booked). not b.reduces) more in
    let sales = filter (λ (b : Booked). b.reduces) more in
    sum_at-append first.legs (legs_in more) p
    ∙ ap (λ z. sum_at first.legs p +ℤ z) (bought_or_sold more p)
    ∙ one_of_both first.reduces (sum_at first.legs p) (bought_into more p) (sold_of more p)
    ∙ ap (λ z. z +ℤ (cond first.reduces (sum_at first.legs p) (pos 0) +ℤ sold_of more p)) (sym (sum_if (not first.reduces) first others p))
    ∙ ap (λ z. sum_at (legs_in (cond (not first.reduces) (first ∷ others) others)) p +ℤ z) (sym (sum_if first.reduces first sales p))

-- ---- The legs of a book at a lot are those of its postings: the elided ones have plain legs.

module _ (account commodity : List ℕ) (lot : LotKey) where
  abbrev there : Position
  there = lot_at account commodity lot

  not_plain : Some lot ≡ None → ⊥
  not_plain e = cc

  plain_apart : (other name : List ℕ) → same_position there (record { account = other; commodity = name; lot = None }) ≡ false
  plain_apart other name =
      let plain : Position = record { account = other; commodity = name; lot = None } in
      by_bool (same_position there plain)
      (λ e. absurd (not_plain (ap (λ (p : Position). p.lot) (one_position there plain e))))
      (λ e. e)

  fill_apart : (entry posting : ℕ) (other : List ℕ) (place : ℕ) (rs : List (List ℕ × ℤ))
      → sum_at (fill_from entry posting other place rs) there ≡ pos 0
  fill_apart entry posting other place [] = refl
  fill_apart entry posting other place (r ∷ rs) =
      sum_where_apart (is_there there) units_of (leg_at entry posting place other r.0 None (opposite r.1)) (fill_from entry posting other (suc place) rs)
      (plain_apart other r.0)
      ∙ fill_apart entry posting other (suc place) rs

  filled_apart : (entry : ℕ) (elided : List (ℕ × List ℕ)) (rs : List (List ℕ × ℤ)) → sum_at (fill_of entry elided rs) there ≡ pos 0
  filled_apart entry [] rs = refl
  filled_apart entry (first ∷ more) rs = fill_apart entry first.0 first.1 0 (left_over rs)

  none_there : (legs : List Leg) (booked : List Booked) → (legs ≡ []) × (booked ≡ []) → sum_at legs there ≡ sum_at (legs_in booked) there
  none_there legs booked h = ap (λ ls. sum_at ls there) h.0 ∙ sym (ap (λ (bs : List Booked). sum_at (legs_in bs) there) h.1)

  command_there : (ties : TieRule) (facts : Facts) (command : Command) (legs : List Leg) (booked : List Booked)
      → BooksCommand ties facts command legs booked
      → sum_at legs there ≡ sum_at (legs_in booked) there
  command_there ties facts (Opening o) legs booked h = none_there legs booked h
  command_there ties facts (Closing c) legs booked h = none_there legs booked h
  command_there ties facts (Declaring d) legs booked h = none_there legs booked h
  command_there ties facts (Quoting q) legs booked h = none_there legs booked h
  command_there ties facts (Transaction t) legs booked h =
      ap (λ ls. sum_at ls there) h.0
      ∙ sum_at-append (legs_in booked) (fill_legs facts t booked) there
      ∙ ap (λ z. sum_at (legs_in booked) there +ℤ z)
      (filled_apart (suc facts.entries) (elided_postings 1 t.postings) (residuals (weights_in booked)))
      ∙ +ℤ_idr (sum_at (legs_in booked) there)

  entries_there : (migration : Migration) (before entries : List Entry) (booked : List Booked) → BooksEntries migration before entries booked
      → sum_at (legs_of entries) there ≡ sum_at (legs_in booked) there
  entries_there migration = over_collected (BooksEntry migration)
      (λ before entries booked. sum_at (legs_of entries) there ≡ sum_at (legs_in booked) there) (λ before. refl)
      (λ before entry entries first more is rest.
      sum_at-append entry.legs (legs_of entries) there
      ∙ ap (λ z. z +ℤ sum_at (legs_of entries) there) (command_there (ties_in (edition_on migration before) before) (facts_of before entry.key) entry.command entry.legs first is)
      ∙ ap (λ z. sum_at (legs_in first) there +ℤ z) rest
      ∙ sym (legs_in-append first more there))

module _ (migration : Migration) (entries : List Entry) (booked : List Booked) (account commodity : List ℕ) (lot : LotKey)
    (h : BooksEntries migration [] entries booked) where
  pub sum_is_bought_and_sold : sum_at (legs_of entries) (lot_at account commodity lot)
      ≡ bought_into booked (lot_at account commodity lot) +ℤ sold_of booked (lot_at account commodity lot)
  sum_is_bought_and_sold =
      entries_there account commodity lot migration [] entries booked h ∙ bought_or_sold booked (lot_at account commodity lot)

  pub bought_is_sold_or_left : units_at (inventory_of (legs_of entries) account) (commodity, Some lot)
      ≡ bought_into booked (lot_at account commodity lot) +ℤ sold_of booked (lot_at account commodity lot)
  bought_is_sold_or_left = holds_sum (legs_of entries) (lot_at account commodity lot) ∙ sum_is_bought_and_sold
