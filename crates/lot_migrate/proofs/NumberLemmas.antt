-- The openings of legs that a book can have are rows that a book can have.
use Rattle.std.proofs.Common.{◌≡◌, ◌∙◌, ◌++◌, ℕ, inl, inr, List, [], ◌∷◌, map, refl, sym, ap, subst, arith}
use Rattle.std.proofs.lemmas.List.Elements.{All-from_recursion, recursion_from_All}
use Rattle.std.specs.List.{AllByRecursion}
use Rattle.sqlite_rules.proofs.ListLemmas.{all_from, all_has}
use Rattle.sqlite_rules.proofs.ProbeLemmas.{has_mapped}
use Rattle.sqlite_rules.specs.Lists.{Has}
use Rattle.lot_book.specs.OpeningNumber.{HasOpeningNumber, IsNumbered, posting_number}
use Rattle.lot_book.specs.declared.leg.Leg.{Leg}
use Rattle.lot_book.specs.declared.leg.Position.{Position}
use Rattle.lot_migrate.specs.LotOpenings.{ListsOpenings, lot_of}
use Rattle.lot_migrate.specs.declared.opening_numbers.LotOpening.{LotOpening}
use Rattle.lot_stored.proofs.OrderLemmas.{IsRising}
use Rattle.lot_table.specs.Cell.{IsOpeningNumber}
use Rattle.lot_rows.specs.Leg.{IsLegRow}
use Rattle.lot_rows.specs.LotKey.{IsLotOrPlain}
use Rattle.lot_rows.specs.Opening.{IsOpeningRow, opening_cells}
use Rattle.lot_rows.specs.declared.leg.LegRow.{LegRow}
use Rattle.lot_base.specs.Name.{IsName, is_account, is_commodity}
use Rattle.lot_migrate.specs.Read.{AreLegs, AreNumbers}
use Rattle.lot_migrate.specs.Rows.{leg_of, row_of_opening}
use Rattle.lot_migrate.proofs.OpeningLemmas.{rows_rise}

has_middle : {X : Type 0} (before : List X) (x : X) (behind : List X) → Has (before ++ x ∷ behind) x
has_middle [] x behind = inl refl
has_middle (y ∷ before) x behind = inr (has_middle before x behind)

module _ (rows : List LegRow) (legs : AreLegs rows) (openings : List LotOpening) (lists : ListsOpenings (map leg_of rows) openings) where
  good_row : (it : LotOpening) → HasOpeningNumber (map leg_of rows) (lot_of it) it.opening → IsOpeningRow (row_of_opening it)
  good_row it has =
      let leg = has.leg in
      let there : Has (map leg_of rows) leg = subst (λ l. Has l leg) (sym has.last.split) (has_middle has.last.before leg has.last.behind) in
      let numbered = all_has IsNumbered (map leg_of rows) leg (recursion_from_All IsNumbered (map leg_of rows) legs.numbered) there in
      let found = has_mapped leg_of rows leg there in
      let good = all_has IsLegRow rows found.0 (recursion_from_All IsLegRow rows legs.good) found.1 in
      let at : (leg_of found.0).position ≡ lot_of it = ap (λ (l : Leg). l.position) (sym found.2) ∙ has.last.opens.there in
      record {
        account = subst (λ (p : Position). IsName is_account p.account) at good.account;
        commodity = subst (λ (p : Position). IsName is_commodity p.commodity) at good.commodity;
        lot = subst (λ (p : Position). IsLotOrPlain p.lot) at good.lot;
        opening = in_range leg it.opening numbered has.of_posting;
      }
    where
      in_range : (leg : Leg) (number : ℕ) → IsNumbered leg → number ≡ posting_number leg → IsOpeningNumber number
      in_range leg number numbered is = (
        omega (arith, is, numbered.entry_from_one, numbered.posting_from_one),
        omega (arith, is, numbered.entry_from_one, numbered.entry_in_book, numbered.posting_in_entry),
      )

  good_rows : AllByRecursion (λ (it : LotOpening). IsOpeningRow (row_of_opening it)) openings
  good_rows =
      all_from (λ (it : LotOpening). IsOpeningRow (row_of_opening it)) openings
      (λ it has. good_row it
      (all_has (λ (o : LotOpening). HasOpeningNumber (map leg_of rows) (lot_of o) o.opening) openings it
      (recursion_from_All (λ (o : LotOpening). HasOpeningNumber (map leg_of rows) (lot_of o) o.opening) openings lists.numbers) has))

  pub openings_rise : IsRising opening_cells 6 (map row_of_opening openings)
  openings_rise = rows_rise openings good_rows lists.in_order

  pub openings_numbered : AreNumbers openings
  openings_numbered =
      All-from_recursion (λ (it : LotOpening). IsOpeningNumber it.opening) openings
      (all_from (λ (it : LotOpening). IsOpeningNumber it.opening) openings
      (λ it has. (all_has (λ (o : LotOpening). IsOpeningRow (row_of_opening o)) openings it good_rows has).opening))
