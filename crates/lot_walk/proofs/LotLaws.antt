-- What was bought into a lot is taken by the sales of a book, or held.
use Rattle.std.specs.Prelude.{◌≡◌, ℕ, suc, true, cond, List, [], ◌∷◌, length, filter, Option, None, Some, ℤ, pos, ◌+ℤ◌}
use Rattle.std.specs.FinMap.{empty}
use Rattle.std.specs.Option.{unwrap_or}
use Rattle.std.proofs.Common.{refl, sym, ap, ◌∙◌}
use Rattle.std.proofs.Math.IntN.{+ℤ_idr}
use Rattle.lot_cost.specs.declared.lot_key.LotKey.{LotKey}
use Rattle.lot_inv.specs.Inventory.{non_zero}
use Rattle.lot_inv.proofs.LotLemmas.{get-with_units_here, units_at-set}
use Rattle.lot_command.specs.declared.command.Command.{Command}
use Rattle.lot_command.specs.declared.command.Command.TheVariants.{Opening, Closing, Declaring, Quoting, Transaction}
use Rattle.lot_command.specs.declared.transaction.Amount.{Amount}
use Rattle.lot_command.specs.declared.transaction.Posting.{Posting}
use Rattle.lot_book.specs.declared.holding.Holding.{Holding}
use Rattle.lot_book.specs.declared.leg.Leg.{Leg}
use Rattle.lot_book.specs.declared.leg.Position.{Position}
use Rattle.lot_book.specs.Booking.{All, Booked, BooksAllUnder, IsBooked, Line, TieRule, line_under}
use Rattle.lot_book.specs.Edition.{Migration, edition_on, ties_in}
use Rattle.lot_book.specs.Facts.{Entry, Facts, facts_of, legs_of}
use Rattle.lot_book.specs.Leg.{legs_at_lots, leg_at, same_position, sum_at}
use Rattle.lot_book.specs.Sale.{SaleParts, AreSalesUnder, lots_in_legs, sales_in, sales_of}
use Rattle.lot_book.proofs.CaseLemmas.{by_bool}
use Rattle.lot_book.proofs.SumLemmas.{sum_where-cons}
use Rattle.lot_laws.specs.Collects.{Collects}
use Rattle.lot_laws.specs.Laws.{BooksCommand, BooksEntries, BooksEntry, bought_into, lot_at, sold_of}
use Rattle.lot_laws.proofs.CollectLemmas.{over_collected}
use Rattle.lot_laws.proofs.LawBooks.{over_booked}
use Rattle.lot_laws.proofs.LawLeft.{sold-append, sum_if, sum_is_bought_and_sold}
use Rattle.lot_laws.proofs.LawLots.{total, total-append}
use Rattle.lot_laws.proofs.LawSales.{booked_sale}
use Rattle.lot_laws.proofs.StepLemmas.{books_one}
use Rattle.lot_stored.specs.Kept.{AreSalesOfEntry, SalesOf, numbered}
use Rattle.lot_stored.proofs.SalesLemmas.{all_booked}
use Rattle.lot_book.proofs.SaleLemmas.{lots_in_legs-lots}
use Rattle.lot_walk.specs.Holdings.{IsHoldings}
use Rattle.lot_walk.specs.Sold.{left_of, taken_by, taken_of}
use Rattle.lot_walk.proofs.LawLemmas.{holding_is_sum}

module _ (lot : Position) where
  -- ---- A posting.

  -- what legs at lots of an account put there
  abbrev lots_there : List ℕ → List ℕ → List (LotKey × ℤ) → ℤ
  lots_there account commodity lots = total (λ (leg : LotKey × ℤ). leg.1) (filter (λ (leg : LotKey × ℤ). same_position lot (lot_at account commodity leg.0)) lots)

  legs_there : (entry posting place : ℕ) (account commodity : List ℕ) (lots : List (LotKey × ℤ))
      → sum_at (legs_at_lots entry posting account commodity place lots) lot ≡ lots_there account commodity lots
  legs_there entry posting place account commodity [] = refl
  legs_there entry posting place account commodity (first ∷ lots) =
      let here = same_position lot (lot_at account commodity first.0) in
      sum_where-cons (λ (leg : Leg). same_position lot leg.position) (λ (leg : Leg). leg.units)
      (leg_at entry posting place account commodity (Some first.0) first.1) (legs_at_lots entry posting account commodity (suc place) lots)
      ∙ ap (λ z. cond here (first.1 +ℤ z) z) (legs_there entry posting (suc place) account commodity lots)
      ∙ sym (sum_where-cons (λ (leg : LotKey × ℤ). same_position lot (lot_at account commodity leg.0)) (λ (leg : LotKey × ℤ). leg.1) first lots)

  abbrev taken : ℕ × SaleParts → ℤ
  taken sale = taken_by lot sale.1

  sale_takes : (day : ℤ) (line : Line) (booked : Booked) → IsBooked line booked → booked.reduces ≡ true
      → sum_at booked.legs lot ≡ lots_there booked.account booked.amount.commodity (lots_in_legs booked.legs)
  sale_takes day line booked is sells =
      let sale = booked_sale line booked is sells in
      let lots = sale.0 in
      ap (λ legs. sum_at legs lot) sale.2
      ∙ legs_there line.entry line.place 0 line.account line.amount.commodity lots
      ∙ ap (λ account. lots_there account line.amount.commodity lots) (sym is.account)
      ∙ ap (λ (amount : Amount). lots_there booked.account amount.commodity lots) (sym is.amount)
      ∙ ap (lots_there booked.account booked.amount.commodity)
      (sym (ap lots_in_legs sale.2 ∙ lots_in_legs-lots line.entry line.place line.account line.amount.commodity 0 lots))

  posting_takes : (day : ℤ) (line : Line) (booked : Booked) → IsBooked line booked
      → cond booked.reduces (sum_at booked.legs lot) (pos 0) ≡ total taken (sales_of day booked)
  posting_takes day line booked is = by_bool booked.reduces
      (λ e. rw e (sale_takes day line booked is e ∙ sym (+ℤ_idr (lots_there booked.account booked.amount.commodity (lots_in_legs booked.legs)))))
      (λ e. rw e refl)

  -- ---- A transaction.

  sales_take : (ties : TieRule) (facts : Facts) (day : ℤ) (postings : List Posting) (booked : List Booked) → BooksAllUnder ties facts day [] 1 postings (All booked)
      → sold_of booked lot ≡ total taken (sales_in day booked)
  sales_take ties facts day postings booked books =
      over_booked ties facts day (λ before postings booked. sold_of booked lot ≡ total taken (sales_in day booked))
      (λ before. refl)
      (λ before other postings booked rest. rest)
      (λ before place other amount postings first more is rest.
      sum_if first.reduces first (filter (λ (b : Booked). b.reduces) more) lot
      ∙ ap (λ z. z +ℤ sold_of more lot) (posting_takes day (line_under ties facts day before place other amount) first is)
      ∙ ap (λ z. total taken (sales_of day first) +ℤ z) rest
      ∙ sym (total-append taken (sales_of day first) (sales_in day more)))
      1 postings [] booked books

  none_takes : (booked : List Booked) (sales : List (ℕ × SaleParts)) → booked ≡ [] → sales ≡ [] → sold_of booked lot ≡ total taken sales
  none_takes booked sales e g = ap (λ (bs : List Booked). sold_of bs lot) e ∙ sym (ap (total taken) g)

  command_takes : (ties : TieRule) (facts : Facts) (command : Command) (legs : List Leg) (booked : List Booked) (sales : List (ℕ × SaleParts))
      → BooksCommand ties facts command legs booked → AreSalesUnder ties facts command sales → sold_of booked lot ≡ total taken sales
  command_takes ties facts (Opening o) legs booked sales h are = none_takes booked sales h.1 are
  command_takes ties facts (Closing c) legs booked sales h are = none_takes booked sales h.1 are
  command_takes ties facts (Declaring d) legs booked sales h are = none_takes booked sales h.1 are
  command_takes ties facts (Quoting q) legs booked sales h are = none_takes booked sales h.1 are
  command_takes ties facts (Transaction t) legs booked sales h are =
      let same = all_booked booked are.0 (books_one ties facts t.day [] 1 t.postings (All booked) (All are.0) h.1 are.1) in
      sales_take ties facts t.day t.postings booked h.1
      ∙ ap (λ (bs : List Booked). total taken (sales_in t.day bs)) same
      ∙ sym (ap (total taken) are.2)

  -- ---- A book.

  numbered_take : (number : ℕ) (sales : List (ℕ × SaleParts)) → total taken sales ≡ taken_of (numbered number sales) lot
  numbered_take number [] = refl
  numbered_take number (sale ∷ sales) = ap (λ z. taken sale +ℤ z) (numbered_take number sales)

  entry_takes : (migration : Migration) (before : List Entry) (entry : Entry) (booked : List Booked) (sales : List (ℕ × (ℕ × SaleParts)))
      → BooksEntry migration before entry booked → AreSalesOfEntry migration before entry sales → sold_of booked lot ≡ taken_of sales lot
  entry_takes migration before entry booked sales is are =
      command_takes (ties_in (edition_on migration before) before) (facts_of before entry.key) entry.command entry.legs booked are.0 is are.1
      ∙ numbered_take (suc (length before)) are.0
      ∙ sym (ap (λ ss. taken_of ss lot) are.2)

  book_takes : (migration : Migration) (before entries : List Entry) (booked : List Booked) → BooksEntries migration before entries booked
      → (sales : List (ℕ × (ℕ × SaleParts))) → Collects (AreSalesOfEntry migration) before entries sales → sold_of booked lot ≡ taken_of sales lot
  book_takes migration = over_collected (BooksEntry migration)
      (λ before entries booked. (sales : List (ℕ × (ℕ × SaleParts))) → Collects (AreSalesOfEntry migration) before entries sales
      → sold_of booked lot ≡ taken_of sales lot)
      (λ before sales are. sym (ap (λ ss. taken_of ss lot) are))
      (λ before entry entries first more is rest sales are.
      sold-append first more lot
      ∙ ap (λ z. z +ℤ sold_of more lot) (entry_takes migration before entry first are.0 is are.2)
      ∙ ap (λ z. taken_of are.0 lot +ℤ z) (rest are.1 are.3)
      ∙ sym (ap (λ ss. taken_of ss lot) are.4 ∙ total-append (λ (sold : ℕ × (ℕ × SaleParts)). taken_by lot sold.1.1) are.0 are.1))

-- units that are kept where they aren't zero
kept_units : (units : ℤ) → unwrap_or (non_zero units) (pos 0) ≡ units
kept_units units =
    sym (ap (λ (found : Option ℤ). unwrap_or found (pos 0)) (get-with_units_here empty ([], None) units)) ∙ units_at-set empty ([], None) units

pub bought_is_taken_or_left : (migration : Migration) (entries : List Entry) (booked : List Booked) (sales : List (ℕ × (ℕ × SaleParts))) (rows : List Holding)
    (account commodity : List ℕ) (lot : LotKey)
    → BooksEntries migration [] entries booked → SalesOf migration entries sales → IsHoldings entries rows
    → left_of rows (lot_at account commodity lot)
    ≡ bought_into booked (lot_at account commodity lot) +ℤ taken_of sales (lot_at account commodity lot)
bought_is_taken_or_left migration entries booked sales rows account commodity lot h are held =
    let there = lot_at account commodity lot in
    ap (λ (found : Option ℤ). unwrap_or found (pos 0)) (holding_is_sum entries rows there held)
    ∙ kept_units (sum_at (legs_of entries) there)
    ∙ sum_is_bought_and_sold migration entries booked account commodity lot h
    ∙ ap (λ z. bought_into booked there +ℤ z) (book_takes there migration [] entries booked h sales are)
