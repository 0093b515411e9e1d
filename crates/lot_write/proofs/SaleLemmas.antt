-- The sales of a book with one more entry, and their table.
use Rattle.std.specs.Prelude.{◌≡◌, ℕ, suc, ◌+◌, ◌<◌, ◌≤◌, pos, ℤ, Bool, true, false, cond, List, [], ◌∷◌, ◌++◌, length, map, None, Some}
use Rattle.std.specs.List.{AllByRecursion}
use Rattle.std.specs.declared.cmp.Ordering.TheVariants.{Less}
use Rattle.std.proofs.Common.{refl, sym, ap, subst, ◌∙◌, arith, append_assoc, length-append}
use Rattle.std.proofs.lemmas.List.{map-append}
use Rattle.sqlite.specs.Order.{Row}
use Rattle.sqlite.specs.Tree.{IsAscending}
use Rattle.sqlite.specs.declared.types.Value.TheVariants.{Int, Text}
use Rattle.sqlite_keyed.proofs.ListLemmas.{all-append, all-map, all_map, all_weaker, ascending-map, ascending_weaker, map-map}
use Rattle.lot_command.specs.declared.transaction.Posting.{Posting}
use Rattle.lot_book.specs.Booking.{Booked}
use Rattle.lot_book.specs.Edition.{Migration, edition_on, ties_in}
use Rattle.lot_book.specs.Facts.{Entry, facts_of}
use Rattle.lot_book.specs.Sale.{SaleParts, AreSalesUnder, sales_in}
use Rattle.lot_rows.specs.Sale.{amount_of, currency_of, kind_of, sale_cells}
use Rattle.lot_rows.specs.declared.sale.SaleRow.{SaleRow}
use Rattle.lot_laws.specs.Collects.{Collects}
use Rattle.lot_laws.proofs.CollectLemmas.{collected_next, over_collected}
use Rattle.lot_stored.specs.Kept.{AreSalesOfEntry, SalesOf, numbered}
use Rattle.lot_stored.specs.Rows.{sale_row}
use Rattle.lot_stored.proofs.KeyLemmas.{number_below, same_first}
use Rattle.lot_stored.proofs.OrderLemmas.{IsRising, row_order}
use Rattle.lot_stored.proofs.BookedLemmas.{Walks, WalksOn}
use Rattle.lot_write.proofs.PutLemmas.{put_each, put_each-last}

-- ---- the sales of one transaction

-- the first sale is of an earlier posting
abbrev pub IsEarlier : ℕ × SaleParts → ℕ × SaleParts → Type 0
IsEarlier a b = a.0 < b.0

abbrev pub AreFrom : ℕ → List (ℕ × SaleParts) → Type 0
AreFrom place sales = AllByRecursion (λ (sale : ℕ × SaleParts). place ≤ sale.0) sales

from_later : (place : ℕ) (sales : List (ℕ × SaleParts)) → AreFrom (suc place) sales → AreFrom place sales
from_later place sales all =
    all_weaker (λ (sale : ℕ × SaleParts). suc place ≤ sale.0) (λ (sale : ℕ × SaleParts). place ≤ sale.0)
    (λ sale later. omega (arith, later)) sales all

-- a posting's sale, if it is one, before those of later postings
with_sale : (place : ℕ) (sale : ℕ × SaleParts) (sold : Bool) (sales : List (ℕ × SaleParts)) → sale.0 ≡ place
    → AreFrom (suc place) sales → IsAscending IsEarlier sales
    → AreFrom place (cond sold (sale ∷ []) [] ++ sales) × IsAscending IsEarlier (cond sold (sale ∷ []) [] ++ sales)
with_sale place sale false sales at later up = (from_later place sales later, up)
with_sale place sale true sales at later up = (
  (subst (λ n. place ≤ n) (sym at) (omega arith), from_later place sales later),
  (
    all_weaker (λ (other : ℕ × SaleParts). suc place ≤ other.0) (IsEarlier sale)
        (λ other behind. subst (λ n. n < other.0) (sym at) (omega (arith, behind))) sales later,
    up,
  ),
)

pub sales_rise : (entry : ℕ) (day : ℤ) (place : ℕ) (postings : List Posting) (booked : List Booked) → Walks entry place postings booked
    → AreFrom place (sales_in day booked) × IsAscending IsEarlier (sales_in day booked)
sales_rise entry day place [] booked walk =
    subst (λ bs. AreFrom place (sales_in day bs) × IsAscending IsEarlier (sales_in day bs)) (sym walk) (tt, tt)
sales_rise entry day place (posting ∷ postings) booked walk =
    elim posting.amount as (λ amount. WalksOn (Walks entry (suc place) postings) entry place posting.account amount booked
    → AreFrom place (sales_in day booked) × IsAscending IsEarlier (sales_in day booked)) [
      | None ↦ λ rest.
          let both = sales_rise entry day (suc place) postings booked rest in
          (from_later place (sales_in day booked) both.0, both.1)
      | Some amount ↦ λ all.
          let both = sales_rise entry day (suc place) postings all.1 all.4 in
          subst (λ bs. AreFrom place (sales_in day bs) × IsAscending IsEarlier (sales_in day bs)) (sym all.2)
          (with_sale place _ all.0.reduces (sales_in day all.1) all.3.place both.0 both.1)
    ] walk

-- ---- the sales of a book, by its migration

-- each sale is of some entry
abbrev AreUpTo : ℕ → List (ℕ × (ℕ × SaleParts)) → Type 0
AreUpTo most sales = AllByRecursion (λ (sale : ℕ × (ℕ × SaleParts)). sale.0 ≤ most) sales

module _ (migration : Migration) where
  pub sales_with : (entries : List Entry) (entry : Entry) (sales : List (ℕ × (ℕ × SaleParts))) (own : List (ℕ × SaleParts))
      → SalesOf migration entries sales
      → AreSalesUnder (ties_in (edition_on migration entries) entries) (facts_of entries entry.key) entry.command own
      → SalesOf migration (entries ++ entry ∷ []) (sales ++ numbered (suc (length entries)) own)
  sales_with entries entry sales own of are =
      collected_next (AreSalesOfEntry migration) [] entries entry sales (numbered (suc (length entries)) own) of (own, are, refl)

  own_up_to : (most : ℕ) (before entries : List Entry) (entry : Entry) (sales : List (ℕ × (ℕ × SaleParts)))
      → length (before ++ entry ∷ entries) ≤ most → AreSalesOfEntry migration before entry sales → AreUpTo most sales
  own_up_to most before entries entry sales within of =
      let here : suc (length before) ≤ length (before ++ entry ∷ entries) =
      subst (λ n. suc (length before) ≤ n) (sym (longer before entry entries)) (omega arith) in
      subst (AreUpTo most) (sym of.2)
      (all-map (λ (sale : ℕ × (ℕ × SaleParts)). sale.0 ≤ most) (λ (sale : ℕ × SaleParts). (suc (length before), sale))
      (λ sale. omega (arith, here, within)) of.0)
    where
      longer : {X : Type 0} (xs : List X) (x : X) (ys : List X) → length (xs ++ x ∷ ys) ≡ suc (length xs + length ys)
      longer xs x ys = length-append xs (x ∷ ys) ∙ omega arith

  up_to : (most : ℕ) (before entries : List Entry) (sales : List (ℕ × (ℕ × SaleParts))) → Collects (AreSalesOfEntry migration) before entries sales
      → length (before ++ entries) ≤ most → AreUpTo most sales
  up_to most = over_collected (AreSalesOfEntry migration) (λ before entries sales. length (before ++ entries) ≤ most → AreUpTo most sales)
      (λ before within. tt)
      (λ before entry entries first more of rest within.
      all-append (λ (sale : ℕ × (ℕ × SaleParts)). sale.0 ≤ most) first more (own_up_to most before entries entry first within of)
      (rest (subst (λ (book : List Entry). length book ≤ most) (sym (append_assoc before (entry ∷ []) entries)) within)))

-- ---- their table

abbrev behind : SaleRow → Row
behind row =
    Int row.day ∷ Text row.account ∷ Text row.commodity ∷ Int row.units ∷ Int (kind_of row.price) ∷ amount_of row.price ∷ currency_of row.price ∷ []

earlier_entry : (a b : ℕ × (ℕ × SaleParts)) → a.0 < b.0 → row_order sale_cells 2 (sale_row a) (sale_row b) ≡ Less
earlier_entry a b below =
    number_below 1 a.0 b.0 (Int (pos a.1.0) ∷ behind (sale_row a)) (Int (pos b.1.0) ∷ behind (sale_row b)) below

earlier_posting : (number : ℕ) (a b : ℕ × SaleParts) → a.0 < b.0
    → row_order sale_cells 2 (sale_row (number, a)) (sale_row (number, b)) ≡ Less
earlier_posting number a b below =
    same_first 1 (Int (pos number)) (Int (pos a.0) ∷ behind (sale_row (number, a))) (Int (pos b.0) ∷ behind (sale_row (number, b)))
    ∙ number_below 0 a.0 b.0 (behind (sale_row (number, a))) (behind (sale_row (number, b))) below

-- the rows of the sales of an entry of that number
abbrev pub own_rows : ℕ → List (ℕ × SaleParts) → List SaleRow
own_rows number own = map (λ (sale : ℕ × SaleParts). sale_row (number, sale)) own

-- a row comes before each of these
abbrev pub IsUnder : List SaleRow → SaleRow → Type 0
IsUnder above row = AllByRecursion (λ (new : SaleRow). row_order sale_cells 2 row new ≡ Less) above

-- the sales of another entry are above those of the entries before it, and rise
pub sales_above : (migration : Migration) (entries : List Entry) (sales : List (ℕ × (ℕ × SaleParts))) (own : List (ℕ × SaleParts))
    → SalesOf migration entries sales → IsAscending IsEarlier own
    → AllByRecursion (IsUnder (own_rows (suc (length entries)) own)) (map sale_row sales)
    × IsRising sale_cells 2 (own_rows (suc (length entries)) own)
sales_above migration entries sales own of rise =
    let number = suc (length entries) in
    let row : ℕ × SaleParts → SaleRow = λ sale. sale_row (number, sale) in (
      all_map (IsUnder (own_rows number own)) sale_row sales
          (all_weaker (λ (sale : ℕ × (ℕ × SaleParts)). sale.0 ≤ length entries)
          (λ (sale : ℕ × (ℕ × SaleParts)). IsUnder (own_rows number own) (sale_row sale))
          (λ sale within. all-map (λ (new : SaleRow). row_order sale_cells 2 (sale_row sale) new ≡ Less) row
          (λ other. earlier_entry sale (number, other) (omega (arith, within))) own)
          sales (up_to migration (length entries) [] entries sales of (omega arith))),
      ascending-map (λ (a b : SaleRow). row_order sale_cells 2 a b ≡ Less) row own
          (ascending_weaker IsEarlier (λ (a b : ℕ × SaleParts). row_order sale_cells 2 (row a) (row b) ≡ Less) (earlier_posting number) own rise),
    )

-- they come behind them
pub sales_last : (migration : Migration) (entries : List Entry) (sales : List (ℕ × (ℕ × SaleParts))) (own : List (ℕ × SaleParts))
    → SalesOf migration entries sales → IsAscending IsEarlier own
    → put_each sale_cells 2 (own_rows (suc (length entries)) own) (map sale_row sales)
    ≡ map sale_row (sales ++ numbered (suc (length entries)) own)
sales_last migration entries sales own of rise =
    let number = suc (length entries) in
    let above = sales_above migration entries sales own of rise in
    put_each-last sale_cells 2 (own_rows number own) (map sale_row sales) above.0 above.1
    ∙ ap (λ (rows : List SaleRow). map sale_row sales ++ rows) (sym (map-map sale_row (λ (sale : ℕ × SaleParts). (number, sale)) own))
    ∙ sym (map-append sale_row sales (numbered number own))
