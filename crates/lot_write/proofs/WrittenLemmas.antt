-- What writes leave: the order of each table, rows that a book can have, and the tables that they don't name.
use Rattle.std.specs.Prelude.{◌≡◌, ℕ, List, [], ◌∷◌, ◌++◌, All, ⊤}
use Rattle.std.specs.List.{AllByRecursion}
use Rattle.std.proofs.Common.{refl, ◌∙◌}
use Rattle.std.proofs.lemmas.List.Elements.{recursion_from_All}
use Rattle.sqlite.specs.Order.{Row}
use Rattle.lot_table.specs.Rows.{put_in, without_key}
use Rattle.lot_rows.specs.Account.{IsAccountRow, account_cells}
use Rattle.lot_rows.specs.Allowed.{IsAllowedRow, allowed_cells}
use Rattle.lot_rows.specs.Commodity.{IsCommodityRow, commodity_cells}
use Rattle.lot_rows.specs.Entry.{IsEntryRow, entry_cells}
use Rattle.lot_rows.specs.Head.{IsHeadRow, head_cells}
use Rattle.lot_rows.specs.Leg.{IsLegRow, leg_cells}
use Rattle.lot_rows.specs.Lot.{IsLotRow, lot_cells}
use Rattle.lot_rows.specs.Opening.{IsOpeningRow, opening_cells}
use Rattle.lot_rows.specs.Plain.{IsPlainRow, plain_cells}
use Rattle.lot_rows.specs.Price.{IsPriceRow, price_cells}
use Rattle.lot_rows.specs.Sale.{IsSaleRow, sale_cells}
use Rattle.lot_rows.specs.Tables.{Tables}
use Rattle.lot_stored.specs.Rows.{lot_key, pair_key}
use Rattle.lot_stored.specs.StandFor.{AreGood, AreOrdered}
use Rattle.lot_stored.proofs.OrderLemmas.{IsRising, all-put_in, all-without_key, rises-put_in, rises-without_key}
use Rattle.lot_write.proofs.AsPutLemmas.{AreFit, Fits, written, written_all}
use Rattle.lot_write.specs.Write.{IsGood, placed_at}
use Rattle.lot_write.specs.declared.write.Write.{Write}
use Rattle.lot_write.specs.declared.write.Write.TheVariants as write

-- ---- rows that a book can have, in their order

-- the rows of a table
abbrev Kept : {X : Type 0} → (X → Row) → ℕ → (X → Type 0) → List X → Type 0
Kept encode width Is rows = All Is rows × IsRising encode width rows

abbrev AreKept : Tables → Type 0
AreKept tables =
    Kept account_cells 1 IsAccountRow tables.account
    × Kept allowed_cells 2 IsAllowedRow tables.allowed
    × Kept commodity_cells 1 IsCommodityRow tables.commodity
    × Kept price_cells 3 IsPriceRow tables.price
    × Kept entry_cells 1 IsEntryRow tables.entry
    × Kept leg_cells 3 IsLegRow tables.leg
    × Kept sale_cells 2 IsSaleRow tables.sale
    × Kept lot_cells 6 IsLotRow tables.lot
    × Kept plain_cells 2 IsPlainRow tables.plain
    × Kept head_cells 2 IsHeadRow tables.head
    × Kept opening_cells 6 IsOpeningRow tables.opening

put : {X : Type 0} (encode : X → Row) (width : ℕ) (Is : X → Type 0) (new : X) (rows : List X) → Is new → Kept encode width Is rows
    → Kept encode width Is (put_in encode width new rows)
put encode width Is new rows is kept = (all-put_in encode width Is new rows is kept.0, rises-put_in encode width new rows kept.1)

deleted : {X : Type 0} (encode : X → Row) (width : ℕ) (Is : X → Type 0) (key : Row) (rows : List X) → Kept encode width Is rows
    → Kept encode width Is (without_key encode width key rows)
deleted encode width Is key rows kept =
    (all-without_key encode width Is key rows kept.0, rises-without_key encode width key rows kept.1)

-- a write changes the rows of one table
kept_written : (one : Write) (t : Tables) → IsGood one → AreKept t → AreKept (written one t)
kept_written (write.Account row) t is k =
    (put account_cells 1 IsAccountRow row t.account is k.0, k.1, k.2, k.3, k.4, k.5, k.6, k.7, k.8, k.9, k.10)
kept_written (write.Allowed row) t is k =
    (k.0, put allowed_cells 2 IsAllowedRow row t.allowed is k.1, k.2, k.3, k.4, k.5, k.6, k.7, k.8, k.9, k.10)
kept_written (write.Commodity row) t is k =
    (k.0, k.1, put commodity_cells 1 IsCommodityRow row t.commodity is k.2, k.3, k.4, k.5, k.6, k.7, k.8, k.9, k.10)
kept_written (write.Price row) t is k =
    (k.0, k.1, k.2, put price_cells 3 IsPriceRow row t.price is k.3, k.4, k.5, k.6, k.7, k.8, k.9, k.10)
kept_written (write.Entry row) t is k =
    (k.0, k.1, k.2, k.3, put entry_cells 1 IsEntryRow row t.entry is k.4, k.5, k.6, k.7, k.8, k.9, k.10)
kept_written (write.Leg row) t is k =
    (k.0, k.1, k.2, k.3, k.4, put leg_cells 3 IsLegRow row t.leg is k.5, k.6, k.7, k.8, k.9, k.10)
kept_written (write.Sale row) t is k =
    (k.0, k.1, k.2, k.3, k.4, k.5, put sale_cells 2 IsSaleRow row t.sale is k.6, k.7, k.8, k.9, k.10)
kept_written (write.Lot row) t is k =
    (k.0, k.1, k.2, k.3, k.4, k.5, k.6, put lot_cells 6 IsLotRow row t.lot is k.7, k.8, k.9, k.10)
kept_written (write.SetLot row) t is k =
    (k.0, k.1, k.2, k.3, k.4, k.5, k.6, put lot_cells 6 IsLotRow row t.lot is k.7, k.8, k.9, k.10)
kept_written (write.NoLot account commodity lot) t is k =
    (k.0, k.1, k.2, k.3, k.4, k.5, k.6, deleted lot_cells 6 IsLotRow (lot_key account commodity lot) t.lot k.7, k.8, k.9, k.10)
kept_written (write.Opening row) t is k =
    (k.0, k.1, k.2, k.3, k.4, k.5, k.6, k.7, k.8, k.9, put opening_cells 6 IsOpeningRow row t.opening is k.10)
kept_written (write.NoOpening account commodity lot) t is k =
    let left = deleted opening_cells 6 IsOpeningRow (lot_key account commodity lot) t.opening k.10 in
    (k.0, k.1, k.2, k.3, k.4, k.5, k.6, k.7, k.8, k.9, left)
kept_written (write.Plain row) t is k =
    (k.0, k.1, k.2, k.3, k.4, k.5, k.6, k.7, put plain_cells 2 IsPlainRow row t.plain is k.8, k.9, k.10)
kept_written (write.SetPlain row) t is k =
    (k.0, k.1, k.2, k.3, k.4, k.5, k.6, k.7, put plain_cells 2 IsPlainRow row t.plain is k.8, k.9, k.10)
kept_written (write.NoPlain account commodity) t is k =
    (k.0, k.1, k.2, k.3, k.4, k.5, k.6, k.7, deleted plain_cells 2 IsPlainRow (pair_key account commodity) t.plain k.8, k.9, k.10)
kept_written (write.Head row) t is k =
    (k.0, k.1, k.2, k.3, k.4, k.5, k.6, k.7, k.8, put head_cells 2 IsHeadRow row t.head is k.9, k.10)
kept_written (write.SetHead row) t is k =
    (k.0, k.1, k.2, k.3, k.4, k.5, k.6, k.7, k.8, put head_cells 2 IsHeadRow row t.head is k.9, k.10)

kept_all : (writes : List Write) (tables : Tables) → AllByRecursion IsGood writes → AreKept tables → AreKept (written_all writes tables)
kept_all [] tables are kept = kept
kept_all (one ∷ more) tables are kept = kept_all more (written one tables) are.1 (kept_written one tables are.0 kept)

-- whatever place of migration they then have
pub kept-written_all : (place : ℕ) (writes : List Write) (tables : Tables) → All IsGood writes → AreGood tables → AreOrdered tables
    → AreGood (placed_at place (written_all writes tables)) × AreOrdered (placed_at place (written_all writes tables))
kept-written_all place writes tables are g up =
    let k : AreKept (written_all writes tables) =
    kept_all writes tables (recursion_from_All IsGood writes are) (
      (g.account, up.account),
      (g.allowed, up.allowed),
      (g.commodity, up.commodity),
      (g.price, up.price),
      (g.entry, up.entry),
      (g.leg, up.leg),
      (g.sale, up.sale),
      (g.lot, up.lot),
      (g.plain, up.plain),
      (g.head, up.head),
      (g.opening, up.opening),
    ) in (
      record {
        account = k.0.0;
        allowed = k.1.0;
        commodity = k.2.0;
        price = k.3.0;
        entry = k.4.0;
        leg = k.5.0;
        sale = k.6.0;
        lot = k.7.0;
        plain = k.8.0;
        head = k.9.0;
        opening = k.10.0;
      },
      record {
        account = k.0.1;
        allowed = k.1.1;
        commodity = k.2.1;
        price = k.3.1;
        entry = k.4.1;
        leg = k.5.1;
        sale = k.6.1;
        lot = k.7.1;
        plain = k.8.1;
        head = k.9.1;
        opening = k.10.1;
      },
    )

-- ---- tables that writes leave

-- what each write leaves alone, all of them do
pub left-written_all : {Y : Type 0} (part : Tables → Y) (writes : List Write) (tables : Tables)
    → AllByRecursion (λ (one : Write). (old : Tables) → part (written one old) ≡ part old) writes
    → part (written_all writes tables) ≡ part tables
left-written_all part [] tables leave = refl
left-written_all part (one ∷ more) tables leave =
    left-written_all part more (written one tables) leave.1 ∙ leave.0 tables

pub written_all-append : (first more : List Write) (tables : Tables)
    → written_all (first ++ more) tables ≡ written_all more (written_all first tables)
written_all-append [] more tables = refl
written_all-append (one ∷ first) more tables = written_all-append first more (written one tables)

abbrev pub IsNoEntry : Write → Type 0
IsNoEntry (write.Entry row) = ⊥
IsNoEntry _ = ⊤

-- ---- writes that fit

pub fit-append : (first more : List Write) (tables : Tables) → AreFit first tables → AreFit more (written_all first tables)
    → AreFit (first ++ more) tables
fit-append [] more tables fit next = next
fit-append (one ∷ first) more tables fit next = (fit.0, fit-append first more (written one tables) fit.1 next)

-- those that fit all tables
pub are_fit : (writes : List Write) (tables : Tables)
    → AllByRecursion (λ (one : Write). (old : Tables) → Fits one old) writes → AreFit writes tables
are_fit [] tables are = tt
are_fit (one ∷ more) tables are = (are.0 tables, are_fit more (written one tables) are.1)
