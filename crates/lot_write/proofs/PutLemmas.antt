-- Rows that are put one after another.
use Rattle.std.specs.Prelude.{◌≡◌, ℕ, List, [], ◌∷◌, ◌++◌, map, ℤ}
use Rattle.std.specs.List.{AllByRecursion}
use Rattle.std.specs.declared.cmp.Ordering.TheVariants.{Less}
use Rattle.std.proofs.Common.{refl, sym, ap, ◌∙◌, append_assoc}
use Rattle.std.proofs.lemmas.List.{append-nil}
use Rattle.sqlite.specs.Order.{Row}
use Rattle.sqlite_keyed.proofs.ListLemmas.{all-append, all_weaker}
use Rattle.lot_book.specs.Sale.{SaleParts}
use Rattle.lot_book.specs.declared.change.Pair.{Pair}
use Rattle.lot_book.specs.declared.leg.Leg.{Leg}
use Rattle.lot_rows.specs.Leg.{leg_cells}
use Rattle.lot_rows.specs.Sale.{sale_cells}
use Rattle.lot_rows.specs.Tables.{Tables}
use Rattle.lot_rows.specs.declared.head.HeadRow.{HeadRow}
use Rattle.lot_table.specs.Rows.{put_in}
use Rattle.lot_stored.specs.Rows.{head_row, leg_row, sale_row}
use Rattle.lot_stored.proofs.LookupLemmas.{put_in-last}
use Rattle.lot_stored.proofs.OrderLemmas.{IsRising, row_order}
use Rattle.lot_write.proofs.AsPutLemmas.{written, written_all}
use Rattle.lot_write.specs.Writes.{legs_written, sales_written}
use Rattle.lot_write.specs.declared.write.Write.TheVariants as write

-- rows once others are put, one after another
abbrev pub put_each : {X : Type 0} → (X → Row) → ℕ → List X → List X → List X
put_each encode width [] rows = rows
put_each encode width (new ∷ news) rows = put_each encode width news (put_in encode width new rows)

-- those above all that are there come behind them
pub put_each-last : {X : Type 0} (encode : X → Row) (width : ℕ) (news rows : List X)
    → AllByRecursion (λ (x : X). AllByRecursion (λ (new : X). row_order encode width x new ≡ Less) news) rows
    → IsRising encode width news
    → put_each encode width news rows ≡ rows ++ news
put_each-last encode width [] rows below up = sym (append-nil rows)
put_each-last {X} encode width (new ∷ news) rows below up =
    let Below : List X → X → Type 0 = λ (above : List X) (x : X). AllByRecursion (λ (y : X). row_order encode width x y ≡ Less) above in
    let first : AllByRecursion (λ (x : X). row_order encode width x new ≡ Less) rows =
    all_weaker (Below (new ∷ news)) (λ x. row_order encode width x new ≡ Less) (λ x both. both.0) rows below in
    let others : AllByRecursion (Below news) rows =
    all_weaker (Below (new ∷ news)) (Below news) (λ x both. both.1) rows below in
    ap (put_each encode width news) (put_in-last encode width new rows first)
    ∙ put_each-last encode width news (rows ++ new ∷ []) (all-append (Below news) rows (new ∷ []) others (up.0, tt)) up.1
    ∙ append_assoc rows (new ∷ []) news

-- ---- the parts of a transaction

pub legs_put : (legs : List Leg) (tables : Tables)
    → (written_all (legs_written legs) tables).leg ≡ put_each leg_cells 3 (map leg_row legs) tables.leg
legs_put [] tables = refl
legs_put (leg ∷ legs) tables = legs_put legs (written (write.Leg (leg_row leg)) tables)

pub sales_put : (number : ℕ) (sales : List (ℕ × SaleParts)) (tables : Tables)
    → (written_all (sales_written number sales) tables).sale
    ≡ put_each sale_cells 2 (map (λ (sale : ℕ × SaleParts). sale_row (number, sale)) sales) tables.sale
sales_put number [] tables = refl
sales_put number (sale ∷ sales) tables = sales_put number sales (written (write.Sale (sale_row (number, sale))) tables)

-- the row of a pair and its day
abbrev pub head_of : Pair × ℤ → HeadRow
head_of head = head_row head.0.account head.0.commodity head.1
