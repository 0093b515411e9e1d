use Rattle.std.proofs.Common.{Ok, Option, ap, drop, map, subst, sym, take, ◌+◌, ◌++◌, ◌∷◌, [], ◌∙◌, ◌≡◌, List, ℕ}
use Rattle.std.proofs.lemmas.Bool.{true≢false}
use Rattle.std.proofs.lemmas.List.{map-append, take_all}
use Rattle.sqlite.specs.Held.{state}
use Rattle.lot_book.specs.Sale.{SaleParts}
use Rattle.lot_page.specs.Cursor.{Steps}
use Rattle.lot_rows.specs.Sale.{IsSaleRow, sale_cells}
use Rattle.lot_rows.specs.Tables.{Tables}
use Rattle.lot_rows.specs.declared.sale.SaleRow.{SaleRow}
use Rattle.lot_stored.specs.Kept.{numbered}
use Rattle.lot_stored.specs.Rows.{sale_row}
use Rattle.lot_audit.proofs.HasLemmas.{split_at, taken}
use Rattle.lot_audit.proofs.SalesLemmas.{Came, came_all, came_next, came_none, comes_none, comes_not}
use Rattle.lot_audit.proofs.sales.sales_follow.Goals as goal

-- the rows of sales
abbrev rows_of : ℕ → List (ℕ × SaleParts) → List SaleRow
rows_of number sales = map sale_row (numbered number sales)

rows_split : (number : ℕ) (done later : List (ℕ × SaleParts)) (sale : ℕ × SaleParts)
    → rows_of number done ++ sale_row (number, sale) ∷ rows_of number later ≡ rows_of number (done ++ sale ∷ later)
rows_split number done later sale =
    sym (map-append sale_row (numbered number done) (numbered number (sale ∷ later)))
    ∙ ap (map sale_row) (sym (map-append (λ (s : ℕ × SaleParts). (number, s)) done (sale ∷ later)))

pub sales-init : goal.sales-init
sales-init g c = came_none c.args.cursor.now (state g.S.Store c.args.conn.now)

pub returns-in_err-row : goal.returns-in_err-row
returns-in_err-row g c =
    let number = c.args.number in
    let sales = c.args.sales.now in
    record {
      follow = comes_none c.args.cursor.now (state g.S.Store c.args.conn.now) c.sales.cursor (rows_of number (take c.sales.sale-index sales))
          (state g.S.Store c.sales.conn) c.sales.invariant c.next.new.self (state g.S.Store c.next.new.conn) (rows_of number sales)
          c.next.new.self c.in_err-row.field-0.0 c.from_residual.result c.from_residual.ensures.1 c.in_err-row.ensures.steps;
    }

pub returns-then-not-is_row_of : goal.returns-then-not-is_row_of
returns-then-not-is_row_of g c =
    let number = c.args.number in
    let sales = c.args.sales.now in
    let n = c.sales.sale-index in
    let sale = c.sale-item.result in
    record {
      follow = comes_not c.args.cursor.now (state g.S.Store c.args.conn.now) c.sales.cursor (rows_of number (take n sales))
          (state g.S.Store c.sales.conn) c.sales.invariant c.next.new.self (state g.S.Store c.next.new.conn) c.in_ok-row.row
          (sale_row (number, sale)) (rows_of number (drop (n + 1) sales)) (rows_of number sales)
          (rows_split number (take n sales) (drop (n + 1) sales) sale
          ∙ ap (rows_of number) (split_at sales n sale c.sales-test.true c.sale-item.is))
          (λ is. absurd (true≢false (sym (c.is_row_of.ensures.1 is) ∙ c.if-not-is_row_of.true)))
          c.in_ok-row.ensures.steps;
    }

pub sales-preserved : goal.sales-preserved
sales-preserved g c =
    let number = c.args.number in
    let sales = c.args.sales.now in
    let n = c.sales.sale-index in
    let sale = c.sale-item.result in
    let row = sale_row (number, sale) in
    let old = state g.S.Store c.args.conn.now in
    let mid = state g.S.Store c.sales.conn in
    let new = state g.S.Store c.next.new.conn in
    let steps =
    subst (λ (found : Option SaleRow). Steps sale_cells IsSaleRow (λ (tables : Tables). tables.sale) c.sales.cursor c.next.new.self mid new (Ok found))
    (c.is_row_of.ensures.0 c.if-not-is_row_of.false) c.in_ok-row.ensures.steps in
    subst (λ (rows : List SaleRow). Came c.args.cursor.now old c.next.new.self rows new)
    (rows_split number (take n sales) [] sale ∙ ap (rows_of number) (sym (taken sales n sale c.sales-test.true c.sale-item.is)))
    (came_next c.args.cursor.now old c.sales.cursor (rows_of number (take n sales)) mid c.sales.invariant c.next.new.self new row steps)

pub returns : goal.returns
returns g c =
    let number = c.args.number in
    let sales = c.args.sales.now in
    let old = state g.S.Store c.args.conn.now in
    let now = state g.S.Store c.sales.conn in
    record {
      follow = came_all c.args.cursor.now old c.sales.cursor (rows_of number sales) now
          (subst (λ (all : List (ℕ × SaleParts)). Came c.args.cursor.now old c.sales.cursor (rows_of number all) now)
          (take_all c.sales.sale-index sales c.sales-test.false) c.sales.invariant);
    }
