-- The pages of the table `sale`.
use Rattle.std.proofs.Common.{ℕ, not, None, Result, Vec, filter, map, ℤ, ◌+ℤ◌, pos, List, [], ◌∷◌, codes, refl, ap, ◌∙◌, arith}
use Rattle.std.specs.declared.alloc.Global.{Global}
use Rattle.sqlite.specs.Listing.{understood}
use Rattle.sqlite.specs.Order.{Row}
use Rattle.sqlite.specs.State.{State}
use Rattle.sqlite.specs.Tree.{Trees}
use Rattle.sqlite.specs.declared.types.Value.TheVariants.{Int}
use Rattle.sqlite_sql.specs.declared.ops.CompareOp.TheVariants.{Ge, Gt}
use Rattle.sqlite_tied.specs.Compute.{everything}
use Rattle.sqlite_value.specs.Keys.{rising}
use Rattle.lot_page.specs.Page.{Pages, PagesOf, page_rows, is_from, is_past, level}
use Rattle.lot_page.specs.Rise.{sales_rise}
use Rattle.lot_page.proofs.LevelLemmas.{Mounts, first_column, mounts, terms, terms_level, terms_reach}
use Rattle.lot_page.proofs.NextLemmas.{not_negative, past_number}
use Rattle.lot_page.proofs.PageLemmas.{Asks}
use Rattle.lot_page.proofs.WalkLemmas.{from_all, from_past, pages_so}
use Rattle.lot_rows.proofs.SaleLemmas.{names, order, shows}
use Rattle.lot_rows.specs.Sale.{sale_cells}
use Rattle.lot_rows.specs.Tables.{Tables, layout, sale_table}
use Rattle.lot_rows.specs.declared.sale.SaleRow.{SaleRow}
use Rattle.lot_table.specs.Book.{Holds}
use Rattle.lot_table.specs.declared.fault.Fault.{Fault}

-- ---- from a number on

abbrev pub from_text : List ℕ
from_text = codes "SELECT entry, posting, day, account, commodity, units, kind, amount, currency FROM sale WHERE entry >= ?2 ORDER BY entry, posting LIMIT ?1"

abbrev pub from_key : ℤ → Row
from_key k = Int k ∷ []

pub asks_from : Asks sale_table from_key (λ k. is_from (Int k)) page_rows (terms Ge 0 0) shows order names from_text
unfolding understood everything
asks_from = record {
  means = refl;
  unlisted = refl;
  bare = (refl, refl);
  whole = λ _. (omega arith, refl);
  selects = (_, refl, refl);
  held = λ _ _ holds. holds.held.1.1.1.1.1.1.1.0;
  present = λ _. (refl, (refl, tt));
  picks = λ k v x. terms_reach (Int (pos page_rows)) v (sale_cells x) (from_key k) 0 0 (refl, tt) (refl, tt);
  blind = λ _ _ _ _. refl;
  shown = λ _ _. refl;
  sorts = λ _ _ _ _. refl;
  typed = λ _. refl;
}

-- ---- by posting

abbrev pub posting_text : List ℕ
posting_text = codes "SELECT entry, posting, day, account, commodity, units, kind, amount, currency FROM sale WHERE entry = ?2 AND posting > ?3 ORDER BY entry, posting LIMIT ?1"

abbrev pub posting_key : SaleRow → Row
posting_key k = Int (pos k.entry) ∷ Int (pos k.posting) ∷ []

pub asks_posting : Asks sale_table posting_key (λ k. level 1 0 (sale_cells k)) page_rows (terms Gt 1 0) shows order names posting_text
unfolding understood everything
asks_posting = record {
  means = refl;
  unlisted = refl;
  bare = (refl, refl);
  whole = λ _. (omega arith, refl);
  selects = (_, refl, refl);
  held = λ _ _ holds. holds.held.1.1.1.1.1.1.1.0;
  present = λ _. (refl, (refl, tt));
  picks = λ k v x. terms_level (Int (pos page_rows)) v (sale_cells x) (posting_key k) 1 0 (refl, (refl, tt)) (refl, (refl, tt));
  blind = λ _ _ _ _. refl;
  shown = λ _ _. refl;
  sorts = λ _ _ _ _. refl;
  typed = λ _. refl;
}

-- ---- all rows, and those past the first column of one

pub all_sales : (old new : State) (result : Result (Vec Row Global) Fault) → PagesOf sale_cells (λ b. b.sale) page_rows (filter (is_from (Int (pos 0)))) old new result → Pages sale_cells (λ b. b.sale) 2 page_rows None old new result
all_sales = pages_so sale_cells (λ b. b.sale) page_rows (omega arith) (filter (is_from (Int (pos 0)))) (λ rows. rows) (from_all sale_cells (λ b. b.sale) page_rows (omega arith) (Int (pos 0)) (λ x. ap not (not_negative x.entry)))

pub past_first : (row : SaleRow) (old new : State) (result : Result (Vec Row Global) Fault) → PagesOf sale_cells (λ b. b.sale) page_rows (filter (is_from (Int (pos row.entry +ℤ pos 1)))) old new result → PagesOf sale_cells (λ b. b.sale) page_rows (filter (is_past 1 (sale_cells row))) old new result
past_first row =
    pages_so sale_cells (λ b. b.sale) page_rows (omega arith) (filter (is_from (Int (pos row.entry +ℤ pos 1)))) (filter (is_past 1 (sale_cells row)))
    (from_past sale_cells (λ b. b.sale) page_rows (omega arith) (sale_cells row) (Int (pos row.entry +ℤ pos 1)) (λ x. past_number (pos x.entry) (pos row.entry) ∙ first_column (sale_cells row) (sale_cells x)))

-- ---- the order by fewer columns

pub mounts_1 : (trees : Trees) (tables : Tables) → Holds layout trees tables → Mounts 1 (map sale_cells tables.sale)
mounts_1 trees tables holds = mounts 1 (rising 1 []) (map sale_cells tables.sale) (sales_rise trees tables holds)
