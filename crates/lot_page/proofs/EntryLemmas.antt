-- The pages of the table `entry`.
use Rattle.std.proofs.Common.{ℕ, not, None, Result, Vec, filter, ℤ, ◌+ℤ◌, pos, List, [], ◌∷◌, codes, refl, ap, ◌∙◌, arith}
use Rattle.std.specs.declared.alloc.Global.{Global}
use Rattle.sqlite.specs.Listing.{understood}
use Rattle.sqlite.specs.Order.{Row}
use Rattle.sqlite.specs.State.{State}
use Rattle.sqlite.specs.declared.types.Value.TheVariants.{Int}
use Rattle.sqlite_sql.specs.declared.ops.CompareOp.TheVariants.{Ge}
use Rattle.sqlite_tied.specs.Compute.{everything}
use Rattle.lot_page.specs.Page.{Pages, PagesOf, entry_page_rows, is_from, is_past}
use Rattle.lot_page.proofs.LevelLemmas.{first_column, terms, terms_reach}
use Rattle.lot_page.proofs.NextLemmas.{least, not_below_least, past_number}
use Rattle.lot_page.proofs.PageLemmas.{Asks}
use Rattle.lot_page.proofs.WalkLemmas.{from_all, from_past, pages_so}
use Rattle.lot_rows.proofs.EntryLemmas.{names, order, shows}
use Rattle.lot_rows.specs.Entry.{entry_cells}
use Rattle.lot_rows.specs.Tables.{entry_table}
use Rattle.lot_rows.specs.declared.entry.EntryRow.{EntryRow}
use Rattle.lot_table.specs.declared.fault.Fault.{Fault}

-- ---- from a number on

abbrev pub from_text : List ℕ
from_text = codes "SELECT number, source, name, body FROM entry WHERE number >= ?2 ORDER BY number LIMIT ?1"

abbrev pub from_key : ℤ → Row
from_key k = Int k ∷ []

pub asks_from : Asks entry_table from_key (λ k. is_from (Int k)) entry_page_rows (terms Ge 0 0) shows order names from_text
unfolding understood everything
asks_from = record {
  means = refl;
  unlisted = refl;
  bare = (refl, refl);
  whole = λ _. (omega arith, refl);
  selects = (_, refl, refl);
  held = λ _ _ holds. holds.held.1.1.1.1.1.0;
  present = λ _. (refl, tt);
  picks = λ k v x. terms_reach (Int (pos entry_page_rows)) v (entry_cells x) (from_key k) 0 0 (refl, tt) (refl, tt);
  blind = λ _ _ _ _. refl;
  shown = λ _ _. refl;
  sorts = λ _ _ _ _. refl;
  typed = λ _. refl;
}

-- ---- all rows, and those past the first column of one

pub all_entries : (old new : State) (result : Result (Vec Row Global) Fault) → PagesOf entry_cells (λ b. b.entry) entry_page_rows (filter (is_from (Int least))) old new result → Pages entry_cells (λ b. b.entry) 1 entry_page_rows None old new result
all_entries = pages_so entry_cells (λ b. b.entry) entry_page_rows (omega arith) (filter (is_from (Int least))) (λ rows. rows) (from_all entry_cells (λ b. b.entry) entry_page_rows (omega arith) (Int least) (λ x. ap not (not_below_least x.number)))

pub past_first : (row : EntryRow) (old new : State) (result : Result (Vec Row Global) Fault) → PagesOf entry_cells (λ b. b.entry) entry_page_rows (filter (is_from (Int (pos row.number +ℤ pos 1)))) old new result → PagesOf entry_cells (λ b. b.entry) entry_page_rows (filter (is_past 1 (entry_cells row))) old new result
past_first row =
    pages_so entry_cells (λ b. b.entry) entry_page_rows (omega arith) (filter (is_from (Int (pos row.number +ℤ pos 1)))) (filter (is_past 1 (entry_cells row)))
    (from_past entry_cells (λ b. b.entry) entry_page_rows (omega arith) (entry_cells row) (Int (pos row.number +ℤ pos 1)) (λ x. past_number (pos x.number) (pos row.number) ∙ first_column (entry_cells row) (entry_cells x)))
