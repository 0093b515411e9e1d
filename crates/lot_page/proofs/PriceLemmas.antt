-- The pages of the table `price`.
use Rattle.std.proofs.Common.{ℕ, not, None, Result, Vec, filter, map, pos, List, [], ◌∷◌, ◌++◌, ◌&&◌, codes, refl, ap, ◌∙◌, arith, is_eq}
use Rattle.std.specs.declared.alloc.Global.{Global}
use Rattle.sqlite.specs.Listing.{understood}
use Rattle.sqlite.specs.Order.{Row}
use Rattle.sqlite.specs.State.{State}
use Rattle.sqlite.specs.Tree.{Trees}
use Rattle.sqlite.specs.declared.types.Value.TheVariants.{Int, Text}
use Rattle.sqlite_sql.specs.declared.ops.CompareOp.TheVariants.{Ge, Gt}
use Rattle.sqlite_tied.specs.Compute.{everything}
use Rattle.sqlite_value.specs.Keys.{rising}
use Rattle.sqlite_value.specs.Order.{value_cmp}
use Rattle.lot_page.specs.Page.{Pages, PagesOf, page_rows, is_from, is_past, level}
use Rattle.lot_page.specs.Rise.{prices_rise}
use Rattle.lot_page.proofs.LevelLemmas.{Mounts, first_column, mounts, terms, terms_level, terms_reach}
use Rattle.lot_page.proofs.NextLemmas.{not_shorter, past_text}
use Rattle.lot_page.proofs.PageLemmas.{Asks}
use Rattle.lot_page.proofs.WalkLemmas.{from_all, from_past, pages_so}
use Rattle.lot_rows.proofs.PriceLemmas.{names, order, shows}
use Rattle.lot_rows.specs.Price.{price_cells}
use Rattle.lot_rows.specs.Tables.{Tables, layout, price_table}
use Rattle.lot_rows.specs.declared.price.PriceRow.{PriceRow}
use Rattle.lot_table.specs.Book.{Holds}
use Rattle.lot_table.specs.declared.fault.Fault.{Fault}

-- ---- from a text on

abbrev pub from_text : List ℕ
from_text = codes "SELECT base, quote, day, rate FROM price WHERE base >= ?2 ORDER BY base, quote, day LIMIT ?1"

abbrev pub from_key : List ℕ → Row
from_key k = Text k ∷ []

pub asks_from : Asks price_table from_key (λ k. is_from (Text k)) page_rows (terms Ge 0 0) shows order names from_text
unfolding understood everything
asks_from = record {
  means = refl;
  unlisted = refl;
  bare = (refl, refl);
  whole = λ _. (omega arith, refl);
  selects = (_, refl, refl);
  held = λ _ _ holds. holds.held.1.1.1.1.0;
  present = λ _. (refl, (refl, (refl, tt)));
  picks = λ k v x. terms_reach (Int (pos page_rows)) v (price_cells x) (from_key k) 0 0 (refl, tt) (refl, tt);
  blind = λ _ _ _ _. refl;
  shown = λ _ _. refl;
  sorts = λ _ _ _ _. refl;
  typed = λ _. refl;
}

-- ---- by quote

abbrev pub quote_text : List ℕ
quote_text = codes "SELECT base, quote, day, rate FROM price WHERE base = ?2 AND quote >= ?3 ORDER BY base, quote, day LIMIT ?1"

abbrev pub quote_key : PriceRow → Row
quote_key k = Text k.base ∷ Text (k.quote ++ 0 ∷ []) ∷ []

pub asks_quote : Asks price_table quote_key (λ k. level 1 0 (price_cells k)) page_rows (terms Ge 1 0) shows order names quote_text
unfolding understood everything
asks_quote = record {
  means = refl;
  unlisted = refl;
  bare = (refl, refl);
  whole = λ _. (omega arith, refl);
  selects = (_, refl, refl);
  held = λ _ _ holds. holds.held.1.1.1.1.0;
  present = λ _. (refl, (refl, (refl, tt)));
  picks = λ k v x. terms_reach (Int (pos page_rows)) v (price_cells x) (quote_key k) 1 0 (refl, (refl, tt)) (refl, (refl, tt)) ∙ ap (λ b. (is_eq (value_cmp (Text x.base) (Text k.base)) && b)) (past_text x.quote k.quote);
  blind = λ _ _ _ _. refl;
  shown = λ _ _. refl;
  sorts = λ _ _ _ _. refl;
  typed = λ _. refl;
}

-- ---- by day

abbrev pub day_text : List ℕ
day_text = codes "SELECT base, quote, day, rate FROM price WHERE base = ?2 AND quote = ?3 AND day > ?4 ORDER BY base, quote, day LIMIT ?1"

abbrev pub day_key : PriceRow → Row
day_key k = Text k.base ∷ Text k.quote ∷ Int k.day ∷ []

pub asks_day : Asks price_table day_key (λ k. level 2 0 (price_cells k)) page_rows (terms Gt 2 0) shows order names day_text
unfolding understood everything
asks_day = record {
  means = refl;
  unlisted = refl;
  bare = (refl, refl);
  whole = λ _. (omega arith, refl);
  selects = (_, refl, refl);
  held = λ _ _ holds. holds.held.1.1.1.1.0;
  present = λ _. (refl, (refl, (refl, tt)));
  picks = λ k v x. terms_level (Int (pos page_rows)) v (price_cells x) (day_key k) 2 0 (refl, (refl, (refl, tt))) (refl, (refl, (refl, tt)));
  blind = λ _ _ _ _. refl;
  shown = λ _ _. refl;
  sorts = λ _ _ _ _. refl;
  typed = λ _. refl;
}

-- ---- all rows, and those past the first column of one

pub all_prices : (old new : State) (result : Result (Vec Row Global) Fault) → PagesOf price_cells (λ b. b.price) page_rows (filter (is_from (Text []))) old new result → Pages price_cells (λ b. b.price) 3 page_rows None old new result
all_prices = pages_so price_cells (λ b. b.price) page_rows (omega arith) (filter (is_from (Text []))) (λ rows. rows) (from_all price_cells (λ b. b.price) page_rows (omega arith) (Text []) (λ x. ap not (not_shorter x.base)))

pub past_first : (row : PriceRow) (old new : State) (result : Result (Vec Row Global) Fault) → PagesOf price_cells (λ b. b.price) page_rows (filter (is_from (Text (row.base ++ 0 ∷ [])))) old new result → PagesOf price_cells (λ b. b.price) page_rows (filter (is_past 1 (price_cells row))) old new result
past_first row =
    pages_so price_cells (λ b. b.price) page_rows (omega arith) (filter (is_from (Text (row.base ++ 0 ∷ [])))) (filter (is_past 1 (price_cells row)))
    (from_past price_cells (λ b. b.price) page_rows (omega arith) (price_cells row) (Text (row.base ++ 0 ∷ [])) (λ x. past_text x.base row.base ∙ first_column (price_cells row) (price_cells x)))

-- ---- the order by fewer columns

pub mounts_1 : (trees : Trees) (tables : Tables) → Holds layout trees tables → Mounts 1 (map price_cells tables.price)
mounts_1 trees tables holds = mounts 1 (rising 2 []) (map price_cells tables.price) (prices_rise trees tables holds)

pub mounts_2 : (trees : Trees) (tables : Tables) → Holds layout trees tables → Mounts 2 (map price_cells tables.price)
mounts_2 trees tables holds = mounts 2 (rising 1 []) (map price_cells tables.price) (prices_rise trees tables holds)
