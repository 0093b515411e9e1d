-- The pages of the table `leg`.
use Rattle.std.proofs.Common.{ℕ, Bool, not, None, Result, Vec, filter, map, ℤ, ◌+ℤ◌, pos, List, [], ◌∷◌, codes, refl, ap, ◌∙◌, arith}
use Rattle.std.specs.declared.alloc.Global.{Global}
use Rattle.sqlite.specs.Listing.{understood}
use Rattle.sqlite.specs.Order.{Row}
use Rattle.sqlite.specs.State.{State}
use Rattle.sqlite.specs.Term.{Term}
use Rattle.sqlite.specs.Tree.{Trees}
use Rattle.sqlite.specs.declared.types.Value.TheVariants.{Int}
use Rattle.sqlite_sql.specs.declared.ops.CompareOp.TheVariants.{Ge, Gt}
use Rattle.sqlite_tied.specs.Compute.{everything}
use Rattle.sqlite_value.specs.Keys.{rising}
use Rattle.lot_page.specs.Page.{Pages, PagesOf, page_rows, is_from, is_past, level}
use Rattle.lot_page.specs.Rise.{legs_rise}
use Rattle.lot_page.proofs.LevelLemmas.{Mounts, first_column, mounts, terms, terms_level, terms_reach}
use Rattle.lot_page.proofs.NextLemmas.{least, not_below_least, past_number}
use Rattle.lot_page.proofs.PageLemmas.{Asks, TakesBy, answers}
use Rattle.lot_page.proofs.WalkLemmas.{from_all, from_past, pages_so}
use Rattle.lot_rows.proofs.LegLemmas.{names, order, shows}
use Rattle.lot_rows.specs.Leg.{leg_cells}
use Rattle.lot_rows.specs.Tables.{Tables, layout, leg_table}
use Rattle.lot_rows.specs.declared.leg.LegRow.{LegRow}
use Rattle.lot_table.specs.Book.{Holds}
use Rattle.lot_table.specs.declared.fault.Fault.{Fault}

-- a text that asks for legs in the order of their key
abbrev AsksLegs : {K : Type 0} → (K → Row) → (K → Row → Bool) → List Term → List ℕ → Type 0
AsksLegs key passes tests = Asks leg_table key passes page_rows tests shows order names

-- ---- from a number on

abbrev from_text : List ℕ
from_text = codes "SELECT entry, posting, place, account, commodity, units, cost_number, cost_currency, cost_day, cost_label FROM leg WHERE entry >= ?2 ORDER BY entry, posting, place LIMIT ?1"

abbrev from_key : ℤ → Row
from_key k = Int k ∷ []

pub asks_from : AsksLegs from_key (λ k. is_from (Int k)) (terms Ge 0 0) from_text
unfolding understood everything
asks_from = record {
  means = refl;
  unlisted = refl;
  bare = (refl, refl);
  whole = λ _. (omega arith, refl);
  selects = (_, refl, refl);
  held = λ _ _ holds. holds.held.1.1.1.1.1.1.0;
  present = λ _. (refl, (refl, (refl, tt)));
  picks = λ k v x.
      terms_reach (Int (pos page_rows)) v (leg_cells x) (from_key k) 0 0 (refl, tt) (refl, tt);
  blind = λ _ _ _ _. refl;
  shown = λ _ _. refl;
  sorts = λ _ _ _ _. refl;
  typed = λ _. refl;
}

pub from_takes : (old new : State) (k : ℤ)
    → TakesBy leg_table from_key (λ k. is_from (Int k)) page_rows from_text old new k
from_takes =
    answers leg_table from_key (λ k. is_from (Int k)) page_rows (terms Ge 0 0) shows order names
    from_text asks_from

-- ---- by posting

abbrev posting_text : List ℕ
posting_text = codes "SELECT entry, posting, place, account, commodity, units, cost_number, cost_currency, cost_day, cost_label FROM leg WHERE entry = ?2 AND posting > ?3 ORDER BY entry, posting, place LIMIT ?1"

abbrev posting_key : LegRow → Row
posting_key k = Int (pos k.entry) ∷ Int (pos k.posting) ∷ []

pub asks_posting : AsksLegs posting_key (λ k. level 1 0 (leg_cells k)) (terms Gt 1 0) posting_text
unfolding understood everything
asks_posting = record {
  means = refl;
  unlisted = refl;
  bare = (refl, refl);
  whole = λ _. (omega arith, refl);
  selects = (_, refl, refl);
  held = asks_from.held;
  present = asks_from.present;
  picks = λ k v x.
      terms_level (Int (pos page_rows)) v (leg_cells x) (posting_key k) 1 0 (refl, (refl, tt))
      (refl, (refl, tt));
  blind = λ _ _ _ _. refl;
  shown = asks_from.shown;
  sorts = λ _ _ _ _. refl;
  typed = λ _. refl;
}

pub posting_takes : (old new : State) (k : LegRow)
    → TakesBy leg_table posting_key (λ k. level 1 0 (leg_cells k)) page_rows posting_text old new k
posting_takes =
    answers leg_table posting_key (λ k. level 1 0 (leg_cells k)) page_rows (terms Gt 1 0) shows
    order names posting_text asks_posting

-- ---- by place

abbrev place_text : List ℕ
place_text = codes "SELECT entry, posting, place, account, commodity, units, cost_number, cost_currency, cost_day, cost_label FROM leg WHERE entry = ?2 AND posting = ?3 AND place > ?4 ORDER BY entry, posting, place LIMIT ?1"

abbrev place_key : LegRow → Row
place_key k = Int (pos k.entry) ∷ Int (pos k.posting) ∷ Int (pos k.place) ∷ []

pub asks_place : AsksLegs place_key (λ k. level 2 0 (leg_cells k)) (terms Gt 2 0) place_text
unfolding understood everything
asks_place = record {
  means = refl;
  unlisted = refl;
  bare = (refl, refl);
  whole = λ _. (omega arith, refl);
  selects = (_, refl, refl);
  held = asks_from.held;
  present = asks_from.present;
  picks = λ k v x.
      terms_level (Int (pos page_rows)) v (leg_cells x) (place_key k) 2 0
      (refl, (refl, (refl, tt))) (refl, (refl, (refl, tt)));
  blind = λ _ _ _ _. refl;
  shown = asks_from.shown;
  sorts = λ _ _ _ _. refl;
  typed = λ _. refl;
}

pub place_takes : (old new : State) (k : LegRow)
    → TakesBy leg_table place_key (λ k. level 2 0 (leg_cells k)) page_rows place_text old new k
place_takes =
    answers leg_table place_key (λ k. level 2 0 (leg_cells k)) page_rows (terms Gt 2 0) shows order
    names place_text asks_place

-- ---- all rows, and those past the first column of one

pub all_legs : (old new : State) (result : Result (Vec Row Global) Fault)
    → PagesOf leg_cells (λ b. b.leg) page_rows (filter (is_from (Int least))) old new result
    → Pages leg_cells (λ b. b.leg) 3 page_rows None old new result
all_legs =
    pages_so leg_cells (λ b. b.leg) page_rows (omega arith) (filter (is_from (Int least)))
    (λ rows. rows)
    (from_all leg_cells (λ b. b.leg) page_rows (omega arith) (Int least)
    (λ x. ap not (not_below_least x.entry)))

pub past_first : (row : LegRow) (old new : State) (result : Result (Vec Row Global) Fault)
    → PagesOf leg_cells (λ b. b.leg) page_rows (filter (is_from (Int (pos row.entry +ℤ pos 1))))
    old new result
    → PagesOf leg_cells (λ b. b.leg) page_rows (filter (is_past 1 (leg_cells row))) old new result
past_first row =
    let next = Int (pos row.entry +ℤ pos 1) in
    pages_so leg_cells (λ b. b.leg) page_rows (omega arith) (filter (is_from next))
    (filter (is_past 1 (leg_cells row)))
    (from_past leg_cells (λ b. b.leg) page_rows (omega arith) (leg_cells row) next
    (λ x. past_number (pos x.entry) (pos row.entry) ∙ first_column (leg_cells row) (leg_cells x)))

-- ---- the order by fewer columns

pub mounts_1 : (trees : Trees) (tables : Tables) → Holds layout trees tables
    → Mounts 1 (map leg_cells tables.leg)
mounts_1 trees tables holds =
    mounts 1 (rising 2 []) (map leg_cells tables.leg) (legs_rise trees tables holds)

pub mounts_2 : (trees : Trees) (tables : Tables) → Holds layout trees tables
    → Mounts 2 (map leg_cells tables.leg)
mounts_2 trees tables holds =
    mounts 2 (rising 1 []) (map leg_cells tables.leg) (legs_rise trees tables holds)
