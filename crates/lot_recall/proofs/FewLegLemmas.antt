-- The statement by which the first legs of the entries from a number on are asked for.
use Rattle.std.specs.Prelude.{ℕ, ℤ, pos, List, [], ◌∷◌, codes}
use Rattle.std.proofs.Common.{refl, arith}
use Rattle.sqlite.specs.Listing.{understood}
use Rattle.sqlite.specs.Order.{Row}
use Rattle.sqlite.specs.State.{State}
use Rattle.sqlite.specs.declared.types.Value.TheVariants.{Int}
use Rattle.sqlite_sql.specs.declared.ops.CompareOp.TheVariants.{Ge}
use Rattle.sqlite_tied.specs.Compute.{everything}
use Rattle.lot_page.specs.Page.{is_from}
use Rattle.lot_page.proofs.LevelLemmas.{terms, terms_reach}
use Rattle.lot_page.proofs.PageLemmas.{Asks, TakesBy, answers}
use Rattle.lot_rows.proofs.LegLemmas.{names, order, shows}
use Rattle.lot_rows.specs.Leg.{leg_cells}
use Rattle.lot_rows.specs.Tables.{leg_table}
use Rattle.lot_recall.specs.Recall.{few_legs}

abbrev pub from_text : List ℕ
from_text = codes "SELECT entry, posting, place, account, commodity, units, cost_number, cost_currency, cost_day, cost_label FROM leg WHERE entry >= ?2 ORDER BY entry, posting, place LIMIT ?1"

abbrev pub from_key : ℤ → Row
from_key k = Int k ∷ []

pub asks_legs : Asks leg_table from_key (λ k. is_from (Int k)) few_legs (terms Ge 0 0) shows order names from_text
unfolding understood everything
asks_legs = record {
  means = refl;
  unlisted = refl;
  bare = (refl, refl);
  whole = λ _. (omega arith, refl);
  selects = (_, refl, refl);
  held = λ _ _ holds. holds.held.1.1.1.1.1.1.0;
  present = λ _. (refl, (refl, (refl, tt)));
  picks = λ k v x. terms_reach (Int (pos few_legs)) v (leg_cells x) (from_key k) 0 0 (refl, tt) (refl, tt);
  blind = λ _ _ _ _. refl;
  shown = λ _ _. refl;
  sorts = λ _ _ _ _. refl;
  typed = λ _. refl;
}

pub legs_taken : (old new : State) (k : ℤ) → TakesBy leg_table from_key (λ k. is_from (Int k)) few_legs from_text old new k
legs_taken = answers leg_table from_key (λ k. is_from (Int k)) few_legs (terms Ge 0 0) shows order names from_text asks_legs
