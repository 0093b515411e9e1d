-- The statements on the table `price`.
use Rattle.std.proofs.Common.{Result, ◌≡◌, ℕ, pos, List, [], ◌∷◌, codes, refl, arith}
use Rattle.sqlite.specs.Collation.TheVariants.{Binary}
use Rattle.sqlite.specs.Term.{Term, col, lit}
use Rattle.sqlite_value.specs.Keys.{ascending}
use Rattle.sqlite_value.specs.declared.keys.Key.{Key}
use Rattle.sqlite.specs.Listing.{understood}
use Rattle.sqlite.specs.State.{State}
use Rattle.sqlite.specs.declared.types.Value.TheVariants.{Null}
use Rattle.sqlite_tied.specs.Compute.{everything}
use Rattle.lot_table.proofs.WriteLemmas.{cast_int}
use Rattle.lot_rows.specs.Price.{price_cells}
use Rattle.lot_rows.specs.Tables.{price_table, shapes, layout}
use Rattle.lot_rows.specs.declared.price.PriceRow.{PriceRow}
use Rattle.lot_table.specs.Call.{Puts, Runs}
use Rattle.lot_table.specs.declared.fault.Fault.{Fault}
use Rattle.lot_table.proofs.ShapeLemmas.{free}
use Rattle.lot_table.proofs.StatementLemmas.{IsPut, IsTable, puts}
use Rattle.sqlite_rules.proofs.ListLemmas.{has_got}

pub same_row : (x y : PriceRow) → price_cells x ≡ price_cells y → x ≡ y
same_row x y same =
    let whole : ◌≡◌ {A = PriceRow} (record { base = x.base; quote = x.quote; day = x.day; rate = x.rate }) (record { base = y.base; quote = y.quote; day = y.day; rate = y.rate }) = cc in
    whole

-- ---- put

abbrev put_text : List ℕ
put_text = codes "INSERT OR REPLACE INTO price (base, quote, day, rate) VALUES (?1, ?2, ?3, ?4)"

abbrev put_terms : List Term
put_terms = lit Null ∷ col 0 0 ∷ col 0 1 ∷ col 0 2 ∷ col 0 3 ∷ []

abbrev pub is_table : IsTable layout price_table
is_table = record {
  aligned = λ _. refl;
  held = λ _ _ h. h.1.1.1.1.0;
  is_set = λ _ _. refl;
  present = λ _. (refl, (refl, (refl, tt)));
  place = 4;
  placed = refl;
  free = free shapes price_table.table (has_got layout.schema.tables 4 price_table.table refl) refl;
  uncounted = refl;
  mends = λ _. refl;
  stored = λ x. (refl, (refl, (cast_int x.day, (cast_int (pos x.rate), tt))));
  judged = λ _ _. (refl, refl, refl, refl);
}

put_is : (x : PriceRow) → IsPut layout price_table is_table x put_text
unfolding understood everything
put_is x = record { count = 5; terms = put_terms; means = refl; bare = (refl, refl); whole = (omega arith, refl); given = refl; typed = refl }

pub puts_row : (old new : State) (x : PriceRow) {A : Type 0} (result : Result A Fault) → Runs put_text (price_cells x) old new result → Puts layout price_table x old new result
puts_row old new x = puts layout price_table is_table old new put_text x (λ _ _ _. refl) (put_is x)

-- ---- what a query shows, and its order

abbrev pub shows : List Term
shows = col 1 1 ∷ col 1 2 ∷ col 1 3 ∷ col 1 4 ∷ []

abbrev pub order : List (Term × Key)
order = (col 1 1, ascending Binary) ∷ (col 1 2, ascending Binary) ∷ (col 1 3, ascending Binary) ∷ []

abbrev pub names : List (List ℕ)
names = codes "base" ∷ codes "quote" ∷ codes "day" ∷ codes "rate" ∷ []
