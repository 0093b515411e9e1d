-- The statements on the table `sale`.
use Rattle.std.proofs.Common.{Result, true, ◌≡◌, ℕ, pos, None, List, [], ◌∷◌, codes, refl, arith}
use Rattle.sqlite.specs.Collation.TheVariants.{Binary}
use Rattle.sqlite.specs.Term.{Term, col, lit}
use Rattle.sqlite_value.specs.Keys.{ascending}
use Rattle.sqlite_value.specs.declared.keys.Key.{Key}
use Rattle.sqlite.specs.Listing.{understood}
use Rattle.sqlite.specs.State.{State}
use Rattle.sqlite.specs.declared.types.Value.TheVariants.{Null}
use Rattle.sqlite_tied.specs.Compute.{everything}
use Rattle.lot_table.proofs.WriteLemmas.{cast_int}
use Rattle.lot_rows.specs.Sale.{sale_cells}
use Rattle.lot_rows.specs.Tables.{sale_table, shapes, layout}
use Rattle.lot_rows.specs.declared.sale.SaleRow.{SaleRow}
use Rattle.std.proofs.Common.{Option, Some}
use Rattle.sqlite.specs.Cast.{cast}
use Rattle.sqlite.specs.Kind.TheVariants.{Integer, Text as Words}
use Rattle.sqlite.specs.Values.{bound_value}
use Rattle.lot_command.specs.declared.price.Price.TheVariants.{Each, Whole}
use Rattle.lot_command.specs.declared.price.Price.{Price}
use Rattle.lot_rows.specs.Sale.{amount_of, currency_of, kind_of}
use Rattle.lot_table.proofs.WriteLemmas.{cast_null}
use Rattle.lot_table.specs.Call.{Adds, Runs}
use Rattle.lot_table.specs.declared.fault.Fault.{Fault}
use Rattle.lot_table.proofs.ShapeLemmas.{free}
use Rattle.lot_table.proofs.StatementLemmas.{IsAdd, IsTable, adds}
use Rattle.sqlite_rules.proofs.ListLemmas.{has_got}
use Rattle.sqlite_rules.specs.Steps.{is_typed}
use Rattle.sqlite_typing.specs.Types.{accepts_terms}
use Rattle.std.proofs.Common.{ℤ}
use Rattle.sqlite.specs.declared.types.Value.TheVariants.{Text}
use Rattle.sqlite.specs.declared.types.Value.TheVariants.{Int}

-- ---- the columns of a price are stored and bound as they are

amount_stored : (price : Option Price) → cast Integer (amount_of price) ≡ amount_of price
amount_stored None = cast_null
amount_stored (Some (Each price)) = cast_int (pos price.rate)
amount_stored (Some (Whole price)) = cast_int price.0

currency_stored : (price : Option Price) → cast Words (currency_of price) ≡ currency_of price
currency_stored None = refl
currency_stored (Some (Each price)) = refl
currency_stored (Some (Whole price)) = refl

pub amount_bound : (price : Option Price) → bound_value (amount_of price) ≡ amount_of price
amount_bound None = refl
amount_bound (Some (Each price)) = refl
amount_bound (Some (Whole price)) = refl

pub currency_bound : (price : Option Price) → bound_value (currency_of price) ≡ currency_of price
currency_bound None = refl
currency_bound (Some (Each price)) = refl
currency_bound (Some (Whole price)) = refl

-- ---- add

abbrev add_text : List ℕ
add_text = codes "INSERT INTO sale (entry, posting, day, account, commodity, units, kind, amount, currency) VALUES (?1, ?2, ?3, ?4, ?5, ?6, ?7, ?8, ?9)"

abbrev add_terms : List Term
add_terms = lit Null ∷ col 0 0 ∷ col 0 1 ∷ col 0 2 ∷ col 0 3 ∷ col 0 4 ∷ col 0 5 ∷ col 0 6 ∷ col 0 7 ∷ col 0 8 ∷ []

-- each value is of its column, whichever is there
typed : (entry posting day : ℤ) (account commodity : List ℕ) (units : ℤ) (price : Option Price) (id : ℤ)
    → (is_typed sale_table.table (Int id ∷ Int entry ∷ Int posting ∷ Int day ∷ Text account ∷ Text commodity ∷ Int units ∷ Int (kind_of price) ∷ amount_of price ∷ currency_of price ∷ []) ≡ true) × (accepts_terms add_terms (Int entry ∷ Int posting ∷ Int day ∷ Text account ∷ Text commodity ∷ Int units ∷ Int (kind_of price) ∷ amount_of price ∷ currency_of price ∷ []) ≡ true)
typed entry posting day account commodity units None id = (refl, refl)
typed entry posting day account commodity units (Some (Each price)) id = (refl, refl)
typed entry posting day account commodity units (Some (Whole price)) id = (refl, refl)

abbrev is_table : IsTable layout sale_table
is_table = record {
  aligned = λ _. refl;
  held = λ _ _ h. h.1.1.1.1.1.1.1.0;
  is_set = λ _ _. refl;
  present = λ _. (refl, (refl, tt));
  place = 7;
  placed = refl;
  free = free shapes sale_table.table (has_got layout.schema.tables 7 sale_table.table refl) refl;
  uncounted = refl;
  mends = λ _. refl;
  stored = λ x. (cast_int (pos x.entry), (cast_int (pos x.posting), (cast_int x.day, (refl, (refl, (cast_int x.units, (cast_int (kind_of x.price), (amount_stored x.price, (currency_stored x.price, tt)))))))));
  judged = λ x id. (refl, (typed (pos x.entry) (pos x.posting) x.day x.account x.commodity x.units x.price id).0, refl, refl);
}

add_is : (x : SaleRow) → IsAdd layout sale_table is_table x add_text
unfolding understood everything
add_is x = record { count = 10; terms = add_terms; means = refl; bare = (refl, refl); whole = (omega arith, refl); given = refl; typed = (typed (pos x.entry) (pos x.posting) x.day x.account x.commodity x.units x.price (pos 0)).1 }

pub adds_row : (old new : State) (x : SaleRow) {A : Type 0} (result : Result A Fault) → Runs add_text (sale_cells x) old new result → Adds layout sale_table x old new result
adds_row old new x = adds layout sale_table is_table old new add_text x (λ _ _ _. refl) (add_is x)

-- ---- what a query shows, and its order

abbrev pub shows : List Term
shows = col 1 1 ∷ col 1 2 ∷ col 1 3 ∷ col 1 4 ∷ col 1 5 ∷ col 1 6 ∷ col 1 7 ∷ col 1 8 ∷ col 1 9 ∷ []

abbrev pub order : List (Term × Key)
order = (col 1 1, ascending Binary) ∷ (col 1 2, ascending Binary) ∷ []

abbrev pub names : List (List ℕ)
names = codes "entry" ∷ codes "posting" ∷ codes "day" ∷ codes "account" ∷ codes "commodity" ∷ codes "units" ∷ codes "kind" ∷ codes "amount" ∷ codes "currency" ∷ []
