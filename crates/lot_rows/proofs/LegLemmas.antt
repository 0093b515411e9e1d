-- The statements on the table `leg`.
use Rattle.std.proofs.Common.{Result, Vec, true, ◌≡◌, ℕ, pos, None, All, List, [], ◌∷◌, codes, refl, arith}
use Rattle.sqlite.specs.Collation.TheVariants.{Binary}
use Rattle.sqlite.specs.Listing.{understood}
use Rattle.sqlite.specs.State.{State}
use Rattle.sqlite.specs.Term.{Term, col, lit}
use Rattle.sqlite.specs.declared.types.Value.TheVariants.{Int, Null}
use Rattle.sqlite_tied.specs.Compute.{everything}
use Rattle.sqlite_value.specs.Keys.{ascending}
use Rattle.sqlite_value.specs.declared.keys.Key.{Key}
use Rattle.lot_table.specs.Rows.{has_key, with_key}
use Rattle.lot_table.proofs.CastLemmas.{cast_maybe_int, cast_maybe_text}
use Rattle.lot_table.proofs.ReadLemmas.{key_terms}
use Rattle.lot_table.proofs.WriteLemmas.{cast_int}
use Rattle.lot_rows.specs.Leg.{IsLegRow, leg_cells}
use Rattle.lot_rows.specs.Tables.{leg_table, shapes, layout}
use Rattle.lot_rows.specs.declared.leg.LegRow.{LegRow}
use Rattle.lot_cost.specs.declared.lot_key.LotKey.{LotKey}
use Rattle.lot_table.specs.Cell.{label_text}
use Rattle.lot_table.specs.Call.{Adds, ListsColumns, Runs, Selects}
use Rattle.lot_table.specs.declared.fault.Fault.{Fault}
use Rattle.lot_table.proofs.ShapeLemmas.{free}
use Rattle.lot_table.proofs.StatementLemmas.{IsAdd, IsTable, adds}
use Rattle.lot_table.proofs.QueryLemmas.{Asks, IsQuery, keyed, lists_columns}
use Rattle.sqlite_rules.proofs.ListLemmas.{has_got}
use Rattle.sqlite_rules.specs.Steps.{is_typed}
use Rattle.sqlite_typing.specs.Types.{accepts_terms}
use Rattle.std.specs.declared.alloc.Global.{Global}
use Rattle.std.proofs.Common.{Option, Some, ℤ}
use Rattle.lot_rows.specs.LotKey.{cost_currency, cost_day, cost_label, cost_number}
use Rattle.sqlite.specs.declared.types.Value.TheVariants.{Text}

-- ---- add

abbrev add_text : List ℕ
add_text = codes "INSERT INTO leg (entry, posting, place, account, commodity, units, cost_number, cost_currency, cost_day, cost_label) VALUES (?1, ?2, ?3, ?4, ?5, ?6, ?7, ?8, ?9, ?10)"

abbrev add_terms : List Term
add_terms = lit Null ∷ col 0 0 ∷ col 0 1 ∷ col 0 2 ∷ col 0 3 ∷ col 0 4 ∷ col 0 5 ∷ col 0 6 ∷ col 0 7 ∷ col 0 8 ∷ col 0 9 ∷ []

-- each value is of its column, whichever is there
pub typed : (entry posting place : ℤ) (account commodity : List ℕ) (units : ℤ) (lot : Option LotKey) (id : ℤ)
    → (is_typed leg_table.table (Int id ∷ Int entry ∷ Int posting ∷ Int place ∷ Text account ∷ Text commodity ∷ Int units ∷ cost_number lot ∷ cost_currency lot ∷ cost_day lot ∷ cost_label lot ∷ []) ≡ true) × (accepts_terms add_terms (Int entry ∷ Int posting ∷ Int place ∷ Text account ∷ Text commodity ∷ Int units ∷ cost_number lot ∷ cost_currency lot ∷ cost_day lot ∷ cost_label lot ∷ []) ≡ true)
typed entry posting place account commodity units None id = (refl, refl)
typed entry posting place account commodity units (Some lot) id = (refl, refl)

abbrev pub is_table : IsTable layout leg_table
is_table = record {
  aligned = λ _. refl;
  held = λ _ _ h. h.1.1.1.1.1.1.0;
  is_set = λ _ _. refl;
  present = λ _. (refl, (refl, (refl, tt)));
  place = 6;
  placed = refl;
  free = free shapes leg_table.table (has_got layout.schema.tables 6 leg_table.table refl) refl;
  uncounted = refl;
  mends = λ _. refl;
  stored = λ x. (cast_int (pos x.entry), (cast_int (pos x.posting), (cast_int (pos x.place), (refl, (refl, (cast_int x.units, (cast_maybe_int (λ (lot : LotKey). pos lot.number) x.lot, (cast_maybe_text (λ (lot : LotKey). lot.currency) x.lot, (cast_maybe_int (λ (lot : LotKey). lot.day) x.lot, (cast_maybe_text (λ (lot : LotKey). label_text lot.label) x.lot, tt))))))))));
  judged = λ x id. (refl, (typed (pos x.entry) (pos x.posting) (pos x.place) x.account x.commodity x.units x.lot id).0, refl, refl);
}

add_is : (x : LegRow) → IsAdd layout leg_table is_table x add_text
unfolding understood everything
add_is x = record { count = 11; terms = add_terms; means = refl; bare = (refl, refl); whole = (omega arith, refl); given = refl; typed = (typed (pos x.entry) (pos x.posting) (pos x.place) x.account x.commodity x.units x.lot (pos 0)).1 }

pub adds_row : (old new : State) (x : LegRow) {A : Type 0} (result : Result A Fault) → Runs add_text (leg_cells x) old new result → Adds layout leg_table x old new result
adds_row old new x = adds layout leg_table is_table old new add_text x (λ _ _ _. refl) (add_is x)

-- ---- list_of

abbrev pub shows : List Term
shows = col 1 1 ∷ col 1 2 ∷ col 1 3 ∷ col 1 4 ∷ col 1 5 ∷ col 1 6 ∷ col 1 7 ∷ col 1 8 ∷ col 1 9 ∷ col 1 10 ∷ []

abbrev pub order : List (Term × Key)
order = (col 1 1, ascending Binary) ∷ (col 1 2, ascending Binary) ∷ (col 1 3, ascending Binary) ∷ []

abbrev pub names : List (List ℕ)
names = codes "entry" ∷ codes "posting" ∷ codes "place" ∷ codes "account" ∷ codes "commodity" ∷ codes "units" ∷ codes "cost_number" ∷ codes "cost_currency" ∷ codes "cost_day" ∷ codes "cost_label" ∷ []

abbrev posting_text : List ℕ
posting_text = codes "SELECT entry, posting, place, account, commodity, units, cost_number, cost_currency, cost_day, cost_label FROM leg WHERE entry = ?1 AND posting = ?2 ORDER BY entry, posting, place"

pub posting_is : IsQuery layout.schema leg_table.table.tree (key_terms 2 0) shows order names 2 posting_text
unfolding understood everything
posting_is = record { means = refl; unlisted = refl; bare = (refl, refl); whole = (omega arith, refl); selects = (_, refl, refl) }

posting_asks : (entry : ℕ) (posting : ℕ) → Asks layout leg_table (Int (pos entry) ∷ Int (pos posting) ∷ []) (has_key 2 (Int (pos entry) ∷ Int (pos posting) ∷ [])) posting_text
posting_asks entry posting = record {
  tests = (key_terms 2 0);
  shows = shows;
  order = order;
  names = names;
  is = posting_is;
  picks = record { alike = keyed leg_cells 2 (Int (pos entry) ∷ Int (pos posting) ∷ []) (refl, (refl, tt)) (λ _. (refl, (refl, tt))); blind = λ _ _ _. refl; shown = λ _. refl; sorts = λ _ _ _. refl; typed = refl };
}

pub posting_rows : (old new : State) (entry : ℕ) (posting : ℕ) (result : Result (Vec LegRow Global) Fault)
    → Selects leg_cells IsLegRow (λ rows found. found.items ≡ rows) (λ found. All IsLegRow found.items) posting_text (Int (pos entry) ∷ Int (pos posting) ∷ []) old new result → ListsColumns layout leg_cells IsLegRow (λ b. with_key leg_cells 2 (Int (pos entry) ∷ Int (pos posting) ∷ []) b.leg) old new result
posting_rows old new entry posting = lists_columns layout leg_table is_table (Int (pos entry) ∷ Int (pos posting) ∷ []) (has_key 2 (Int (pos entry) ∷ Int (pos posting) ∷ [])) posting_text (posting_asks entry posting) old new IsLegRow (λ b. with_key leg_cells 2 (Int (pos entry) ∷ Int (pos posting) ∷ []) b.leg) (λ _. refl)
