-- A record with one field more, which is empty.
use Rattle.std.proofs.Common.{◌≡◌, ℕ, ◌<◌, List, [], ◌∷◌, ◌++◌, length, sym, subst, arith}
use Rattle.std.proofs.lemmas.List.{get_or_append_left, get_or_push, length_push}
use Rattle.lot_import.specs.Row.{IsRow, SaysAction, SaysCommodity, SaysDay, SaysFee, SaysLabel, SaysLot, SaysRate, SaysUnits, at_column, columns}
use Rattle.lot_import.specs.declared.row.Row.{Row}
use Rattle.lot_import.specs.declared.version.Version.TheVariants.{First, Second}

kept : (written : List (List ℕ)) (column : ℕ) → length written ≡ length (columns First) → column < 8
    → at_column written column ≡ at_column (written ++ [] ∷ []) column
kept written column whole lt = sym (get_or_append_left written ([] ∷ []) [] column (omega (arith, whole, lt)))

empty_last : (written : List (List ℕ)) → length written ≡ length (columns First) → ◌≡◌ {A = List ℕ} [] (at_column (written ++ [] ∷ []) 8)
empty_last written whole = sym (get_or_push written [] [] 8 (omega (arith, whole)))

pub with_empty_lot : (written : List (List ℕ)) (row : Row) → IsRow First written row → IsRow Second (written ++ [] ∷ []) row
with_empty_lot written row is =
    record {
      whole = omega (arith, length_push written [], is.whole);
      name = subst (λ (f : List ℕ). SaysLabel f row.name) (kept written 0 is.whole (omega arith)) is.name;
      day = subst (λ (f : List ℕ). SaysDay f row.day) (kept written 1 is.whole (omega arith)) is.day;
      action = subst (λ (f : List ℕ). SaysAction f row.action) (kept written 2 is.whole (omega arith)) is.action;
      symbol = subst (λ (f : List ℕ). SaysCommodity f row.symbol) (kept written 3 is.whole (omega arith)) is.symbol;
      units = subst (λ (f : List ℕ). SaysUnits f row.units) (kept written 4 is.whole (omega arith)) is.units;
      price = subst (λ (f : List ℕ). SaysRate f row.price) (kept written 5 is.whole (omega arith)) is.price;
      currency = subst (λ (f : List ℕ). SaysCommodity f row.currency) (kept written 6 is.whole (omega arith)) is.currency;
      fee = subst (λ (f : List ℕ). SaysFee f row.fee) (kept written 7 is.whole (omega arith)) is.fee;
      lot = subst (λ (f : List ℕ). SaysLot row.action (at_column (written ++ [] ∷ []) 0) f row.lot) (empty_last written is.whole) is.lot;
    }
