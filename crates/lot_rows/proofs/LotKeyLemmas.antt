-- Rows with the same lot as their key.
use Rattle.std.proofs.Common.{◌≡◌, ℕ, ℤ, pos, true, List, [], ◌∷◌, Equal, is_eq, sym, ap, ◌∙◌}
use Rattle.std.specs.Ordering.{ordering_then}
use Rattle.std.proofs.lemmas.Bool.{and_parts}
use Rattle.std.proofs.lemmas.Bool.Decides.{Decides-int_eq}
use Rattle.std.proofs.lemmas.Cmp.{int_eq_equiv}
use Rattle.sqlite.specs.Order.{Row}
use Rattle.sqlite.specs.declared.types.Value.TheVariants.{Int, Text}
use Rattle.sqlite_value.proofs.OrderLemmas.{value_cmp-Int}
use Rattle.sqlite_value.specs.Order.{value_cmp}
use Rattle.lot_cost.proofs.OrderLemmas.{eq_then}
use Rattle.lot_cost.specs.declared.lot_key.LotKey.{LotKey}
use Rattle.lot_rows.proofs.PairLemmas.{same_name}
use Rattle.lot_rows.specs.LotKey.{lot_columns, lot_key}
use Rattle.lot_table.specs.Cell.{label_text}
use Rattle.lot_table.specs.Rows.{has_key}

same_number : (key row : ℤ) → is_eq (value_cmp (Int row) (Int key)) ≡ true → row ≡ key
same_number key row same =
    sym ((Decides-int_eq key row).0 (sym (ap is_eq (value_cmp-Int row key) ∙ int_eq_equiv.symm row key) ∙ same))

-- the columns of the key are the same; a label is told by its text
pub same_lot : (account commodity : List ℕ) (lot : LotKey) (other what : List ℕ) (there : LotKey) (rest left : Row)
    → has_key 6 (lot_columns account commodity lot rest) (lot_columns other what there left) ≡ true
    → lot_key other what there ≡ lot_key account commodity lot
same_lot account commodity lot other what there rest left same =
    let label = ordering_then (value_cmp (Text (label_text there.label)) (Text (label_text lot.label))) Equal in
    let number = ordering_then (value_cmp (Int (pos there.number)) (Int (pos lot.number))) label in
    let currency = ordering_then (value_cmp (Text there.currency) (Text lot.currency)) number in
    let day = ordering_then (value_cmp (Int there.day) (Int lot.day)) currency in
    let named = ordering_then (value_cmp (Text what) (Text commodity)) day in
    let first = and_parts _ _ (sym (eq_then (value_cmp (Text other) (Text account)) named) ∙ same) in
    let second = and_parts _ _ (sym (eq_then (value_cmp (Text what) (Text commodity)) day) ∙ first.1) in
    let third = and_parts _ _ (sym (eq_then (value_cmp (Int there.day) (Int lot.day)) currency) ∙ second.1) in
    let fourth = and_parts _ _ (sym (eq_then (value_cmp (Text there.currency) (Text lot.currency)) number) ∙ third.1) in
    let fifth = and_parts _ _ (sym (eq_then (value_cmp (Int (pos there.number)) (Int (pos lot.number))) label) ∙ fourth.1) in
    let sixth = and_parts _ _ (sym (eq_then (value_cmp (Text (label_text there.label)) (Text (label_text lot.label))) Equal) ∙ fifth.1) in
    let accounts = same_name account other first.0 in
    let commodities = same_name commodity what second.0 in
    let days = same_number lot.day there.day third.0 in
    let currencies = same_name lot.currency there.currency fourth.0 in
    let numbers = same_number (pos lot.number) (pos there.number) fifth.0 in
    let labels = same_name (label_text lot.label) (label_text there.label) sixth.0 in
    λ i. Text (accounts i) ∷ Text (commodities i) ∷ Int (days i) ∷ Text (currencies i) ∷ Int (numbers i) ∷ Text (labels i) ∷ []
