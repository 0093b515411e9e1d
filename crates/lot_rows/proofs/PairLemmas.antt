-- Rows with the same account and commodity as their key.
use Rattle.std.proofs.Common.{◌≡◌, ℕ, true, List, ◌∷◌, Equal, is_eq, sym, ap, ◌∙◌}
use Rattle.std.specs.Ordering.{ordering_then}
use Rattle.std.proofs.lemmas.Bool.{and_parts}
use Rattle.sqlite.specs.Order.{Row}
use Rattle.sqlite.specs.declared.types.Value.TheVariants.{Text}
use Rattle.sqlite_value.proofs.OrderLemmas.{value_cmp-Text}
use Rattle.sqlite_value.specs.Order.{value_cmp}
use Rattle.lot_base.proofs.TextLemmas.{one_text, same_text-ordered}
use Rattle.lot_cost.proofs.OrderLemmas.{eq_then}
use Rattle.lot_table.specs.Rows.{has_key}

pub same_name : (key row : List ℕ) → is_eq (value_cmp (Text row) (Text key)) ≡ true → row ≡ key
same_name key row same = sym (one_text key row (sym (ap is_eq (value_cmp-Text row key) ∙ same_text-ordered row key) ∙ same))

pub same_pair : (account commodity other what : List ℕ) (rest left : Row) → has_key 2 (Text account ∷ Text commodity ∷ rest) (Text other ∷ Text what ∷ left) ≡ true
    → (other ≡ account) × (what ≡ commodity)
same_pair account commodity other what rest left same =
    let first = value_cmp (Text other) (Text account) in
    let second = value_cmp (Text what) (Text commodity) in
    let parts = and_parts (is_eq first) (is_eq (ordering_then second Equal)) (sym (eq_then first (ordering_then second Equal)) ∙ same) in
    (same_name account other parts.0, same_name commodity what (and_parts (is_eq second) true (sym (eq_then second Equal) ∙ parts.1)).0)
