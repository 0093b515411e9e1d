-- The rows of legs: which of two comes first, and which are of a posting.
use Rattle.std.specs.Prelude.{◌≡◌, ℕ, pos, ◌<◌, ◌==◌, true, [], ◌∷◌}
use Rattle.std.specs.declared.cmp.Ordering.TheVariants.{Less}
use Rattle.std.proofs.Common.{◌∙◌}
use Rattle.std.proofs.lemmas.Bool.{and_parts}
use Rattle.std.proofs.lemmas.Bool.Decides.{Decides-eqb}
use Rattle.sqlite.specs.Order.{Row}
use Rattle.sqlite.specs.declared.types.Value.TheVariants.{Int, Text}
use Rattle.lot_book.specs.declared.leg.Leg.{Leg}
use Rattle.lot_rows.specs.Leg.{leg_cells}
use Rattle.lot_rows.specs.LotKey.{cost_currency, cost_day, cost_label, cost_number}
use Rattle.lot_rows.specs.declared.leg.LegRow.{LegRow}
use Rattle.lot_table.specs.Rows.{has_key, key_order}
use Rattle.lot_stored.specs.Kept.{is_of_posting}
use Rattle.lot_stored.specs.Rows.{leg_row, posting_key}
use Rattle.lot_stored.proofs.KeyLemmas.{has_posting, number_below, same_first}
use Rattle.lot_stored.proofs.OrderLemmas.{row_order}

-- the columns behind the key
abbrev behind : LegRow → Row
behind row =
    Text row.account ∷ Text row.commodity ∷ Int row.units ∷ cost_number row.lot ∷ cost_currency row.lot ∷ cost_day row.lot ∷ cost_label row.lot ∷ []

-- the row of a leg comes before that of another
abbrev pub IsBelow : Leg → Leg → Type 0
IsBelow a b = row_order leg_cells 3 (leg_row a) (leg_row b) ≡ Less

pub below_by_entry : (a b : Leg) → a.entry < b.entry → IsBelow a b
below_by_entry a b below =
    number_below 2 a.entry b.entry (Int (pos a.posting) ∷ Int (pos a.place) ∷ behind (leg_row a))
    (Int (pos b.posting) ∷ Int (pos b.place) ∷ behind (leg_row b)) below

pub below_by_posting : (a b : Leg) → a.entry ≡ b.entry → a.posting < b.posting → IsBelow a b
below_by_posting a b entry below =
    let here : Row = Int (pos a.place) ∷ behind (leg_row a) in
    let there : Row = Int (pos b.place) ∷ behind (leg_row b) in
    (λ i. key_order 3 (Int (pos (entry i)) ∷ Int (pos a.posting) ∷ here) (Int (pos b.entry) ∷ Int (pos b.posting) ∷ there))
    ∙ same_first 2 (Int (pos b.entry)) (Int (pos a.posting) ∷ here) (Int (pos b.posting) ∷ there)
    ∙ number_below 1 a.posting b.posting here there below

pub below_by_place : (a b : Leg) → a.entry ≡ b.entry → a.posting ≡ b.posting → a.place < b.place → IsBelow a b
below_by_place a b entry posting below =
    let here : Row = Int (pos a.place) ∷ behind (leg_row a) in
    let there : Row = Int (pos b.place) ∷ behind (leg_row b) in
    (λ i. key_order 3 (Int (pos (entry i)) ∷ Int (pos (posting i)) ∷ here) (Int (pos b.entry) ∷ Int (pos b.posting) ∷ there))
    ∙ same_first 2 (Int (pos b.entry)) (Int (pos b.posting) ∷ here) (Int (pos b.posting) ∷ there)
    ∙ same_first 1 (Int (pos b.posting)) here there
    ∙ number_below 0 a.place b.place (behind (leg_row a)) (behind (leg_row b)) below

pub has_its : (entry posting : ℕ) (leg : Leg) → has_key 2 (posting_key entry posting) (leg_cells (leg_row leg)) ≡ is_of_posting entry posting leg
has_its entry posting leg =
    has_posting entry posting leg.entry leg.posting (Int (pos leg.place) ∷ behind (leg_row leg))

pub its_parts : (entry posting : ℕ) (leg : Leg) → is_of_posting entry posting leg ≡ true → (leg.entry ≡ entry) × (leg.posting ≡ posting)
its_parts entry posting leg is =
    let parts = and_parts (leg.entry == entry) (leg.posting == posting) is in
    ((Decides-eqb leg.entry entry).0 parts.0, (Decides-eqb leg.posting posting).0 parts.1)
