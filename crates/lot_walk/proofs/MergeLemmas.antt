-- The rows of plain units and of lots, merged.
use Rattle.std.specs.Prelude.{◌≡◌, ◌⊎◌, true, false, cond, ◌&&◌, List, [], ◌∷◌}
use Rattle.std.specs.Cmp.{IsTotalOrder}
use Rattle.std.specs.List.{AllByRecursion}
use Rattle.std.specs.Ordering.{is_eq, is_gt, ordering_reverse, ordering_then}
use Rattle.std.specs.declared.cmp.Ordering.{Ordering}
use Rattle.std.specs.declared.cmp.Ordering.TheVariants.{Less, Equal, Greater}
use Rattle.std.proofs.Common.{refl, sym, ap, subst, ◌∙◌, inl, inr}
use Rattle.std.proofs.lemmas.Bool.{true≢false}
use Rattle.std.proofs.lemmas.Cmp.{on_total, upto}
use Rattle.sqlite.specs.Tree.{IsAscending}
use Rattle.sqlite_keyed.specs.Lists.{insert_sorted}
use Rattle.sqlite_keyed.proofs.ListLemmas.{all_map, all_weaker, ascending-map}
use Rattle.sqlite_rules.specs.Lists.{Has}
use Rattle.sqlite_rules.proofs.ListLemmas.{all_from, all_has}
use Rattle.lot_cost.proofs.OrderLemmas.{eq_then}
use Rattle.lot_inv.proofs.InventoryLemmas.{never_less}
use Rattle.lot_book.specs.declared.holding.Holding.{Holding}
use Rattle.lot_book.specs.Holding.{position_of}
use Rattle.lot_book.proofs.OrderLemmas.{positions_total}
use Rattle.lot_base.specs.Text.{text_cmp}
use Rattle.lot_rows.specs.declared.lot.LotRow.{LotRow}
use Rattle.lot_rows.specs.declared.plain.PlainRow.{PlainRow}
use Rattle.lot_stored.proofs.OrderLemmas.{all-inserted, rises-inserted}
use Rattle.lot_walk.specs.Holdings.{holding_cmp, lot_holding, merged, plain_holding}

pub holdings_total : IsTotalOrder holding_cmp
holdings_total = on_total position_of positions_total

abbrev pub ArePlainUp : List PlainRow → Type 0
ArePlainUp = IsAscending (λ a b. holding_cmp (plain_holding a) (plain_holding b) ≡ Less)

abbrev pub AreLotsUp : List LotRow → Type 0
AreLotsUp = IsAscending (λ a b. holding_cmp (lot_holding a) (lot_holding b) ≡ Less)

-- ---- the rows of both

pub all_merged : (P : Holding → Type 0) (plain : List PlainRow) (lots : List LotRow) → AllByRecursion (λ row. P (plain_holding row)) plain
    → AllByRecursion (λ row. P (lot_holding row)) lots → AllByRecursion P (merged plain lots)
all_merged P [] lots all others = all_map P lot_holding lots others
all_merged P (row ∷ plain) lots all others =
    all-inserted holding_cmp holdings_total P (plain_holding row) (merged plain lots) all.0 (all_merged P plain lots all.1 others)

-- a merged row is one of the plain rows or of the lots
abbrev pub IsOneOf : List PlainRow → List LotRow → Holding → Type 0
IsOneOf plain lots holding =
    ((row : PlainRow) × Has plain row × (holding ≡ plain_holding row)) ⊎ ((row : LotRow) × Has lots row × (holding ≡ lot_holding row))

pub has_merged : (plain : List PlainRow) (lots : List LotRow) (holding : Holding) → Has (merged plain lots) holding → IsOneOf plain lots holding
has_merged plain lots holding has =
    all_has (IsOneOf plain lots) (merged plain lots) holding
    (all_merged (IsOneOf plain lots) plain lots (all_from _ plain (λ row there. inl (row, there, refl))) (all_from _ lots (λ row there. inr (row, there, refl))))
    has

has_new : (new : Holding) (rows : List Holding) → Has (insert_sorted holding_cmp new rows) new
has_new new [] = inl refl
has_new new (row ∷ rows) =
    elim (is_gt (holding_cmp new row)) as (λ b. Has (cond b (row ∷ insert_sorted holding_cmp new rows) (new ∷ row ∷ rows)) new) [
      | true ↦ inr (has_new new rows)
      | false ↦ inl refl
    ]

has_still : (new : Holding) (rows : List Holding) (row : Holding) → Has rows row → Has (insert_sorted holding_cmp new rows) row
has_still new [] row has = absurd has
has_still new (first ∷ rows) row has =
    elim (is_gt (holding_cmp new first)) as (λ b. Has (cond b (first ∷ insert_sorted holding_cmp new rows) (new ∷ first ∷ rows)) row) [
      | true ↦ elim has [ inl same ↦ inl same | inr later ↦ inr (has_still new rows row later) ]
      | false ↦ inr has
    ]

pub has_plain : (plain : List PlainRow) (lots : List LotRow) (row : PlainRow) → Has plain row → Has (merged plain lots) (plain_holding row)
has_plain [] lots row has = absurd has
has_plain (first ∷ plain) lots row (inl same) =
    subst (λ r. Has (merged (first ∷ plain) lots) (plain_holding r)) (sym same) (has_new (plain_holding first) (merged plain lots))
has_plain (first ∷ plain) lots row (inr later) =
    has_still (plain_holding first) (merged plain lots) (plain_holding row) (has_plain plain lots row later)

pub has_lot_row : (plain : List PlainRow) (lots : List LotRow) (row : LotRow) → Has lots row → Has (merged plain lots) (lot_holding row)
has_lot_row [] (first ∷ lots) row (inl same) = inl (ap lot_holding same)
has_lot_row [] (first ∷ lots) row (inr later) = inr (has_lot_row [] lots row later)
has_lot_row [] [] row has = absurd has
has_lot_row (first ∷ plain) lots row has =
    has_still (plain_holding first) (merged plain lots) (lot_holding row) (has_lot_row plain lots row has)

-- ---- their order

-- a lot is never at the position of plain units
lot_apart : (row : PlainRow) (lot : LotRow) → is_eq (holding_cmp (lot_holding lot) (plain_holding row)) ≡ false
lot_apart row lot =
    let accounts = text_cmp lot.account row.account in
    let commodities = text_cmp lot.commodity row.commodity in
    eq_then accounts (ordering_then commodities Greater)
    ∙ ap (λ b. is_eq accounts && b) (eq_then commodities Greater ∙ never_less (is_eq commodities))
    ∙ never_less (is_eq accounts)

pub rises_merged : (plain : List PlainRow) (lots : List LotRow) → ArePlainUp plain → AreLotsUp lots
    → IsAscending (λ a b. holding_cmp a b ≡ Less) (merged plain lots)
rises_merged [] lots up others = ascending-map (λ a b. holding_cmp a b ≡ Less) lot_holding lots others
rises_merged (row ∷ plain) lots up others =
    rises-inserted holding_cmp holdings_total (plain_holding row) (merged plain lots)
    (all_merged (λ holding. is_eq (holding_cmp holding (plain_holding row)) ≡ false) plain lots
    (all_weaker (λ other. holding_cmp (plain_holding row) (plain_holding other) ≡ Less)
    (λ other. is_eq (holding_cmp (plain_holding other) (plain_holding row)) ≡ false)
    (λ other less. ap is_eq (holdings_total.antisymm (plain_holding other) (plain_holding row) ∙ ap ordering_reverse less)) plain up.0)
    (all_from _ lots (λ lot has. lot_apart row lot)))
    (rises_merged plain lots up.1 others)

-- ---- the first of them

first_inserted : (new : Holding) (rows : List Holding) → AllByRecursion (λ row. is_gt (holding_cmp new row) ≡ false) rows
    → insert_sorted holding_cmp new rows ≡ new ∷ rows
first_inserted new [] below = refl
first_inserted new (row ∷ rows) below = ap (λ b. cond b (row ∷ insert_sorted holding_cmp new rows) (new ∷ row ∷ rows)) below.0

-- plain units that no lot is below come first
pub merged_plain : (row : PlainRow) (plain : List PlainRow) (lots : List LotRow) → ArePlainUp (row ∷ plain)
    → AllByRecursion (λ lot. is_gt (holding_cmp (plain_holding row) (lot_holding lot)) ≡ false) lots
    → merged (row ∷ plain) lots ≡ plain_holding row ∷ merged plain lots
merged_plain row plain lots up below =
    first_inserted (plain_holding row) (merged plain lots)
    (all_merged (λ holding. is_gt (holding_cmp (plain_holding row) holding) ≡ false) plain lots
    (all_weaker (λ other. holding_cmp (plain_holding row) (plain_holding other) ≡ Less)
    (λ other. is_gt (holding_cmp (plain_holding row) (plain_holding other)) ≡ false) (λ other less. ap is_gt less) plain up.0)
    below)

-- which is so where the first lot isn't
pub below_all : (row : PlainRow) (lot : LotRow) (lots : List LotRow) → AreLotsUp (lot ∷ lots)
    → is_gt (holding_cmp (plain_holding row) (lot_holding lot)) ≡ false
    → AllByRecursion (λ other. is_gt (holding_cmp (plain_holding row) (lot_holding other)) ≡ false) (lot ∷ lots)
below_all row lot lots up below = (
  below,
  all_weaker (λ other. holding_cmp (lot_holding lot) (lot_holding other) ≡ Less)
      (λ other. is_gt (holding_cmp (plain_holding row) (lot_holding other)) ≡ false)
      (λ other less. upto holdings_total (plain_holding row) (lot_holding lot) (lot_holding other) below (ap is_gt less)) lots up.0,
)

-- a lot below all plain units comes first
merged_lot : (plain : List PlainRow) (lot : LotRow) (lots : List LotRow)
    → AllByRecursion (λ row. is_gt (holding_cmp (plain_holding row) (lot_holding lot)) ≡ true) plain
    → merged plain (lot ∷ lots) ≡ lot_holding lot ∷ merged plain lots
merged_lot [] lot lots above = refl
merged_lot (row ∷ plain) lot lots above =
    ap (insert_sorted holding_cmp (plain_holding row)) (merged_lot plain lot lots above.1)
    ∙ ap (λ b. cond b (lot_holding lot ∷ insert_sorted holding_cmp (plain_holding row) (merged plain lots)) (plain_holding row ∷ lot_holding lot ∷ merged plain lots)) above.0

is_greater : (o : Ordering) → is_gt o ≡ true → o ≡ Greater
is_greater Less e = absurd (true≢false (sym e))
is_greater Equal e = absurd (true≢false (sym e))
is_greater Greater e = refl

-- which is so where it is below the first of them
pub merged_lot_first : (row : PlainRow) (plain : List PlainRow) (lot : LotRow) (lots : List LotRow) → ArePlainUp (row ∷ plain)
    → is_gt (holding_cmp (plain_holding row) (lot_holding lot)) ≡ true
    → merged (row ∷ plain) (lot ∷ lots) ≡ lot_holding lot ∷ merged (row ∷ plain) lots
merged_lot_first row plain lot lots up above =
    let below : holding_cmp (lot_holding lot) (plain_holding row) ≡ Less =
    holdings_total.antisymm (lot_holding lot) (plain_holding row) ∙ ap ordering_reverse (is_greater _ above) in
    merged_lot (row ∷ plain) lot lots (
      above,
      all_weaker (λ other. holding_cmp (plain_holding row) (plain_holding other) ≡ Less)
          (λ other. is_gt (holding_cmp (plain_holding other) (lot_holding lot)) ≡ true)
          (λ other less.
          ap is_gt (holdings_total.antisymm (plain_holding other) (lot_holding lot)
          ∙ ap ordering_reverse (holdings_total.trans (lot_holding lot) (plain_holding row) (plain_holding other) below less))) plain up.0,
    )
