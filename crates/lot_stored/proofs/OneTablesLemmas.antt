-- A book with its place of migration has one list of rows in each table: what stands for it has no row more, and none less.
use Rattle.std.specs.Prelude.{◌≡◌, ℕ, true, List, [], ◌∷◌, map}
use Rattle.std.specs.Cmp.{IsTotalOrder}
use Rattle.std.specs.Ordering.{is_lt}
use Rattle.std.specs.declared.cmp.Ordering.{Ordering}
use Rattle.std.specs.declared.cmp.Ordering.TheVariants.{Less}
use Rattle.std.proofs.Common.{refl, sym, ap, subst, ◌∙◌, inl, inr}
use Rattle.std.proofs.lemmas.Bool.{true≢false}
use Rattle.std.proofs.lemmas.Cmp.{tied_itself}
use Rattle.std.proofs.lemmas.List.Elements.{recursion_from_All}
use Rattle.sqlite.specs.Order.{Row}
use Rattle.sqlite.specs.Tree.{IsAscending}
use Rattle.sqlite_rules.specs.Lists.{Has}
use Rattle.sqlite_rules.proofs.ListLemmas.{all_has, has_filtered, has_kept}
use Rattle.lot_book.specs.Edition.{After}
use Rattle.lot_book.specs.Facts.{Entry}
use Rattle.lot_table.specs.Rows.{has_key, with_key}
use Rattle.lot_rows.specs.Account.{account_cells}
use Rattle.lot_rows.specs.Allowed.{allowed_cells}
use Rattle.lot_rows.specs.Commodity.{commodity_cells}
use Rattle.lot_rows.specs.Head.{head_cells}
use Rattle.lot_rows.specs.Leg.{leg_cells}
use Rattle.lot_rows.specs.Lot.{IsLotRow, lot_cells}
use Rattle.lot_rows.specs.Opening.{IsOpeningRow, opening_cells}
use Rattle.lot_rows.specs.Plain.{plain_cells}
use Rattle.lot_rows.specs.Price.{price_cells}
use Rattle.lot_rows.specs.Tables.{Tables}
use Rattle.lot_stored.specs.Rows.{lot_key, migration_row, name_key, pair_key, posting_key, price_key, sale_row}
use Rattle.lot_stored.specs.Kept.{SalesOf}
use Rattle.lot_stored.specs.StandFor.{StandFor}
use Rattle.lot_stored.proofs.LookupLemmas.{first_with_key, has_own_key, row-only, row-there}
use Rattle.lot_stored.proofs.OrderLemmas.{IsRising, row_order, row_order-total}
use Rattle.lot_stored.proofs.SalesLemmas.{one_sales}

-- ---- lists with the same elements, each below the later ones

module _ {X : Type 0} (cmp : X → X → Ordering) (total : IsTotalOrder cmp) where
  not_below_itself : (x : X) → cmp x x ≡ Less → ⊥
  not_below_itself x less = true≢false (sym (ap is_lt less) ∙ ap is_lt (tied_itself total x))

  abbrev IsUp : List X → Type 0
  IsUp = IsAscending (λ a b. cmp a b ≡ Less)

  abbrev IsWithin : List X → List X → Type 0
  IsWithin xs ys = (x : X) → Has xs x → Has ys x

  same_head : (x y : X) (xs ys : List X) → IsUp (x ∷ xs) → IsUp (y ∷ ys) → Has (y ∷ ys) x → Has (x ∷ xs) y → x ≡ y
  same_head x y xs ys up other (inl same) there = same
  same_head x y xs ys up other (inr later) (inl same) = sym same
  same_head x y xs ys up other (inr later) (inr there) =
      absurd (not_below_itself x
      (total.trans x y x (all_has (λ z. cmp x z ≡ Less) xs y up.0 there) (all_has (λ z. cmp y z ≡ Less) ys x other.0 later)))

  same_rest : (x y : X) (xs ys : List X) → x ≡ y → IsUp (x ∷ xs) → IsWithin (x ∷ xs) (y ∷ ys) → IsWithin xs ys
  same_rest x y xs ys same up within z has = by (within z (inr has))
    where
      by : Has (y ∷ ys) z → Has ys z
      by (inl first) =
          absurd (not_below_itself x (subst (λ w. cmp x w ≡ Less) (first ∙ sym same) (all_has (λ w. cmp x w ≡ Less) xs z up.0 has)))
      by (inr later) = later

  pub same_list : (xs ys : List X) → IsUp xs → IsUp ys → IsWithin xs ys → IsWithin ys xs → xs ≡ ys
  same_list [] [] up other within back = refl
  same_list [] (y ∷ ys) up other within back = absurd (back y (inl refl))
  same_list (x ∷ xs) [] up other within back = absurd (within x (inl refl))
  same_list (x ∷ xs) (y ∷ ys) up other within back =
      let first : x ≡ y = same_head x y xs ys up other (within x (inl refl)) (back y (inl refl)) in
      let more : xs ≡ ys =
      same_list xs ys up.1 other.1 (same_rest x y xs ys first up within) (same_rest y x ys xs (sym first) other back) in
      λ i. first i ∷ more i

-- ---- rows that the look-ups of keys give

module _ {X : Type 0} (encode : X → Row) (width : ℕ) (key_of : X → Row) (xs ys : List X) where
  -- each row has its key, under which the other list has the same
  abbrev pub LooksUp : List X → List X → Type 0
  LooksUp these those = (x : X) → Has these x
      → (has_key width (key_of x) (encode x) ≡ true) × (first_with_key encode width (key_of x) these ≡ first_with_key encode width (key_of x) those)

  found_within : (these those : List X) → IsRising encode width these → LooksUp these those → (x : X) → Has these x → Has those x
  found_within these those up looks x has =
      let look = looks x has in
      (row-there encode width (key_of x) those x (sym look.1 ∙ row-only encode width (key_of x) these x up has look.0)).0

  pub same_rows : IsRising encode width xs → IsRising encode width ys → LooksUp xs ys → LooksUp ys xs → xs ≡ ys
  same_rows up other looks back =
      same_list (row_order encode width) (row_order-total encode width) xs ys up other (found_within xs ys up looks) (found_within ys xs other back)

-- the same, by all rows of a shorter key
module _ {X : Type 0} (encode : X → Row) (shorter width : ℕ) (key_of : X → Row) (xs ys : List X)
    (own : (x : X) → has_key shorter (key_of x) (encode x) ≡ true)
    (same : (x : X) → with_key encode shorter (key_of x) xs ≡ with_key encode shorter (key_of x) ys) where
  shown_within : (these those : List X) → ((x : X) → with_key encode shorter (key_of x) these ≡ with_key encode shorter (key_of x) those)
      → (x : X) → Has these x → Has those x
  shown_within these those alike x has =
      let test = λ (y : X). has_key shorter (key_of x) (encode y) in
      (has_filtered test those x (subst (λ rows. Has rows x) (alike x) (has_kept test these x has (own x)))).0

  same_groups : IsRising encode width xs → IsRising encode width ys → xs ≡ ys
  same_groups up other =
      same_list (row_order encode width) (row_order-total encode width) xs ys up other (shown_within xs ys same)
      (shown_within ys xs (λ x. sym (same x)))

-- ---- all tables

module _ (a b : Tables) (entries : List Entry) (stand : StandFor a entries) (other : StandFor b entries)
    (one_place : stand.place ≡ other.place) where
  one_account : a.account ≡ b.account
  one_account =
      same_rows account_cells 1 (λ row. name_key row.name) a.account b.account stand.ordered.account other.ordered.account
      (λ row has. (has_own_key 1 (account_cells row), stand.account row.name ∙ sym (other.account row.name)))
      (λ row has. (has_own_key 1 (account_cells row), other.account row.name ∙ sym (stand.account row.name)))

  one_allowed : a.allowed ≡ b.allowed
  one_allowed =
      same_groups allowed_cells 1 2 (λ row. name_key row.account) a.allowed b.allowed (λ row. has_own_key 1 (allowed_cells row))
      (λ row. stand.allowed row.account ∙ sym (other.allowed row.account)) stand.ordered.allowed other.ordered.allowed

  one_commodity : a.commodity ≡ b.commodity
  one_commodity =
      same_rows commodity_cells 1 (λ row. name_key row.name) a.commodity b.commodity stand.ordered.commodity other.ordered.commodity
      (λ row has. (has_own_key 1 (commodity_cells row), stand.commodity row.name ∙ sym (other.commodity row.name)))
      (λ row has. (has_own_key 1 (commodity_cells row), other.commodity row.name ∙ sym (stand.commodity row.name)))

  one_price : a.price ≡ b.price
  one_price =
      same_rows price_cells 3 (λ row. price_key row.base row.quote row.day) a.price b.price stand.ordered.price other.ordered.price
      (λ row has. (has_own_key 3 (price_cells row), stand.price row.base row.quote row.day ∙ sym (other.price row.base row.quote row.day)))
      (λ row has. (has_own_key 3 (price_cells row), other.price row.base row.quote row.day ∙ sym (stand.price row.base row.quote row.day)))

  one_leg : a.leg ≡ b.leg
  one_leg =
      same_groups leg_cells 2 3 (λ row. posting_key row.entry row.posting) a.leg b.leg (λ row. has_own_key 2 (leg_cells row))
      (λ row. stand.leg row.entry row.posting ∙ sym (other.leg row.entry row.posting)) stand.ordered.leg other.ordered.leg

  one_sale : a.sale ≡ b.sale
  one_sale =
      stand.sale
      ∙ ap (map sale_row) (one_sales (After stand.place) entries stand.sales other.sales stand.sold
      (subst (λ (place : ℕ). SalesOf (After place) entries other.sales) (sym one_place) other.sold))
      ∙ sym other.sale

  one_lot : a.lot ≡ b.lot
  one_lot =
      same_rows lot_cells 6 (λ row. lot_key row.account row.commodity row.lot) a.lot b.lot stand.ordered.lot other.ordered.lot
      (λ row has.
      let good = (all_has IsLotRow a.lot row (recursion_from_All IsLotRow a.lot stand.good.lot) has).lot in
      (has_own_key 6 (lot_cells row), stand.lot row.account row.commodity row.lot good ∙ sym (other.lot row.account row.commodity row.lot good)))
      (λ row has.
      let good = (all_has IsLotRow b.lot row (recursion_from_All IsLotRow b.lot other.good.lot) has).lot in
      (has_own_key 6 (lot_cells row), other.lot row.account row.commodity row.lot good ∙ sym (stand.lot row.account row.commodity row.lot good)))

  one_plain : a.plain ≡ b.plain
  one_plain =
      same_rows plain_cells 2 (λ row. pair_key row.account row.commodity) a.plain b.plain stand.ordered.plain other.ordered.plain
      (λ row has. (has_own_key 2 (plain_cells row), stand.plain row.account row.commodity ∙ sym (other.plain row.account row.commodity)))
      (λ row has. (has_own_key 2 (plain_cells row), other.plain row.account row.commodity ∙ sym (stand.plain row.account row.commodity)))

  one_head : a.head ≡ b.head
  one_head =
      same_rows head_cells 2 (λ row. pair_key row.account row.commodity) a.head b.head stand.ordered.head other.ordered.head
      (λ row has. (has_own_key 2 (head_cells row), stand.head row.account row.commodity ∙ sym (other.head row.account row.commodity)))
      (λ row has. (has_own_key 2 (head_cells row), other.head row.account row.commodity ∙ sym (stand.head row.account row.commodity)))

  one_opening : a.opening ≡ b.opening
  one_opening =
      same_rows opening_cells 6 (λ row. lot_key row.account row.commodity row.lot) a.opening b.opening stand.ordered.opening other.ordered.opening
      (λ row has.
      let good = (all_has IsOpeningRow a.opening row (recursion_from_All IsOpeningRow a.opening stand.good.opening) has).lot in
      (has_own_key 6 (opening_cells row), stand.opening row.account row.commodity row.lot good ∙ sym (other.opening row.account row.commodity row.lot good)))
      (λ row has.
      let good = (all_has IsOpeningRow b.opening row (recursion_from_All IsOpeningRow b.opening other.good.opening) has).lot in
      (has_own_key 6 (opening_cells row), other.opening row.account row.commodity row.lot good ∙ sym (stand.opening row.account row.commodity row.lot good)))

  one_migration : a.migration ≡ b.migration
  one_migration = stand.migration ∙ ap (λ place. migration_row place ∷ []) one_place ∙ sym other.migration

  pub one_tables : a ≡ b
  one_tables = λ i. record {
    book = (stand.book ∙ sym other.book) i;
    account = one_account i;
    allowed = one_allowed i;
    commodity = one_commodity i;
    price = one_price i;
    entry = (stand.entry ∙ sym other.entry) i;
    leg = one_leg i;
    sale = one_sale i;
    lot = one_lot i;
    plain = one_plain i;
    head = one_head i;
    opening = one_opening i;
    migration = one_migration i;
  }
