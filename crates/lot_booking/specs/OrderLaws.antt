-- The three orders by key are orders: each comparison is total, and only one key ties with a key. What implements an order
-- names its law here, beside the definitions.
use Rattle.std.specs.Prelude.{◌≡◌, ◌≢◌, true, ◌||◌}
use Rattle.std.specs.declared.cmp.Ordering.{Ordering}
use Rattle.std.specs.declared.cmp.Ordering.TheVariants.{Less, Equal, Greater}
use Rattle.std.specs.Cmp.{IsStrictWeakOrder, IsTotalOrder}
use Rattle.std.specs.Cmp.Lexicographic.{options_total}
use Rattle.std.specs.Ordering.{nat_cmp, int_cmp, is_lt, ordering_reverse, ordering_then}
use Rattle.std.proofs.Common.{refl, ap, ◌∙◌}
use Rattle.std.proofs.lemmas.Cmp.{back_total, then_total, on_total, nat_cmp_total, int_cmp_total, nat_list_cmp_total, tied_itself, tied_back}
use Rattle.std.proofs.lemmas.List.Sorted.{ranks_by}
use Rattle.std.proofs.lemmas.Map.Lookups.{CmpEqualImpliesEq}
use Rattle.lot_cost.specs.declared.lot_key.LotKey.{LotKey}
use Rattle.lot_base.proofs.OrderLemmas.{equal_parts}
use Rattle.lot_base.specs.Text.{text_cmp}
use Rattle.lot_cost.proofs.OrderLemmas.{lots_total, exact_lots}
use Rattle.lot_booking.specs.OpeningOrder.{OpenedLot, by_key}
use Rattle.lot_booking.specs.Order.{IsOrder, label_cmp, oldest_cmp, oldest_first, newest_cmp, newest_first, highest_cmp, highest_first}

-- ---- an order from a comparison

Less-from_lt : (o : Ordering) → is_lt o ≡ true → o ≡ Less
Less-from_lt Less e = refl
Less-from_lt Equal e = cc
Less-from_lt Greater e = cc

-- of two keys that don't tie one is below the other
one_is_below : (there back : Ordering) → back ≡ ordering_reverse there → there ≢ Equal → (is_lt there || is_lt back) ≡ true
one_is_below Less back e apart = refl
one_is_below Equal back e apart = absurd (apart refl)
one_is_below Greater back e apart = ap is_lt e

pub is_order : {compare : LotKey → LotKey → Ordering} → IsTotalOrder compare → CmpEqualImpliesEq compare → IsOrder (λ a b. is_lt (compare a b))
is_order {compare} total exact = record {
  never_itself = λ key. ap is_lt (tied_itself total key);
  transitive = λ a b c first second. ap is_lt (total.trans a b c (Less-from_lt (compare a b) first) (Less-from_lt (compare b c) second));
  total = λ a b apart. one_is_below (compare a b) (compare b a) (total.antisymm b a) (λ e. apart (exact a b e));
}

-- ---- the parts of keys

labels_total : IsTotalOrder (λ (a b : LotKey). label_cmp a.label b.label)
labels_total = on_total (λ (k : LotKey). k.label) (options_total nat_list_cmp_total)

currencies_total : IsTotalOrder (λ (a b : LotKey). text_cmp a.currency b.currency)
currencies_total = on_total (λ (k : LotKey). k.currency) nat_list_cmp_total

numbers_total : IsTotalOrder (λ (a b : LotKey). nat_cmp a.number b.number)
numbers_total = on_total (λ (k : LotKey). k.number) nat_cmp_total

days_total : IsTotalOrder (λ (a b : LotKey). int_cmp a.day b.day)
days_total = on_total (λ (k : LotKey). k.day) int_cmp_total

then_equal : (a b : Ordering) → a ≡ Equal → b ≡ Equal → ordering_then a b ≡ Equal
then_equal a b first second = ap (λ o. ordering_then o b) first ∙ second

-- keys whose parts tie are one
same_key : (a b : LotKey) → int_cmp a.day b.day ≡ Equal → text_cmp a.currency b.currency ≡ Equal → nat_cmp a.number b.number ≡ Equal
    → label_cmp a.label b.label ≡ Equal → a ≡ b
same_key a b day currency number label = exact_lots a b (then_equal _ _ day (then_equal _ _ currency (then_equal _ _ number label)))

-- ---- the three comparisons

oldest_total : IsTotalOrder oldest_cmp
oldest_total = lots_total

exact_oldest : CmpEqualImpliesEq oldest_cmp
exact_oldest = exact_lots

newest_total : IsTotalOrder newest_cmp
newest_total = then_total (back_total days_total) (then_total currencies_total (then_total numbers_total labels_total))

exact_newest : CmpEqualImpliesEq newest_cmp
exact_newest a b e =
    let day = equal_parts (int_cmp b.day a.day) _ e in
    let currency = equal_parts (text_cmp a.currency b.currency) _ day.1 in
    let number = equal_parts (nat_cmp a.number b.number) _ currency.1 in
    same_key a b (tied_back int_cmp_total b.day a.day day.0) currency.0 number.0 number.1

highest_total : IsTotalOrder highest_cmp
highest_total = then_total (back_total numbers_total) (then_total days_total (then_total currencies_total labels_total))

exact_highest : CmpEqualImpliesEq highest_cmp
exact_highest a b e =
    let number = equal_parts (nat_cmp b.number a.number) _ e in
    let day = equal_parts (int_cmp a.day b.day) _ number.1 in
    let currency = equal_parts (text_cmp a.currency b.currency) _ day.1 in
    same_key a b day.0 currency.0 (tied_back nat_cmp_total b.number a.number number.0) currency.1

-- ---- the three orders

-- a comparison of keys sorts lots, whatever their opening numbers are
weak_by_key : {compare : LotKey → LotKey → Ordering} → IsTotalOrder compare → IsStrictWeakOrder (by_key (λ a b. is_lt (compare a b)))
weak_by_key total = ranks_by total (λ (lot : OpenedLot). lot.0)

pub oldest_is_order : IsOrder oldest_first
oldest_is_order = is_order oldest_total exact_oldest

pub oldest_is_weak_order : IsStrictWeakOrder (by_key oldest_first)
oldest_is_weak_order = weak_by_key oldest_total

pub newest_is_order : IsOrder newest_first
newest_is_order = is_order newest_total exact_newest

pub newest_is_weak_order : IsStrictWeakOrder (by_key newest_first)
newest_is_weak_order = weak_by_key newest_total

pub highest_is_order : IsOrder highest_first
highest_is_order = is_order highest_total exact_highest

pub highest_is_weak_order : IsStrictWeakOrder (by_key highest_first)
highest_is_weak_order = weak_by_key highest_total
