-- The order of lot keys is total, and only equal ones tie; what comes of ties in turn.
use Rattle.std.specs.Prelude.{◌≡◌, true, ◌&&◌}
use Rattle.std.specs.Cmp.{IsTotalOrder}
use Rattle.std.specs.Cmp.Lexicographic.{options_total}
use Rattle.std.specs.Option.{option_cmp}
use Rattle.std.specs.Ordering.{nat_cmp, int_cmp, is_eq, ordering_then}
use Rattle.std.specs.declared.cmp.Ordering.{Ordering}
use Rattle.std.specs.declared.cmp.Ordering.TheVariants.{Less, Equal, Greater}
use Rattle.std.proofs.Common.{refl}
use Rattle.std.proofs.lemmas.Cmp.{then_total, on_total, nat_cmp_total, int_cmp_total, nat_list_cmp_total}
use Rattle.std.proofs.lemmas.Map.Lookups.{CmpEqualImpliesEq, exact_unsigned, exact_signed, exact_bytes}
use Rattle.lot_base.proofs.OrderLemmas.{equal_parts, exact_options}
use Rattle.lot_base.specs.Text.{text_cmp}
use Rattle.lot_cost.specs.declared.lot_key.LotKey.{LotKey}
use Rattle.lot_cost.specs.LotKey.{lot_cmp}

-- ---- ties

pub eq_then : (o r : Ordering) → is_eq (ordering_then o r) ≡ (is_eq o && is_eq r)
eq_then Less r = refl
eq_then Equal r = refl
eq_then Greater r = refl

pub is_equal : (o : Ordering) → is_eq o ≡ true → o ≡ Equal
is_equal Less e = cc
is_equal Equal e = refl
is_equal Greater e = cc

-- ---- lot keys

pub lots_total : IsTotalOrder lot_cmp
lots_total = then_total (on_total (λ (k : LotKey). k.day) int_cmp_total)
    (then_total (on_total (λ (k : LotKey). k.currency) nat_list_cmp_total)
    (then_total (on_total (λ (k : LotKey). k.number) nat_cmp_total) (on_total (λ (k : LotKey). k.label) (options_total nat_list_cmp_total))))

pub lot_options_total : IsTotalOrder (option_cmp lot_cmp)
lot_options_total = options_total lots_total

pub exact_lots : CmpEqualImpliesEq lot_cmp
exact_lots a b e =
    let labels = option_cmp text_cmp a.label b.label in
    let numbers = ordering_then (nat_cmp a.number b.number) labels in
    let day = equal_parts (int_cmp a.day b.day) (ordering_then (text_cmp a.currency b.currency) numbers) e in
    let currency = equal_parts (text_cmp a.currency b.currency) numbers day.1 in
    let number = equal_parts (nat_cmp a.number b.number) labels currency.1 in
    λ i. record {
      day = exact_signed a.day b.day day.0 i;
      currency = exact_bytes a.currency b.currency currency.0 i;
      number = exact_unsigned a.number b.number number.0 i;
      label = exact_options text_cmp exact_bytes a.label b.label number.1 i;
    }

pub exact_lot_options : CmpEqualImpliesEq (option_cmp lot_cmp)
exact_lot_options = exact_options lot_cmp exact_lots
