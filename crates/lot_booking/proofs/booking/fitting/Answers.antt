-- The lots of the other sign among those that fit.
use Rattle.std.proofs.Common.{◌≡◌, true, ℤ, filter, map, sym, subst, ap, ◌∙◌, rules}
use Rattle.std.specs.List.{AllByRecursion}
use Rattle.std.proofs.lemmas.Fn.{filter_same}
use Rattle.lot_inv.specs.declared.lot.Lot.{Lot}
use Rattle.lot_inv.specs.Inventory.{opening_at, other_sign}
use Rattle.lot_inv.specs.Lot.{AreNumberedBy, key_and_units}
use Rattle.lot_cost.specs.declared.lot_key.LotKey.{LotKey}
use Rattle.lot_booking.specs.Choice.{HaveDistinctKeys}
use Rattle.lot_booking.proofs.BookLemmas.{each_passes}
use Rattle.lot_booking.proofs.ChoiceLemmas.{distinct_among}
use Rattle.lot_booking.proofs.ListLemmas.{all_filtered, map-filter}
use Rattle.lot_booking.proofs.booking.fitting.Goals as goal

pub returns : goal.returns
returns c =
    let test = λ (lot : LotKey × ℤ). other_sign lot.1 c.args.units in
    let passes = λ (lot : Lot). test (key_and_units lot) in
    let lots = c.in_ok-lots.lots.items in
    let kept : c.retain.new.self.items ≡ filter passes lots =
    filter_same _ passes _ (λ lot b f' called. search rules) lots c.retain.new.self.items c.retain.ensures.filtered in
    let fit : map key_and_units c.retain.new.self.items ≡ filter test (map key_and_units lots) =
    ap (map key_and_units) kept ∙ map-filter key_and_units test lots in
    let opening = opening_at c.args.inventory.now c.args.commodity.now in
    record {
      all = fit ∙ ap (filter test) c.in_ok-lots.ensures.all;
      numbers = subst (AreNumberedBy opening) (sym kept)
          (all_filtered (λ (lot : Lot). lot.opening ≡ opening lot.key) passes lots c.in_ok-lots.ensures.numbers);
      distinct = subst HaveDistinctKeys (sym fit) (distinct_among test (map key_and_units lots) c.in_ok-lots.ensures.distinct);
      signs = subst (AllByRecursion (λ (lot : LotKey × ℤ). test lot ≡ true)) (sym fit) (each_passes test (map key_and_units lots));
      memory = tt;
    }
