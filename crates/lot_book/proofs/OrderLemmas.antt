-- The order of positions is total, and tells all of them apart.
use Rattle.std.specs.Prelude.{◌≡◌, true}
use Rattle.std.specs.Cmp.{IsTotalOrder, Equal-is, tied_itself}
use Rattle.std.specs.Cmp.Lexicographic.{options_total}
use Rattle.std.specs.Option.{option_cmp}
use Rattle.std.specs.Ordering.{is_eq, ordering_then}
use Rattle.std.proofs.Common.{ap}
use Rattle.std.proofs.lemmas.Cmp.{then_total, on_total, eq_by_cmp_equiv, nat_list_cmp_total}
use Rattle.std.proofs.lemmas.Map.Lookups.{CmpEqualImpliesEq, exact_bytes}
use Rattle.lot_base.specs.Text.{text_cmp}
use Rattle.lot_base.proofs.OrderLemmas.{equal_parts, exact_options}
use Rattle.lot_cost.proofs.OrderLemmas.{lots_total, exact_lots}
use Rattle.lot_book.specs.declared.leg.Position.{Position}
use Rattle.lot_book.specs.Leg.{position_cmp, same_position}
use Rattle.lot_cost.specs.LotKey.{lot_cmp}

pub positions_total : IsTotalOrder position_cmp
positions_total = then_total (on_total (λ (p : Position). p.account) nat_list_cmp_total)
    (then_total (on_total (λ (p : Position). p.commodity) nat_list_cmp_total) (on_total (λ (p : Position). p.lot) (options_total lots_total)))

pub exact_positions : CmpEqualImpliesEq position_cmp
exact_positions p q e =
    let account = equal_parts (text_cmp p.account q.account) (ordering_then (text_cmp p.commodity q.commodity) (option_cmp lot_cmp p.lot q.lot)) e in
    let rest = equal_parts (text_cmp p.commodity q.commodity) (option_cmp lot_cmp p.lot q.lot) account.1 in
    λ i. record { account = exact_bytes p.account q.account account.0 i; commodity = exact_bytes p.commodity q.commodity rest.0 i; lot = exact_options lot_cmp exact_lots p.lot q.lot rest.1 i }

pub one_position : (p q : Position) → same_position p q ≡ true → p ≡ q
one_position p q e = exact_positions p q ((Equal-is (position_cmp p q)).0 e)

pub same_position-itself : (p : Position) → same_position p p ≡ true
same_position-itself p = ap is_eq (tied_itself positions_total p)

pub same_position-turned : (p q : Position) → same_position p q ≡ same_position q p
same_position-turned p q = (eq_by_cmp_equiv positions_total).symm p q
