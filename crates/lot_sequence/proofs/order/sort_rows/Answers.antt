-- The sort's test is the order of judging.
use Rattle.std.specs.Ordering.{is_lt}
use Rattle.std.proofs.Common.{rules}
use Rattle.std.proofs.lemmas.Fn.{always_returns_same}
use Rattle.lot_sequence.specs.Order.{row_cmp}
use Rattle.lot_sequence.proofs.OrderLemmas.{rows_rank}
use Rattle.lot_sequence.proofs.order.sort_rows.Goals as goal

pub returns-clause-sorted : goal.returns-clause-sorted
returns-clause-sorted c =
    c.sort_unstable_by.ensures.sorted (λ a b. is_lt (row_cmp c.args.orders.now a b)) (rows_rank c.args.orders.now)
    (always_returns_same _ _ _ (λ a r f' called. (search rules, search rules)))
