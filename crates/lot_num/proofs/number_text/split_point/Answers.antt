-- The point is one byte of ASCII.
use Rattle.std.proofs.Common.{arith}
use Rattle.lot_num.proofs.GrammarLemmas.{before_point, behind_point}
use Rattle.lot_num.proofs.number_text.split_point.Goals as goal

pub split_at-requires : goal.split_at-requires
split_at-requires c = before_point c.args.text.now c.point_or_end-point.result c.point_or_end-point.ensures.value (omega arith)

pub split_at-requires-2 : goal.split_at-requires-2
split_at-requires-2 c =
    behind_point c.args.text.now c.point_or_end-point.result c.utf8.text c.point_or_end-point.ensures.value (omega arith)
