-- A number is ASCII.
use Rattle.std.proofs.Common.{subst, sym, ap, ◌∙◌}
use Rattle.std.specs.Str.{IsCharBoundary}
use Rattle.lot_syntax.specs.Cutting.{number_len}
use Rattle.lot_syntax.proofs.Boundaries.{number_boundary}
use Rattle.lot_syntax.proofs.front.number_at.Goals as goal

pub split_at-requires : goal.split_at-requires
split_at-requires c =
    subst (IsCharBoundary c.args.text.now) (sym (c.number_len.ensures.value ∙ ap number_len c.as_bytes.ensures.value))
    (number_boundary c.args.text.now c.requires c.utf8.text)
