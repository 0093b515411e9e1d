-- Blanks are ASCII.
use Rattle.std.proofs.Common.{subst, sym, ap, ◌∙◌}
use Rattle.std.specs.Str.{IsCharBoundary}
use Rattle.lot_syntax.specs.Token.{is_blank}
use Rattle.lot_syntax.specs.Cutting.{run}
use Rattle.lot_syntax.proofs.Boundaries.{blanks_boundary}
use Rattle.lot_syntax.proofs.front.next_token.Goals as goal

pub split_at-requires : goal.split_at-requires
split_at-requires c =
    subst (IsCharBoundary c.args.line.now) (sym (c.blanks_len.ensures.value ∙ ap (run is_blank) c.as_bytes.ensures.value))
    (blanks_boundary c.args.line.now c.utf8.line)
