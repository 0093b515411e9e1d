-- A date is ASCII.
use Rattle.std.proofs.Common.{sym, ap, ◌∙◌}
use Rattle.lot_syntax.specs.Cutting.{date_len}
use Rattle.lot_syntax.proofs.Boundaries.{date_boundary}
use Rattle.lot_syntax.proofs.front.date_or_number.Goals as goal

pub split_at-requires : goal.split_at-requires
split_at-requires c =
    date_boundary c.args.text.now c.in-Some.len (sym (c.in-Some.ensures.value ∙ ap date_len c.as_bytes.ensures.value)) c.utf8.text
