-- A word ends before ASCII, or at the end.
use Rattle.std.proofs.Common.{subst, sym, ap, ◌∙◌}
use Rattle.std.specs.Str.{IsCharBoundary}
use Rattle.lot_syntax.specs.Token.{is_word_byte}
use Rattle.lot_syntax.specs.Cutting.{run}
use Rattle.lot_syntax.proofs.Boundaries.{word_boundary}
use Rattle.lot_syntax.proofs.front.word_at.Goals as goal

pub split_at-requires : goal.split_at-requires
split_at-requires c =
    subst (IsCharBoundary c.args.text.now) (sym (c.word_len.ensures.value ∙ ap (run is_word_byte) c.as_bytes.ensures.value))
    (word_boundary c.args.text.now)
