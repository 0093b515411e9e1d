-- By the beginning of the text.
use Rattle.std.proofs.Common.{Some, ap, sym, ◌∙◌}
use Rattle.std.specs.Prelude.{option_map}
use Rattle.lot_field.specs.Field.{without_leading}
use Rattle.lot_field.proofs.TestLemmas.{prefix-none, prefix-some}
use Rattle.lot_field.proofs.tests.argument.Goals as goal

pub returns-in_err-strip_prefix : goal.returns-in_err-strip_prefix
returns-in_err-strip_prefix c =
    rw c.from_residual.ensures
    (ap (option_map without_leading) (prefix-none c.args.word.now c.args.text.now c.in_err-strip_prefix.ensures.cases))

pub returns : goal.returns
returns c =
    ap (option_map without_leading) (prefix-some c.args.word.now c.args.text.now c.in_ok-strip_prefix.field-0.now c.in_ok-strip_prefix.ensures.cases)
    ∙ ap Some (sym c.past_blanks.ensures)
