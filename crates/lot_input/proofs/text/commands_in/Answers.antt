use Rattle.std.proofs.Common.{◌∙◌, length, ap}
use Rattle.std.proofs.lemmas.List.FromFn.{length-range_with_len}
use Rattle.lot_input.proofs.text.commands_in.Goals as goal

pub returns-clause-as_many : goal.returns-clause-as_many
returns-clause-as_many c =
    ap length c.in_ok-keyed.ensures.numbers ∙ length-range_with_len c.args.from (length c.in_ok-keyed.field-0.commands.items)
