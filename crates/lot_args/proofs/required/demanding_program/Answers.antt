use Rattle.std.proofs.lemmas.Result.{IfOk-weaker}
use Rattle.lot_args.proofs.RequiredLemmas.{whole_demanding}
use Rattle.lot_args.proofs.required.demanding_program.Goals as goal

pub returns : goal.returns
returns c =
    IfOk-weaker c.subcommand.result _ _
    (λ command adds.
    whole_demanding c.args.needed _ _ _ c.in_ok-bare_program.ensures c.in_ok-demanding_word.ensures adds) c.subcommand.ensures
