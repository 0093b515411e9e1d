use Rattle.std.proofs.Common.{refl}
use Rattle.clap.proofs.OnLiterals.{clap_on_literals}
use Rattle.lot_args.proofs.laws.a_rounding_account_before_a_subcommand_is_misplaced.Goals as goal

pub returns : goal.returns
unfolding clap_on_literals
returns c = record { taken = refl; misplaced = refl }
