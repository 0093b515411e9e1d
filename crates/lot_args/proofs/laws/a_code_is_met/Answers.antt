use Rattle.std.proofs.Common.{refl}
use Rattle.clap.proofs.OnLiterals.{clap_on_literals}
use Rattle.lot_args.proofs.laws.a_code_is_met.Goals as goal

pub returns : goal.returns
unfolding clap_on_literals
returns c = record { taken = refl; code = refl }
