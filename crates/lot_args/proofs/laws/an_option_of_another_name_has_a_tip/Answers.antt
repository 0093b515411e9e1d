use Rattle.std.proofs.Common.{refl}
use Rattle.clap.proofs.OnLiterals.{clap_on_literals}
use Rattle.lot_args.proofs.laws.an_option_of_another_name_has_a_tip.Goals as goal

pub returns : goal.returns
unfolding clap_on_literals
returns c = record { page = refl; last = refl; post = refl; gains = refl }
