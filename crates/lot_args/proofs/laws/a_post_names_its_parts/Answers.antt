use Rattle.std.proofs.Common.{refl}
use Rattle.clap.proofs.OnLiterals.{clap_on_literals}
use Rattle.lot_args.proofs.laws.a_post_names_its_parts.Goals as goal

pub returns : goal.returns
unfolding clap_on_literals
returns c = record { taken = refl; parts = refl; flags = refl }
