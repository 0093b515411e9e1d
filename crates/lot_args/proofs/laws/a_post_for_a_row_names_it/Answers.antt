use Rattle.std.proofs.Common.{refl}
use Rattle.clap.proofs.OnLiterals.{clap_on_literals}
use Rattle.lot_base.specs.Name.{is_label}
use Rattle.lot_args.proofs.laws.a_post_for_a_row_names_it.Goals as goal

pub returns : goal.returns
unfolding clap_on_literals is_label
returns c = record { taken = refl; good = refl; row = refl }
