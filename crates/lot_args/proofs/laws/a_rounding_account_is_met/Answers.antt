use Rattle.std.proofs.Common.{refl}
use Rattle.clap.proofs.OnLiterals.{clap_on_literals}
use Rattle.lot_base.specs.Name.{is_account, is_component, is_root}
use Rattle.lot_args.proofs.laws.a_rounding_account_is_met.Goals as goal

pub returns : goal.returns
unfolding clap_on_literals is_account is_component is_root
returns c = record { taken = refl; good = refl; post = refl; check_taken = refl; check_good = refl; check = refl }
