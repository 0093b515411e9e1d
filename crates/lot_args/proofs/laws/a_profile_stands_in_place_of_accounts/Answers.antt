use Rattle.std.proofs.Common.{refl}
use Rattle.clap.proofs.OnLiterals.{clap_on_literals}
use Rattle.lot_base.specs.Name.{is_account, is_component, is_root}
use Rattle.lot_args.proofs.laws.a_profile_stands_in_place_of_accounts.Goals as goal

pub returns : goal.returns
unfolding clap_on_literals is_account is_component is_root
returns c = record { taken = refl; account = refl; start_taken = refl; start = refl }
