use Rattle.std.proofs.Common.{refl}
use Rattle.clap.proofs.OnLiterals.{clap_on_literals}
use Rattle.lot_args.proofs.laws.options_without_a_value_are_met.Goals as goal

pub returns : goal.returns
unfolding clap_on_literals
returns c = record { dry = refl; dry_flags = refl; whole = refl; whole_flags = refl }
