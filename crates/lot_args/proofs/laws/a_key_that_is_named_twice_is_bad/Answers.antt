use Rattle.std.proofs.Common.{refl}
use Rattle.clap.proofs.OnLiterals.{clap_on_literals}
use Rattle.lot_args.proofs.laws.a_key_that_is_named_twice_is_bad.Goals as goal

pub returns : goal.returns
unfolding clap_on_literals
returns c = record { taken = refl; bad = refl }
