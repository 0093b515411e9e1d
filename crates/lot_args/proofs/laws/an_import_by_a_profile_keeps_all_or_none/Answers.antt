use Rattle.std.proofs.Common.{refl}
use Rattle.clap.proofs.OnLiterals.{clap_on_literals}
use Rattle.lot_base.specs.Name.{is_label}
use Rattle.lot_args.proofs.laws.an_import_by_a_profile_keeps_all_or_none.Goals as goal

pub returns : goal.returns
unfolding clap_on_literals is_label
returns c = record { taken = refl; whole = refl; good = refl; says = refl; each_taken = refl; each_good = refl; each = refl }
