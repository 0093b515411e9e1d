use Rattle.std.proofs.Common.{refl}
use Rattle.std.specs.Fmt.{digits}
use Rattle.clap.proofs.OnLiterals.{clap_on_literals}
use Rattle.lot_base.specs.Name.{is_label}
use Rattle.lot_without.specs.Value.{named_number}
use Rattle.lot_args.proofs.laws.a_range_that_ends_before_it_begins_is_bad.Goals as goal

pub returns : goal.returns
unfolding clap_on_literals digits is_label named_number
returns c = record { taken = refl; bad = refl; says = refl }
