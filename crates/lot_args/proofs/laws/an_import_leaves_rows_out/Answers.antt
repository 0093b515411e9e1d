use Rattle.std.proofs.Common.{refl}
use Rattle.clap.proofs.OnLiterals.{clap_on_literals}
use Rattle.lot_base.specs.Name.{is_account, is_component, is_label, is_root}
use Rattle.lot_args.proofs.laws.an_import_leaves_rows_out.Goals as goal

pub returns : goal.returns
unfolding clap_on_literals is_account is_component is_label is_root
returns c = record { taken = refl; good = refl; left_out = refl }
