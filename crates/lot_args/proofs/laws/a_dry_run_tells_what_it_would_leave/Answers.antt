use Rattle.std.proofs.Common.{refl}
use Rattle.clap.proofs.OnLiterals.{clap_on_literals}
use Rattle.lot_args.proofs.laws.a_dry_run_tells_what_it_would_leave.Goals as goal

pub returns : goal.returns
unfolding clap_on_literals
returns c = record {
  taken = refl;
  good = refl;
  says = refl;
  import_taken = refl;
  import_good = refl;
  import_says = refl;
  kept_taken = refl;
  bad = refl;
}
