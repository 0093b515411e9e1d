use Rattle.std.proofs.Common.{refl}
use Rattle.clap.proofs.OnLiterals.{clap_on_literals}
use Rattle.lot_args.proofs.laws.an_import_that_lacks_an_option_is_known.Goals as goal

pub returns : goal.returns
unfolding clap_on_literals
returns c = record { taken = refl; accounts = refl; says = refl; book_taken = refl; book = refl; book_says = refl }
