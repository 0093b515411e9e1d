use Rattle.std.proofs.Common.{refl}
use Rattle.clap.proofs.OnLiterals.{clap_on_literals}
use Rattle.lot_args.proofs.laws.an_import_is_shown_without_a_book.Goals as goal

pub returns : goal.returns
unfolding clap_on_literals
returns c = record { taken = refl; whole = refl; good = refl; says = refl; book_taken = refl; bad = refl }
