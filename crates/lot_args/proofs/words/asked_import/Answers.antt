-- Each reference that is left out is a label.
use Rattle.clap.specs.Words.{found_of, rows_of}
use Rattle.lot_args.proofs.ValueLemmas.{good_except}
use Rattle.lot_args.proofs.words.asked_import.Goals as goal

pub except-requires : goal.except-requires
except-requires c = good_except (rows_of (found_of c.args.options.now)) c.requires.good
