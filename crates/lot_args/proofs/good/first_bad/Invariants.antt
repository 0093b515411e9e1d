-- None of the options so far is bad.
use Rattle.std.proofs.Common.{◌≡◌, drop}
use Rattle.clap.specs.Words.{found_of, rows_of}
use Rattle.lot_args.specs.Options.{first_bad}
use Rattle.lot_args.proofs.good.first_bad.Given as goal

abbrev pub invariant-loop-option : goal.invariant-loop-option
invariant-loop-option l =
    first_bad (rows_of (found_of l.options)) l.all ≡ first_bad (rows_of (found_of l.options)) (drop l.option-index l.all)
