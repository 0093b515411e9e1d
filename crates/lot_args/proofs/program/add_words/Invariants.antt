-- The subcommands so far are added.
use Rattle.std.proofs.Common.{◌≡◌, drop, map}
use Rattle.clap.specs.Words.{app_of}
use Rattle.lot_args.specs.Program.{with_words}
use Rattle.lot_args.specs.Table.{app_for}
use Rattle.lot_args.proofs.program.add_words.Given as goal

abbrev pub invariant-loop-word : goal.invariant-loop-word
invariant-loop-word l =
    with_words (app_of l.program) (map app_for (drop l.word-index l.words)) ≡ with_words (app_of l.initial.program) (map app_for l.words)
