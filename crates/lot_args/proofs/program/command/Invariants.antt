-- The options so far are added.
use Rattle.std.proofs.Common.{◌≡◌, drop, map}
use Rattle.clap.specs.Words.{app_of}
use Rattle.lot_args.specs.Program.{with_rules}
use Rattle.lot_args.specs.Table.{app_for, rule_for}
use Rattle.lot_args.proofs.program.command.Given as goal

abbrev pub invariant-loop-given : goal.invariant-loop-given
invariant-loop-given l = with_rules (app_of l.command) (map rule_for (drop l.given-index l.word.options.now)) ≡ app_for l.word
