-- The options so far are added.
use Rattle.std.proofs.Common.{◌≡◌, drop, map}
use Rattle.clap.specs.Words.{app_of}
use Rattle.lot_args.specs.Program.{with_rules, word_app}
use Rattle.lot_args.specs.Table.{demanding_rule_for}
use Rattle.lot_args.proofs.required.demanding_word.Given as goal

abbrev pub invariant-loop-given : goal.invariant-loop-given
invariant-loop-given l =
    with_rules (app_of l.command) (map (demanding_rule_for l.needed) (drop l.given-index l.options))
    ≡ word_app l.name (map (demanding_rule_for l.needed) l.options)
