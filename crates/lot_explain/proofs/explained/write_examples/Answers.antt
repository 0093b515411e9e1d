use Rattle.std.proofs.Common.{rules, ◌≡◌}
use Rattle.lot_explain.specs.declared.codes.Examples.TheVariants.{Calls}
use Rattle.lot_explain.proofs.explained.write_examples.Goals as goal

pub returns-in-Calls : goal.returns-in-Calls
returns-in-Calls g c =
    let is : c.args.examples.now ≡ Calls c.in-Calls.refused c.in-Calls.accepted = search rules in
    rw is c.write_both-in-Calls.ensures
