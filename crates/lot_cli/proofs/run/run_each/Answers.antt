-- Numbers that follow one another are one run of the book; else each stretch is one.
use Rattle.std.proofs.Common.{◌≢◌, ◌<◌, ◌+◌, arith, get_or, length, subst}
use Rattle.std.specs.Option.{option_copied}
use Rattle.sqlite.specs.Held.{state}
use Rattle.lot_cli.proofs.NumberLemmas.{all_fit, all_follow, apart}
use Rattle.lot_cli.proofs.StretchLemmas.{one_run}
use Rattle.lot_cli.proofs.run.run_each.Goals as goal

pub run-requires : goal.run-requires
run-requires g c =
    let follow = all_follow c.args.numbers.now c.first_number-from.result c.in_a_row.result c.if-in_a_row-numbers.true c.in_a_row.ensures.follow in
    let fits = all_fit c.args.numbers.now c.first_number-from.result c.requires.next (omega (arith, c.first_number-from.type_inv)) follow in
    omega (arith, fits, c.requires.as_many)

pub returns-then-in_a_row-numbers : goal.returns-then-in_a_row-numbers
returns-then-in_a_row-numbers g c = record {
  runs = (
    c.run.result,
    one_run (option_copied c.args.rounding) c.args.numbers.now c.args.commands.now c.first_number-from.result c.requires.as_many c.first_number-from.ensures
        (all_follow c.args.numbers.now c.first_number-from.result c.in_a_row.result c.if-in_a_row-numbers.true c.in_a_row.ensures.follow)
        (state g.S.Store c.args.book.now.conn) (state g.S.Store c.run.new.self.conn) _ _ _ c.args.book.now.condition c.run.new.self.condition c.run.result
        c.requires.ready c.run.ensures.runs c.run.ensures.usable c.run.ensures.output,
    c.status_of_run.ensures,
  );
}

pub run_stretches-requires-clause-apart : goal.run_stretches-requires-clause-apart
run_stretches-requires-clause-apart g c =
    let within : c.in_a_row.result < length c.args.numbers.now = omega (arith, c.in_a_row.ensures.within, c.if-in_a_row-numbers.false) in
    apart c.args.numbers.now c.in_a_row.result within
    (subst (λ from. get_or c.args.numbers.now c.in_a_row.result 0 ≢ from + c.in_a_row.result) c.first_number-from.ensures (c.in_a_row.ensures.stops within))
