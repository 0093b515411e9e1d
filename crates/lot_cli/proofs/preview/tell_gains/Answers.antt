-- The gains are told behind an answer, or why the entries weren't counted.
use Rattle.std.proofs.Common.{◌≡◌, inl, inr, true, false, ltb-true, refl}
use Rattle.std.specs.Prelude.{nat_lt}
use Rattle.lot_cli.proofs.PreviewLemmas.{met_none}
use Rattle.lot_cli.proofs.preview.tell_gains.Goals as goal

pub returns-in-Ok-clause-tells : goal.returns-in-Ok-clause-tells
returns-in-Ok-clause-tells g c = rw c.in-Ok.is c.tell_report.ensures.tells

pub returns-then-met_fault-clause-tells : goal.returns-then-met_fault-clause-tells
returns-then-met_fault-clause-tells g c =
    let met : nat_lt 1 c.args.answered.status ≡ true = cc (c.met_fault.ensures, c.if-met_fault.true) in
    rw c.in-Err.is (inl (record { fault = ltb-true 1 c.args.answered.status met; same = refl }))

pub returns-else-met_fault-clause-tells : goal.returns-else-met_fault-clause-tells
returns-else-met_fault-clause-tells g c =
    let none : nat_lt 1 c.args.answered.status ≡ false = cc (c.met_fault.ensures, c.if-met_fault.false) in
    rw c.in-Err.is
    (inr (record {
      going = met_none c.args.answered.status none;
      says = rw c.from.ensures at c.stopped.ensures.says;
      goes_on = refl;
      same = refl;
    }))
