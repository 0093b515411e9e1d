-- The text above the first heading says no command; and why it isn't read.
use Rattle.std.proofs.Common.{refl, sym, subst}
use Rattle.std.proofs.lemmas.Result.{err_from_is_err_and}
use Rattle.lot_read.specs.Text.{Reads}
use Rattle.lot_parts.specs.Commands.{FaultAbove, IsFaultIn}
use Rattle.lot_parts.proofs.CommandLemmas.{commands_above, empty_list, fault_above, none_read, some_list}
use Rattle.lot_parts.proofs.commands.DumpCommands.begin.Goals as goal

pub returns-in_err-commands-clause-fault : goal.returns-in_err-commands-clause-fault
returns-in_err-commands-clause-fault g c =
    let fault = err_from_is_err_and c.from_residual-in_err-commands.result c.from_residual-in_err-commands.ensures.1 in
    rw (fault.1, fault.2)
    (fault_above (g.R.CountedRead.remaining c.args.reader.now) (g.R.CountedRead.remaining c.begin.new.reader) c.in_ok-head.head
    c.begin.new.above.items c.in_ok-head.dump c.in_ok-head.ensures.begins c.in_err-commands.field-0.0
    (subst (λ t. IsFaultIn 1 t c.in_err-commands.field-0.0) c.deref.ensures.value c.in_err-commands.ensures.fault))

pub returns-then-is_empty-clause-begins : goal.returns-then-is_empty-clause-begins
returns-then-is_empty-clause-begins g c = (
  c.begin.new.above.items,
  none_read (g.R.CountedRead.remaining c.args.reader.now) (g.R.CountedRead.remaining c.begin.new.reader) c.in_ok-head.head
      c.begin.new.above.items c.in_ok-head.dump c.in_ok-head.ensures.begins
      (subst (Reads c.begin.new.above.items) (empty_list c.in_ok-commands.commands.items c.in_ok-commands.commands.len (sym c.in_ok-commands.commands.ok.0) (sym c.if-is_empty.ensures))
      (subst (λ t. Reads t c.in_ok-commands.commands.items) c.deref.ensures.value c.in_ok-commands.ensures.commands)),
)

pub returns-else-is_empty-clause-fault : goal.returns-else-is_empty-clause-fault
returns-else-is_empty-clause-fault g c =
    subst (FaultAbove (g.R.CountedRead.remaining c.args.reader.now)) (sym c.no_dump_at.ensures)
    (commands_above (g.R.CountedRead.remaining c.args.reader.now) (g.R.CountedRead.remaining c.begin.new.reader) c.in_ok-head.head
    c.begin.new.above.items c.in_ok-head.dump c.in_ok-head.ensures.begins 1 c.in_ok-commands.commands.items refl
    (subst (λ t. Reads t c.in_ok-commands.commands.items) c.deref.ensures.value c.in_ok-commands.ensures.commands)
    (some_list c.in_ok-commands.commands.items c.in_ok-commands.commands.len (sym c.in_ok-commands.commands.ok.0) (sym c.if-is_empty.ensures)))
