-- The next command is read, or the end; and why it isn't.
use Rattle.std.proofs.Common.{subst}
use Rattle.std.specs.Io.KnownBytes.{prepend_known}
use Rattle.std.proofs.lemmas.Result.{err_from_is_err_and}
use Rattle.lot_parts.specs.Commands.{IsFaultBelow, Says}
use Rattle.lot_parts.specs.Reading.{part_of}
use Rattle.lot_parts.proofs.CommandLemmas.{fault_next, one_more_read, whole_read}
use Rattle.lot_parts.proofs.commands.DumpCommands.next.Goals as goal

pub returns-in_err-dumped-in-Entry-clause-fault : goal.returns-in_err-dumped-in-Entry-clause-fault
returns-in_err-dumped-in-Entry-clause-fault g c =
    let fault = err_from_is_err_and c.from_residual-in_err-dumped-in-Entry.result c.from_residual-in_err-dumped-in-Entry.ensures.1 in
    rw (fault.1, fault.2)
    (fault_next (prepend_known c.args.self.now.dump.ahead (g.R.CountedRead.remaining c.args.reader.now))
    (g.R.CountedRead.remaining c.next.new.reader) c.args.self.now.dump c.next.new.self.ahead c.in-Entry.heading
    c.next.new.text.items (rw c.in-Entry.is at c.in_ok-heading.ensures.says).0 (rw c.in-Entry.is at c.in_ok-heading.ensures.bytes)
    (rw c.in-Entry.is at c.in_ok-heading.ensures.says).2 c.line-at.result c.in_err-dumped-in-Entry.field-0.0 c.line-at.ensures (subst (λ t. IsFaultBelow c.line-at.result t c.in_err-dumped-in-Entry.field-0.0) c.deref.ensures.value c.in_err-dumped-in-Entry.ensures.fault))

pub returns-in_ok-dumped-in-Entry-clause-goes_on :
    goal.returns-in_ok-dumped-in-Entry-clause-goes_on
returns-in_ok-dumped-in-Entry-clause-goes_on g c start front before to =
    one_more_read start (g.R.CountedRead.remaining c.args.reader.now) (g.R.CountedRead.remaining c.next.new.reader) c.args.self.now.dump c.next.new.self
    front before to c.in-Entry.heading c.next.new.text.items c.in_ok-dumped-in-Entry.dumped (rw c.in-Entry.is at c.in_ok-heading.ensures.bytes)
    (rw c.in-Entry.is at c.in_ok-heading.ensures.says)
    (subst (λ t. Says (part_of c.in-Entry.heading t) c.in_ok-dumped-in-Entry.dumped) c.deref.ensures.value c.in_ok-dumped-in-Entry.ensures.says)

pub returns-in-End-clause-goes_on : goal.returns-in-End-clause-goes_on
returns-in-End-clause-goes_on g c start front before to =
    whole_read start (g.R.CountedRead.remaining c.args.reader.now) (g.R.CountedRead.remaining c.next.new.reader) c.args.self.now.dump c.next.new.self
    front before to c.in-End.sum c.next.new.text.items (rw c.in-End.is at c.in_ok-heading.ensures.bytes) (rw c.in-End.is at c.in_ok-heading.ensures.says)
