use Rattle.std.proofs.Common.{Some, inl, inr}
use Rattle.std.specs.Io.Buffered.{writer_contents}
use Rattle.lot_io.specs.Writer.{calls_of, writer_of}
use Rattle.lot_cli.specs.Says.{told}
use Rattle.lot_cli.specs.declared.halt.Halt.TheVariants as halt
use Rattle.lotbook.proofs.EndLemmas.{halts_from_none}
use Rattle.lotbook.proofs.comparison.write_refusal.Goals as goal

pub returns-clause-reported : goal.returns-clause-reported
returns-clause-reported g c = record {
  line = writer_contents g.W.Write.contents (writer_of c.say_halt-status.new.writer).buffer;
  wrote = calls_of c.say_halt-status.new.writer;
  says = halts_from_none c.args.fault _ _ (calls_of c.new-writer.result) (calls_of c.say_halt-status.new.writer)
      (told c.say_halt-status.result (Some (halt.Adopt c.args.fault))) c.new-writer.ensures.calls (rw c.new-writer.ensures.writer at c.say_halt-status.ensures.says);
  handed_on = rw c.into_writer.ensures at c.end.ensures.whole;
}

pub returns-clause-stops : goal.returns-clause-stops
returns-clause-stops g c = elim (c.say_halt-status.ensures.says.0) [ inl said ↦ said.0 | inr cut ↦ cut.0 ]
