-- The commands of the text are run on the book without entries, and what it holds then is written.
use Rattle.std.proofs.Common.{inr, subst}
use Rattle.sqlite.specs.Held.{state}
use Rattle.lot_store.specs.Run.{IsConditionAfter}
use Rattle.lot_store.specs.declared.run.Ending.{Ending}
use Rattle.lot_cli.proofs.CheckLemmas.{runs_check}
use Rattle.lot_cli.proofs.crumbs.check_on.Goals as goal

pub show_behind-requires : goal.show_behind-requires
show_behind-requires g c is =
    subst (λ (ending : Ending). IsConditionAfter c.run-end.ensures.runs.1.0 ending c.run-end.new.self.condition) is c.run-end.ensures.runs.1.3

pub returns-in-Ok-clause-checks : goal.returns-in-Ok-clause-checks
returns-in-Ok-clause-checks g c =
    inr (
      (c.in-Ok.field-0.numbers.items, c.in-Ok.field-0.commands.items),
      c.in-Ok.ensures.ok,
      runs_check c.args.rounding.now c.in-Ok.field-0.commands.items (state g.S.Store c.args.book.now.conn) (state g.S.Store c.run-end.new.self.conn)
          (state g.S.Store c.show_behind.new.book.conn) (g.W.CountedWrite.contents c.args.writer.now) (g.W.CountedWrite.contents c.run-end.new.writer)
          (g.W.CountedWrite.contents c.show_behind.new.writer) (g.W.CountedWrite.calls c.args.writer.now) (g.W.CountedWrite.calls c.run-end.new.writer)
          (g.W.CountedWrite.calls c.show_behind.new.writer) c.args.book.now.condition c.run-end.new.self.condition c.run-end.result c.show_behind.result
          c.requires.made c.requires.ready (rw c.deref.ensures.value at c.run-end.ensures.runs) c.run-end.ensures.usable c.run-end.ensures.output
          c.show_behind.ensures.behind c.show_behind.ensures.crash,
    )
