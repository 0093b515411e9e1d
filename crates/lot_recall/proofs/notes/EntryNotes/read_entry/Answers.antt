use Rattle.std.specs.Prelude.{◌≡◌, find, is_some, option_copied, true}
use Rattle.std.proofs.Common.{◌∙◌, ap, rules, sym}
use Rattle.std.proofs.lemmas.Result.{err_from_is_err_and}
use Rattle.sqlite.specs.Held.{state}
use Rattle.lot_recall.specs.Recall.{is_entry_at}
use Rattle.lot_recall.proofs.EntryLemmas.{entry_kept, entry_never, entry_read, entry_unread}
use Rattle.lot_recall.proofs.LookLemmas.{copied_some}
use Rattle.lot_recall.proofs.notes.EntryNotes.read_entry.Goals as goal

pub returns-then-is_some : goal.returns-then-is_some
returns-then-is_some g c =
    let kept = c.args.self.now.rows.items in
    let there : is_some c.at.result ≡ true = search rules in
    let some : is_some (find (is_entry_at c.args.number) kept) ≡ true = ap is_some (sym c.at.ensures) ∙ copied_some c.at.result ∙ there in
    record { looks = entry_kept c.args.number kept (state g.S.Store c.args.conn.now) some }

pub returns-in_default : goal.returns-in_default
returns-in_default g c = record { looks = entry_never c.args.number c.args.self.now.rows.items (state g.S.Store c.args.conn.now) c.in_default.ensures }

pub returns-in_err-self : goal.returns-in_err-self
returns-in_err-self g c =
    let fault = err_from_is_err_and c.from_residual.result c.from_residual.ensures.1 in
    record {
      looks = rw (fault.1, fault.2)
          (entry_unread c.args.number c.args.self.now.rows.items (state g.S.Store c.args.conn.now) (state g.S.Store c.entries_from.new.conn) c.in_err-self.field-0.0
          (rw (c.in-Some.ensures.1) at c.in_err-self.ensures.reads));
    }

pub returns : goal.returns
returns g c = record {
  looks =
      entry_read c.args.number c.args.self.now.rows.items c.in_ok-self.field-0 (state g.S.Store c.args.conn.now) (state g.S.Store c.entries_from.new.conn)
      (rw (c.in-Some.ensures.1) at c.in_ok-self.ensures.reads);
}
