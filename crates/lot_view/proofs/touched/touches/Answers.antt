-- By the kind of the command.
use Rattle.std.specs.BTreeSet.{BTreeSet, IsFromIterResult}
use Rattle.std.proofs.Common.{List, [], ℕ, subst, sym}
use Rattle.std.proofs.lemmas.Cmp.{nat_list_cmp_total}
use Rattle.lot_base.specs.Text.{text_cmp}
use Rattle.lot_command.specs.declared.command.Command.{Command}
use Rattle.lot_command.specs.declared.command.Command.TheVariants.{Opening, Closing, Declaring, Quoting, Transaction}
use Rattle.lot_command.specs.declared.transaction.Posting.{Posting}
use Rattle.lot_command.specs.declared.transaction.Transaction.{Transaction as TransactionOf}
use Rattle.lot_view.specs.declared.touched.Touched.{Touched}
use Rattle.lot_book.specs.Touched.{accounts_of, elided_of, pairs_of}
use Rattle.lot_view.proofs.TouchedLemmas.{AreTouched, adds_first, touched_at}
use Rattle.lot_view.proofs.touched.touches.Goals as goal
use Rattle.lot_view.proofs.touched.touches.Goals.{in-Opening+in_ok-copy-in-Opening+in_ok-insert-in-Opening, in-Closing+in_ok-copy-in-Closing+in_ok-insert-in-Closing, in-Declaring+in_ok-copy-in-Declaring+in_ok-insert-in-Declaring, in-Quoting, in-Transaction+in_ok-add_all-in-Transaction}
use Rattle.lot_book.specs.Change.{pair_cmp}

pub returns : goal.returns
returns c =
    let command : Command = c.args.command.now in
    let none : Touched = c.new-touched.result in
    let empty = c.new-touched.ensures in
    let all : Touched = c.match-command.touched in
    let parts : AreTouched command all = elim c.match-command.branch [
      | in-Opening+in_ok-copy-in-Opening+in_ok-insert-in-Opening w ↦
          touched_at command (Opening w.in-Opening.opening) all
          (record { accounts = w.insert.new.self; declared = none.declared; pairs = none.pairs; plain = none.plain }) w.in-Opening.is w.touched-is
          (record {
            accounts = adds_first text_cmp nat_list_cmp_total none.accounts w.insert.new.self w.in_ok-copy-in-Opening.field-0 w.in-Opening.opening.account
                w.in_ok-copy-in-Opening.ensures w.in_ok-insert-in-Opening.ensures.updates w.in_ok-insert-in-Opening.ensures.ordered empty.accounts;
            declared = empty.declared;
            pairs = empty.pairs;
            plain = empty.plain;
          })
      | in-Closing+in_ok-copy-in-Closing+in_ok-insert-in-Closing w ↦
          touched_at command (Closing w.in-Closing.closing) all
          (record { accounts = w.insert-in-Closing.new.self; declared = none.declared; pairs = none.pairs; plain = none.plain }) w.in-Closing.is w.touched-is
          (record {
            accounts = adds_first text_cmp nat_list_cmp_total none.accounts w.insert-in-Closing.new.self w.in_ok-copy-in-Closing.field-0 w.in-Closing.closing.account
                w.in_ok-copy-in-Closing.ensures w.in_ok-insert-in-Closing.ensures.updates w.in_ok-insert-in-Closing.ensures.ordered empty.accounts;
            declared = empty.declared;
            pairs = empty.pairs;
            plain = empty.plain;
          })
      | in-Declaring+in_ok-copy-in-Declaring+in_ok-insert-in-Declaring w ↦
          touched_at command (Declaring w.in-Declaring.declaring) all
          (record { accounts = none.accounts; declared = w.insert-in-Declaring.new.self; pairs = none.pairs; plain = none.plain }) w.in-Declaring.is w.touched-is
          (record {
            accounts = empty.accounts;
            declared = adds_first text_cmp nat_list_cmp_total none.declared w.insert-in-Declaring.new.self w.in_ok-copy-in-Declaring.field-0 w.in-Declaring.declaring.commodity
                w.in_ok-copy-in-Declaring.ensures w.in_ok-insert-in-Declaring.ensures.updates w.in_ok-insert-in-Declaring.ensures.ordered empty.declared;
            pairs = empty.pairs;
            plain = empty.plain;
          })
      | in-Quoting w ↦
          touched_at command (Quoting w.in-Quoting.field-0) all none w.in-Quoting.is w.touched-is
          (record { accounts = empty.accounts; declared = empty.declared; pairs = empty.pairs; plain = empty.plain })
      | in-Transaction+in_ok-add_all-in-Transaction w ↦
          let t : TransactionOf = w.in-Transaction.transaction in
          let added : Touched = w.add_all.new.self in
          let adds = w.in_ok-add_all-in-Transaction.ensures in
          touched_at command (Transaction t) all added w.in-Transaction.is w.touched-is
          (record {
            accounts = subst (λ (ps : List Posting). IsFromIterResult text_cmp (accounts_of ps) added.accounts)
                w.as_slice.ensures (adds.accounts [] empty.accounts);
            declared = subst (λ (s : BTreeSet (List ℕ)). IsFromIterResult text_cmp [] s) (sym adds.declared) empty.declared;
            pairs = subst (λ (ps : List Posting). IsFromIterResult pair_cmp (pairs_of ps) added.pairs)
                w.as_slice.ensures (adds.pairs [] empty.pairs);
            plain = subst (λ (ps : List Posting). IsFromIterResult text_cmp (elided_of ps) added.plain)
                w.as_slice.ensures (adds.plain [] empty.plain);
          })
    ] in record { accounts = parts.accounts; declared = parts.declared; pairs = parts.pairs; plain = parts.plain }
