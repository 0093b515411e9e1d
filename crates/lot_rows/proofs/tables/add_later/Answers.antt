use Rattle.std.proofs.Common.{refl}
use Rattle.lot_rows.proofs.MakeLemmas.{all_added, all_free, err_is, first_kept, later_creates, later_excused, later_free, later_steps, one_is_taken}
use Rattle.lot_table.proofs.BookLemmas.{on_ok}
use Rattle.lot_rows.proofs.tables.add_later.Goals as goal

pub returns-clause-made : goal.returns-clause-made
returns-clause-made g c clean =
    on_ok c.make_each.result _ _ (λ ran tables has. all_added g.S.Store c.args.tx.now.conn.now c.make_each.new.tx.conn.now ran tables has) (c.make_each.ensures.ran clean)

pub returns-clause-stored : goal.returns-clause-stored
returns-clause-stored g c clean =
    on_ok c.make_each.result _ _ (λ ran tables has. first_kept g.S.Store c.args.tx.now.conn.now c.make_each.new.tx.conn.now ran tables has) (c.make_each.ensures.ran clean)

pub returns-clause-free : goal.returns-clause-free
returns-clause-free g c clean =
    on_ok c.make_each.result _ _ (λ ran. all_free g.S.Store c.args.tx.now.conn.now c.make_each.new.tx.conn.now later_steps later_creates ran) (c.make_each.ensures.ran clean)

pub returns-clause-taken : goal.returns-clause-taken
returns-clause-taken g c clean is =
    let halts = err_is c.make_each.result _ _ (c.make_each.ensures.halted clean) is in
    one_is_taken g.S.Store c.args.tx.now.conn.now c.make_each.new.tx.conn.now later_steps later_creates _ halts refl

pub returns-clause-untaken : goal.returns-clause-untaken
returns-clause-untaken g c clean is =
    let halts = err_is c.make_each.result _ _ (c.make_each.ensures.halted clean) is in
    later_free g.S.Store c.args.tx.now.conn.now c.make_each.new.tx.conn.now _ halts refl

pub returns-clause-damaged : goal.returns-clause-damaged
returns-clause-damaged g c clean is first =
    let halts = err_is c.make_each.result _ _ (c.make_each.ensures.halted clean) is in
    (later_excused g.S.Store c.args.tx.now.conn.now c.make_each.new.tx.conn.now _ halts first).0 refl

pub returns-clause-device : goal.returns-clause-device
returns-clause-device g c clean is first =
    let halts = err_is c.make_each.result _ _ (c.make_each.ensures.halted clean) is in
    (later_excused g.S.Store c.args.tx.now.conn.now c.make_each.new.tx.conn.now _ halts first).1 refl
