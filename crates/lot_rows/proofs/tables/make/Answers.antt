use Rattle.std.proofs.Common.{refl}
use Rattle.lot_rows.proofs.MakeLemmas.{all_free, all_made, each_creates, err_is, excused_as, one_is_taken, steps}
use Rattle.lot_table.proofs.BookLemmas.{on_ok}
use Rattle.lot_rows.proofs.tables.make.Goals as goal

pub returns-clause-made : goal.returns-clause-made
returns-clause-made g c clean =
    on_ok c.make_each.result _ _ (λ ran none sound. all_made g.S.Store c.args.tx.now.conn.now c.make_each.new.tx.conn.now ran none sound) (c.make_each.ensures.ran clean)

pub returns-clause-free : goal.returns-clause-free
returns-clause-free g c clean =
    on_ok c.make_each.result _ _ (λ ran. all_free g.S.Store c.args.tx.now.conn.now c.make_each.new.tx.conn.now steps each_creates ran) (c.make_each.ensures.ran clean)

pub returns-clause-taken : goal.returns-clause-taken
returns-clause-taken g c clean is =
    let halts = err_is c.make_each.result _ _ (c.make_each.ensures.halted clean) is in
    one_is_taken g.S.Store c.args.tx.now.conn.now c.make_each.new.tx.conn.now steps each_creates _ halts refl

pub returns-clause-damaged : goal.returns-clause-damaged
returns-clause-damaged g c clean is none =
    let halts = err_is c.make_each.result _ _ (c.make_each.ensures.halted clean) is in
    (excused_as g.S.Store c.args.tx.now.conn.now c.make_each.new.tx.conn.now _ halts none).0 refl

pub returns-clause-device : goal.returns-clause-device
returns-clause-device g c clean is none =
    let halts = err_is c.make_each.result _ _ (c.make_each.ensures.halted clean) is in
    (excused_as g.S.Store c.args.tx.now.conn.now c.make_each.new.tx.conn.now _ halts none).1 refl
