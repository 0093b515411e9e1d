use Rattle.std.proofs.Common.{◌∙◌, arith, refl, rules, subst, sym, take}
use Rattle.sqlite.proofs.StateLemmas.{survives_then}
use Rattle.sqlite.specs.Held.{state}
use Rattle.lot_table.proofs.MakeLemmas.{keeps_shown, keeps_then}
use Rattle.lot_table.specs.Book.{Turns, always}
use Rattle.lot_rows.proofs.StateLemmas.{survives_same}
use Rattle.lot_rows.specs.Tables.{layout}
use Rattle.lot_write.specs.Write.{written_all}
use Rattle.lot_write.proofs.CallLemmas.{failed_next, rowids_push, rowids_start, taken, turns_push}
use Rattle.lot_write.proofs.write.write_all.Goals as goal

pub returns-in_err-write_one-clause-writes : goal.returns-in_err-write_one-clause-writes
returns-in_err-write_one-clause-writes g c =
    let old = state g.S.Store c.args.tx.now.conn.now in
    let now = state g.S.Store c.each.tx.conn.now in
    let new = state g.S.Store c.write_one.new.tx.conn.now in
    let n = c.each.write-index in
    let write = c.write-item.result in
    let was = c.each.invariant in
    failed_next c.args.writes.now n write old now new c.in_err-write_one.field-0.0 c.from_residual.result
    (taken c.args.writes.now n write _ c.each-test.true c.write-item.is) c.each-test.true was.1
    (λ clean. let it = was.2 clean in (it.1, it.2, it.3)) c.in_err-write_one.ensures.writes (search rules)

pub each-init : goal.each-init
each-init g c =
    let old = state g.S.Store c.args.tx.now.conn.now in (
      refl,
      survives_same old (λ _. ⊥),
      λ clean. (
        c.requires clean,
        record { was_open = λ live. live; committed = λ _. refl },
        record { book = λ is. is; lists = λ is tables holds _. holds },
        rowids_start old,
      ),
    )

pub each-preserved : goal.each-preserved
each-preserved g c =
    let old = state g.S.Store c.args.tx.now.conn.now in
    let now = state g.S.Store c.each.tx.conn.now in
    let new = state g.S.Store c.write_one.new.tx.conn.now in
    let n = c.each.write-index in
    let write = c.write-item.result in
    let done = take n c.args.writes.now in
    let was = c.each.invariant in
    let made = c.in_ok-write_one.ensures.writes in (
      c.write_one.ensures.same_reference ∙ was.0,
      survives_then old now new (λ _. ⊥) (λ _. ⊥) (λ _. ⊥) (λ _ db none. none) (λ _ db none. none) was.1 made.crash,
      λ clean.
          let early = was.2 (omega (arith, made.crash.clean)) in
          let inside = made.inside clean in (
            inside.mode,
            keeps_then old now new early.1 (keeps_shown now new _ _ inside),
            subst (λ l. Turns layout always (written_all l) old new) (sym (taken c.args.writes.now n write _ c.each-test.true c.write-item.is)) (turns_push done write old now new early.2 (made.turns clean)),
            rowids_push n old now new (written_all done) early.2 early.3 (made.rowids clean),
          ),
    )
