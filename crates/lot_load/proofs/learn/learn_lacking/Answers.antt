-- What was lacking is learned, so it is known whole with the rest.
use Rattle.std.specs.Prelude.{List}
use Rattle.std.proofs.Common.{subst}
use Rattle.lot_book.specs.declared.change.Pair.{Pair}
use Rattle.lot_load.specs.Kept.{Covers, Keeps}
use Rattle.lot_load.specs.Paired.{HaveAllPaired}
use Rattle.lot_load.specs.declared.kept.Kept.{Kept}
use Rattle.lot_load.proofs.KeptLemmas.{covers_learned}
use Rattle.lot_load.proofs.PairedLemmas.{pairs_added, pairs_touched}
use Rattle.lot_load.proofs.ReadLemmas.{reads_first, tells}
use Rattle.lot_load.proofs.learn.learn_lacking.Goals as goal

pub returns-clause-tells : goal.returns-clause-tells
returns-clause-tells g c =
    let old = g.D.Queryable.shown c.args.conn.now in
    let new = g.D.Queryable.shown c.learn_touched.new.conn in
    let touched = c.args.touched in
    let before : Kept = c.args.kept.now in
    let after : Kept = record { view = c.learn_touched.new.view; whole = c.add.new.whole } in
    let lacks = c.lacking-lacking.ensures in
    let gains = c.in_ok-add.ensures in
    tells (λ answer entries. Keeps before entries → Covers touched entries before after) old new tt
    (reads_first _ _ _ (λ entries. Keeps before entries → Covers touched entries before after) old new c.in_ok-learn_touched.field-0
    c.in_ok-learn_touched.ensures.teaches
    (λ tables entries book stand good is.
    covers_learned before after touched c.lacking-lacking.result entries
    (record { accounts = lacks.accounts; declared = lacks.declared; pairs = lacks.pairs; plain = lacks.plain })
    (record { accounts = gains.accounts; declared = gains.declared; pairs = gains.pairs; plain = gains.plain })
    (is entries book stand)))

pub returns-clause-paired : goal.returns-clause-paired
returns-clause-paired g c clean tables has =
    pairs_touched c.args.kept.now tables c.args.touched.pairs
    (subst (λ (pairs : List Pair). HaveAllPaired pairs tables) c.lacking-lacking.ensures.pairs
    (c.in_ok-learn_touched.ensures.paired clean tables has))

pub returns-clause-whole : goal.returns-clause-whole
returns-clause-whole g c clean tables has =
    pairs_added c.args.kept.now tables c.add.new.whole.pairs c.lacking-lacking.result.pairs.keys c.in_ok-add.ensures.pairs
    (c.in_ok-learn_touched.ensures.paired clean tables has)
