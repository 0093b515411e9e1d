use Rattle.std.proofs.Common.{arith, drop, ◌+◌}
use Rattle.sha2.specs.Hashers.{Holds256}
use Rattle.lot_report.proofs.EachLemmas.{first_left}
use Rattle.lot_book_report.proofs.HeardLemmas.{heard_more, heard_none}
use Rattle.lot_book_report.proofs.heard.add_texts.Goals as goal

pub loop-text-init : goal.loop-text-init
loop-text-init c = heard_none (λ t. t.now) (Holds256 c.args.hasher.now) (Holds256 c.args.hasher.now) (λ message was. was) c.args.texts.now

pub loop-text-preserved : goal.loop-text-preserved
loop-text-preserved c =
    let texts = c.args.texts.now in
    let at = c.loop-text.text-index in
    heard_more (λ t. t.now) (Holds256 c.args.hasher.now) (Holds256 c.loop-text.hasher) (Holds256 c.update.new.self) texts (drop at texts) (drop (at + 1) texts) _
    c.loop-text.invariant (first_left texts at _ (omega arith)) c.update.ensures
