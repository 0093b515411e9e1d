use Rattle.std.proofs.Common.{◌≤◌, List, Result, arith, inr, length, subst, subst₂}
use Rattle.lot_book.specs.declared.verdict.Verdict.{Verdict}
use Rattle.lot_report.specs.declared.line.PrintFault.{PrintFault}
use Rattle.lot_atomic.specs.Replies.{RepliesAll, RepliesCut, WritesEachReply, replied_to}
use Rattle.lot_atomic.proofs.RepliesLemmas.{ends_cut, then_last}
use Rattle.lot_atomic.proofs.replies.write_replies.Goals as goal

pub returns-in-Ok-clause-writes : goal.returns-in-Ok-clause-writes
returns-in-Ok-clause-writes g c =
    let told = replied_to (length c.args.numbers.now) c.args.applied.now.ended c.args.applied.now.verdicts.items in
    let replied = c.write_each-so_far.result.replied in
    let refused = c.write_each-so_far.result.refused in
    let old = g.W.CountedWrite.contents c.args.writer.now in
    let mid = g.W.CountedWrite.contents c.write_each-so_far.new.writer in
    let all : RepliesAll c.args.numbers.now told replied refused old mid =
    subst₂ (λ (vs : List Verdict) (printed : Result (Unit {0}) PrintFault). WritesEachReply c.args.numbers.now vs old mid replied refused printed)
    c.replied_to-verdicts.ensures.is c.in-Ok.is c.write_each-so_far.ensures.lines in
    then_last c.args.numbers.now told c.args.applied.now.ended replied refused old c.write_last-ending.result mid (g.W.CountedWrite.contents c.write_last-ending.new.writer) all
    (rw c.number_at.ensures at c.write_last-ending.ensures.line)

pub returns-in-Err-clause-writes : goal.returns-in-Err-clause-writes
returns-in-Err-clause-writes g c =
    let told = replied_to (length c.args.numbers.now) c.args.applied.now.ended c.args.applied.now.verdicts.items in
    let replied = c.write_each-so_far.result.replied in
    let refused = c.write_each-so_far.result.refused in
    let old = g.W.CountedWrite.contents c.args.writer.now in
    let new = g.W.CountedWrite.contents c.write_each-so_far.new.writer in
    let cut : RepliesCut c.args.numbers.now told replied refused old new =
    subst₂ (λ (vs : List Verdict) (printed : Result (Unit {0}) PrintFault). WritesEachReply c.args.numbers.now vs old new replied refused printed)
    c.replied_to-verdicts.ensures.is c.in-Err.is c.write_each-so_far.ensures.lines in
    let enough : length told ≤ length c.args.numbers.now =
    subst (λ (vs : List Verdict). length vs ≤ length c.args.numbers.now) c.replied_to-verdicts.ensures.is (omega (arith, c.replied_to-verdicts.ensures.few, c.requires.numbers)) in
    inr (ends_cut c.args.numbers.now told c.args.applied.now.ended replied refused old enough new cut)
