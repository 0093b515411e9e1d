use Rattle.std.proofs.Common.{◌++◌, append_assoc, codes}
use Rattle.std.proofs.lemmas.Result.{on_ok_weaker}
use Rattle.lot_explain.proofs.ExplainedLemmas.{four_written}
use Rattle.lot_explain.specs.Explained.{both_examples, indented}
use Rattle.lot_explain.proofs.explained.write_both.Goals as goal

pub returns : goal.returns
returns g c =
    on_ok_weaker c.write_indented-2.result
    (four_written (g.W.Write.contents c.args.writer.now) (g.W.Write.contents c.write.new.self) (g.W.Write.contents c.write_indented.new.writer)
    (g.W.Write.contents c.write-2.new.self) (g.W.Write.contents c.write_indented-2.new.writer)
    (codes "Refused, " ++ (c.args.what.now ++ codes ":\n\n")) (indented c.args.refused.now) (codes "Accepted:\n\n") (indented c.args.accepted.now)
    (both_examples c.args.what.now c.args.refused.now c.args.accepted.now)
    c.in_ok-write.ensures.bytes c.in_ok-write_indented.ensures c.in_ok-write-2.ensures.bytes (simp append_assoc))
    c.write_indented-2.ensures
