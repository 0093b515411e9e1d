use Rattle.std.proofs.Common.{◌∙◌, ap, lit<, refl, [], eqb}
use Rattle.std.specs.List.{slice_split}
use Rattle.std.specs.Str.Iter.{split_has_more, split_pattern, split_text}
use Rattle.std.proofs.KnownBytes.{Appends-nil, Appends-trans}
use Rattle.std.proofs.lemmas.Result.{on_ok_weaker}
use Rattle.lot_explain.proofs.ExplainedLemmas.{all_left, parts_end, parts_more}
use Rattle.lot_explain.specs.Explained.{indented_line}
use Rattle.lot_explain.proofs.explained.write_indented.Goals as goal

pub loop-line-init : goal.loop-line-init
loop-line-init g c =
    let same = c.into_iter-line-iterator.ensures.into_iter_gives in (
      slice_split (λ byte. eqb byte 10) c.args.text.now,
      [],
      all_left _ 10 c.args.text.now (lit< tt) (ap split_text same ∙ c.split-line-items.ensures.text) (ap split_has_more same ∙ c.split-line-items.ensures.has_more)
          (ap split_pattern same ∙ c.split-line-items.ensures.pattern),
      Appends-nil (g.W.Write.contents c.args.writer.now),
      refl,
    )

pub loop-line-preserved : goal.loop-line-preserved
loop-line-preserved g c =
    parts_more indented_line (slice_split (λ byte. eqb byte 10) c.args.text.now) c.loop-line.line-iterator c.next.new.self c.in-Some.line _ _ _
    c.loop-line.invariant c.in-Some.ensures.steps c.in_ok-write_line.ensures

pub returns : goal.returns
returns g c =
    on_ok_weaker c.write_all.result
    (Appends-trans _ _ _ _ _
    (parts_end indented_line (slice_split (λ byte. eqb byte 10) c.args.text.now) c.loop-line.line-iterator c.next.new.self _ _ c.loop-line.invariant
    c.in-None.ensures.steps))
    c.write_all.ensures.bytes
