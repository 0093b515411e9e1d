use Rattle.std.proofs.Common.{rules, ◌∙◌, ◌++◌, List, ℕ, ap, sym, lit<, refl, [], eqb}
use Rattle.std.specs.List.{slice_split}
use Rattle.std.specs.Str.Iter.{split_has_more, split_pattern, split_text}
use Rattle.std.proofs.Output.{has_written_append, has_written_of_eq, writes_in_calls_nil}
use Rattle.lot_explain.proofs.ExplainedLemmas.{all_left, next_part, no_part, word_more}
use Rattle.lot_explain.specs.Explained.{wrapped_behind}
use Rattle.lot_explain.proofs.shown.WrappedDisplay.fmt.Goals as goal

pub loop-word-init : goal.loop-word-init
loop-word-init g c =
    let same = c.into_iter-word-iterator.ensures.into_iter_gives in (
      slice_split (λ byte. eqb byte 32) c.args.self.now.0.now,
      all_left _ 32 c.args.self.now.0.now (lit< tt) (ap split_text same ∙ c.split-word-items.ensures.text) (ap split_has_more same ∙ c.split-word-items.ensures.has_more)
          (ap split_pattern same ∙ c.split-word-items.ensures.pattern),
      λ plain. ([], record { wrote = writes_in_calls_nil _ _; plain = plain }, refl),
    )

pub loop-word-preserved : goal.loop-word-preserved
loop-word-preserved g c =
    let (rest, left, so_far) = c.loop-word.invariant in
    let next = next_part _ rest c.in-Some.word c.next.new.self left c.in-Some.ensures.steps in (
      next.0,
      next.2,
      λ plain.
          let (done, wrote, is) = so_far plain in
          let first = c.write_str.ensures.writes wrote.plain (search rules) in
          let second = c.write_str-in-loop-word.ensures.writes first.plain (search rules) in (
            (done ++ c.gap.result.now) ++ c.in-Some.word.now,
            has_written_append _ _ _ _ _ _ (has_written_append _ _ _ _ _ _ wrote first) second,
            word_more done c.loop-word.column rest next.0 c.in-Some.word.now c.gap.result.now _ c.args.self.now.0.now next.1 c.gap.ensures c.column_behind-column.ensures is,
          ),
    )

pub returns-clause-writes : goal.returns-clause-writes
returns-clause-writes g c plain is_ok =
    let (rest, left, so_far) = c.loop-word.invariant in
    let none = no_part _ rest c.next.new.self left c.in-None.ensures.steps in
    let (done, wrote, is) = so_far plain in
    let ended = c.write_str-2.ensures.writes wrote.plain is_ok in
    has_written_of_eq _ _ _ _ _ (ap (λ (parts : List (List ℕ)). done ++ wrapped_behind c.loop-word.column parts) (sym none) ∙ is)
    (has_written_append _ _ _ _ _ _ wrote ended)
