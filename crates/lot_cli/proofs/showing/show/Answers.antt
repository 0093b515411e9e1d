use Rattle.std.proofs.Common.{◌∙◌, List, ℕ, append-nil, inl, inr, refl, subst}
use Rattle.std.specs.String.{string_bytes}
use Rattle.lot_report.specs.Written.{WritesLine}
use Rattle.lot_stream.specs.declared.status.Status.TheVariants.{Accepted}
use Rattle.lot_cli.proofs.HaltLemmas.{failed_before, said}
use Rattle.lot_cli.proofs.showing.show.Goals as goal

pub returns-in-Ok-clause-shows : goal.returns-in-Ok-clause-shows
returns-in-Ok-clause-shows g c =
    inl (
      string_bytes c.in-Ok.text,
      c.in-Ok.ensures.ok,
      (
        said (string_bytes c.in-Ok.text) Accepted _ _ _ _ _ _ c.print_texts-printed.result c.tell.result
            (subst (λ (text : List ℕ). WritesLine (g.W.CountedWrite.contents c.args.writer.now) (g.W.CountedWrite.contents c.print_texts-printed.new.writer) c.print_texts-printed.result text)
            (append-nil c.as_str.result.now ∙ c.as_str.ensures.value) c.print_texts-printed.ensures.bytes)
            c.tell.ensures.kept c.print_texts-printed.ensures.none_failed
            (failed_before g.W.CountedWrite.calls c.print_texts-printed.new.writer c.tell.new.writer c.print_texts-printed.result c.print_texts-printed.ensures.cause c.tell.ensures.unasked)
            c.tell.ensures.end,
        refl,
      ),
    )

pub returns-in-Err-clause-shows : goal.returns-in-Err-clause-shows
returns-in-Err-clause-shows g c = inr (c.in-Err.fault, c.in-Err.ensures.fault, c.say_halt.ensures.says)
