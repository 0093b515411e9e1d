use Rattle.std.proofs.Common.{◌≡◌, [], ◌∷◌, ◌++◌, ◌∙◌, refl}
use Rattle.std.specs.Prelude.{codes}
use Rattle.std.specs.String.{string_bytes}
use Rattle.std.proofs.lemmas.Result.{on_ok_weaker}
use Rattle.lot_cells.proofs.AppendLemmas.{pushed}
use Rattle.lot_plot.proofs.PieceLemmas.{grown}
use Rattle.lot_plot.specs.Plot.{all_of}
use Rattle.lot_page_report.specs.Text.{part_end, part_front}
use Rattle.lot_page_report.proofs.months.push_months.Goals as goal

pub returns : goal.returns
returns c =
    let inner = c.in_ok-push_months_inner.ensures in
    let pieces = part_front (codes "months") (codes "Worth by month") ∷ inner.0 ∷ part_end ∷ [] in
    on_ok_weaker {P = string_bytes c.push_str-2.new.self ≡ string_bytes c.push_months_inner.new.text ++ part_end} c.push_str-2.result
    (λ is. (
      all_of pieces,
      (inner.0, inner.1, refl),
      is ∙ grown (string_bytes c.args.text.now) pieces _ (_, c.in_ok-push_str.ensures.bytes, (_, inner.2, (_, refl, refl))),
    ))
    (pushed c.push_str-2.result (string_bytes c.push_months_inner.new.text) part_end (string_bytes c.push_str-2.new.self) c.push_str-2.ensures.bytes)
