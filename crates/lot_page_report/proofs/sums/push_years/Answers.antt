use Rattle.std.proofs.Common.{◌≡◌, [], ◌∷◌, ◌++◌, ◌∙◌, map, refl}
use Rattle.std.specs.Prelude.{codes}
use Rattle.std.specs.String.{string_bytes}
use Rattle.std.proofs.lemmas.Result.{on_ok_weaker}
use Rattle.lot_cells.proofs.AppendLemmas.{pushed}
use Rattle.lot_plot.proofs.PieceLemmas.{grown}
use Rattle.lot_plot.specs.Plot.{all_of}
use Rattle.lot_tally.specs.Table.{shown}
use Rattle.lot_page_report.specs.Sections.{unless_some}
use Rattle.lot_page_report.specs.Text.{no_sales, part_end, part_front}
use Rattle.lot_page_report.proofs.sums.push_years.Goals as goal

pub returns : goal.returns
returns c =
    let each = c.in_ok-push_each_currency.ensures in
    let pieces = part_front (codes "years") (codes "Gains by year") ∷ unless_some (map shown c.args.currencies.now.entries) no_sales ∷ each.0 ∷ part_end ∷ [] in
    on_ok_weaker {P = string_bytes c.push_str-2.new.self ≡ string_bytes c.push_each_currency.new.text ++ part_end} c.push_str-2.result
    (λ is. (
      all_of pieces,
      (each.0, each.1, refl),
      is ∙ grown (string_bytes c.args.text.now) pieces _ (_, c.in_ok-push_str.ensures.bytes, (_, c.in_ok-push_unless_some.ensures, (_, each.2, (_, refl, refl)))),
    ))
    (pushed c.push_str-2.result (string_bytes c.push_each_currency.new.text) part_end (string_bytes c.push_str-2.new.self) c.push_str-2.ensures.bytes)
