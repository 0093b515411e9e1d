use Rattle.std.proofs.Common.{◌≡◌, [], ◌∷◌, ◌++◌, ◌∙◌, refl, sym}
use Rattle.std.specs.String.{string_bytes}
use Rattle.std.proofs.lemmas.Result.{on_ok_weaker}
use Rattle.lot_cells.proofs.AppendLemmas.{pushed}
use Rattle.lot_plot.proofs.PieceLemmas.{grown}
use Rattle.lot_plot.specs.Plot.{all_of}
use Rattle.lot_page_report.specs.Sections.{bound_note}
use Rattle.lot_page_report.specs.Text.{rounding_note}
use Rattle.lot_page_report.proofs.SumsLemmas.{months_inner_is}
use Rattle.lot_page_report.proofs.months.push_months_inner.Goals as goal

pub returns : goal.returns
returns c =
    let each = c.in_ok-push_currencies.ensures in
    let pieces = bound_note c.in-Some.range.whole ∷ each.0 ∷ rounding_note ∷ [] in
    on_ok_weaker {P = string_bytes c.push_str-2.new.self ≡ string_bytes c.push_currencies.new.text ++ rounding_note} c.push_str-2.result
    (λ is. (
      all_of pieces,
      rw (c.in-Some.is) (months_inner_is c.in-Some.range c.args.months.now each.0 (sym c.is_empty.ensures ∙ c.if-is_empty.false) each.1),
      is ∙ grown (string_bytes c.args.text.now) pieces _ (_, c.in_ok-push_bound.ensures, (_, each.2, (_, refl, refl))),
    ))
    (pushed c.push_str-2.result (string_bytes c.push_currencies.new.text) rounding_note (string_bytes c.push_str-2.new.self) c.push_str-2.ensures.bytes)
