use Rattle.std.proofs.Common.{◌≡◌, [], ◌∷◌, ◌++◌, ◌∙◌, map, refl, rules}
use Rattle.std.specs.Prelude.{codes}
use Rattle.std.specs.List.{flat_map}
use Rattle.std.specs.String.{string_bytes}
use Rattle.std.proofs.lemmas.Result.{on_ok_weaker}
use Rattle.lot_plot.proofs.PieceLemmas.{grown}
use Rattle.lot_plot.specs.Plot.{all_of}
use Rattle.lot_html.specs.Text.{escaped}
use Rattle.lot_tally.specs.Table.{shown}
use Rattle.lot_page_report.specs.Sections.{bars_of, figure_html, year_row}
use Rattle.lot_page_report.specs.Text.{name_html, years_head}
use Rattle.lot_page_report.proofs.sums.push_currency.Goals as goal

pub returns : goal.returns
returns c =
    let currency = c.args.currency.now in
    let rows = map shown c.args.rows.now.entries in
    let plot = string_bytes c.in_ok-plot.plot in
    let pieces =
    codes "<div class=\"pair\">\n" ∷ figure_html currency plot (bars_of currency rows)
    ∷ codes "<div class=\"wide\" role=\"region\" tabindex=\"0\" aria-label=\"Sales in " ∷ escaped currency
    ∷ codes " by year\">\n<table>\n<caption>Sales in " ∷ name_html currency ∷ years_head ∷ flat_map (year_row currency) rows
    ∷ codes "</tbody>\n</table>\n</div>\n</div>\n" ∷ [] in
    let is_plot = rw (c.deref.ensures.value, c.in_ok-bars.ensures) at c.in_ok-plot.ensures in
    on_ok_weaker {P = string_bytes c.push_str-5.new.self ≡ string_bytes c.push_year_rows.new.text ++ codes "</tbody>\n</table>\n</div>\n</div>\n"} c.push_str-5.result
    (λ is. (
      all_of pieces,
      (plot, is_plot, refl),
      is
          ∙ grown (string_bytes c.args.text.now) pieces _ (
            _,
            c.in_ok-push_str.ensures.bytes,
            (
              _,
              rw (c.as_str.ensures.value, c.deref-2.ensures.value, c.in_ok-bars.ensures) at c.in_ok-push_figure.ensures,
              (
                _,
                c.in_ok-push_str-2.ensures.bytes,
                (
                  _,
                  rw c.as_str-2.ensures.value at c.in_ok-push_text.ensures,
                  (
                    _,
                    c.in_ok-push_str-3.ensures.bytes,
                    (_, rw c.as_str-3.ensures.value at c.in_ok-push_name.ensures, (_, c.in_ok-push_str-4.ensures.bytes, (_, c.in_ok-push_year_rows.ensures, (_, refl, refl)))),
                  ),
                ),
              ),
            ),
          ),
    ))
    (search rules)
