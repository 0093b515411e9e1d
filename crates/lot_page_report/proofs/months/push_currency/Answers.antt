use Rattle.std.proofs.Common.{◌≡◌, [], ◌∷◌, ◌++◌, ◌∙◌, refl, rules}
use Rattle.std.specs.Prelude.{codes}
use Rattle.std.specs.String.{string_bytes}
use Rattle.std.proofs.lemmas.Result.{on_ok_weaker}
use Rattle.lot_plot.proofs.PieceLemmas.{grown}
use Rattle.lot_plot.specs.Plot.{all_of}
use Rattle.lot_html.specs.Text.{escaped}
use Rattle.lot_page_report.specs.Text.{months_head, name_html}
use Rattle.lot_page_report.proofs.months.push_currency.Goals as goal

pub returns : goal.returns
returns c =
    let currency = c.args.currency.now in
    let plot = c.in_ok-push_lines.ensures in
    let rows = c.in_ok-push_month_rows.ensures in
    let pieces =
    codes "<figure>\n<figcaption>Worth and cost of lots in " ∷ name_html currency
    ∷ codes " at the end of each month<span class=\"key\">worth</span><span class=\"key\">cost</span></figcaption>\n" ∷ plot.0
    ∷ codes "<details>\n<summary>The numbers</summary>\n<div class=\"wide\" role=\"region\" tabindex=\"0\" aria-label=\"Worth and cost of lots in "
    ∷ escaped currency ∷ codes "\">\n<table>\n<caption>Worth and cost of lots in " ∷ name_html currency ∷ months_head ∷ rows.0
    ∷ codes "</tbody>\n</table>\n</div>\n</details>\n</figure>\n" ∷ [] in
    on_ok_weaker {P = string_bytes c.push_str-6.new.self ≡ string_bytes c.push_month_rows.new.text ++ codes "</tbody>\n</table>\n</div>\n</details>\n</figure>\n"} c.push_str-6.result
    (λ is. (
      all_of pieces,
      (plot.0, plot.1, rows.0, rows.1, refl),
      is
          ∙ grown (string_bytes c.args.text.now) pieces _ (
            _,
            c.in_ok-push_str.ensures.bytes,
            (
              _,
              c.in_ok-push_name.ensures,
              (
                _,
                c.in_ok-push_str-2.ensures.bytes,
                (
                  _,
                  plot.2,
                  (
                    _,
                    c.in_ok-push_str-3.ensures.bytes,
                    (
                      _,
                      c.in_ok-push_text.ensures,
                      (
                        _,
                        c.in_ok-push_str-4.ensures.bytes,
                        (
                          _,
                          c.in_ok-push_name-2.ensures,
                          (_, c.in_ok-push_str-5.ensures.bytes, (_, rows.2, (_, refl, refl))),
                        ),
                      ),
                    ),
                  ),
                ),
              ),
            ),
          ),
    ))
    (search rules)
