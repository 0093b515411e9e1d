use Rattle.std.proofs.Common.{◌≡◌, [], ◌∷◌, ◌++◌, ap, refl, sym, ◌∙◌, rules}
use Rattle.std.specs.Prelude.{codes}
use Rattle.std.specs.List.{flat_map}
use Rattle.std.specs.String.{string_bytes}
use Rattle.std.proofs.lemmas.Result.{on_ok_weaker}
use Rattle.lot_plot.proofs.PieceLemmas.{grown}
use Rattle.lot_plot.proofs.PlotLemmas.{some_bars}
use Rattle.lot_plot.specs.Bars.{bar_html, bars_label, scale_of_bars, years_html, years_of}
use Rattle.lot_plot.specs.Plot.{all_of}
use Rattle.lot_plot.proofs.bars.push_bars.Goals as goal

pub returns : goal.returns
returns c =
    let currency = c.args.currency.now in
    let bars = c.args.bars.now in
    let some = sym c.is_empty.ensures ∙ c.if-is_empty.false in
    let grid = c.in_ok-push_grid.ensures in
    let pieces =
    codes "<svg class=\"plot\" height=\"208\" role=\"img\" aria-label=\"" ∷ bars_label currency (years_of bars) bars
    ∷ codes "\">\n<svg y=\"18\" width=\"100%\" height=\"164\">\n" ∷ grid.0 ∷ flat_map (bar_html (scale_of_bars bars) (years_of bars)) bars
    ∷ codes "</svg>\n" ∷ years_html (years_of bars) ∷ codes "</svg>\n" ∷ [] in
    on_ok_weaker {P = string_bytes c.push_str-4.new.self ≡ string_bytes c.push_years.new.text ++ codes "</svg>\n"} c.push_str-4.result
    (λ is. (
      all_of pieces,
      some_bars currency bars (all_of pieces) some (grid.0, rw c.scale_of-scale.ensures at grid.1, refl),
      is
          ∙ grown (string_bytes c.args.text.now) pieces _ (
            _,
            c.in_ok-push_str.ensures.bytes,
            (
              string_bytes c.push_label.new.text,
              rw c.years_of-years.ensures at c.in_ok-push_label.ensures,
              (
                _,
                c.in_ok-push_str-2.ensures.bytes,
                (
                  _,
                  grid.2,
                  (
                    string_bytes c.push_each_bar.new.text,
                    rw (c.scale_of-scale.ensures, c.years_of-years.ensures) at c.in_ok-push_each_bar.ensures,
                    (
                      _,
                      c.in_ok-push_str-3.ensures.bytes,
                      (
                        string_bytes c.push_years.new.text,
                        c.in_ok-push_years.ensures ∙ ap (λ years. string_bytes c.push_str-3.new.self ++ years_html years) c.years_of-years.ensures,
                        (_, refl, refl),
                      ),
                    ),
                  ),
                ),
              ),
            ),
          ),
    ))
    (search rules)
