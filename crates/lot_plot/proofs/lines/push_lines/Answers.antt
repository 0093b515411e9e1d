use Rattle.std.proofs.Common.{◌≡◌, [], ◌∷◌, ◌++◌, refl, sym, ◌∙◌, length, rules}
use Rattle.std.specs.Prelude.{codes}
use Rattle.std.specs.String.{string_bytes}
use Rattle.std.proofs.lemmas.Result.{on_ok_weaker}
use Rattle.lot_plot.proofs.PieceLemmas.{grown}
use Rattle.lot_plot.proofs.PlotLemmas.{some_points}
use Rattle.lot_plot.specs.Lines.{lines_label, months_html, paths_html, scale_of_points}
use Rattle.lot_plot.specs.Plot.{all_of}
use Rattle.lot_plot.proofs.lines.push_lines.Goals as goal

pub returns : goal.returns
returns c =
    let currency = c.args.currency.now in
    let first = c.args.first.0 in
    let points = c.args.points.now in
    let some = sym c.is_empty.ensures ∙ c.if-is_empty.false in
    let grid = c.in_ok-push_grid.ensures in
    let pieces =
    codes "<svg class=\"plot\" height=\"208\" role=\"img\" aria-label=\"" ∷ lines_label currency first points
    ∷ codes "\">\n<svg y=\"18\" width=\"100%\" height=\"164\">\n" ∷ grid.0 ∷ paths_html (scale_of_points points) points
    ∷ months_html first (length points) ∷ codes "</svg>\n" ∷ [] in
    on_ok_weaker {P = string_bytes c.push_str-3.new.self ≡ string_bytes c.push_months.new.text ++ codes "</svg>\n"} c.push_str-3.result
    (λ is. (
      all_of pieces,
      some_points currency first points (all_of pieces) some (grid.0, rw c.scale_of-scale.ensures at grid.1, refl),
      is
          ∙ grown (string_bytes c.args.text.now) pieces _ (
            _,
            c.in_ok-push_str.ensures.bytes,
            (
              _,
              c.in_ok-push_label.ensures,
              (
                _,
                c.in_ok-push_str-2.ensures.bytes,
                (
                  _,
                  grid.2,
                  (
                    string_bytes c.push_paths.new.text,
                    rw c.scale_of-scale.ensures at c.in_ok-push_paths.ensures,
                    (
                      _,
                      c.in_ok-push_months.ensures,
                      (_, refl, refl),
                    ),
                  ),
                ),
              ),
            ),
          ),
    ))
    (search rules)
