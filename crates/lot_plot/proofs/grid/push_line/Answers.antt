use Rattle.std.proofs.Common.{◌≡◌, [], ◌∷◌, OnOk, refl, subst, rules}
use Rattle.std.specs.Prelude.{codes}
use Rattle.std.specs.String.{string_bytes}
use Rattle.lot_plot.proofs.PieceLemmas.{grown}
use Rattle.lot_html.specs.Number.{grouped}
use Rattle.lot_plot.specs.Grid.{line_front, value_text}
use Rattle.lot_plot.specs.Plot.{from_top, percent_text, place_text}
use Rattle.lot_plot.proofs.grid.push_line.Goals as goal

pub returns : goal.returns
returns c =
    subst (λ before. OnOk c.push_str-2.result (string_bytes c.push_str-2.new.self ≡ before))
    (grown (string_bytes c.args.text.now)
    (line_front c.args.value
    ∷ percent_text (from_top c.args.scale.now c.args.value)
    ∷ place_text (codes "%\" y2=\"") (from_top c.args.scale.now c.args.value)
    ∷ place_text (codes "%\"/>\n<text x=\"0\" y=\"") (from_top c.args.scale.now c.args.value)
    ∷ codes "%\" dy=\"-4\">"
    ∷ grouped (value_text c.args.unit c.args.value)
    ∷ codes "</text>\n" ∷ [])
    _ (
      _,
      c.in_ok-push_line_front.ensures,
      (
        _,
        rw c.from_top-top.ensures at c.in_ok-push_thousandths.ensures,
        (
          _,
          rw c.from_top-top.ensures at c.in_ok-push_place.ensures,
          (
            _,
            rw c.from_top-top.ensures at c.in_ok-push_place-2.ensures,
            (
              _,
              c.in_ok-push_str.ensures.bytes,
              (
                _,
                c.in_ok-push_value.ensures,
                (
                  _,
                  refl,
                  refl,
                ),
              ),
            ),
          ),
        ),
      ),
    ))
    (search rules)
