use Rattle.std.proofs.Common.{◌≡◌, [], ◌∷◌, OnOk, refl, subst, rules}
use Rattle.std.specs.Prelude.{codes}
use Rattle.std.specs.String.{string_bytes}
use Rattle.lot_plot.proofs.PieceLemmas.{grown}
use Rattle.lot_plot.specs.Lines.{path_html}
use Rattle.lot_plot.specs.declared.lines.Line.TheVariants.{Cost, Worth}
use Rattle.lot_plot.proofs.lines.push_paths.Goals as goal

pub returns : goal.returns
returns c =
    subst (λ before. OnOk c.push_str-2.result (string_bytes c.push_str-2.new.self ≡ before))
    (grown (string_bytes c.args.text.now)
    (codes "<svg x=\"14%\" width=\"80%\" viewBox=\"0 0 1000 1000\" preserveAspectRatio=\"none\">\n"
    ∷ path_html c.args.scale.now Cost c.args.points.now
    ∷ path_html c.args.scale.now Worth c.args.points.now
    ∷ codes "</svg>\n</svg>\n" ∷ [])
    _ (
      _,
      c.in_ok-push_str.ensures.bytes,
      (
        _,
        c.in_ok-push_path.ensures,
        (
          _,
          c.in_ok-push_path-2.ensures,
          (
            _,
            refl,
            refl,
          ),
        ),
      ),
    ))
    (search rules)
