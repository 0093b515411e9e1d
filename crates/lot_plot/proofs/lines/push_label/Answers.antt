use Rattle.std.proofs.Common.{◌≡◌, length, ◌+◌, ◌-◌, [], ◌∷◌, OnOk, refl, subst}
use Rattle.std.specs.Prelude.{codes}
use Rattle.std.specs.String.{string_bytes}
use Rattle.lot_plot.proofs.PieceLemmas.{grown}
use Rattle.lot_html.specs.Text.{escaped}
use Rattle.lot_plot.specs.Lines.{gaps_of, gaps_text, last_text}
use Rattle.lot_plot.specs.Month.{month_text}
use Rattle.lot_plot.proofs.lines.push_label.Goals as goal

pub returns : goal.returns
returns c =
    subst (λ before. OnOk c.push_gaps.result (string_bytes c.push_gaps.new.text ≡ before))
    (grown (string_bytes c.args.text.now)
    (codes "Worth and cost of lots in "
    ∷ escaped c.args.currency.now
    ∷ codes " at the end of each month, "
    ∷ month_text c.args.first.0
    ∷ codes " to "
    ∷ month_text (c.args.first.0 + (length c.args.points.now - 1))
    ∷ last_text c.args.points.now
    ∷ gaps_text (gaps_of c.args.points.now) ∷ [])
    _ (
      _,
      c.in_ok-push_str.ensures.bytes,
      (
        _,
        c.in_ok-push_text.ensures,
        (
          _,
          c.in_ok-push_str-2.ensures.bytes,
          (
            _,
            rw c.from-first.ensures at c.in_ok-push_month_number.ensures,
            (
              _,
              c.in_ok-push_str-3.ensures.bytes,
              (
                _,
                rw (c.from-first.ensures, c.saturating_sub.ensures) at c.in_ok-push_month_number-2.ensures,
                (
                  _,
                  c.in_ok-push_last.ensures,
                  (
                    _,
                    refl,
                    refl,
                  ),
                ),
              ),
            ),
          ),
        ),
      ),
    ))
    (rw c.gaps_of.ensures at c.push_gaps.ensures)
