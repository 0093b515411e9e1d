use Rattle.std.proofs.Common.{◌≡◌, ◌+◌, [], ◌∷◌, OnOk, refl, subst}
use Rattle.std.specs.Prelude.{codes}
use Rattle.std.specs.String.{string_bytes}
use Rattle.lot_plot.proofs.PieceLemmas.{grown}
use Rattle.lot_html.specs.Text.{escaped}
use Rattle.lot_plot.specs.Bars.{greatest_of, least_of, money_html}
use Rattle.lot_plot.specs.Month.{year_text}
use Rattle.lot_plot.proofs.bars.push_label.Goals as goal

pub returns : goal.returns
returns c =
    subst (λ before. OnOk c.push_money-2.result (string_bytes c.push_money-2.new.text ≡ before))
    (grown (string_bytes c.args.text.now)
    (codes "Gains in "
    ∷ escaped c.args.currency.now
    ∷ codes " by year, "
    ∷ year_text c.args.years.first
    ∷ codes " to "
    ∷ year_text (c.args.years.first + c.args.years.more)
    ∷ codes ": the least is "
    ∷ money_html (least_of c.args.bars.now)
    ∷ codes ", the greatest "
    ∷ money_html (greatest_of c.args.bars.now) ∷ [])
    _ (
      _,
      c.in_ok-push_str.ensures.bytes,
      (
        _,
        c.in_ok-push_text.ensures,
        (
          _,
          c.in_ok-push_str-2.ensures.bytes,
          (
            _,
            rw c.from.ensures at c.in_ok-push_year.ensures,
            (
              _,
              c.in_ok-push_str-3.ensures.bytes,
              (
                _,
                rw (c.from-2.ensures, c.from-3.ensures) at c.in_ok-push_year-2.ensures,
                (
                  _,
                  c.in_ok-push_str-4.ensures.bytes,
                  (
                    _,
                    rw c.least_of.ensures at c.in_ok-push_money.ensures,
                    (
                      _,
                      c.in_ok-push_str-5.ensures.bytes,
                      (
                        _,
                        refl,
                        refl,
                      ),
                    ),
                  ),
                ),
              ),
            ),
          ),
        ),
      ),
    ))
    (rw c.greatest_of.ensures at c.push_money-2.ensures)
