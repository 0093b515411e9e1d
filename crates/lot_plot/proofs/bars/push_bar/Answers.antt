use Rattle.std.proofs.Common.{◌≡◌, pos, suc, ◌-◌, ◌/◌, [], ◌∷◌, OnOk, refl, subst, rules}
use Rattle.std.specs.Prelude.{codes}
use Rattle.std.specs.String.{string_bytes}
use Rattle.lot_plot.proofs.PieceLemmas.{grown}
use Rattle.lot_plot.specs.Bars.{bar_front, middle_of, width_of}
use Rattle.lot_plot.specs.Plot.{from_top, greater, lesser, percent_text, place_text}
use Rattle.lot_plot.proofs.bars.push_bar.Goals as goal

pub returns : goal.returns
returns c =
    subst (λ before. OnOk c.push_str.result (string_bytes c.push_str.new.self ≡ before))
    (grown (string_bytes c.args.text.now)
    (bar_front c.args.bar.now.gain
    ∷ percent_text (middle_of (suc c.args.years.more) (c.args.bar.now.year - c.args.years.first) - width_of (suc c.args.years.more) / 2)
    ∷ place_text (codes "%\" y=\"") (from_top c.args.scale.now (greater c.args.bar.now.gain (pos 0)))
    ∷ place_text (codes "%\" width=\"") (width_of (suc c.args.years.more))
    ∷ place_text (codes "%\" height=\"") (from_top c.args.scale.now (lesser c.args.bar.now.gain (pos 0)) - from_top c.args.scale.now (greater c.args.bar.now.gain (pos 0)))
    ∷ codes "%\"/>\n" ∷ [])
    _ (
      _,
      c.in_ok-push_bar_front.ensures,
      (
        _,
        rw (c.saturating_sub-2.ensures, c.middle-middle.ensures, c.width-width.ensures, c.from.ensures, c.saturating_sub.ensures) at c.in_ok-push_thousandths.ensures,
        (
          _,
          rw (c.from_top-top.ensures, c.greater.ensures) at c.in_ok-push_place.ensures,
          (
            _,
            rw c.width-width.ensures at c.in_ok-push_place-2.ensures,
            (
              _,
              rw (c.saturating_sub-3.ensures, c.from_top-bottom.ensures, c.from_top-top.ensures, c.lesser.ensures, c.greater.ensures) at c.in_ok-push_place-3.ensures,
              (
                _,
                refl,
                refl,
              ),
            ),
          ),
        ),
      ),
    ))
    (search rules)
