use Rattle.std.proofs.Common.{◌≡◌, ◌+◌, suc, [], ◌∷◌, ◌++◌, OnOk, cond, true, eq-eqb, refl, subst, sym, rules}
use Rattle.std.specs.Prelude.{codes}
use Rattle.std.specs.String.{string_bytes}
use Rattle.lot_plot.proofs.PieceLemmas.{grown}
use Rattle.lot_plot.specs.Bars.{below_front, is_written, middle_of, year_html}
use Rattle.lot_plot.specs.Month.{year_text}
use Rattle.lot_plot.proofs.bars.push_year_at.Goals as goal

pub returns : goal.returns
returns c =
    let years = c.args.years in
    let at = c.args.at in
    let written : is_written years at ≡ true = eq-eqb _ 0 (rw (c.from.ensures, c.every.ensures) at c.if-from-every-ne0.false) in
    subst (λ is. OnOk c.push_str.result (string_bytes c.push_str.new.self ≡ string_bytes c.args.text.now ++ cond is (year_html years at) []))
    (sym written)
    (subst (λ before. OnOk c.push_str.result (string_bytes c.push_str.new.self ≡ before))
    (grown (string_bytes c.args.text.now)
    (below_front (middle_of (suc years.more) at) ∷ year_text (years.first + at) ∷ codes "</text>\n" ∷ [])
    _
    (_, rw c.middle.ensures at c.in_ok-push_below.ensures, (string_bytes c.push_year.new.text, rw (c.from-2.ensures, c.from-3.ensures) at c.in_ok-push_year.ensures, (_, refl, refl))))
    (search rules))
