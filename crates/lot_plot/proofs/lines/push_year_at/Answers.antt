use Rattle.std.proofs.Common.{◌≡◌, ◌+◌, ◌/◌, ◌%◌, [], ◌∷◌, ◌++◌, OnOk, Bool, cond, true, eq-eqb, refl, subst, sym, rules}
use Rattle.std.specs.Prelude.{codes, max, ◌&&◌}
use Rattle.std.specs.String.{string_bytes}
use Rattle.lot_plot.proofs.PieceLemmas.{grown}
use Rattle.lot_plot.specs.Bars.{below_front}
use Rattle.lot_plot.specs.Lines.{below_of, is_written_year, year_html, years_between}
use Rattle.lot_plot.specs.Month.{year_text}
use Rattle.lot_plot.proofs.lines.push_year_at.Goals as goal

both : (a b : Bool) → a ≡ true → b ≡ true → (a && b) ≡ true
both a b is_a is_b = rw (is_a, is_b) refl

pub returns : goal.returns
returns c =
    let first = c.args.first.0 in
    let at = c.args.at in
    let january : (first + at) % 12 ≡ 0 = rw (c.from.ensures, c.from-2.ensures) at c.if-month-ne0.false in
    let one : ((first + at) / 12) % max ((years_between first c.args.count + 5) / 6) 1 ≡ 0 =
    rw (c.from.ensures, c.from-2.ensures, c.max-every.ensures, c.years_between.ensures) at c.if-month-every-ne0.false in
    let written : is_written_year first c.args.count at ≡ true = both _ _ (eq-eqb _ 0 january) (eq-eqb _ 0 one) in
    subst (λ is. OnOk c.push_str.result (string_bytes c.push_str.new.self ≡ string_bytes c.args.text.now ++ cond is (year_html first c.args.count at) []))
    (sym written)
    (subst (λ before. OnOk c.push_str.result (string_bytes c.push_str.new.self ≡ before))
    (grown (string_bytes c.args.text.now)
    (below_front (below_of c.args.count at) ∷ year_text ((first + at) / 12) ∷ codes "</text>\n" ∷ [])
    _
    (_, rw c.below.ensures at c.in_ok-push_below.ensures, (string_bytes c.push_year.new.text, rw (c.from.ensures, c.from-2.ensures) at c.in_ok-push_year.ensures, (_, refl, refl))))
    (search rules))
