-- One amount is the cash at so many decimals, or none is.
use Rattle.std.proofs.Common.{◌≡◌, ◌∙◌, None, Some, ℤ, pos, ◌*ℤ◌, ap, sym}
use Rattle.std.specs.Prelude.{IsTrue, ◌↔◌}
use Rattle.lot_num.specs.Amount.{IsUnits, one}
use Rattle.lot_rounding.specs.Asked.{with_units_at}
use Rattle.lot_completion.proofs.FormLemmas.{cash_one, formed_at, if_ok}
use Rattle.lot_completion.specs.Formed.{IsFormed, IsFormedAt}
use Rattle.lot_completion.proofs.form.is_formed_at.Goals as goal

pub returns-in_default : goal.returns-in_default
returns-in_default c = (
  λ no. absurd cc,
  λ it.
      let same = cash_one c.args.cash.now c.args.decimals c.args.transaction.now it.0 c.rounded.result c.rounded.ensures it.1 in
      let found : c.to_units.result ≡ Some it.1.units = c.to_units.ensures.every it.1.units it.1.in_range same in
      let contrary : Some it.1.units ≡ None = sym found ∙ c.in_default.is in
      absurd cc,
)

pub returns : goal.returns
returns c =
    let text = c.args.text.now in
    let cash = c.args.cash.now in
    let decimals = c.args.decimals in
    let t = c.args.transaction.now in
    let crumbs = c.args.crumbs.now in
    let units = c.in-Some.units in
    let written = c.in_ok-written.written in
    let same : c.rounded.result ≡ units *ℤ pos one = rw c.in-Some.is at c.to_units.ensures.some in
    let every : (other : ℤ) → IsUnits other → c.rounded.result ≡ other *ℤ pos one → other ≡ units = λ other in_range is.
    let found : Some other ≡ Some units = sym (c.to_units.ensures.every other in_range is) ∙ c.in-Some.is in cc in
    let is : written ≡ record t { postings = with_units_at cash.place units t.postings } =
    c.in_ok-written.ensures
    ∙ ap (λ ps. record t { postings = ps }) (c.in_ok-postings.ensures ∙ ap (λ ps. with_units_at cash.place units ps) c.as_slice.ensures) in
    if_ok c.is_formed.result (λ b. IsTrue b ↔ IsFormed text written crumbs) (λ b. IsTrue b ↔ IsFormedAt text cash decimals t crumbs)
    (formed_at text cash decimals t written crumbs units c.rounded.result c.mantissa-in_range.ensures.in_range c.rounded.ensures same every is)
    c.is_formed.ensures
