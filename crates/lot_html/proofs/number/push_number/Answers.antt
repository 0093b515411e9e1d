use Rattle.std.proofs.Common.{◌≡◌, ◌++◌, OnOk, ap, subst, sym, ◌∙◌, arith, rules}
use Rattle.std.specs.Prelude.{codes}
use Rattle.std.specs.String.{string_bytes}
use Rattle.std.proofs.lemmas.Str.Pattern.{split_once_first}
use Rattle.lot_html.specs.Number.{grouped_digits}
use Rattle.lot_html.proofs.DigitLemmas.{with_parts, three_behind, without_point}
use Rattle.lot_html.proofs.number.push_number.Goals as goal

pub returns-in-None : goal.returns-in-None
returns-in-None c =
    let all = rw c.in-None.is at (split_once_first 46 c.args.digits.now c.split_once.result c.split_once.ensures.cases (omega arith)) in
    subst (λ behind. OnOk c.push_digits-in-None.result (string_bytes c.push_digits-in-None.new.text ≡ behind))
    (ap (λ behind. string_bytes c.args.text.now ++ behind) (sym (without_point c.args.digits.now all)))
    c.push_digits-in-None.ensures

pub returns-in_ok-push_str-in-Some : goal.returns-in_ok-push_str-in-Some
returns-in_ok-push_str-in-Some c =
    let parts = rw c.in-Some.is at (split_once_first 46 c.args.digits.now c.split_once.result c.split_once.ensures.cases (omega arith)) in
    subst (λ before. OnOk c.push_str-in-Some.result (string_bytes c.push_str-in-Some.new.self ≡ before))
    (three_behind (string_bytes c.args.text.now) _ _ (grouped_digits c.in-Some.whole.now) (codes ".") c.in-Some.decimals.now
    c.in_ok-push_digits-in-Some.ensures c.in_ok-push_str-in-Some.ensures.bytes
    ∙ ap (λ behind. string_bytes c.args.text.now ++ behind)
    (sym (with_parts c.args.digits.now c.in-Some.whole.now c.in-Some.decimals.now parts.0 parts.1 parts.2)))
    (search rules)
