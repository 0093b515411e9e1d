use Rattle.std.proofs.Common.{◌≡◌, ◌++◌, OnOk, ap, subst, sym, ◌∙◌, append_assoc, arith}
use Rattle.std.specs.String.{string_bytes}
use Rattle.std.proofs.lemmas.Str.Pattern.{strip_prefix_char}
use Rattle.lot_html.specs.Number.{grouped, grouped_number, minus}
use Rattle.lot_html.proofs.DigitLemmas.{not_below}
use Rattle.lot_html.proofs.number.push_grouped.Goals as goal

pub returns-in_ok-push_str-in-Some : goal.returns-in_ok-push_str-in-Some
returns-in_ok-push_str-in-Some c =
    let is = rw c.in-Some.is at (strip_prefix_char 45 c.args.number.now c.strip_prefix.result c.strip_prefix.ensures.cases (omega arith)) in
    subst (λ before. OnOk c.push_number.result (string_bytes c.push_number.new.text ≡ before))
    (ap (λ before. before ++ grouped_number c.in-Some.digits.now) c.in_ok-push_str-in-Some.ensures.bytes
    ∙ append_assoc (string_bytes c.args.text.now) minus (grouped_number c.in-Some.digits.now)
    ∙ ap (λ number. string_bytes c.args.text.now ++ grouped number) (sym is))
    c.push_number.ensures

pub returns-in-None : goal.returns-in-None
returns-in-None c =
    let is = rw c.in-None.is at (strip_prefix_char 45 c.args.number.now c.strip_prefix.result c.strip_prefix.ensures.cases (omega arith)) in
    subst (λ behind. OnOk c.push_number-in-None.result (string_bytes c.push_number-in-None.new.text ≡ behind))
    (ap (λ behind. string_bytes c.args.text.now ++ behind) (sym (not_below c.args.number.now is)))
    c.push_number-in-None.ensures
