-- By the place of the first mark.
use Rattle.std.proofs.Common.{◌≡◌, ℕ, ◌+◌, ◌-◌, Some, None, cond, ltb, length, take, drop, take_all, length-drop, sym, ap, ◌∙◌, rules, tests, arith}
use Rattle.std.specs.List.{position_or_len}
use Rattle.std.specs.Prelude.{not}
use Rattle.std.proofs.lemmas.Iterator.{YieldsList-from_slice}
use Rattle.std.proofs.lemmas.Iterator.Search.{position_from_yields_List}
use Rattle.std.proofs.lemmas.List.{drop_all}
use Rattle.std.proofs.lemmas.List.Sums.{prefix_len-le-length}
use Rattle.lot_field.specs.Numbers.{is_mark}
use Rattle.lot_field.proofs.NumberLemmas.{place-none, place-some}
use Rattle.lot_field.proofs.numbers.parts.Goals as goal

pub returns-in-Some-clause-whole : goal.returns-in-Some-clause-whole
returns-in-Some-clause-whole c =
    let text = c.args.text.now in
    let at = position_or_len (is_mark c.args.mark) text in
    let place : c.position.result ≡ cond (ltb at (length text)) (Some at) None =
    position_from_yields_List (is_mark c.args.mark) _ _ c.position.result c.position.ensures.ran (YieldsList-from_slice text cc) (λ x b q k. search (rules, tests)) in
    let is = place-some at (length text) c.in-Some.at (sym c.in-Some.is ∙ place) in
    ap (λ (n : ℕ). take n text) is

pub returns-in-Some-clause-decimals : goal.returns-in-Some-clause-decimals
returns-in-Some-clause-decimals c =
    let text = c.args.text.now in
    let at = position_or_len (is_mark c.args.mark) text in
    let place : c.position.result ≡ cond (ltb at (length text)) (Some at) None =
    position_from_yields_List (is_mark c.args.mark) _ _ c.position.result c.position.ensures.ran (YieldsList-from_slice text cc) (λ x b q k. search (rules, tests)) in
    let is = place-some at (length text) c.in-Some.at (sym c.in-Some.is ∙ place) in
    take_all (length text - (c.in-Some.at + 1)) (drop (c.in-Some.at + 1) text) (omega (arith, length-drop (c.in-Some.at + 1) text))
    ∙ ap (λ (n : ℕ). drop (n + 1) text) is

pub returns-in-None-clause-whole : goal.returns-in-None-clause-whole
returns-in-None-clause-whole c =
    let text = c.args.text.now in
    let at = position_or_len (is_mark c.args.mark) text in
    let place : c.position.result ≡ cond (ltb at (length text)) (Some at) None =
    position_from_yields_List (is_mark c.args.mark) _ _ c.position.result c.position.ensures.ran (YieldsList-from_slice text cc) (λ x b q k. search (rules, tests)) in
    let is = place-none at (length text) (sym c.in-None.is ∙ place) (prefix_len-le-length (λ b. not (is_mark c.args.mark b)) text) in
    c.split_at.ensures.front ∙ ap (λ (n : ℕ). take n text) (sym is)

pub returns-in-None-clause-decimals : goal.returns-in-None-clause-decimals
returns-in-None-clause-decimals c =
    let text = c.args.text.now in
    let at = position_or_len (is_mark c.args.mark) text in
    let place : c.position.result ≡ cond (ltb at (length text)) (Some at) None =
    position_from_yields_List (is_mark c.args.mark) _ _ c.position.result c.position.ensures.ran (YieldsList-from_slice text cc) (λ x b q k. search (rules, tests)) in
    let is = place-none at (length text) (sym c.in-None.is ∙ place) (prefix_len-le-length (λ b. not (is_mark c.args.mark b)) text) in
    c.split_at.ensures.back ∙ drop_all (length text) text (omega arith) ∙ sym (drop_all (at + 1) text (omega (arith, is)))
