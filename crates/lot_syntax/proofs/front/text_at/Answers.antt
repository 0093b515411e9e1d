-- What is within ends before a quote.
use Rattle.std.proofs.Common.{List, ℕ, drop, subst, sym, ap, ◌∙◌}
use Rattle.std.specs.Prelude.{IsTrue}
use Rattle.std.specs.Char.{is_ascii}
use Rattle.lot_syntax.specs.Token.{begins}
use Rattle.lot_syntax.specs.Cutting.{within_len}
use Rattle.lot_syntax.proofs.Boundaries.{within_boundary, quote_behind}
use Rattle.lot_syntax.proofs.TextAt.{text_is}
use Rattle.lot_syntax.proofs.front.text_at.Goals as goal

pub split_at-requires : goal.split_at-requires
split_at-requires c =
    within_boundary c.args.bytes.now c.in_ok-within_len.field-0
    (sym (c.in_ok-within_len.ensures.value ∙ ap within_len c.as_bytes.ensures.value))

pub after_first-requires : goal.after_first-requires
after_first-requires c =
    subst (λ (xs : List ℕ). IsTrue (begins is_ascii xs)) (sym c.split_at.ensures.back)
    (quote_behind c.args.bytes.now c.in_ok-within_len.field-0
    (sym (c.in_ok-within_len.ensures.value ∙ ap within_len c.as_bytes.ensures.value)))

pub returns : goal.returns
returns c =
    text_is c.args.bytes.now _ _ c.in_ok-within_len.field-0
    (sym (c.in_ok-within_len.ensures.value ∙ ap within_len c.as_bytes.ensures.value)) c.split_at.ensures.front
    (c.after_first.ensures ∙ ap (drop 1) c.split_at.ensures.back)
