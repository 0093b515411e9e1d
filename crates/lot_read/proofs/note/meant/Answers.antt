use Rattle.std.proofs.Common.{◌≡◌, ◌++◌, [], ◌∷◌, ap, sym, ◌∙◌, arith}
use Rattle.std.specs.Char.{encode_utf8}
use Rattle.std.specs.Str.Iter.{chars_rest}
use Rattle.std.proofs.lemmas.List.{nil_from_length}
use Rattle.lot_command.proofs.CanonicalLemmas.{escaped_plain}
use Rattle.lot_read.proofs.EscapeLemmas.{quote_first, backslash_last, backslash_before}
use Rattle.lot_read.proofs.note.meant.Goals as goal

pub returns-in-34 : goal.returns-in-34
unfolding encode_utf8
returns-in-34 c = λ text e. quote_first (chars_rest c.args.rest.now) text (ap (λ k. encode_utf8 k ++ chars_rest c.args.rest.now) (sym c.in-34.is) ∙ e)

pub returns-in_err-next-in-92 : goal.returns-in_err-next-in-92
unfolding encode_utf8
returns-in_err-next-in-92 c =
    let end : chars_rest c.args.rest.now ≡ [] = nil_from_length _ c.in_err-next-in-92.ensures.steps.0.0 in
    rw c.from_residual.ensures
    (λ text e. backslash_last text (ap (λ rest. 92 ∷ rest) (sym end) ∙ ap (λ k. encode_utf8 k ++ chars_rest c.args.rest.now) (sym c.in-92.is) ∙ e))

pub returns-in_default-2 : goal.returns-in_default-2
unfolding encode_utf8
returns-in_default-2 c = λ text e.
    backslash_before c.in_ok-next-in-92.field-0 (chars_rest c.next.new.self) text (omega arith) (omega arith)
    (ap (λ rest. 92 ∷ rest) (sym c.in_ok-next-in-92.ensures.steps.0) ∙ ap (λ k. encode_utf8 k ++ chars_rest c.args.rest.now) (sym c.in-92.is) ∙ e)

pub returns-in_default : goal.returns-in_default
returns-in_default c =
    ap (λ bytes. bytes ++ chars_rest c.args.rest.now) (sym (escaped_plain c.args.character (omega arith) (omega arith)))
