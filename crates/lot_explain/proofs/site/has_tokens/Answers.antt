-- By what the line is cut into.
use Rattle.std.proofs.Common.{List, subst, sym, ◌∙◌, ℕ}
use Rattle.lot_syntax.specs.Token.{Cuts}
use Rattle.lot_syntax.specs.Cutting.{lexeme_of}
use Rattle.lot_explain.proofs.SiteLemmas.{none_in_bytes, none_in_uncut, some_first, tokens_of}
use Rattle.lot_explain.proofs.site.has_tokens.Goals as goal

pub returns-in-Ok-new : goal.returns-in-Ok-new
returns-in-Ok-new c =
    let tokens = c.in-Ok-new.tokens in
    let cuts = subst (λ (line : List ℕ). Cuts tokens line) c.in-Ok.ensures.cases.0 c.in-Ok-new.ensures.cut in
    c.is_some.ensures
    ∙ sym (some_first c.split_first.result (λ next. lexeme_of next.0) (λ next. next.1) tokens c.split_first.ensures)
    ∙ sym (tokens_of c.args.line.now tokens c.in-Ok.ensures.cases.1 cuts)

pub returns-in-Err-new : goal.returns-in-Err-new
returns-in-Err-new c =
    sym (none_in_uncut c.args.line.now (λ tokens cuts.
    c.in-Err-new.ensures.uncut tokens (subst (λ (line : List ℕ). Cuts tokens line) (sym c.in-Ok.ensures.cases.0) cuts)))

pub returns-in-Err : goal.returns-in-Err
returns-in-Err c = sym (none_in_bytes c.args.line.now c.in-Err.ensures.cases.0)
