-- The tokens of the line are those from which its command is taken.
use Rattle.std.proofs.Common.{List, ◌∙◌, sym, ap, subst}
use Rattle.lot_syntax.specs.Token.{Lexeme, Cuts}
use Rattle.lot_syntax.specs.Cutting.{lexeme_of}
use Rattle.lot_read.specs.Line.{is_heading, is_indented}
use Rattle.std.proofs.lemmas.Result.{err_from_is_err_and}
use Rattle.lot_read.specs.Reading.{may_post}
use Rattle.lot_read.proofs.FaultLemmas.{bad_cut}
use Rattle.lot_read.proofs.StatementLemmas.{some_tokens}
use Rattle.lot_read.proofs.line.statement.Goals as goal

pub returns-then-not-is_indented : goal.returns-then-not-is_indented
returns-then-not-is_indented c =
    c.command.ensures _ c.args.line.now
    (record {
      readable = c.in_ok-text.ensures.readable;
      has = record {
        plain = ap is_heading (sym c.in_ok-text.ensures.text) ∙ sym c.is_heading.ensures ∙ c.if-is_heading.false;
        cuts = subst (Cuts c.tokens-tokens.result) c.in_ok-text.ensures.text
            (subst (λ (tokens : List Lexeme). Cuts tokens c.in_ok-text.text.now) (sym c.tokens-tokens.ensures) c.in_ok-cut.ensures.cut);
        some = some_tokens c.tokens-tokens.result c.split_first.result (λ next. lexeme_of next.0) (λ next. next.1) c.split_first.ensures
            c.if-is_none.ensures;
      };
      indent = ap is_indented (sym c.in_ok-text.ensures.text) ∙ sym c.is_indented.ensures ∙ c.if-not-is_indented.true;
    })

pub returns-in_err-cut : goal.returns-in_err-cut
returns-in_err-cut c =
    let p = err_from_is_err_and c.from_residual-in_err-cut.result c.from_residual-in_err-cut.ensures.1 in
    rw (p.1, p.2)
    (bad_cut (may_post c.args.context) c.args.line.now c.in_ok-text.ensures.readable
    (ap is_heading (sym c.in_ok-text.ensures.text) ∙ sym c.is_heading.ensures ∙ c.if-is_heading.false)
    (λ tokens cuts. c.in_err-cut.ensures.uncut tokens (subst (Cuts tokens) (sym c.in_ok-text.ensures.text) cuts)))
