-- One more unit belongs to the text, or nothing ends it, or the quote does.
use Rattle.std.proofs.Common.{◌∙◌, sym, arith, rules}
use Rattle.lot_syntax.proofs.WithinLemmas.{within_step, within_fails, within_found}
use Rattle.lot_syntax.proofs.cut.within_len.Goals as goal

pub returns-in_err-n-clause-value : goal.returns-in_err-n-clause-value
returns-in_err-n-clause-value c =
    rw c.from_residual.ensures
    (within_fails c.loop-n.n c.args.bytes.now _ c.loop-n.invariant.within (sym c.begins_quote.ensures ∙ c.loop-n-test.true)
    c.in_err-n.ensures.value c.loop-n.invariant.so_far)

pub loop-n-preserved : goal.loop-n-preserved
loop-n-preserved c = record {
  within = search (rules, arith);
  so_far = within_step c.loop-n.n c.in_ok-n.field-0 c.args.bytes.now _ c.loop-n.invariant.within (sym c.begins_quote.ensures ∙ c.loop-n-test.true)
      c.in_ok-n.ensures.value c.loop-n.invariant.so_far;
}

pub returns-clause-value : goal.returns-clause-value
returns-clause-value c =
    (within_found c.loop-n.n c.args.bytes.now _ c.loop-n.invariant.within (sym c.begins_quote.ensures ∙ c.loop-n-test.false) c.loop-n.invariant.so_far).0
