-- One more currency, or all of them, or one too many.
use Rattle.std.proofs.Common.{List, ℕ, map, ap, ◌∙◌, arith}
use Rattle.std.specs.Prelude.{option_map}
use Rattle.std.proofs.lemmas.Bool.Decides.{nat_tests}
use Rattle.lot_syntax.specs.Header.{seen_text, more_words}
use Rattle.lot_syntax.proofs.CurrencyLemmas.{front, same_len, pushed, currencies_from, words_step, words_end, words_fail, words_over}
use Rattle.lot_syntax.proofs.header_line.currencies.Goals as goal

pub loop-behind-preserved : goal.loop-behind-preserved
loop-behind-preserved c = record {
  most = grind (arith, nat_tests, c.push-in-Some-comma.ensures.len, c.is_full.ensures.value, c.is_full.ensures.fits);
  so_far = ap (λ (words : List (List ℕ)). option_map (front words) (more_words c.in_ok-next.after))
      (pushed c.loop-behind.currencies.items c.push-in-Some-comma.new.self.items c.in_ok-next.next c.push-in-Some-comma.ensures.items)
      ∙ words_step (map seen_text c.loop-behind.currencies.items) c.loop-behind.rest c.in-Some-comma.behind (c.in_ok-next.next.now, c.in_ok-next.after) _
      c.in-Some-comma.ensures c.in_ok-next.ensures c.loop-behind.invariant.so_far;
}

pub returns : goal.returns
returns c =
    let most = c.loop-behind.invariant.most in
    currencies_from c.args.tokens _ _ c.in-Some.first c.in-Some.rest c.clear.ensures c.push.ensures.items c.in-Some.ensures
    ∙ words_end (map seen_text c.loop-behind.currencies.items) c.loop-behind.rest _
    (omega (arith, same_len c.loop-behind.currencies.items)) c.in_default-comma.ensures c.loop-behind.invariant.so_far

pub returns-in_err-next : goal.returns-in_err-next
returns-in_err-next c =
    rw c.from_residual.ensures
    (currencies_from c.args.tokens _ _ c.in-Some.first c.in-Some.rest c.clear.ensures c.push.ensures.items c.in-Some.ensures
    ∙ words_fail (map seen_text c.loop-behind.currencies.items) c.loop-behind.rest c.in-Some-comma.behind _
    c.in-Some-comma.ensures c.in_err-next.ensures c.loop-behind.invariant.so_far)

pub returns-then-is_full : goal.returns-then-is_full
returns-then-is_full c =
    currencies_from c.args.tokens _ _ c.in-Some.first c.in-Some.rest c.clear.ensures c.push.ensures.items c.in-Some.ensures
    ∙ words_over (map seen_text c.loop-behind.currencies.items) c.loop-behind.rest c.in-Some-comma.behind (c.in_ok-next.next.now, c.in_ok-next.after) _
    (same_len c.loop-behind.currencies.items ∙ grind (arith, nat_tests, c.is_full.ensures.value))
    c.in-Some-comma.ensures c.in_ok-next.ensures c.loop-behind.invariant.so_far
