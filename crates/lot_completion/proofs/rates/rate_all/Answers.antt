-- Each posting is rated behind those before it. Where one has no rate, they have none together.
use Rattle.std.proofs.Common.{◌++◌, ◌∷◌, [], ap, ◌∙◌, sym, subst, List, rules}
use Rattle.lot_command.specs.declared.transaction.Posting.{Posting}
use Rattle.lot_completion.specs.Rates.{Rates, RatesAll, left_of}
use Rattle.lot_completion.proofs.RateLemmas.{cut_at, left_more, next_taken, none_zip, postings_more, zip_more}
use Rattle.lot_completion.proofs.rates.rate_all.Goals as goal

pub returns-in_default-clause-none : goal.returns-in_default-clause-none
returns-in_default-clause-none c none rated all =
    let item = c.posting-item.result in
    let cut = cut_at c.args.written.now c.loop-posting.posting-index item (search rules) c.posting-item.is in
    none_zip Rates _ item _ (c.in_ok-rated.ensures.none c.in_default.is) rated (subst (λ (xs : List Posting). RatesAll xs rated) cut all)

pub loop-posting-preserved : goal.loop-posting-preserved
loop-posting-preserved c =
    let before = c.loop-posting.invariant in
    let item = c.posting-item.result in
    let next = c.in-Some.rated in
    let taken = next_taken c.args.written.now c.loop-posting.posting-index item (search rules) c.posting-item.is in
    let rates : Rates item next = rw c.in-Some.is at c.in_ok-rated.ensures.some in (
      before.0 ++ next ∷ [],
      rw taken (zip_more Rates _ before.0 item next before.1 rates),
      c.in_ok-push.ensures.ok ∙ ap (λ first. first ++ next.posting ∷ []) before.2 ∙ sym (postings_more before.0 next),
      c.in_ok-push_some.ensures ∙ ap (λ first. first ++ left_of (next ∷ [])) before.3 ∙ sym (left_more before.0 next),
    )
