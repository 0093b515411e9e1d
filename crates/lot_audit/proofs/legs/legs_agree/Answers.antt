-- Rows and legs of other postings are none.
use Rattle.std.proofs.Common.{sym, ◌+◌, ◌∙◌}
use Rattle.std.proofs.lemmas.Bool.{true≢false}
use Rattle.lot_audit.proofs.LegsLemmas.{all_alike, within_where_alike}
use Rattle.lot_audit.proofs.legs.legs_agree.Goals as goal

pub returns-then-are_of_postings : goal.returns-then-are_of_postings
returns-then-are_of_postings c = λ good numbered. (
  (λ is. all_alike c.args.rows.now c.args.legs.now numbered good (c.are_of_postings.ensures.0 c.if-are_of_postings.true) (c.postings_agree.ensures.0 is)),
  (λ alike. c.postings_agree.ensures.1 (λ posting within. alike (posting + 1))),
)

pub returns-else-are_of_postings : goal.returns-else-are_of_postings
returns-else-are_of_postings c = λ good numbered. (
  (λ is. absurd (true≢false (sym is ∙ c.if-are_of_postings.false))),
  (λ alike. c.are_of_postings.ensures.1 (within_where_alike c.args.rows.now c.args.legs.now numbered alike)),
)
