use Rattle.std.proofs.Common.{◌≡◌, ◌∙◌, ◌∷◌, ◌++◌, [], Err, ap, subst, sym}
use Rattle.lot_book.specs.declared.leg.Leg.{Leg}
use Rattle.lot_migrate.specs.LotOpenings.{Keeps, LeavesRange}
use Rattle.lot_migrate.specs.Rows.{leg_of}
use Rattle.lot_migrate.proofs.RowLemmas.{one_leg}
use Rattle.lot_migrate.proofs.fold.post_row.Goals as goal

pub returns-in-Ok-clause-posts : goal.returns-in-Ok-clause-posts
returns-in-Ok-clause-posts c =
    let row = c.in_ok-read.field-0 in
    let is : c.in-Some.leg ≡ leg_of row = c.in-Some.ensures.1 in (
      row,
      c.in_ok-read.ensures.ok,
      c.in_ok-read.ensures.good,
      c.in-Some.ensures.0,
      λ before keeps.
          subst (λ (leg : Leg). Keeps (before ++ leg ∷ []) c.post.new.self) is (c.in-Ok.ensures.adds before keeps),
    )

pub returns-in-Err-Range-clause-damaged : goal.returns-in-Err-Range-clause-damaged
returns-in-Err-Range-clause-damaged c is before keeps leg good numbered same =
    let row = c.in_ok-read.field-0 in
    let one : row ≡ leg = one_leg row leg c.in_ok-read.ensures.good good (sym c.in_ok-read.ensures.ok ∙ same) in
    let at : c.in-Some.leg ≡ leg_of leg = c.in-Some.ensures.1 ∙ ap leg_of one in
    subst (LeavesRange before) at ((c.in-Err-Range.ensures.range before keeps).0 (ap Err c.in-Err-Range.field-0-is))
