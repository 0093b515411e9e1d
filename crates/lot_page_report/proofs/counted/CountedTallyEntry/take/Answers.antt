use Rattle.std.proofs.Common.{◌≡◌, ◌+◌, ◌∙◌, Some, ap, refl, subst}
use Rattle.std.specs.Prelude.{cond}
use Rattle.lot_legs.specs.Days.{day_in}
use Rattle.lot_walk.specs.Journal.{said}
use Rattle.lot_page_report.proofs.CountLemmas.{counted_more, day_is}
use Rattle.lot_page_report.proofs.counted.CountedTallyEntry.take.Goals as goal

pub returns : goal.returns
returns c = λ range rows had.
    let old = c.args.self.now in
    let day = subst (λ text. day_in text ≡ Some c.in-Some.day) c.as_str.ensures.value (rw c.in-Some.is at c.day_at_front.ensures.day) in
    let within = rw c.in-Some-with_one.is at c.with_one.ensures in
    let count = rw c.in-Some-with_one-2.is at c.with_one-2.ensures in (
      refl,
      counted_more range rows (said c.args.entry) old _ c.in-Some.day had (day_is (said c.args.entry) c.in-Some.day day) refl refl count
          (within ∙ ap (λ b. cond b (old.within + 1) old.within) c.is_within-is_one.ensures) c.days_with-self.ensures,
    )
