-- Memory ends behind the first leg, which is in range.
use Rattle.std.proofs.Common.{◌≡◌, Bool, true, false, if◌then◌else◌, refl, List, [], ◌∷◌, Err, Result, sym, ap, subst}
use Rattle.std.specs.Result.{IsErrAnd}
use Rattle.lot_inv.specs.Inventory.{Held}
use Rattle.lot_book.specs.declared.leg.Leg.{Leg}
use Rattle.lot_book.specs.declared.refusal.Stop.{Stop}
use Rattle.lot_book.specs.declared.refusal.Stop.TheVariants.{Memory}
use Rattle.lot_book.specs.Leg.{leave_range, with_legs}
use Rattle.lot_posting.specs.Tally.{BeginInRange, IsFirstInRange}
use Rattle.lot_view.specs.View.{known}
use Rattle.lot_posting.proofs.draft.Draft.add.Goals as goal

begins : (held : Held) (legs : List Leg) → BeginInRange held legs → IsFirstInRange held legs
begins held [] e = tt
begins held (leg ∷ legs) e = e

-- where none of several sums leaves the range, the first doesn't
first_stays : (within more : Bool) → (if within then more else true) ≡ false → (if within then false else true) ≡ false
first_stays true more e = refl
first_stays false more e = e

all_stay : (held : Held) (legs : List Leg) → leave_range held legs ≡ false → IsFirstInRange held legs
all_stay held [] e = tt
all_stay held (leg ∷ legs) e = first_stays _ _ e

pub returns-in_err-post_all-clause-memory : goal.returns-in_err-post_all-clause-memory
returns-in_err-post_all-clause-memory c = λ lacks account posting of.
    let stop = c.in_err-post_all.field-0.0 in
    let memory : Memory ≡ stop = subst (λ (r : Result _ Stop). IsErrAnd r (λ e. e ≡ stop)) lacks c.from_residual.ensures.1 in
    begins (with_legs account ((known c.args.view.now).held account) c.args.self.now.tally.legs) c.args.legs.items
    (c.in_err-post_all.ensures.memory (ap Err (sym memory)) account posting of)

pub returns-in_err-weigh-clause-memory : goal.returns-in_err-weigh-clause-memory
returns-in_err-weigh-clause-memory c = λ lacks account posting of.
    all_stay (with_legs account ((known c.args.view.now).held account) c.args.self.now.tally.legs) c.args.legs.items
    (c.in_ok-post_all.ensures.in_range account posting of)
