-- What is left has room for each part, and is the last share.
use Rattle.std.specs.Prelude.{◌≡◌, ◌-◌, pos, unsigned_abs}
use Rattle.std.proofs.Common.{ap, arith, sym, ◌∙◌, ◌++◌, ◌∷◌, []}
use Rattle.lot_csv.specs.Shares.{part_of}
use Rattle.lot_csv.proofs.ShareLemmas.{all_shares, leg_within, lent_within, part_at, part_left, part_taken, parts_more, some_of}
use Rattle.lot_csv.proofs.shares.shares.Goals as goal

pub loop-leg-init : goal.loop-leg-init
loop-leg-init c = record { parts = c.new-shares.ensures.items; left = omega arith }

pub part_of-part-requires-clause-of_all : goal.part_of-part-requires-clause-of_all
part_of-part-requires-clause-of_all c =
    let units = c.magnitude-units.ensures.value ∙ ap unsigned_abs c.units.ensures.value in
    let room = lent_within c.args.sale.now.units c.magnitude-units.result _ c.legs-legs.result.now c.legs-legs.ensures.of_units c.legs-legs.ensures.value units in
    rw c.magnitude.ensures.value (leg_within c.magnitude-total.result c.magnitude-units.result _ room c.loop-leg.leg-index c.leg-item.result c.loop-leg-test.true c.leg-item.is)

pub overflow_sub-left : goal.overflow_sub-left
overflow_sub-left c =
    let units = c.magnitude-units.ensures.value ∙ ap unsigned_abs c.units.ensures.value in
    let room = lent_within c.args.sale.now.units c.magnitude-units.result _ c.legs-legs.result.now c.legs-legs.ensures.of_units c.legs-legs.ensures.value units in
    let some = some_of c.args.sale.now.units c.magnitude-units.result _ c.legs-legs.ensures.of_units units in
    rw (c.part_of-part.ensures.value, c.magnitude.ensures.value)
    (part_left c.magnitude-total.result c.magnitude-units.result _ room c.loop-leg.leg-index c.leg-item.result c.loop-leg-test.true c.leg-item.is c.loop-leg.left some c.loop-leg.invariant.left)

pub loop-leg-preserved : goal.loop-leg-preserved
loop-leg-preserved c =
    let total = c.magnitude-total.ensures.value ∙ ap unsigned_abs c.total.ensures.value in
    let units = c.magnitude-units.ensures.value ∙ ap unsigned_abs c.units.ensures.value in
    let room = lent_within c.args.sale.now.units c.magnitude-units.result _ c.legs-legs.result.now c.legs-legs.ensures.of_units c.legs-legs.ensures.value units in
    let some = some_of c.args.sale.now.units c.magnitude-units.result _ c.legs-legs.ensures.of_units units in
    let part : c.not_negative.result ≡ pos (part_at (unsigned_abs c.args.price.now.0) (unsigned_abs c.args.sale.now.units) c.leg-item.result) =
    c.not_negative.ensures ∙ ap pos (c.part_of-part.ensures.value ∙ (λ j. part_of (total j) (units j) (c.magnitude.ensures.value j))) in
    record {
      parts =
          c.in_ok-push.ensures.items
          ∙ (λ j. c.loop-leg.invariant.parts j ++ part j ∷ [])
          ∙ sym (parts_more c.args.price.now.0 c.args.sale.now.units _ c.loop-leg.leg-index c.leg-item.result c.loop-leg-test.true c.leg-item.is);
      left =
          rw (c.part_of-part.ensures.value, c.magnitude.ensures.value)
          (part_taken c.magnitude-total.result c.magnitude-units.result _ room c.loop-leg.leg-index c.leg-item.result c.loop-leg-test.true c.leg-item.is c.loop-leg.left some c.loop-leg.invariant.left);
    }

pub not_negative-requires-2 : goal.not_negative-requires-2
not_negative-requires-2 c =
    let so_far = c.loop-leg.invariant.left in
    let bound = c.magnitude-total.ensures.bound in
    omega (arith, so_far, bound)

pub returns-clause-value : goal.returns-clause-value
returns-clause-value c =
    let total = c.magnitude-total.ensures.value ∙ ap unsigned_abs c.total.ensures.value in
    let units = c.magnitude-units.ensures.value ∙ ap unsigned_abs c.units.ensures.value in
    all_shares c.args.price.now.0 c.args.sale.now.units c.magnitude-total.result c.magnitude-units.result c.loop-leg.left c.loop-leg.leg-index
    c.args.sale.now.legs c.legs-legs.result.now c.loop-leg.shares.items _ c.not_negative-2.result c.total.ensures.not_negative total units c.legs-legs.ensures.value
    (omega arith) c.loop-leg.invariant.parts c.loop-leg.invariant.left c.not_negative-2.ensures c.in_ok-push-2.ensures.items
