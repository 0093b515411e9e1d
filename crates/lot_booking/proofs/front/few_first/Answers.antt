-- One more lot goes to the end of those that come first.
use Rattle.std.proofs.Common.{arith, ◌≡◌, ◌∙◌, ◌∷◌, [], ◌++◌, ap}
use Rattle.std.proofs.lemmas.List.Sorted.{IsPermutation-pop_more}
use Rattle.lot_inv.specs.declared.lot.Lot.{Lot}
use Rattle.lot_booking.specs.Front.{is_earlier}
use Rattle.lot_booking.proofs.FrontLemmas.{leads_more}
use Rattle.lot_booking.proofs.front.few_first.Goals as goal
use Rattle.lot_booking.proofs.front.few_first.Goals.{then-left-gt0+then-not-is_empty+in_ok-copy+in_ok-push, else-left-gt0}

pub loop-preserved : goal.loop-preserved
loop-preserved g c =
    let earlier = is_earlier g.O.LotOrder.before in
    let all = c.args.lots.now.items in
    let front = c.loop.front.items in
    let lots = c.loop.lots.items in
    elim c.if-left-gt0.branch [
      | then-left-gt0+then-not-is_empty+in_ok-copy+in_ok-push w ↦
          let lot : Lot = w.remove_first-lot.result in
          let rest = w.remove_first-lot.new.lots.items in
          let taken = w.remove_first-lot.ensures in
          let pushed : w.push.new.self.items ≡ front ++ lot ∷ [] =
          w.in_ok-push.ensures.items ∙ ap (λ (copied : Lot). front ++ copied ∷ []) w.in_ok-copy.ensures in
          rw (w.lots-is, w.front-is, w.left-is, pushed) (record {
            same = IsPermutation-pop_more all front lots rest lot c.loop.invariant.same taken.same;
            lead = leads_more earlier front lots rest lot c.loop.invariant.lead taken.same taken.first;
            within = omega (arith, c.loop.invariant.within);
          })
      | else-left-gt0 w ↦ rw (w.lots-is, w.front-is, w.left-is) c.loop.invariant
    ]
