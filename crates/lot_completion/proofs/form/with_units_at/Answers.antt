use Rattle.std.proofs.Common.{◌≡◌, ◌++◌, ◌∷◌, [], rules, sym, take, ◌∙◌, ap}
use Rattle.lot_rounding.specs.Asked.{with_units, with_units_at}
use Rattle.lot_completion.proofs.FormLemmas.{next_at_place, next_elsewhere}
use Rattle.lot_completion.proofs.form.with_units_at.Goals as goal
use Rattle.lot_completion.proofs.form.with_units_at.Goals.{then-index-place+in_ok-posting, else-index-place+in_ok-posting-2}

pub loop-index-preserved : goal.loop-index-preserved
loop-index-preserved c =
    let xs = c.args.postings.now in
    let i = c.loop-index.index in
    let x = c.index-postings-index.result in
    let pushed = c.in_ok-push.ensures.ok ∙ ap (λ first. first ++ c.if-index-place.posting ∷ []) c.loop-index.invariant in
    elim c.if-index-place.branch [
      | then-index-place+in_ok-posting w ↦
          let placed : c.if-index-place.posting ≡ with_units c.args.units x = cc (w.in_ok-posting.ensures) in
          pushed ∙ ap (λ p. with_units_at c.args.place c.args.units (take i xs) ++ p ∷ []) placed
          ∙ sym (next_at_place c.args.place c.args.units xs i x (search rules) c.index-postings-index.is w.if-index-place.true)
      | else-index-place+in_ok-posting-2 w ↦
          let placed : c.if-index-place.posting ≡ x = cc (w.in_ok-posting-2.ensures) in
          pushed ∙ ap (λ p. with_units_at c.args.place c.args.units (take i xs) ++ p ∷ []) placed
          ∙ sym (next_elsewhere c.args.place c.args.units xs i x (search rules) c.index-postings-index.is w.if-index-place.false)
    ]
