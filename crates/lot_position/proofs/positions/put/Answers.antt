-- The sum of one position is kept anew, unless an error leaves all as it was.
use Rattle.std.proofs.Common.{◌≡◌, ◌+ℤ◌, false, pos, inl, inr, FitsSigned, w64, sym, ap, ap₂, subst, ◌∙◌, rules}
use Rattle.std.specs.Prelude.{OnErr, OnOk}
use Rattle.std.specs.Int.{w128}
use Rattle.std.specs.Option.{unwrap_or}
use Rattle.std.specs.Ordering.{int_eq}
use Rattle.std.proofs.lemmas.Int.{to_z-of_z}
use Rattle.lot_position.specs.Held.{NeedsRoom, kept_at}
use Rattle.lot_position.proofs.KeepLemmas.{Puts, puts_some}
use Rattle.lot_position.proofs.positions.put.Goals.{in-Ok, in-Err}
use Rattle.lot_position.proofs.positions.put.Goals as goal

pub returns-in_default-clause-needs : goal.returns-in_default-clause-needs
returns-in_default-clause-needs c =
    let before : c.unwrap_or-before.result ≡ kept_at c.args.sums.now c.args.position =
    c.unwrap_or-before.ensures ∙ ap (λ o. unwrap_or o (pos 0)) (c.copied.ensures ∙ c.get.ensures.value) in
    let first : FitsSigned w128 c.unwrap_or-before.result = search rules in
    let second : FitsSigned w128 c.from.result = search rules in
    let third : FitsSigned w64 c.mantissa.result = search rules in
    let moved : c.from.result ≡ c.args.units = c.from.ensures ∙ to_z-of_z w64 c.mantissa.result third ∙ c.mantissa.ensures.value in
    inr (λ fits. c.in_default.ensures
    (subst (FitsSigned w128)
    (ap₂ (λ a b. a +ℤ b) (sym (to_z-of_z w128 c.unwrap_or-before.result first ∙ before)) (sym (to_z-of_z w128 c.from.result second ∙ moved)))
    fits))

pub returns-clause-puts : goal.returns-clause-puts
returns-clause-puts c =
    let old = c.args.sums.now in
    let new = c.insert.new.self in
    let before : c.unwrap_or-before.result ≡ kept_at old c.args.position =
    c.unwrap_or-before.ensures ∙ ap (λ o. unwrap_or o (pos 0)) (c.copied.ensures ∙ c.get.ensures.value) in
    let first : FitsSigned w128 c.unwrap_or-before.result = search rules in
    let second : FitsSigned w128 c.from.result = search rules in
    let third : FitsSigned w64 c.mantissa.result = search rules in
    let after : FitsSigned w128 c.in-Some.after = search rules in
    let moved : c.from.result ≡ c.args.units = c.from.ensures ∙ to_z-of_z w64 c.mantissa.result third ∙ c.mantissa.ensures.value in
    let sum : c.in-Some.after ≡ kept_at old c.args.position +ℤ c.args.units =
    c.in-Some.ensures.1
    ∙ ap₂ (λ a b. a +ℤ b) (to_z-of_z w128 c.unwrap_or-before.result first ∙ before) (to_z-of_z w128 c.from.result second ∙ moved) in
    let some : int_eq c.in-Some.after (pos 0) ≡ false = search rules in
    elim c.match-insert.branch [
      | in-Ok w ↦
          subst (λ r. OnOk r (Puts old new c.args.position c.args.units)) (sym w.result-is)
          (puts_some old new c.args.position c.args.units c.in-Some.after _ sum some w.in-Ok.ensures.updates.0
          (to_z-of_z w128 c.in-Some.after after))
      | in-Err w ↦ subst (λ r. OnOk r (Puts old new c.args.position c.args.units)) (sym w.result-is) tt
    ]

pub returns-clause-needs : goal.returns-clause-needs
returns-clause-needs c =
    let old = c.args.sums.now in
    elim c.match-insert.branch [
      | in-Ok w ↦ subst (λ r. OnErr r (NeedsRoom (kept_at old c.args.position) c.args.units)) (sym w.result-is) tt
      | in-Err w ↦
          subst (λ r. OnErr r (NeedsRoom (kept_at old c.args.position) c.args.units)) (sym w.result-is)
          (inl (ap (λ o. unwrap_or o (pos 0)) w.in-Err.ensures.absent))
    ]
