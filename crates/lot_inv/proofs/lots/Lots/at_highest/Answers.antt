-- Where a number is given all lots are lent; else those of the highest number, where they hold the units.
use Rattle.std.proofs.Common.{◌≡◌, None, Option, ℕ, inl, inr, sym, subst, ◌∙◌, unsigned_abs, rules}
use Rattle.std.proofs.lemmas.Result.{IfOk-weaker}
use Rattle.lot_inv.specs.declared.foremost.Foremost.TheVariants.{Highest}
use Rattle.lot_inv.specs.Foremost.{AreLentOf}
use Rattle.lot_inv.specs.Holding.{listed, takeable_lots}
use Rattle.lot_inv.specs.Inventory.{with_number}
use Rattle.lot_inv.proofs.HighestLemmas.{lent_found, lent_whole}
use Rattle.lot_inv.proofs.lots.Lots.at_highest.Goals as goal

pub returns-in-None : goal.returns-in-None
returns-in-None c =
    let units = c.args.units in
    let spec = c.args.spec.now in
    let amount = unsigned_abs units in
    let entries = listed c.args.self.now in
    let number : c.args.number.now ≡ None = search rules in
    let free : spec.number ≡ None = elim c.requires [ inl none ↦ none | inr same ↦ same ∙ number ] in
    let lent = lent_found units spec amount entries c.highest-highest.result free c.highest-highest.ensures in
    IfOk-weaker c.takeable_at-in-None.result _ _
    (λ lots is.
    subst (λ (n : Option ℕ). AreLentOf Highest amount (takeable_lots units (with_number n spec) entries) lots.items) (sym number)
    (subst (AreLentOf Highest amount (takeable_lots units (with_number None spec) entries)) (sym is) lent)) c.takeable_at-in-None.ensures

pub returns-in-Some : goal.returns-in-Some
returns-in-Some c =
    let all = takeable_lots c.args.units (with_number c.args.number.now c.args.spec.now) (listed c.args.self.now) in
    let amount = unsigned_abs c.args.units in
    IfOk-weaker c.takeable_at.result _ _
    (λ lots is. subst (AreLentOf Highest amount all) (sym is) (lent_whole Highest amount all)) c.takeable_at.ensures
