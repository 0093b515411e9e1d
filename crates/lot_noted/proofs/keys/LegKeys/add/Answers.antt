use Rattle.std.specs.Prelude.{◌≡◌}
use Rattle.std.proofs.Common.{◌∙◌, ◌∷◌, ◌++◌, [], ap, refl, rules, sym}
use Rattle.lot_noted.specs.Keys.{key_in}
use Rattle.lot_noted.proofs.KeyLemmas.{keys_kept, keys_passed}
use Rattle.lot_noted.proofs.keys.LegKeys.add.Goals as goal

pub returns-then-not-has-clause-takes : goal.returns-then-not-has-clause-takes
returns-then-not-has-clause-takes c = λ asked legs taken.
    keys_passed asked legs c.args.leg.now c.args.self.now taken (sym c.has.ensures ∙ c.if-not-has.true)

pub returns-clause-takes : goal.returns-clause-takes
returns-clause-takes c = λ asked legs taken.
    let pushed : c.push.new.self.items ≡ c.args.self.now.keys.items ++ c.key_in.result ∷ [] = search rules in
    keys_kept asked legs c.args.leg.now c.args.self.now (record { scope = c.args.self.now.scope; keys = c.push.new.self }) taken
    (sym c.has.ensures ∙ c.if-not-has.false) refl (pushed ∙ ap (λ k. c.args.self.now.keys.items ++ k ∷ []) c.key_in.ensures)
