-- A leg that isn't of a later day is added to the sum of its position.
use Rattle.std.proofs.Common.{◌≡◌, true, refl, subst, rules}
use Rattle.std.specs.Prelude.{OnErr, OnOk}
use Rattle.lot_legs.specs.Legs.{is_by}
use Rattle.lot_position.specs.Held.{NeedsRoom, kept_at}
use Rattle.lot_position.specs.declared.positions.Positions.{Positions}
use Rattle.lot_position.proofs.KeepLemmas.{Puts, after_err, after_ok, keeps_put, needs_held}
use Rattle.lot_position.proofs.positions.Positions.add.Goals as goal

pub returns-clause-adds : goal.returns-clause-adds
returns-clause-adds c =
    let old = c.args.self.now in
    let leg = c.args.leg in
    let new : Positions = record { day = old.day; sums = c.put.new.sums } in
    let in_time : is_by old.day leg.day ≡ true = search rules in
    after_ok c.put.result (λ puts day legs keeps. keeps_put day legs leg old new in_time refl puts keeps)
    (subst (λ move. OnOk c.put.result (Puts old.sums new.sums move.0 move.1)) c.move_of-position.ensures c.put.ensures.puts)

pub returns-clause-needs : goal.returns-clause-needs
returns-clause-needs c =
    let old = c.args.self.now in
    let leg = c.args.leg in
    let new : Positions = record { day = old.day; sums = c.put.new.sums } in
    let in_time : is_by old.day leg.day ≡ true = search rules in
    after_err c.put.result (λ room day legs keeps. needs_held day legs leg old new in_time room keeps)
    (subst (λ move. OnErr c.put.result (NeedsRoom (kept_at old.sums move.0) move.1)) c.move_of-position.ensures c.put.ensures.needs)
