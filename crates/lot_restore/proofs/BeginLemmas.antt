-- The tables of a book without entries have the place of migration 0.
use Rattle.std.proofs.Common.{◌≡◌, ℕ, [], None, subst, arith}
use Rattle.sqlite.specs.State.{State}
use Rattle.lot_load.specs.Kept.{IsOf}
use Rattle.lot_store.proofs.CreateLemmas.{none_stands}
use Rattle.lot_store.specs.Create.{StandsForNone}
use Rattle.lot_restore.specs.Judge.{IsPlacedAt, StandsAt}

pub none_at : (s : State) → StandsForNone s → StandsAt (IsOf None) s [] 0
none_at s has =
    let stands = none_stands s has in
    let none : stands.stand.place ≡ 0 = omega (arith, stands.stand.placed) in
    record { stands = stands; placed = subst (λ (n : ℕ). IsPlacedAt n stands.tables) none stands.stand.migration; kept = tt }
