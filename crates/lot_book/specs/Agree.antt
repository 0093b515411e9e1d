-- Two bodies of facts that agree on what a command looks at.
use Rattle.std.specs.Prelude.{◌≡◌, ℕ, List, Option, None}
use Rattle.std.specs.FinMap as finite
use Rattle.std.specs.List.{AllByRecursion}
use Rattle.lot_cost.specs.declared.lot_key.LotKey.{LotKey}
use Rattle.lot_inv.specs.Inventory.{Held}
use Rattle.lot_command.specs.declared.command.Command.{Command}
use Rattle.lot_book.specs.declared.change.Pair.{Pair}
use Rattle.lot_book.specs.Facts.{Facts}
use Rattle.lot_book.specs.Touched.{accounts_in, declared_in, pairs_in, plain_in}

-- inventories with the same plain units of a commodity, and the same lots
abbrev pub HaveSameOf : List ℕ → Held → Held → Type 0
HaveSameOf commodity a b = (lot : Option LotKey) → finite.get a (commodity, lot) ≡ finite.get b (commodity, lot)

-- inventories with the same plain units of every commodity
abbrev pub HaveSamePlain : Held → Held → Type 0
HaveSamePlain a b = (commodity : List ℕ) → finite.get a (commodity, None) ≡ finite.get b (commodity, None)

-- the facts agree on these accounts, commodities and pairs, and on the plain units of these accounts
pub record AgreesOn (a b : Facts) (accounts declared : List (List ℕ)) (pairs : List Pair) (plain : List (List ℕ)) : Type 0 where
  pub entries : a.entries ≡ b.entries
  pub text : a.text ≡ b.text
  pub standing : AllByRecursion (λ (account : List ℕ). a.standing account ≡ b.standing account) accounts
  pub is_declared : AllByRecursion (λ (commodity : List ℕ). a.is_declared commodity ≡ b.is_declared commodity) declared
  pub latest_at_cost : AllByRecursion
      (λ (pair : Pair). a.latest_at_cost pair.account pair.commodity ≡ b.latest_at_cost pair.account pair.commodity) pairs
  pub held : AllByRecursion (λ (pair : Pair). HaveSameOf pair.commodity (a.held pair.account) (b.held pair.account)) pairs
  pub plain_units : AllByRecursion (λ (account : List ℕ). HaveSamePlain (a.held account) (b.held account)) plain

-- they agree on what the command looks at
abbrev pub Agrees : Facts → Facts → Command → Type 0
Agrees a b command = AgreesOn a b (accounts_in command) (declared_in command) (pairs_in command) (plain_in command)
