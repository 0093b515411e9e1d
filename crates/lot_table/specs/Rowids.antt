-- The rowids of the rows of a table, and those that changes give.
use Rattle.std.specs.Prelude.{ℕ, ◌+◌, ℤ, pos, ◌+ℤ◌, ◌≤ℤ◌, List}
use Rattle.std.specs.List.{AllByRecursion}
use Rattle.sqlite.specs.Order.{Row}
use Rattle.sqlite.specs.Schema.{Schema}
use Rattle.sqlite.specs.Table.{Table}
use Rattle.sqlite.specs.Tree.{Trees, rowid}
use Rattle.sqlite_rules.specs.Edit.{id_in}

-- a number from −low to high
abbrev pub IsWithin : ℕ → ℕ → ℤ → Type 0
IsWithin low high id = (pos 0 ≤ℤ (id +ℤ pos low)) × (id ≤ℤ pos high)

-- each of these stored rows has such a rowid
abbrev pub LieWithin : ℕ → ℕ → List Row → Type 0
LieWithin low high = AllByRecursion (λ row. IsWithin low high (id_in (rowid row)))

-- A rowid that so many changes of a table can reach, one row each: whatever range its rowids lie in, from −low to high, this
-- one lies in it, or above it by no more than there are changes.
abbrev pub IsInReach : ℕ → List Row → ℤ → Type 0
IsInReach count stored id = (low high : ℕ) → LieWithin low high stored → IsWithin low (count + high) id

-- each of these rows has such a rowid
abbrev pub StayInReach : ℕ → List Row → List Row → Type 0
StayInReach count old = AllByRecursion (λ row. IsInReach count old (id_in (rowid row)))

-- so has each row of each table
abbrev pub EachStaysInReach : ℕ → Schema → Trees → Trees → Type 0
EachStaysInReach count schema old new =
    AllByRecursion (λ (t : Table). StayInReach count (old t.tree) (new t.tree)) schema.tables
