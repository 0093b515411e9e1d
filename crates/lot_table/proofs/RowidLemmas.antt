-- Which rowids a change of one row gives.
use Rattle.std.proofs.Common.{◌≡◌, ◌≢◌, inl, inr, ℕ, ◌+◌, ℤ, pos, ◌+ℤ◌, ◌≤ℤ◌, Bool, List, [], ◌∷◌, filter, fold, refl, sym, subst, ◌∙◌, arith, eqb, eq-eqb, eqb-true, true≢false}
use Rattle.std.proofs.lemmas.Bool.{cases_Bool}
use Rattle.std.proofs.lemmas.Int.{ints}
use Rattle.std.specs.List.{AllByRecursion}
use Rattle.sqlite.specs.Order.{Row}
use Rattle.sqlite.specs.Schema.{Schema}
use Rattle.sqlite.specs.Table as declared
use Rattle.sqlite.specs.Tree.{Trees, put_row, rowid}
use Rattle.sqlite_rules.proofs.ListLemmas.{all_from, all_has, has_filtered}
use Rattle.sqlite_rules.proofs.TableLemmas.{put_has}
use Rattle.sqlite_rules.specs.Edit.{id_in, next_rowid}
use Rattle.sqlite_rules.specs.Lists.{Has}
use Rattle.lot_table.specs.Rowids.{EachStaysInReach, IsInReach, IsWithin, LieWithin, StayInReach}

wider : (count low high : ℕ) (id : ℤ) → IsWithin low high id → IsWithin low (count + high) id
wider count low high id within = let top = within.1 in (within.0, omega (arith, ints, top))

-- ---- one rowid

last_within : (low high : ℕ) (next : ℤ) (rows : List Row) → IsWithin low (1 + high) next → LieWithin low high rows
    → IsWithin low (1 + high) (fold (λ _ r. id_in (rowid r) +ℤ pos 1) next rows)
last_within low high next [] is all = is
last_within low high next (r ∷ rows) is all =
    let at = all.0 in
    last_within low high (id_in (rowid r) +ℤ pos 1) rows (omega (arith, ints, at.0), omega (arith, ints, at.1)) all.1

-- the next rowid
pub next_in_reach : (rows : List Row) → IsInReach 1 rows (next_rowid rows)
next_in_reach rows low high all = last_within low high (pos 1) rows (omega (arith, ints), omega (arith, ints)) all

-- that of a row that is there
pub had_in_reach : (count : ℕ) (rows : List Row) (r : Row) → Has rows r → IsInReach count rows (id_in (rowid r))
had_in_reach count rows r there low high all = wider count low high _ (all_has _ rows r all there)

-- one in reach of rows that are in reach
pub reach_then : (first second : ℕ) (old mid : List Row) (id : ℤ) → StayInReach first old mid → IsInReach second mid id
    → IsInReach (second + first) old id
reach_then first second old mid id stay next low high all =
    let it = next low (first + high) (all_from _ mid (λ r h. all_has _ mid r stay h low high all)) in
    let top = it.1 in
    (it.0, omega (arith, ints, top))

-- ---- the rows of a table

pub stay_then : (first second : ℕ) (old mid new : List Row) → StayInReach first old mid → StayInReach second mid new
    → StayInReach (second + first) old new
stay_then first second old mid new stay more =
    all_from _ new (λ r h. reach_then first second old mid _ stay (all_has _ new r more h))

-- some rows are left
pub left_in_reach : (count : ℕ) (rows : List Row) (p : Row → Bool) → StayInReach count rows (filter p rows)
left_in_reach count rows p = all_from _ (filter p rows) (λ r h. had_in_reach count rows r (has_filtered p rows r h).0)

-- a row is put
pub put_in_reach : (count : ℕ) (old rows : List Row) (new : Row) → StayInReach count old rows → IsInReach count old (id_in (rowid new))
    → StayInReach count old (put_row new rows)
put_in_reach count old rows new stay at = all_from _ (put_row new rows) (λ r h. elim (put_has new rows r h) [
  | inl same ↦ subst (λ (x : Row). IsInReach count old (id_in (rowid x))) (sym same) at
  | inr was ↦ all_has _ rows r stay was
])

-- nothing changes
pub all_in_reach : (count : ℕ) (rows : List Row) → StayInReach count rows rows
all_in_reach count rows = all_from _ rows (λ r h. had_in_reach count rows r h)

-- ---- each table

-- one of them changes
pub one_in_reach : (tree : ℕ) (old new : Trees) → StayInReach 1 (old tree) (new tree) → (tables : List declared.Table)
    → AllByRecursion (λ (t : declared.Table). t.tree ≢ tree → new t.tree ≡ old t.tree) tables
    → AllByRecursion (λ (t : declared.Table). StayInReach 1 (old t.tree) (new t.tree)) tables
one_in_reach tree old new stay [] others = tt
one_in_reach tree old new stay (t ∷ tables) others = (
  elim (cases_Bool (eqb t.tree tree)) [
    | inl here ↦ subst (λ n. StayInReach 1 (old n) (new n)) (sym (eqb-true t.tree tree here)) stay
    | inr other ↦ subst (StayInReach 1 (old t.tree)) (sym (others.0 (λ e. true≢false (sym (eq-eqb t.tree tree e) ∙ other)))) (all_in_reach 1 (old t.tree))
  ],
  one_in_reach tree old new stay tables others.1,
)

-- none of them has changed
pub each_in_reach : (trees : Trees) (tables : List declared.Table) → AllByRecursion (λ (t : declared.Table). StayInReach 0 (trees t.tree) (trees t.tree)) tables
each_in_reach trees [] = tt
each_in_reach trees (t ∷ tables) = (all_in_reach 0 (trees t.tree), each_in_reach trees tables)

-- more changes follow
pub each_then : (first second : ℕ) (old mid new : Trees) (tables : List declared.Table)
    → AllByRecursion (λ (t : declared.Table). StayInReach first (old t.tree) (mid t.tree)) tables
    → AllByRecursion (λ (t : declared.Table). StayInReach second (mid t.tree) (new t.tree)) tables
    → AllByRecursion (λ (t : declared.Table). StayInReach (second + first) (old t.tree) (new t.tree)) tables
each_then first second old mid new [] stay more = tt
each_then first second old mid new (t ∷ tables) stay more =
    (stay_then first second (old t.tree) (mid t.tree) (new t.tree) stay.0 more.0, each_then first second old mid new tables stay.1 more.1)
