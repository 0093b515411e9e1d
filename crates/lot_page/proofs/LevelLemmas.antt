-- The rows behind one: first those that have all but the last of its first columns, and then those past fewer columns.
use Rattle.std.proofs.Common.{inl, inr, ◌≡◌, ◌&&◌, ◌||◌, ℕ, zero, suc, Bool, true, false, not, true≢false, List, [], ◌∷◌, ◌++◌, filter, refl, sym, ap, ap₂, ◌∙◌, Ordering, Less, Equal, Greater, is_eq, is_ge, is_gt, is_lt}
use Rattle.std.specs.List.{list_all}
use Rattle.std.specs.Cmp.{alike_right}
use Rattle.std.specs.Ordering.{ordering_then}
use Rattle.std.proofs.lemmas.Bool.{cases_Bool}
use Rattle.sqlite.specs.Collation.TheVariants.{Binary}
use Rattle.sqlite.specs.Ops.{binary, is_null, is_true}
use Rattle.sqlite.specs.Order.{Row}
use Rattle.sqlite.specs.Query.{key_cmp}
use Rattle.sqlite.specs.Term.{Term, col, holds, op2}
use Rattle.sqlite.specs.Tree.{IsAscending}
use Rattle.sqlite.specs.declared.types.Value.{Value}
use Rattle.sqlite_keyed.proofs.ListLemmas.{all_weaker, ascending_weaker, filter_none}
use Rattle.sqlite_sql.proofs.QueryLemmas.{key_cmp_total}
use Rattle.sqlite_sql.specs.declared.ops.BinaryOp.TheVariants.{Compare}
use Rattle.sqlite_sql.specs.declared.ops.CompareOp.TheVariants.{Eq, Ge, Gt}
use Rattle.sqlite_sql.specs.declared.ops.CompareOp.{CompareOp}
use Rattle.sqlite_value.specs.Keys.{ascending, rising}
use Rattle.sqlite_value.specs.Order.{column, value_cmp}
use Rattle.sqlite_value.specs.declared.keys.Key.{Key}
use Rattle.lot_page.specs.Page.{is_past, level}
use Rattle.lot_table.proofs.ReadLemmas.{IsPresent, compared, true_if}

-- ---- the tests of a query

-- as `level`, or the next is as great
abbrev pub reach : ℕ → ℕ → Row → Row → Bool
reach zero at key row = not (is_lt (value_cmp (column row at) (column key at)))
reach (suc n) at key row = is_eq (value_cmp (column row at) (column key at)) && reach n (suc at) key row

-- the same as terms, behind one other parameter
abbrev pub terms : CompareOp → ℕ → ℕ → List Term
terms op zero at = op2 (Compare op Binary) (col 1 (suc at)) (col 0 (suc at)) ∷ []
terms op (suc n) at = op2 (Compare Eq Binary) (col 1 (suc at)) (col 0 (suc at)) ∷ terms op n (suc at)

ge_is : (o : Ordering) → is_ge o ≡ not (is_lt o)
ge_is Less = refl
ge_is Equal = refl
ge_is Greater = refl

and_true : (b : Bool) → (b && true) ≡ b
and_true true = refl
and_true false = refl

at_least : (a b : Value) → is_null a ≡ false → is_null b ≡ false → is_true (binary (Compare Ge Binary) a b) ≡ not (is_lt (value_cmp a b))
unfolding binary
at_least a b p q = rw (p, q) (true_if (is_ge (value_cmp a b)) ∙ ge_is (value_cmp a b))

above : (a b : Value) → is_null a ≡ false → is_null b ≡ false → is_true (binary (Compare Gt Binary) a b) ≡ is_gt (value_cmp a b)
unfolding binary
above a b p q = rw (p, q) (true_if (is_gt (value_cmp a b)))

module _ (m v : Value) (row key : Row) where
  pub terms_reach : (n at : ℕ) → IsPresent (suc n) at row → IsPresent (suc n) at key → list_all (holds ((m ∷ key) ∷ (v ∷ row) ∷ [])) (terms Ge n at) ≡ reach n at key row
  terms_reach zero at p q = and_true _ ∙ at_least (column row at) (column key at) p.0 q.0
  terms_reach (suc n) at p q = ap₂ ◌&&◌ (compared (column row at) (column key at) p.0 q.0) (terms_reach n (suc at) p.1 q.1)

  pub terms_level : (n at : ℕ) → IsPresent (suc n) at row → IsPresent (suc n) at key → list_all (holds ((m ∷ key) ∷ (v ∷ row) ∷ [])) (terms Gt n at) ≡ level n at key row
  terms_level zero at p q = and_true _ ∙ above (column row at) (column key at) p.0 q.0
  terms_level (suc n) at p q = ap₂ ◌&&◌ (compared (column row at) (column key at) p.0 q.0) (terms_level n (suc at) p.1 q.1)

-- ---- one column more

-- what is past more columns has those in common and is greater in the next, or is past them
past_more : (n at : ℕ) (start row : Row) → is_gt (key_cmp at (rising (suc n) []) row start) ≡ (level n at start row || is_gt (key_cmp at (rising n []) row start))
past_more zero at start row = last (value_cmp (column row at) (column start at))
  where
    last : (o : Ordering) → is_gt (ordering_then o Equal) ≡ (is_gt o || false)
    last Less = refl
    last Equal = refl
    last Greater = refl
past_more (suc n) at start row = first (value_cmp (column row at) (column start at)) (past_more n (suc at) start row)
  where
    first : (o : Ordering) → is_gt (key_cmp (suc at) (rising (suc n) []) row start) ≡ (level n (suc at) start row || is_gt (key_cmp (suc at) (rising n []) row start))
        → is_gt (ordering_then o (key_cmp (suc at) (rising (suc n) []) row start)) ≡ ((is_eq o && level n (suc at) start row) || is_gt (ordering_then o (key_cmp (suc at) (rising n []) row start)))
    first Less more = refl
    first Equal more = more
    first Greater more = refl

-- by the first column alone
pub first_column : (start row : Row) → is_gt (value_cmp (column row 0) (column start 0)) ≡ is_past 1 start row
first_column start row = last (value_cmp (column row 0) (column start 0))
  where
    last : (o : Ordering) → is_gt o ≡ is_gt (ordering_then o Equal)
    last Less = refl
    last Equal = refl
    last Greater = refl

-- what has them in common
level_equal : (n at : ℕ) (start row : Row) → level n at start row ≡ true → key_cmp at (rising n []) row start ≡ Equal
level_equal zero at start row is = refl
level_equal (suc n) at start row is = first (value_cmp (column row at) (column start at)) (λ more. level_equal n (suc at) start row more) is
  where
    first : (o : Ordering) → (level n (suc at) start row ≡ true → key_cmp (suc at) (rising n []) row start ≡ Equal) → (is_eq o && level n (suc at) start row) ≡ true → ordering_then o (key_cmp (suc at) (rising n []) row start) ≡ Equal
    first Less more is = absurd (true≢false (sym is))
    first Equal more is = more is
    first Greater more is = absurd (true≢false (sym is))

-- ---- fewer columns

-- so many columns, and then by those keys
abbrev pub then_by : ℕ → List Key → List Key
then_by zero more = more
then_by (suc n) more = ascending Binary ∷ then_by n more

-- what comes first in the order of more columns doesn't come last in that of fewer
not_past : (width : ℕ) (more : List Key) (at : ℕ) (a b : Row) → key_cmp at (then_by width more) a b ≡ Less → is_gt (key_cmp at (rising width []) a b) ≡ false
not_past zero more at a b less = refl
not_past (suc width) more at a b less = by_first (value_cmp (column a at) (column b at)) (λ then. not_past width more (suc at) a b then) less
  where
    by_first : (o : Ordering) → (key_cmp (suc at) (then_by width more) a b ≡ Less → is_gt (key_cmp (suc at) (rising width []) a b) ≡ false) → ordering_then o (key_cmp (suc at) (then_by width more) a b) ≡ Less
        → is_gt (ordering_then o (key_cmp (suc at) (rising width []) a b)) ≡ false
    by_first Less behind first = refl
    by_first Equal behind first = behind first
    by_first Greater behind first = absurd cc

-- the rows rise by fewer columns, some of them the same
abbrev pub Mounts : ℕ → List Row → Type 0
Mounts width = IsAscending (λ a b. is_past width b a ≡ false)

pub mounts : (width : ℕ) (more : List Key) (rows : List Row) → IsAscending (λ a b. key_cmp 0 (then_by width more) a b ≡ Less) rows → Mounts width rows
mounts width more rows = ascending_weaker (λ a b. key_cmp 0 (then_by width more) a b ≡ Less) (λ a b. is_past width b a ≡ false) (λ a b less. not_past width more 0 a b less) rows

-- ---- the rows behind one

or_true : (b : Bool) → (b || true) ≡ true
or_true true = refl
or_true false = refl

or_false : (b : Bool) → (b || false) ≡ b
or_false true = refl
or_false false = refl

module _ (n : ℕ) (start : Row) where
  abbrev of_level : Row → Bool
  of_level = level n 0 start

  abbrev past : Row → Bool
  past = is_past n start

  abbrev past_one_more : Row → Bool
  past_one_more = is_past (suc n) start

  -- a row of the level isn't past it
  not_both : (row : Row) → past row ≡ true → of_level row ≡ false
  not_both row gone = elim (cases_Bool (of_level row)) [ inl of ↦ absurd (true≢false (sym gone ∙ ap is_gt (level_equal n 0 start row of))) | inr other ↦ other ]

  -- none of the level is behind a row that is past it
  none_of_level : (row other : Row) → past row ≡ true → is_past n other row ≡ false → of_level other ≡ false
  none_of_level row other gone after = elim (cases_Bool (of_level other)) [
    | inl of ↦
        let tied = alike_right (key_cmp_total (rising n []) 0) other start row (level_equal n 0 start other of) in
        absurd (true≢false (sym (ap is_gt tied ∙ gone) ∙ after))
    | inr other ↦ other
  ]

  -- first those of the level, and then those past fewer columns
  pub split : (rows : List Row) → Mounts n rows → filter past_one_more rows ≡ filter of_level rows ++ filter past rows
  split [] up = refl
  split (row ∷ rows) up = elim (cases_Bool (past row)) [
    | inl gone ↦
        let past_more_too : past_one_more row ≡ true = past_more n 0 start row ∙ ap (λ b. of_level row || b) gone ∙ or_true (of_level row) in
        let none : filter of_level rows ≡ [] = filter_none of_level rows (all_weaker (λ other. is_past n other row ≡ false) (λ other. of_level other ≡ false) (λ other after. none_of_level row other gone after) rows up.0) in
        rw (past_more_too, not_both row gone, gone)
        (ap (λ l. row ∷ l) (split rows up.1 ∙ ap (λ l. l ++ filter past rows) none) ∙ ap (λ l. l ++ row ∷ filter past rows) (sym none))
    | inr before ↦
        let as_level : past_one_more row ≡ of_level row = past_more n 0 start row ∙ ap (λ b. of_level row || b) before ∙ or_false (of_level row) in
        elim (cases_Bool (of_level row)) [
          | inl of ↦ rw (as_level ∙ of, of, before) (ap (λ l. row ∷ l) (split rows up.1))
          | inr other ↦ rw (as_level ∙ other, other, before) (split rows up.1)
        ]
  ]
