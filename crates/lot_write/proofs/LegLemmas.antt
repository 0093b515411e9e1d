-- The table of legs once those of another entry are put.
use Rattle.std.specs.Prelude.{◌≡◌, ℕ, Bool, true, false, cond, List, [], ◌∷◌, ◌++◌, map}
use Rattle.std.specs.List.{AllByRecursion}
use Rattle.std.specs.declared.cmp.Ordering.TheVariants.{Less}
use Rattle.std.proofs.Common.{refl, sym, ap, subst, ◌∙◌, arith, append_assoc}
use Rattle.std.proofs.lemmas.List.{append-nil, map-append}
use Rattle.std.proofs.lemmas.List.Elements.{filter-append}
use Rattle.sqlite.specs.Tree.{IsAscending}
use Rattle.sqlite_keyed.proofs.ListLemmas.{all-append, all_kept, all_map, all_weaker}
use Rattle.sqlite_rules.proofs.ListLemmas.{all_from, all_has, has_filtered}
use Rattle.lot_book.specs.declared.leg.Leg.{Leg}
use Rattle.lot_rows.specs.Leg.{leg_cells}
use Rattle.lot_rows.specs.declared.leg.LegRow.{LegRow}
use Rattle.lot_table.specs.Rows.{has_key, put_in, with_key}
use Rattle.lot_stored.specs.Kept.{is_of_posting, legs_of_posting}
use Rattle.lot_stored.specs.Rows.{leg_row, posting_key}
use Rattle.lot_stored.proofs.LegLemmas.{below_by_place, has_its, its_parts}
use Rattle.lot_stored.proofs.LookupLemmas.{with_key-put_last, with_key-put_other}
use Rattle.lot_stored.proofs.OrderLemmas.{IsRising, rises-put_in, row_order}
use Rattle.lot_stored.proofs.BookedLemmas.{Precedes}
use Rattle.lot_write.proofs.PutLemmas.{put_each}

-- rows stand for legs: those of each posting, in their order
abbrev pub Shows : List LegRow → List Leg → Type 0
Shows rows legs = (entry posting : ℕ) → with_key leg_cells 2 (posting_key entry posting) rows ≡ map leg_row (legs_of_posting entry posting legs)

-- the rows of a leg's posting are below its row
pub rows_below : (entry posting : ℕ) (rows : List LegRow) (done : List Leg) (leg : Leg) → Shows rows done
    → AllByRecursion (λ (d : Leg). Precedes d leg) done → is_of_posting entry posting leg ≡ true
    → AllByRecursion (λ (row : LegRow). has_key 2 (posting_key entry posting) (leg_cells row) ≡ true → row_order leg_cells 3 row (leg_row leg) ≡ Less) rows
rows_below entry posting rows done leg shows precede own =
    let mine = its_parts entry posting leg own in
    let IsBelow : LegRow → Type 0 = λ (row : LegRow). row_order leg_cells 3 row (leg_row leg) ≡ Less in
    all_kept IsBelow (λ (row : LegRow). has_key 2 (posting_key entry posting) (leg_cells row)) rows
    (subst (AllByRecursion IsBelow) (sym (shows entry posting))
    (all_map IsBelow leg_row (legs_of_posting entry posting done)
    (all_from (λ (d : Leg). IsBelow (leg_row d)) (legs_of_posting entry posting done) (λ d has.
    let found = has_filtered (is_of_posting entry posting) done d has in
    let its = its_parts entry posting d found.1 in
    let same : d.entry ≡ leg.entry = its.0 ∙ sym mine.0 in
    let one : d.posting ≡ leg.posting = its.1 ∙ sym mine.1 in
    below_by_place d leg same one (all_has (λ (c : Leg). Precedes c leg) done d precede found.0 same one)))))

pub put_next : (rows : List LegRow) (done : List Leg) (leg : Leg) → IsRising leg_cells 3 rows → Shows rows done
    → AllByRecursion (λ (d : Leg). Precedes d leg) done
    → Shows (put_in leg_cells 3 (leg_row leg) rows) (done ++ leg ∷ [])
put_next rows done leg up shows precede entry posting = by (is_of_posting entry posting leg) refl
  where
    by : (b : Bool) → is_of_posting entry posting leg ≡ b
        → with_key leg_cells 2 (posting_key entry posting) (put_in leg_cells 3 (leg_row leg) rows)
        ≡ map leg_row (legs_of_posting entry posting (done ++ leg ∷ []))
    by true own =
        with_key-put_last leg_cells 2 3 (posting_key entry posting) (leg_row leg) rows (has_its entry posting leg ∙ own) up
        (rows_below entry posting rows done leg shows precede own)
        ∙ ap (λ rs. rs ++ leg_row leg ∷ []) (shows entry posting)
        ∙ sym (map-append leg_row (legs_of_posting entry posting done) (leg ∷ []))
        ∙ ap (map leg_row)
        (ap (λ b. legs_of_posting entry posting done ++ cond b (leg ∷ []) []) (sym own)
        ∙ sym (filter-append (is_of_posting entry posting) done (leg ∷ [])))
    by false other =
        with_key-put_other leg_cells 2 3 (posting_key entry posting) (leg_row leg) rows (omega arith) (has_its entry posting leg ∙ other)
        ∙ shows entry posting
        ∙ ap (map leg_row)
        (sym (append-nil (legs_of_posting entry posting done))
        ∙ ap (λ b. legs_of_posting entry posting done ++ cond b (leg ∷ []) []) (sym other)
        ∙ sym (filter-append (is_of_posting entry posting) done (leg ∷ [])))

pub put_all : (legs : List Leg) (rows : List LegRow) (done : List Leg) → IsRising leg_cells 3 rows → Shows rows done
    → AllByRecursion (λ (d : Leg). AllByRecursion (Precedes d) legs) done → IsAscending Precedes legs
    → Shows (put_each leg_cells 3 (map leg_row legs) rows) (done ++ legs)
put_all [] rows done up shows precede rise = subst (Shows rows) (sym (append-nil done)) shows
put_all (leg ∷ legs) rows done up shows precede rise =
    let After : Leg → Type 0 = λ (d : Leg). AllByRecursion (Precedes d) (leg ∷ legs) in
    let next : List LegRow = put_in leg_cells 3 (leg_row leg) rows in
    subst (Shows (put_each leg_cells 3 (map leg_row legs) next)) (append_assoc done (leg ∷ []) legs)
    (put_all legs next (done ++ leg ∷ []) (rises-put_in leg_cells 3 (leg_row leg) rows up)
    (put_next rows done leg up shows (all_weaker After (λ (d : Leg). Precedes d leg) (λ d both. both.0) done precede))
    (all-append (λ (d : Leg). AllByRecursion (Precedes d) legs) done (leg ∷ [])
    (all_weaker After (λ (d : Leg). AllByRecursion (Precedes d) legs) (λ d both. both.1) done precede) (rise.0, tt)) rise.1)
