-- What is left to be listed holds something.
use Rattle.std.specs.Prelude.{◌≡◌, ◌≢◌, ℕ, suc, ◌≤◌, length, List, [], ◌∷◌, ◌++◌, ℤ}
use Rattle.std.proofs.Common.{refl, sym, ap, subst, ◌∙◌, append_assoc, arith}
use Rattle.std.proofs.lemmas.List.{map-append}
use Rattle.lot_inv.specs.declared.inventory.Holding.{Holding}
use Rattle.lot_inv.specs.declared.lots.OpenLot.{OpenLot}
use Rattle.lot_cost.specs.declared.lot_key.LotKey.{LotKey}
use Rattle.lot_inv.specs.Holding.{lot_row, lot_rows, plain_rows, rows, rows_of, units_in}
use Rattle.lot_inv.specs.Inventory.{Position}

pub none_isnt_some : {X : Type 0} (x : X) (xs : List X) → x ∷ xs ≢ []
none_isnt_some x xs e = absurd (omega (arith, ap length e))

-- where no units are listed there are no lots
pub none_in_units : {K : Type 0} (lots : List (K × OpenLot)) → units_in lots ≡ [] → lots ≡ []
none_in_units [] e = refl
none_in_units (lot ∷ lots) e = absurd (none_isnt_some (lot.0, lot.1.units) (units_in lots) e)

-- with a row in it, a list of rows isn't empty
some_in_part : (before part rest : List (Position × ℤ)) → part ≢ [] → before ++ (part ++ rest) ≢ []
some_in_part [] [] rest some = absurd (some refl)
some_in_part [] (row ∷ part) rest some = none_isnt_some row (part ++ rest)
some_in_part (row ∷ before) part rest some = none_isnt_some row (before ++ (part ++ rest))

-- the rows of one holding, before those of the others
pub units_in-rows : (entry : List ℕ × Holding) (rest : List (List ℕ × Holding))
    → units_in (rows_of entry.0 entry.1) ++ units_in (rows rest) ≡ units_in (rows (entry ∷ rest))
units_in-rows entry rest =
    sym (map-append (λ (row : Position × OpenLot). (row.0, row.1.units)) (rows_of entry.0 entry.1) (rows rest))
    ∙ ap (λ (es : List (Position × OpenLot)). units_in es) (append_assoc (plain_rows entry.0 entry.1.plain) (lot_rows entry.0 entry.1.lots) (rows rest))

-- a holding that has a row is left
pub some_left : (before all : List (Position × ℤ)) (entry : List ℕ × Holding) (rest holdings : List (List ℕ × Holding))
    → before ++ units_in (rows holdings) ≡ all → holdings ≡ entry ∷ rest → rows_of entry.0 entry.1 ≢ [] → all ≢ []
some_left before all entry rest holdings so_far is some =
    subst (λ es. es ≢ [])
    (ap (λ es. before ++ es) (units_in-rows entry rest)
    ∙ ap (λ hs. before ++ units_in (rows hs)) (sym is)
    ∙ so_far)
    (some_in_part before (units_in (rows_of entry.0 entry.1)) (units_in (rows rest)) (λ none. some (none_in_units (rows_of entry.0 entry.1) none)))

-- a lot is left
pub lot_left : (commodity : List ℕ) (lots left rest : List (LotKey × OpenLot)) (lot : LotKey × OpenLot)
    → length left ≤ length lots → left ≡ lot ∷ rest → lot_rows commodity lots ≢ []
lot_left commodity [] left rest lot fewer is =
    let some : length left ≡ suc (length rest) = ap length is in
    let none : length left ≤ 0 = fewer in
    absurd (omega (arith, some, none))
lot_left commodity (first ∷ lots) left rest lot fewer is = none_isnt_some (lot_row commodity first) (lot_rows commodity lots)
