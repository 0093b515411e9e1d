-- The row of a number is the first of those from it on.
use Rattle.std.specs.Prelude.{◌≡◌, ◌<◌, ◌≤◌, ℕ, suc, ℤ, pos, Bool, true, false, not, cond, List, [], ◌∷◌, filter, map, take}
use Rattle.std.specs.Ordering.{int_cmp, is_lt}
use Rattle.std.proofs.Common.{inl, inr, refl, sym, ap, subst, ◌∙◌, arith}
use Rattle.std.proofs.lemmas.Int.{ints}
use Rattle.sqlite.specs.Order.{Row}
use Rattle.sqlite.specs.declared.types.Value.TheVariants.{Int}
use Rattle.sqlite_rules.specs.Lists.{Has}
use Rattle.sqlite_value.proofs.OrderLemmas.{value_cmp-Int}
use Rattle.lot_book.specs.Facts.{Entry}
use Rattle.lot_page.specs.Page.{is_from}
use Rattle.lot_rows.specs.Entry.{entry_cells}
use Rattle.lot_rows.specs.declared.entry.EntryRow.{EntryRow}
use Rattle.lot_stored.specs.Rows.{entry_row, entry_rows}
use Rattle.lot_recall.specs.Recall.{entries_from, few_entries}

from_it : (n k : ℕ) → k ≤ n → not (is_lt (int_cmp (pos n) (pos k))) ≡ true
from_it n k upto = grind (arith, ints, upto)

before_it : (n k : ℕ) → n < k → not (is_lt (int_cmp (pos n) (pos k))) ≡ false
before_it n k less = grind (arith, ints, less)

is_on : (k : ℕ) (row : EntryRow) → k ≤ row.number → is_from (Int (pos k)) (entry_cells row) ≡ true
is_on k row upto = ap (λ o. not (is_lt o)) (value_cmp-Int (pos row.number) (pos k)) ∙ from_it row.number k upto

is_before : (k : ℕ) (row : EntryRow) → row.number < k → is_from (Int (pos k)) (entry_cells row) ≡ false
is_before k row less = ap (λ o. not (is_lt o)) (value_cmp-Int (pos row.number) (pos k)) ∙ before_it row.number k less

numbers_on : (number : ℕ) (entries : List Entry) (row : EntryRow) → Has (entry_rows number entries) row → number ≤ row.number
numbers_on number [] row has = absurd has
numbers_on number (entry ∷ entries) row (inl is) = subst (λ (r : EntryRow). number ≤ r.number) (sym is) (omega arith)
numbers_on number (entry ∷ entries) row (inr there) = let later = numbers_on (suc number) entries row there in omega (arith, later)

pub among_first : (number : ℕ) (entries : List Entry) (row : EntryRow) (k : ℕ) → Has (entry_rows number entries) row → row.number ≡ k
    → Has (entries_from k (entry_rows number entries)) (entry_cells row)
among_first number [] row k has at = absurd has
among_first number (entry ∷ entries) row k (inl is) at =
    let upto : k ≤ row.number = omega (arith, at) in
    let on : is_from (Int (pos k)) (entry_cells (entry_row number entry)) ≡ true =
    ap (λ (r : EntryRow). is_from (Int (pos k)) (entry_cells r)) (sym is) ∙ is_on k row upto in
    subst
    (λ b. Has (take few_entries (cond b (entry_cells (entry_row number entry) ∷ filter (is_from (Int (pos k))) (map entry_cells (entry_rows (suc number) entries)))
    (filter (is_from (Int (pos k))) (map entry_cells (entry_rows (suc number) entries))))) (entry_cells row))
    (sym on) (inl (ap entry_cells is))
among_first number (entry ∷ entries) row k (inr there) at =
    let later = numbers_on (suc number) entries row there in
    let before : is_from (Int (pos k)) (entry_cells (entry_row number entry)) ≡ false = is_before k (entry_row number entry) (omega (arith, later, at)) in
    subst
    (λ b. Has (take few_entries (cond b (entry_cells (entry_row number entry) ∷ filter (is_from (Int (pos k))) (map entry_cells (entry_rows (suc number) entries)))
    (filter (is_from (Int (pos k))) (map entry_cells (entry_rows (suc number) entries))))) (entry_cells row))
    (sym before) (among_first (suc number) entries row k there at)
