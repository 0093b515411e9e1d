-- What the rows of plain units say: all that an account holds in no lot.
use Rattle.std.specs.Prelude.{◌≡◌, ℕ, suc, ◌<◌, ◌+◌, List, ◌∷◌, length, get_or, drop, None}
use Rattle.std.specs.List.{AllByRecursion}
use Rattle.std.proofs.Common.{sym, ap, subst, ◌∙◌, arith, drop-cons}
use Rattle.std.proofs.lemmas.List.Elements.{All-from_recursion}
use Rattle.sqlite_rules.proofs.ListLemmas.{all_from, all_has, has_filtered, has_kept}
use Rattle.lot_book.specs.Facts.{Entry, Facts}
use Rattle.lot_book.specs.Openings.{FactsWithOpenings}
use Rattle.lot_book.specs.Recorded.{facts_in}
use Rattle.lot_table.specs.Rows.{has_key, with_key}
use Rattle.lot_rows.specs.Plain.{plain_cells}
use Rattle.lot_rows.specs.Tables.{Tables}
use Rattle.lot_rows.specs.declared.plain.PlainRow.{PlainRow}
use Rattle.lot_stored.specs.Rows.{name_key, plain_row}
use Rattle.lot_stored.specs.StandFor.{StandFor}
use Rattle.lot_stored.proofs.HeldLemmas.{by_option, held_in_book, plain_there, plain_true}
use Rattle.lot_stored.proofs.LookupLemmas.{has_own_key}
use Rattle.lot_load.specs.Known.{IsPart, IsTruePlain, KnowsEach, KnowsPlain, KnowsUnits, Learns}
use Rattle.lot_load.proofs.LearnLemmas.{IsLeft, Stays, left_more}
use Rattle.lot_load.proofs.PutLemmas.{nothing_held}

-- ---- rows one after another

pub left_row : {X : Type 0} (Knows : X → Facts → Facts → Type 0) (IsRight : X → Type 0) (rows : List X) (at : ℕ) (row : X) (book before now next : FactsWithOpenings)
    → ((key : X) → Stays (Knows key)) → at < length rows → row ≡ get_or rows at row → AllByRecursion IsRight rows
    → IsLeft Knows rows (drop at rows) book before now → (IsRight row → Learns (Knows row) book now next)
    → IsLeft Knows rows (drop (at + 1) rows) book before next
left_row Knows IsRight rows at row book before now next stay inside is right was step =
    let here : IsRight row = subst IsRight (sym is) (All-from_recursion IsRight rows right at row inside) in
    let succ : suc at ≡ at + 1 = omega arith in
    let first : drop at rows ≡ row ∷ drop (at + 1) rows =
    drop-cons rows at row inside ∙ ap (λ x. x ∷ drop (suc at) rows) (sym is) ∙ ap (λ n. row ∷ drop n rows) succ in
    left_more Knows stay rows (drop (at + 1) rows) row book before now next
    (subst (λ left. IsLeft Knows rows left book before now) first was) (step here)

-- ---- plain units

-- the rows of an account are all its plain units
pub plain_known : (tables : Tables) (entries : List Entry) → StandFor tables entries → (account : List ℕ) (known : Facts) → IsPart (facts_in entries) known
    → KnowsEach KnowsUnits (with_key plain_cells 1 (name_key account) tables.plain) (facts_in entries) known → KnowsPlain account (facts_in entries) known
plain_known tables entries stand account known part each commodity =
    by_option (held_in_book entries account (commodity, None))
    (λ none. nothing_held account (commodity, None) (facts_in entries) known part none)
    (λ units held.
    let row = plain_row account commodity units in
    all_has (λ (r : PlainRow). KnowsUnits r (facts_in entries) known) (with_key plain_cells 1 (name_key account) tables.plain) row each
    (has_kept (λ (r : PlainRow). has_key 1 (name_key account) (plain_cells r)) tables.plain row (plain_there tables entries stand account commodity units held)
    (has_own_key 1 (plain_cells row))))

-- rows that say what the book says, and all of it once they are known
abbrev pub AreAllPlain : List ℕ → List PlainRow → List Entry → Type 0
AreAllPlain account rows entries =
    AllByRecursion (IsTruePlain (facts_in entries)) rows
    × ((known : Facts) → IsPart (facts_in entries) known → KnowsEach KnowsUnits rows (facts_in entries) known → KnowsPlain account (facts_in entries) known)

pub all_plain : (tables : Tables) (entries : List Entry) → StandFor tables entries → (account : List ℕ) (rows : List PlainRow)
    → rows ≡ with_key plain_cells 1 (name_key account) tables.plain → AreAllPlain account rows entries
all_plain tables entries stand account rows are =
    subst (λ (rows : List PlainRow). AreAllPlain account rows entries) (sym are) (
      all_from (IsTruePlain (facts_in entries)) (with_key plain_cells 1 (name_key account) tables.plain)
          (λ row has. plain_true tables entries stand row (has_filtered (λ (r : PlainRow). has_key 1 (name_key account) (plain_cells r)) tables.plain row has).0),
      plain_known tables entries stand account,
    )
