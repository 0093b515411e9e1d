-- Tables stand for at most one book: its entries have the rows of the table `entry`, and their legs are those of the steps.
use Rattle.std.specs.Prelude.{◌≡◌, ℕ, suc, List, [], ◌∷◌, ◌++◌}
use Rattle.std.specs.List.{AllByRecursion}
use Rattle.std.proofs.Common.{refl, sym, ap, subst, ◌∙◌}
use Rattle.std.proofs.lemmas.List.Elements.{recursion_from_All}
use Rattle.lot_book.specs.Book.{ContinuesIn, IsBook, IsBookIn}
use Rattle.lot_book.specs.Edition.{After, Edition, Migration, edition_on}
use Rattle.lot_book.specs.Facts.{Entry}
use Rattle.lot_book.specs.Step.{Accept, StepIn}
use Rattle.lot_book.specs.declared.leg.Leg.{Leg}
use Rattle.lot_laws.proofs.StepLemmas.{step_one}
use Rattle.lot_print.proofs.ReadLemmas.{same_command}
use Rattle.lot_command.specs.Sayable.{IsSayable}
use Rattle.lot_rows.specs.Tables.{Tables}
use Rattle.lot_rows.specs.declared.entry.EntryRow.{EntryRow}
use Rattle.lot_rows.specs.declared.migration.MigrationRow.{MigrationRow}
use Rattle.lot_stored.specs.Rows.{entry_row, entry_rows, migration_row}
use Rattle.lot_stored.specs.StandFor.{StandFor}

abbrev AreSayable : List Entry → Type 0
AreSayable = AllByRecursion (λ (entry : Entry). IsSayable entry.command)

one_row : (x y : EntryRow) (xs ys : List EntryRow) → x ∷ xs ≡ y ∷ ys → (x ≡ y) × (xs ≡ ys)
one_row x y xs ys e = (cc, cc)

no_row : (x : EntryRow) (xs : List EntryRow) → x ∷ xs ≡ [] → ⊥
no_row x xs e = cc

same_legs : (a b : List Leg) → Accept a ≡ Accept b → a ≡ b
same_legs a b e = cc

same_place : (a b : ℕ) → migration_row a ∷ [] ≡ migration_row b ∷ [] → a ≡ b
same_place a b e = let row : migration_row a ≡ migration_row b = cc in ap (λ (r : MigrationRow). r.entries) row

-- an entry is the one that its row and the entries before it make
one_entry : (edition : Edition) (before : List Entry) (number : ℕ) (a b : Entry) → StepIn edition before a.key a.command (Accept a.legs)
    → StepIn edition before b.key b.command (Accept b.legs) → IsSayable a.command → IsSayable b.command
    → entry_row number a ≡ entry_row number b → a ≡ b
one_entry edition before number a b step other said said_b rows =
    let commands : a.command ≡ b.command = same_command a.command b.command said said_b (ap (λ (row : EntryRow). row.body) rows) in
    let sources = ap (λ (row : EntryRow). row.source) rows in
    let names = ap (λ (row : EntryRow). row.name) rows in
    let legs : a.legs ≡ b.legs =
    same_legs a.legs b.legs
    (step_one edition before b.key b.command (Accept a.legs) (Accept b.legs)
    (subst (λ (same : Entry). StepIn edition before same.key same.command (Accept same.legs))
    (λ i. record { key = record { source = sources i; name = names i }; command = commands i; legs = a.legs }) step)
    other) in
    λ i. record { key = record { source = sources i; name = names i }; command = commands i; legs = legs i }

one_list : (migration : Migration) (before : List Entry) (number : ℕ) (a b : List Entry) → ContinuesIn migration before a → ContinuesIn migration before b → AreSayable a → AreSayable b
    → entry_rows number a ≡ entry_rows number b → a ≡ b
one_list migration before number [] [] continues other said said_b rows = refl
one_list migration before number [] (entry ∷ b) continues other said said_b rows =
    absurd (no_row (entry_row number entry) (entry_rows (suc number) b) (sym rows))
one_list migration before number (entry ∷ a) [] continues other said said_b rows =
    absurd (no_row (entry_row number entry) (entry_rows (suc number) a) rows)
one_list migration before number (entry ∷ a) (next ∷ b) continues other said said_b rows =
    let parts = one_row (entry_row number entry) (entry_row number next) (entry_rows (suc number) a) (entry_rows (suc number) b) rows in
    let first : entry ≡ next = one_entry (edition_on migration before) before number entry next continues.0 other.0 said.0 said_b.0 parts.0 in
    let more : a ≡ b =
    one_list migration (before ++ next ∷ []) (suc number) a b
    (subst (λ (e : Entry). ContinuesIn migration (before ++ e ∷ []) a) first continues.1) other.1 said.1 said_b.1 parts.1 in
    λ i. first i ∷ more i

-- the tables say the place of migration
one_place : (tables : Tables) (a b : List Entry) (stand : StandFor tables a) (stand_b : StandFor tables b) → stand_b.place ≡ stand.place
one_place tables a b stand stand_b = same_place stand_b.place stand.place (sym stand_b.migration ∙ stand.migration)

pub one_book : (tables : Tables) (a b : List Entry) → IsBook a → IsBook b → StandFor tables a → StandFor tables b → a ≡ b
one_book tables a b is other stand stand_b =
    one_list (After stand.place) [] 1 a b stand.judged
    (subst (λ place. IsBookIn (After place) b) (one_place tables a b stand stand_b) stand_b.judged) (recursion_from_All (λ (entry : Entry). IsSayable entry.command) a stand.said)
    (recursion_from_All (λ (entry : Entry). IsSayable entry.command) b stand_b.said) (sym stand.entry ∙ stand_b.entry)
