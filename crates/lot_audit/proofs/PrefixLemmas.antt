-- Entries whose rows begin a table begin the entries of each book that the table has.
use Rattle.std.specs.Prelude.{◌≡◌, ◌+◌, ℕ, suc, List, [], ◌∷◌, ◌++◌, length}
use Rattle.std.specs.List.{AllByRecursion}
use Rattle.std.proofs.Common.{refl, sym, ap, subst, ◌∙◌, arith}
use Rattle.lot_command.specs.Sayable.{IsSayable}
use Rattle.lot_book.specs.Book.{ContinuesIn}
use Rattle.lot_book.specs.Edition.{Edition, Migration, edition_on}
use Rattle.lot_book.specs.Facts.{Entry}
use Rattle.lot_book.specs.Step.{Accept, StepIn}
use Rattle.lot_book.specs.declared.leg.Leg.{Leg}
use Rattle.lot_laws.proofs.StepLemmas.{step_one}
use Rattle.lot_print.proofs.ReadLemmas.{same_command}
use Rattle.lot_rows.specs.declared.entry.EntryRow.{EntryRow}
use Rattle.lot_stored.specs.Rows.{entry_row, entry_rows}

abbrev AreSayable : List Entry → Type 0
AreSayable = AllByRecursion (λ (entry : Entry). IsSayable entry.command)

same_legs : (a b : List Leg) → Accept a ≡ Accept b → a ≡ b
same_legs a b e = cc

-- a row and the entries before it make the entry
pub one_entry : (edition : Edition) (before : List Entry) (number : ℕ) (a b : Entry)
    → StepIn edition before a.key a.command (Accept a.legs) → StepIn edition before b.key b.command (Accept b.legs)
    → IsSayable a.command → IsSayable b.command → entry_row number a ≡ entry_row number b → a ≡ b
one_entry edition before number a b step other said said_b rows =
    let commands : a.command ≡ b.command = same_command a.command b.command said said_b (ap (λ (row : EntryRow). row.body) rows) in
    let sources = ap (λ (row : EntryRow). row.source) rows in
    let names = ap (λ (row : EntryRow). row.name) rows in
    let moved : Entry = record { key = b.key; command = b.command; legs = a.legs } in
    let same_but_legs : a ≡ moved =
    λ i. record { key = record { source = sources i; name = names i }; command = commands i; legs = a.legs } in
    let legs : a.legs ≡ b.legs =
    same_legs a.legs b.legs
    (step_one edition before b.key b.command (Accept a.legs) (Accept b.legs)
    (subst (λ (same : Entry). StepIn edition before same.key same.command (Accept same.legs)) same_but_legs step) other) in
    same_but_legs ∙ (λ i. record { key = b.key; command = b.command; legs = legs i })

pub record Begins (number : ℕ) (a b : List Entry) (rest : List EntryRow) : Type 0 where
  pub more : List Entry
  pub split : b ≡ a ++ more
  pub rows : rest ≡ entry_rows (number + length a) more

pub begins : (migration : Migration) (before : List Entry) (number : ℕ) (a b : List Entry) (rest : List EntryRow)
    → ContinuesIn migration before a → ContinuesIn migration before b → AreSayable a → AreSayable b
    → entry_rows number a ++ rest ≡ entry_rows number b → Begins number a b rest
begins migration before number [] b rest continues other said said_b rows =
    record { more = b; split = refl; rows = rows ∙ ap (λ (n : ℕ). entry_rows n b) (omega arith) }
begins migration before number (entry ∷ a) [] rest continues other said said_b rows =
    absurd (let none : entry_row number entry ∷ (entry_rows (suc number) a ++ rest) ≡ [] = rows in cc)
begins migration before number (entry ∷ a) (next ∷ b) rest continues other said said_b rows =
    let head : entry_row number entry ≡ entry_row number next = cc in
    let tail : entry_rows (suc number) a ++ rest ≡ entry_rows (suc number) b = cc in
    let first : entry ≡ next = one_entry (edition_on migration before) before number entry next continues.0 other.0 said.0 said_b.0 head in
    let later =
    begins migration (before ++ next ∷ []) (suc number) a b rest
    (subst (λ (e : Entry). ContinuesIn migration (before ++ e ∷ []) a) first continues.1) other.1 said.1 said_b.1 tail in
    record {
      more = later.more;
      split = (λ i. sym first i ∷ later.split i);
      rows = later.rows ∙ ap (λ (n : ℕ). entry_rows n later.more) (omega arith);
    }
