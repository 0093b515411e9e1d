-- What verifying comes to.
use Rattle.std.specs.Prelude.{◌≡◌, ◌≢◌, ◌⊎◌, ◌<ℤ◌, ℤ, List, [], ◌∷◌, map, Ok, Err, Result}
use Rattle.std.proofs.Common.{refl, sym, ap, subst, ◌∙◌, inl, inr, arith}
use Rattle.sqlite.specs.State.{HasCleanDisk, IsUnchanged, State}
use Rattle.lot_book.specs.Facts.{Entry}
use Rattle.lot_rows.specs.Book.{book_cells}
use Rattle.lot_rows.specs.Tables.{Has, Tables}
use Rattle.lot_rows.specs.declared.book.BookRow.{BookRow}
use Rattle.lot_rows.proofs.StateLemmas.{early}
use Rattle.lot_store.specs.Create.{IsTaken, TellsBook, TellsOf}
use Rattle.lot_store.specs.declared.fault.AdoptFault.{AdoptFault}
use Rattle.lot_store.specs.declared.fault.AdoptFault.TheVariants as adopt
use Rattle.lot_stored.specs.Rows.{current_edition, marked, this_edition}
use Rattle.lot_stored.specs.StandFor.{Stands}
use Rattle.lot_table.specs.Book.{AreHeld}
use Rattle.lot_table.specs.declared.fault.Fault.{Fault}
use Rattle.lot_audit.specs.Checks.{ChecksWhere}
use Rattle.lot_audit.specs.Judge.{AreOfThisEdition, StandByColumns}
use Rattle.lot_audit.proofs.SeenLemmas.{has_on, stays_same}
use Rattle.lot_verify.specs.Fault.{not_taken}
use Rattle.lot_verify.specs.Verify.{NotVerified}
use Rattle.lot_verify.specs.declared.fault.VerifyFault.TheVariants as verify

one_edition : (rows : List BookRow) → map book_cells rows ≡ book_cells this_edition ∷ [] → rows ≡ this_edition ∷ []
one_edition [] is = absurd cc
one_edition (row ∷ []) is =
    let mark : row.mark ≡ this_edition.mark = cc in
    let same : row.edition ≡ this_edition.edition = cc in λ i. record { mark = mark i; edition = same i } ∷ []
one_edition (row ∷ more ∷ rows) is = absurd cc

-- the columns of a book of this edition tell no other
other_edition : (edition : ℤ) → edition <ℤ current_edition ⊎ current_edition <ℤ edition
    → book_cells this_edition ∷ [] ≡ book_cells (marked edition) ∷ [] → ⊥
other_edition edition (inl below) is =
    let same : current_edition ≡ edition = cc in
    let less : current_edition <ℤ current_edition = subst (λ (e : ℤ). e <ℤ current_edition) (sym same) below in
    omega (arith, less)
other_edition edition (inr above) is =
    let same : current_edition ≡ edition = cc in
    let less : current_edition <ℤ current_edition = subst (λ (e : ℤ). current_edition <ℤ e) (sym same) above in
    omega (arith, less)

-- a database isn't taken up as a book
pub not_of_book : (why : AdoptFault) → not_taken why ≢ verify.Device → not_taken why ≢ verify.Memory → (rows : List BookRow)
    → rows ≡ this_edition ∷ [] → TellsBook rows (Err why) → ⊥
not_of_book adopt.NotABook device memory rows is tells =
    tells current_edition (omega arith) (ap (map book_cells) is)
not_of_book adopt.OlderEdition device memory rows is tells =
    other_edition tells.0 (inl tells.2) (sym (ap (map book_cells) is) ∙ tells.3)
not_of_book adopt.NewerEdition device memory rows is tells =
    other_edition tells.0 (inr tells.1) (sym (ap (map book_cells) is) ∙ tells.2)
not_of_book adopt.Device device memory rows is tells = device refl
not_of_book adopt.Memory device memory rows is tells = memory refl

pub not_stands : (old left : State) (why : AdoptFault)
    → (why ≢ adopt.Device → (tables : Tables) → Has old tables → TellsBook tables.book (Err why))
    → not_taken why ≢ verify.Device → not_taken why ≢ verify.Memory → (entries : List Entry) → ¬ Stands old entries
not_stands old left why refused device memory entries stands =
    not_of_book why device memory stands.tables.book stands.stand.book
    (refused (λ is. device (ap not_taken is)) stands.tables stands.has)

-- a database that isn't taken up is none for the reason that adopting tells
pub not_adopted : (old left : State) (why : AdoptFault) → TellsOf old left (Err why) → NotVerified old left (not_taken why)
not_adopted old left adopt.NotABook tells = tells
not_adopted old left adopt.OlderEdition tells = tells
not_adopted old left adopt.NewerEdition tells = tells
not_adopted old left adopt.Device (inl told) = absurd told.2
not_adopted old left adopt.Device (inr failed) = failed
not_adopted old left adopt.Memory tells = tt

-- ---- one that is taken up

abbrev Judges : State → State → Result (Unit {0}) Fault → Type 0
Judges = ChecksWhere AreOfThisEdition (λ _ tables. StandByColumns tables)

module _ (old mid new : State) (same : HasCleanDisk mid → IsUnchanged old mid) (taken : HasCleanDisk mid → IsTaken old) where
  pub stands_then : Judges mid new (Ok tt) → HasCleanDisk new → (tables : Tables) → Has old tables
      → (entries : List Entry) × Stands old entries
  stands_then c clean tables has =
      let before = early mid new c.crash clean in
      let edition = one_edition tables.book ((taken before).told tables has) in
      let it = c.says clean tables (has_on old mid tables (stays_same old mid (same before)) has) edition in (
        it.2.0,
        record {
          book = it.2.1;
          tables = it.0;
          has = (has.0, record { sound = has.1.sound; held = subst (AreHeld old.now.trees) (sym it.1) has.1.held });
          stand = it.2.2;
        },
      )
