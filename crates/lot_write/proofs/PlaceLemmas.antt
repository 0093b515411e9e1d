-- The place of migration: by which one an edition judges on a book, and that writes leave it.
use Rattle.std.specs.Prelude.{◌≡◌, ℕ, suc, ◌+◌, ◌≤◌, ◌<◌, cond, List, [], ◌∷◌, ◌++◌, length}
use Rattle.std.proofs.Common.{refl, sym, ap, subst, ◌∙◌, lt-ltb, arith, length-append}
use Rattle.lot_book.specs.Book.{IsBookIn}
use Rattle.lot_book.specs.Edition.{After, Edition, First, Second, edition_on, ties_in}
use Rattle.lot_book.specs.Facts.{Entry, facts_of}
use Rattle.lot_book.specs.Sale.{AreSalesUnder, SaleParts}
use Rattle.lot_laws.specs.Collects.{Collects}
use Rattle.lot_laws.proofs.LawBooks.{second_there}
use Rattle.lot_laws.proofs.MigrationLaws.{up_to_place}
use Rattle.lot_rows.specs.Tables.{Tables}
use Rattle.lot_stored.specs.Kept.{AreSalesOfEntry, SalesOf}
use Rattle.lot_stored.specs.Rows.{migration_row}
use Rattle.lot_stored.specs.StandFor.{StandFor}
use Rattle.lot_write.specs.Write.{AreFit, Fits, placed_at, written, written_all}
use Rattle.lot_write.specs.declared.write.Write.{Write}
use Rattle.lot_write.specs.declared.write.Write.TheVariants as write

-- ---- by which an edition judges

-- by this place of migration the entries are a book with these sales, and that edition judges on it
pub record IsPlaceOf (entries : List Entry) (sales : List (ℕ × (ℕ × SaleParts))) (edition : Edition) (place : ℕ) : Type 0 where
  pub within : place ≤ suc (length entries)
  pub judges : edition_on (After place) entries ≡ edition
  pub judged : IsBookIn (After place) entries
  pub sold : SalesOf (After place) entries sales

-- edition 2 judges by the place that the tables have
pub place_of_second : (tables : Tables) (entries : List Entry) (stand : StandFor tables entries)
    → IsPlaceOf entries stand.sales Second stand.place
place_of_second tables entries stand = record {
  within = omega (arith, stand.placed);
  judges = second_there stand.place entries stand.placed;
  judged = stand.judged;
  sold = stand.sold;
}

-- behind fewer entries than the place the first judges
first_there : (place : ℕ) (before : List Entry) → length before < place → edition_on (After place) before ≡ First
first_there place before less = ap (λ b. cond b First Second) (lt-ltb (length before) place less)

-- what an entry sells hangs on the edition alone that judged it
sold_by : (a b : ℕ) (before : List Entry) (entry : Entry) (sales : List (ℕ × (ℕ × SaleParts)))
    → edition_on (After a) before ≡ edition_on (After b) before → AreSalesOfEntry (After a) before entry sales
    → AreSalesOfEntry (After b) before entry sales
sold_by a b before entry sales same are = (
  are.0,
  subst (λ (edition : Edition). AreSalesUnder (ties_in edition before) (facts_of before entry.key) entry.command are.0) same are.1,
  are.2,
)

-- up to each of two places entries have the same sales
sold_before : (a b : ℕ) (before entries : List Entry) (sales : List (ℕ × (ℕ × SaleParts)))
    → length before + length entries ≤ a → length before + length entries ≤ b
    → Collects (AreSalesOfEntry (After a)) before entries sales → Collects (AreSalesOfEntry (After b)) before entries sales
sold_before a b before [] sales in_a in_b h = h
sold_before a b before (entry ∷ entries) sales in_a in_b h =
    let same = first_there a before (omega (arith, in_a)) ∙ sym (first_there b before (omega (arith, in_b))) in
    let longer = length-append before (entry ∷ []) in (
      h.0,
      h.1,
      sold_by a b before entry h.0 same h.2,
      sold_before a b (before ++ entry ∷ []) entries h.1 (omega (arith, longer, in_a)) (omega (arith, longer, in_b)) h.3,
      h.4,
    )

-- edition 1 judges on a book of edition 1 by a place behind the next entry
pub place_of_first : (tables : Tables) (entries : List Entry) (stand : StandFor tables entries) → stand.place ≡ length entries
    → IsPlaceOf entries stand.sales First (suc (length entries))
place_of_first tables entries stand at =
    let next = suc (length entries) in record {
      within = omega arith;
      judges = first_there next entries (omega arith);
      judged = (up_to_place next entries (omega arith)).1 ((up_to_place stand.place entries (omega (arith, at))).0 stand.judged);
      sold = sold_before stand.place next [] entries stand.sales (omega (arith, at)) (omega arith) stand.sold;
    }

-- ---- of tables

-- tables with that row have that place
pub placed_already : (place : ℕ) (tables : Tables) → tables.migration ≡ migration_row place ∷ [] → placed_at place tables ≡ tables
placed_already place tables is i = record tables { migration = sym is i }

-- a write does the same whatever the place
one_placed : (place : ℕ) (one : Write) (tables : Tables) → written one (placed_at place tables) ≡ placed_at place (written one tables)
one_placed place (write.Entry row) tables = refl
one_placed place _ tables = refl

pub all_placed : (place : ℕ) (writes : List Write) (tables : Tables)
    → written_all writes (placed_at place tables) ≡ placed_at place (written_all writes tables)
all_placed place [] tables = refl
all_placed place (one ∷ more) tables =
    ap (written_all more) (one_placed place one tables) ∙ all_placed place more (written one tables)

one_fits : (place : ℕ) (one : Write) (tables : Tables) → Fits one (placed_at place tables) → Fits one tables
one_fits place (write.Entry row) tables fit = fit
one_fits place (write.Leg row) tables fit = fit
one_fits place (write.Sale row) tables fit = fit
one_fits place _ tables fit = tt

-- so tables take the writes that they take with another place
pub fit_placed : (place : ℕ) (writes : List Write) (tables : Tables) → AreFit writes (placed_at place tables) → AreFit writes tables
fit_placed place [] tables fit = tt
fit_placed place (one ∷ more) tables fit = (
  one_fits place one tables fit.0,
  fit_placed place more (written one tables) (subst (AreFit more) (one_placed place one tables) fit.1),
)
