-- A book of edition 1 has the same sales once it is migrated: each of its entries stays one of edition 1.
use Rattle.std.specs.Prelude.{◌≡◌, ◌↔◌, ℕ, ◌+◌, ◌≤◌, ◌<◌, cond, List, [], ◌∷◌, ◌++◌, length}
use Rattle.std.proofs.Common.{ap, lt-ltb, subst, sym, arith}
use Rattle.std.proofs.lemmas.List.{length-append}
use Rattle.lot_book.specs.Edition.{After, Edition, First, Migration, NotYet, Second, edition_on, ties_in}
use Rattle.lot_book.specs.Facts.{Entry, facts_of}
use Rattle.lot_book.specs.Sale.{AreSalesUnder, SaleParts}
use Rattle.lot_laws.specs.Collects.{Collects}
use Rattle.lot_stored.specs.Kept.{AreSalesOfEntry, SalesOf}

-- what an entry sells hangs on the edition alone that judged it
same_edition : (a b : Migration) (before : List Entry) (entry : Entry) (sales : List (ℕ × (ℕ × SaleParts)))
    → edition_on a before ≡ edition_on b before → AreSalesOfEntry a before entry sales → AreSalesOfEntry b before entry sales
same_edition a b before entry sales same are = (
  are.0,
  subst (λ (edition : Edition). AreSalesUnder (ties_in edition before) (facts_of before entry.key) entry.command are.0) same are.1,
  are.2,
)

-- of two migrations by which one edition judged all entries, each gives what the other does
module _ (a b : Migration) where
  abbrev pub AreJudgedAlike : List Entry → List Entry → Type 0
  AreJudgedAlike before [] = Unit {0}
  AreJudgedAlike before (entry ∷ entries) =
      (edition_on a before ≡ edition_on b before) × AreJudgedAlike (before ++ entry ∷ []) entries

  sales_alike : (before entries : List Entry) (sales : List (ℕ × (ℕ × SaleParts))) → AreJudgedAlike before entries
      → Collects (AreSalesOfEntry a) before entries sales → Collects (AreSalesOfEntry b) before entries sales
  sales_alike before [] sales alike h = h
  sales_alike before (entry ∷ entries) sales alike h = (
    h.0,
    h.1,
    same_edition a b before entry h.0 alike.0 h.2,
    sales_alike (before ++ entry ∷ []) entries h.1 alike.1 h.3,
    h.4,
  )

module _ (place : ℕ) where
  one_longer : (before : List Entry) (entry : Entry) (entries : List Entry)
      → length (before ++ entry ∷ []) + length entries ≡ length before + length (entry ∷ entries)
  one_longer before entry entries = omega (arith, length-append before (entry ∷ []))

  first_there : (before : List Entry) → length before < place → edition_on (After place) before ≡ First
  first_there before less = ap (λ b. cond b First Second) (lt-ltb (length before) place less)

  alike_up_to : (before entries : List Entry) → length before + length entries ≤ place
      → AreJudgedAlike (After place) NotYet before entries × AreJudgedAlike NotYet (After place) before entries
  alike_up_to before [] within = (tt, tt)
  alike_up_to before (entry ∷ entries) within =
      let first = first_there before (omega (arith, within)) in
      let more = alike_up_to (before ++ entry ∷ []) entries (omega (arith, one_longer before entry entries, within)) in
      ((first, more.0), (sym first, more.1))

-- up to its place of migration a book has the sales of a book of edition 1
pub sales_up_to_place : (place : ℕ) (entries : List Entry) (sales : List (ℕ × (ℕ × SaleParts))) → length entries ≤ place
    → SalesOf NotYet entries sales ↔ SalesOf (After place) entries sales
sales_up_to_place place entries sales within =
    let alike = alike_up_to place [] entries (omega (arith, within)) in (
      sales_alike NotYet (After place) [] entries sales alike.1,
      sales_alike (After place) NotYet [] entries sales alike.0,
    )
