-- Steps of a walk over the sales of entries behind a number, by those of the walk over all sales.
use Rattle.std.proofs.Common.{◌≡◌, ◌∙◌, ◌++◌, [], ◌∷◌, ℕ, true, false, cond, List, Option, Some, None, Result, Ok, Err, refl, sym, ap}
use Rattle.std.proofs.lemmas.List.{append-nil}
use Rattle.std.proofs.lemmas.List.Elements.{filter-append}
use Rattle.sqlite.specs.State.{State, Survives}
use Rattle.lot_book.specs.Facts.{Entry}
use Rattle.lot_rows.proofs.StateLemmas.{early, survives_both}
use Rattle.lot_rows.specs.Tables.{Tables}
use Rattle.lot_stored.specs.StandFor.{StandFor}
use Rattle.lot_table.specs.declared.fault.Fault.{Fault}
use Rattle.lot_table.specs.declared.fault.Fault.TheVariants.{Damaged, Device}
use Rattle.lot_walk.proofs.PlaceLemmas.{has_still, stays_then}
use Rattle.lot_walk.specs.Gains.{AreAllSaleRows, AreSalesWithin, HasLegs, IsBehindSaleRows, IsBehindSales}
use Rattle.lot_walk.specs.Place.{KeepsRows, Went}
use Rattle.lot_walk.specs.Step.{HasGivenNoRows, HasGivenNone, IsPrefix, Steps, StepsOverRows}
use Rattle.lot_walk.specs.declared.gains.NumberedSale.{NumberedSale}
use Rattle.lot_added.specs.Added.{AreAddedSaleRows, AreAddedSales, IsBehindAdded, IsBehindAddedRows, added_of, all_days, is_added}
use Rattle.lot_added.specs.declared.place.AddedPlace.{AddedPlace}

-- ---- one more sale

added_next : (behind : ℕ) (sales : List NumberedSale) (sold : NumberedSale)
    → added_of behind (sales ++ sold ∷ []) ≡ added_of behind sales ++ cond (is_added behind sold.entry) (sold ∷ []) []
added_next behind sales sold = filter-append (λ (s : NumberedSale). is_added behind s.entry) sales (sold ∷ [])

-- it is of an entry behind the number, or not
added_given : (behind : ℕ) (sales : List NumberedSale) (sold : NumberedSale) → is_added behind sold.entry ≡ true
    → added_of behind sales ++ sold ∷ [] ≡ added_of behind (sales ++ sold ∷ [])
added_given behind sales sold is =
    sym (added_next behind sales sold ∙ ap (λ b. added_of behind sales ++ cond b (sold ∷ []) []) is)

added_passed : (behind : ℕ) (sales : List NumberedSale) (sold : NumberedSale) → is_added behind sold.entry ≡ false
    → added_of behind sales ≡ added_of behind (sales ++ sold ∷ [])
added_passed behind sales sold is =
    sym (added_next behind sales sold ∙ ap (λ b. added_of behind sales ++ cond b (sold ∷ []) []) is ∙ append-nil (added_of behind sales))

-- those that begin the sales of a book begin, of these entries, those of the book
added_prefix : (behind : ℕ) (entries : List Entry) (sales : List NumberedSale) → IsPrefix AreSalesWithin all_days entries sales
    → IsPrefix AreAddedSales behind entries (added_of behind sales)
added_prefix behind entries sales (rest, all) = (
  added_of behind rest,
  (sales ++ rest, all, sym (filter-append (λ (s : NumberedSale). is_added behind s.entry) sales rest)),
)

-- ---- before the first sale

pub none_added : (place : AddedPlace) (behind : ℕ) → place.behind ≡ behind
    → HasGivenNone AreSalesWithin IsBehindSales place.sales all_days → HasGivenNone AreAddedSales IsBehindAdded place behind
none_added place behind number begun = λ tables entries stand.
    let (all, read) = begun tables entries stand in (
      added_prefix behind entries [] all,
      record { number = number; sales = []; read = read; added = refl },
    )

pub no_added_rows : (place : AddedPlace) (behind : ℕ) → place.behind ≡ behind
    → HasGivenNoRows IsBehindSaleRows place.sales all_days → HasGivenNoRows IsBehindAddedRows place behind
no_added_rows place behind number begun = λ tables. record { number = number; sales = []; read = begun tables; added = refl }

-- ---- steps

abbrev pub ReadsSale : AddedPlace → AddedPlace → State → State → Result (Option NumberedSale) Fault → Type 0
ReadsSale before after = Steps (λ (sold : NumberedSale). sold) HasLegs AreSalesWithin IsBehindSales Damaged Device before.sales after.sales

abbrev pub ReadsRow : AddedPlace → AddedPlace → State → State → Result (Option NumberedSale) Fault → Type 0
ReadsRow before after = StepsOverRows (λ (sold : NumberedSale). sold) AreAllSaleRows IsBehindSaleRows before.sales after.sales

abbrev pub StepsOver : AddedPlace → AddedPlace → State → State → Result (Option NumberedSale) Fault → Type 0
StepsOver = Steps (λ (sold : NumberedSale). sold) HasLegs AreAddedSales IsBehindAdded Damaged Device

abbrev pub StepsRows : AddedPlace → AddedPlace → State → State → Result (Option NumberedSale) Fault → Type 0
StepsRows = StepsOverRows (λ (sold : NumberedSale). sold) AreAddedSaleRows IsBehindAddedRows

module _ (before after : AddedPlace) (old new : State) where
  -- no sale is left
  pub added_end : ReadsSale before after old new (Ok None) → StepsOver before after old new (Ok None)
  added_end reads = record {
    gives = λ clean tables entries has book stand behind given b.
        (b.sales, reads.gives clean tables entries has book stand all_days b.sales b.read, b.added);
    good = tt;
    same = reads.same;
    damaged = λ clean is. cc;
    failed = λ clean is. cc;
    crash = reads.crash;
  }

  pub added_rows_end : ReadsRow before after old new (Ok None) → StepsRows before after old new (Ok None)
  added_rows_end reads = λ clean tables has behind given b. (b.sales, reads clean tables has all_days b.sales b.read, b.added)

  -- the next one isn't read
  pub added_unread : (fault : Fault) → ReadsSale before after old new (Err fault) → StepsOver before after old new (Err fault)
  added_unread fault reads = record {
    gives = λ clean. tt;
    good = tt;
    same = λ clean. tt;
    damaged = λ clean is limit tables entries has book stand behind given b.
        reads.damaged clean is limit tables entries has book stand all_days b.sales b.read;
    failed = reads.failed;
    crash = reads.crash;
  }

  module _ (same : after.behind ≡ before.behind) (sold : NumberedSale) where
    -- one of an earlier entry is passed over
    pub added_over : is_added before.behind sold.entry ≡ false → ReadsSale before after old new (Ok (Some sold)) → Went IsBehindAdded before after old new
    added_over out reads = record {
      keeps = λ clean tables entries has book stand behind given b. record {
        number = same ∙ b.number;
        sales = b.sales ++ sold ∷ [];
        read = (reads.gives clean tables entries has book stand all_days b.sales b.read).0;
        added = b.added ∙ added_passed behind b.sales sold (ap (λ n. is_added n sold.entry) (sym b.number) ∙ out);
      };
      same = reads.same;
      survives = reads.crash;
    }

    pub added_row_over : is_added before.behind sold.entry ≡ false → ReadsRow before after old new (Ok (Some sold))
        → KeepsRows IsBehindAddedRows before after old new
    added_row_over out reads = λ clean tables has behind given b. record {
      number = same ∙ b.number;
      sales = b.sales ++ sold ∷ [];
      read = reads clean tables has all_days b.sales b.read;
      added = b.added ∙ added_passed behind b.sales sold (ap (λ n. is_added n sold.entry) (sym b.number) ∙ out);
    }

    -- another is given
    pub added_given_now : is_added before.behind sold.entry ≡ true → ReadsSale before after old new (Ok (Some sold))
        → StepsOver before after old new (Ok (Some sold))
    added_given_now is reads = record {
      gives = λ clean tables entries has book stand behind given b.
          let gives = reads.gives clean tables entries has book stand all_days b.sales b.read in
          let more : given ++ sold ∷ [] ≡ added_of behind (b.sales ++ sold ∷ []) =
          ap (λ l. l ++ sold ∷ []) b.added ∙ added_given behind b.sales sold (ap (λ n. is_added n sold.entry) (sym b.number) ∙ is) in (
            record { number = same ∙ b.number; sales = b.sales ++ sold ∷ []; read = gives.0; added = more },
            rw more (added_prefix behind entries (b.sales ++ sold ∷ []) gives.1),
          );
      good = reads.good;
      same = reads.same;
      damaged = λ clean is. cc;
      failed = λ clean is. cc;
      crash = reads.crash;
    }

    pub added_row_given : is_added before.behind sold.entry ≡ true → ReadsRow before after old new (Ok (Some sold))
        → StepsRows before after old new (Ok (Some sold))
    added_row_given is reads = λ clean tables has behind given b. record {
      number = same ∙ b.number;
      sales = b.sales ++ sold ∷ [];
      read = reads clean tables has all_days b.sales b.read;
      added =
          ap (λ l. l ++ sold ∷ []) b.added ∙ added_given behind b.sales sold (ap (λ n. is_added n sold.entry) (sym b.number) ∙ is);
    }

-- ---- the walk

pub went_then : (before mid after : AddedPlace) (old now new : State) → Went IsBehindAdded before mid old now → Went IsBehindAdded mid after now new
    → Went IsBehindAdded before after old new
went_then before mid after old now new one two = record {
  keeps = λ clean tables entries has book stand behind given b.
      let was = early now new two.survives clean in
      two.keeps clean tables entries (has_still old now tables (one.same was) has) book stand behind given
      (one.keeps was tables entries has book stand behind given b);
  same = λ clean. stays_then old now new (one.same (early now new two.survives clean)) (two.same clean);
  survives = survives_both old now new one.survives two.survives;
}
