-- Tables that stand for a book stand, after the writes of an accepted command, for the book with its entry.
use Rattle.std.specs.Prelude.{◌≡◌, ℕ, suc, List, [], ◌∷◌, ◌++◌, length, All}
use Rattle.std.proofs.Common.{refl, sym, ap, subst, ◌∙◌, arith, length-append}
use Rattle.std.proofs.lemmas.List.Elements.{All-from_recursion, recursion_from_All}
use Rattle.sqlite_keyed.proofs.ListLemmas.{all-append}
use Rattle.lot_command.specs.declared.command.Command.{Command}
use Rattle.lot_command.specs.declared.key.Key.{Key}
use Rattle.lot_book.specs.Book.{entry_of}
use Rattle.lot_book.specs.Edition.{After, Edition, First, Second}
use Rattle.lot_book.specs.Step.{Accept, StepIn}
use Rattle.lot_laws.proofs.RecordedBook.{book-grows_in}
use Rattle.lot_book.specs.Facts.{Entry, Facts}
use Rattle.lot_book.specs.declared.change.Change.{Change}
use Rattle.lot_command.specs.Sayable.{IsSayable}
use Rattle.lot_rows.specs.Tables.{Tables}
use Rattle.lot_rows.specs.declared.migration.MigrationRow.{MigrationRow}
use Rattle.lot_stored.specs.StandFor.{StandFor}
use Rattle.lot_write.proofs.AsPutLemmas.{all_as_written}
use Rattle.lot_write.proofs.FitLemmas.{writes_fit}
use Rattle.lot_write.proofs.NamedLemmas.{IsAccepted, accepting_step, account-after, allowed-after, commodity-after, entry-after, kind-written, price-after}
use Rattle.lot_write.proofs.PlaceLemmas.{IsPlaceOf, all_placed, fit_placed, place_of_first, place_of_second, placed_already}
use Rattle.lot_write.proofs.TransactionLemmas.{heads_stand, legs_stand, lots_stand, openings_stand, plain_stands, sales_stand}
use Rattle.lot_write.proofs.WrittenLemmas.{kept-written_all}
use Rattle.lot_write.proofs.AsPutLemmas.{written_all}
use Rattle.lot_write.specs.Write as made
use Rattle.lot_write.specs.Write.{IsGood, placed_at}
use Rattle.lot_write.specs.Writes.{ListsInOrder, writes_of}
use Rattle.lot_write.specs.declared.write.Write.{Write}

-- ---- by either edition

module _ (tables : Tables) (entries : List Entry) (known : Facts) (key : Key) (command : Command) (change : Change)
    (stand : StandFor tables entries) (is : IsAccepted entries known key command change)
    (listed : ListsInOrder command change) (sayable : IsSayable command) (good : All IsGood (writes_of known key command change)) where
  abbrev writes : List Write
  writes = writes_of known key command change

  abbrev grown : List Entry
  grown = entries ++ entry_of key command change.legs ∷ []

  -- with a place by which its edition judges on the book
  writes_stand : (place : ℕ) → IsPlaceOf entries stand.sales is.edition place → StandFor (placed_at place (written_all writes tables)) grown
  writes_stand place at =
      let kept = kept-written_all place writes tables good stand.good stand.ordered in
      let sold = sales_stand tables entries known key change stand place at.sold command is at.judges in
      record {
        good = kept.0;
        ordered = kept.1;
        said = All-from_recursion (λ (entry : Entry). IsSayable entry.command) grown
            (all-append (λ (entry : Entry). IsSayable entry.command) entries (entry_of key command change.legs ∷ [])
            (recursion_from_All (λ (entry : Entry). IsSayable entry.command) entries stand.said) (sayable, tt));
        book = ap (λ k. k.0) (kind-written writes tables) ∙ stand.book;
        place = place;
        placed = omega (arith, at.within, length-append entries (entry_of key command change.legs ∷ []));
        judged = book-grows_in (After place) entries key command change.legs at.judged
            (subst (λ (edition : Edition). StepIn edition entries key command (Accept change.legs)) (sym at.judges)
            (accepting_step entries known key change command is));
        migration = refl;
        account = account-after tables entries known key change stand command is;
        allowed = allowed-after tables entries known key change stand command is;
        commodity = commodity-after tables entries known key change stand command is;
        price = price-after tables entries known key change stand command;
        entry = entry-after tables entries known key change stand command is;
        leg = legs_stand tables entries known key change stand command is;
        sales = sold.0;
        sold = sold.1;
        sale = sold.2;
        lot = lots_stand tables entries known key change stand command is good;
        plain = plain_stands tables entries known key change stand command is;
        opening = openings_stand tables entries known key change stand command is good;
        head = heads_stand tables entries known key change stand command is listed;
      }

  made_so : made.AreFit writes tables × (made.written_all writes tables ≡ written_all writes tables)
  made_so = all_as_written writes tables (writes_fit tables entries known key change stand command is listed good)

  -- edition 2 leaves the place as it is
  pub stand_by_second : is.edition ≡ Second → made.AreFit writes tables × StandFor (made.written_all writes tables) grown
  stand_by_second second =
      let place = stand.place in
      let at = subst (λ (edition : Edition). IsPlaceOf entries stand.sales edition place) (sym second) (place_of_second tables entries stand) in
      let same = placed_already place (written_all writes tables) (ap (λ k. k.1) (kind-written writes tables) ∙ stand.migration) in (
        made_so.0,
        subst (λ (after : Tables). StandFor after grown) (same ∙ sym made_so.1) (writes_stand place at),
      )

  -- behind an entry of edition 1 the place is put
  placed_by_first : is.edition ≡ First → stand.place ≡ length entries
      → made.AreFit writes tables × StandFor (placed_at (suc (length entries)) (made.written_all writes tables)) grown
  placed_by_first first here =
      let place = suc (length entries) in
      let at = subst (λ (edition : Edition). IsPlaceOf entries stand.sales edition place) (sym first) (place_of_first tables entries stand here) in (
        made_so.0,
        subst (λ (after : Tables). StandFor (placed_at place after) grown) (sym made_so.1) (writes_stand place at),
      )

-- ---- by edition 1, whatever place the tables have meanwhile

abbrev place_in : List MigrationRow → ℕ
place_in [] = 0
place_in (row ∷ rows) = row.entries

pub stand_by_first : (tables : Tables) (entries : List Entry) (known : Facts) (key : Key) (command : Command) (change : Change)
    → StandFor (placed_at (length entries) tables) entries → (is : IsAccepted entries known key command change) → is.edition ≡ First
    → ListsInOrder command change → IsSayable command → All IsGood (writes_of known key command change)
    → made.AreFit (writes_of known key command change) tables
    × StandFor (placed_at (suc (length entries)) (made.written_all (writes_of known key command change) tables))
    (entries ++ entry_of key command change.legs ∷ [])
stand_by_first tables entries known key command change stand is first listed sayable good =
    let place = length entries in
    let writes = writes_of known key command change in
    let all = placed_by_first (placed_at place tables) entries known key command change stand is listed sayable good first
    (sym (ap place_in stand.migration)) in (
      fit_placed place writes tables all.0,
      subst (λ (after : Tables). StandFor (placed_at (suc place) after) (entries ++ entry_of key command change.legs ∷ []))
          (all_placed place writes tables) all.1,
    )
