-- One more row that is handed in, or that isn't.
use Rattle.std.proofs.Common.{◌≡◌, ◌⊎◌, inl, inr, ℕ, ◌+◌, ◌-◌, ◌<◌, ◌≤◌, ◌^◌, length, length-append, Bool, true, false, List, [], ◌∷◌, ◌++◌, append_assoc, Option, Some, None, arith, refl, subst, sym, ap, ◌∙◌}
use Rattle.std.specs.Prelude.{IsSome, zero, suc, zip}
use Rattle.std.specs.List.{AllByRecursion, AllZip, slice_get}
use Rattle.std.proofs.lemmas.Bool.{true≢false}
use Rattle.std.proofs.lemmas.List.Elements.{All-push, filter-append}
use Rattle.std.proofs.lemmas.List.{append-nil, map-append}
use Rattle.lot_command.specs.declared.key.Key.{Key}
use Rattle.lot_rounding.specs.declared.asked.Asked.{Asked}
use Rattle.lot_sheet.specs.Sheet.{most_rows}
use Rattle.lot_export.specs.Entries.{dated_at, dated_in}
use Rattle.lot_export.specs.HandedIn.{AreHandedIn, FailsAmong, FailsFirst, HasAskedAt, HaveDays, HaveNext, IsHandedIn, IsToFail, Judged, judged_of, posted_of}
use Rattle.lot_export.specs.Named.{is_posted}
use Rattle.lot_export.specs.declared.entry.Entry.{Entry}
use Rattle.lot_export.specs.declared.fault.ExportFault.{ExportFault}
use Rattle.lot_export.specs.declared.fault.ExportFault.TheVariants as fault
use Rattle.lot_export.specs.declared.handed_in.Sheet.{Sheet}
use Rattle.lot_export.specs.declared.named.Named.{Named}
use Rattle.lot_export.proofs.ListLemmas.{push}

-- whether a row of the sheet is handed in
abbrev is_posted_at : Sheet → Judged → Bool
is_posted_at sheet row = is_posted sheet.entries.now sheet.except.now row.0

-- ---- One more row.

posted_one : (sheet : Sheet) (row : Judged) → is_posted_at sheet row ≡ true → posted_of sheet (row ∷ []) ≡ row ∷ []
posted_one sheet row posted = rw posted refl

posted_none : (sheet : Sheet) (row : Judged) → is_posted_at sheet row ≡ false → posted_of sheet (row ∷ []) ≡ []
posted_none sheet row passed = rw passed refl

posted_more : (sheet : Sheet) (rows : List Judged) (row : Judged) → is_posted_at sheet row ≡ true
    → posted_of sheet (rows ++ row ∷ []) ≡ posted_of sheet rows ++ row ∷ []
posted_more sheet rows row posted =
    filter-append (is_posted_at sheet) rows (row ∷ []) ∙ ap (λ more. posted_of sheet rows ++ more) (posted_one sheet row posted)

posted_same : (sheet : Sheet) (rows : List Judged) (row : Judged) → is_posted_at sheet row ≡ false
    → posted_of sheet (rows ++ row ∷ []) ≡ posted_of sheet rows
posted_same sheet rows row passed =
    filter-append (is_posted_at sheet) rows (row ∷ []) ∙ ap (λ more. posted_of sheet rows ++ more) (posted_none sheet row passed)
    ∙ append-nil (posted_of sheet rows)

takes_next : (source : List ℕ) (sheet : Sheet) (rows : List Judged) (row : Judged) (numbers : List ℕ) (commands : List (Key × Asked)) (one : Key × Asked)
    → AreHandedIn source sheet rows (numbers, commands) → is_posted_at sheet row ≡ true → IsHandedIn source sheet row one
    → AreHandedIn source sheet (rows ++ row ∷ []) (numbers ++ row.0.number ∷ [], commands ++ one ∷ [])
takes_next source sheet rows row numbers commands one are posted is = record {
  numbers = rw (posted_more sheet rows row posted)
      (ap (λ ns. ns ++ row.0.number ∷ []) are.numbers ∙ sym (map-append (λ (r : Judged). r.0.number) (posted_of sheet rows) (row ∷ [])));
  commands = rw (posted_more sheet rows row posted) (push (IsHandedIn source sheet) (posted_of sheet rows) commands row one are.commands is);
}

skips_next : (source : List ℕ) (sheet : Sheet) (rows : List Judged) (row : Judged) (numbers : List ℕ) (commands : List (Key × Asked))
    → AreHandedIn source sheet rows (numbers, commands) → is_posted_at sheet row ≡ false
    → AreHandedIn source sheet (rows ++ row ∷ []) (numbers, commands)
skips_next source sheet rows row numbers commands are passed = record {
  numbers = rw (posted_same sheet rows row passed) are.numbers;
  commands = rw (posted_same sheet rows row passed) are.commands;
}

-- ---- Days and numbers.

within_some : {X : Type 0} (xs : List X) (place : ℕ) (x : X) → slice_get xs place ≡ Some x → place < length xs
within_some [] place x is = cc
within_some (y ∷ xs) zero x is = omega arith
within_some (y ∷ xs) (suc place) x is = let more = within_some xs place x is in omega (arith, more)

small_found : (entries : List Entry) (number : ℕ) (found : Option Entry) → slice_get entries (number - 1) ≡ found → IsSome (dated_in found)
    → length entries ≤ most_rows → number + 1 < 2 ^ 64
small_found entries number None at some few = absurd (true≢false (sym some))
small_found entries number (Some entry) at some few = let within = within_some entries (number - 1) entry at in omega (arith, within, few)

-- the number of a row that stands in the file has a next one
small_number : (entries : List Entry) (number : ℕ) → IsSome (dated_at entries number) → length entries ≤ most_rows → number + 1 < 2 ^ 64
small_number entries number some few = small_found entries number (slice_get entries (number - 1)) refl some few

fault_first : (sheet : Sheet) (rows : List Judged) (given : ExportFault) → FailsFirst sheet rows given → FailsAmong sheet rows given
fault_first sheet rows (fault.NotText line) first = first
fault_first sheet rows fault.NoHeader first = first
fault_first sheet rows (fault.BadHeader line cause) first = first
fault_first sheet rows (fault.BadRow number cause) first = first
fault_first sheet rows fault.TooManyRows first = first
fault_first sheet rows (fault.Row number f) first = first
fault_first sheet rows (fault.Order number) first = first
fault_first sheet rows (fault.NothingLeft number) first = first
fault_first sheet rows (fault.TooLarge number) first = first
fault_first sheet rows fault.Memory first = tt

-- ---- The rows so far, and those that are left.

pub record AreTaken (source : List ℕ) (sheet : Sheet) (left : List Named) (more : List (Option ℕ)) (numbers : List ℕ) (commands : List (Key × Asked))
    : Type 0 where
  pub done : List Judged
  pub split : judged_of sheet ≡ done ++ zip left more
  pub given : AreHandedIn source sheet done (numbers, commands)
  pub next : HaveNext numbers
  pub as_many : length numbers ≡ length commands
  pub days : HaveDays sheet.entries.now left

module _ (source : List ℕ) (sheet : Sheet) (left after : List Named) (more rest : List (Option ℕ)) (numbers : List ℕ) (commands : List (Key × Asked))
    (row : Named) (partner : Option ℕ) (taken : AreTaken source sheet left more numbers commands) (is_left : left ≡ row ∷ after) (is_more : more ≡ partner ∷ rest) where
  here : judged_of sheet ≡ taken.done ++ (row, partner) ∷ zip after rest
  here = taken.split ∙ (λ i. taken.done ++ zip (is_left i) (is_more i))

  moved : judged_of sheet ≡ (taken.done ++ (row, partner) ∷ []) ++ zip after rest
  moved = here ∙ sym (append_assoc taken.done ((row, partner) ∷ []) (zip after rest))

  days_here : HaveDays sheet.entries.now (row ∷ after)
  days_here = subst (HaveDays sheet.entries.now) is_left taken.days

  pub has_day : IsSome (dated_at sheet.entries.now row.number)
  has_day = days_here.0

  pub takes_at : (new_numbers : List ℕ) (new_commands : List (Key × Asked)) (one : Key × Asked) → is_posted sheet.entries.now sheet.except.now row ≡ true
      → IsHandedIn source sheet (row, partner) one → new_numbers ≡ numbers ++ row.number ∷ [] → new_commands ≡ commands ++ one ∷ []
      → length sheet.entries.now ≤ most_rows → AreTaken source sheet after rest new_numbers new_commands
  takes_at new_numbers new_commands one posted is is_numbers is_commands few = record {
    done = taken.done ++ (row, partner) ∷ [];
    split = moved;
    given = rw (is_numbers, is_commands) (takes_next source sheet taken.done (row, partner) numbers commands one taken.given posted is);
    next = rw is_numbers
        (All-push (λ n. n + 1 < 2 ^ 64) numbers row.number taken.next (small_number sheet.entries.now row.number has_day few));
    as_many = rw (is_numbers, is_commands)
        (length-append numbers (row.number ∷ []) ∙ ap (λ (n : ℕ). n + 1) taken.as_many ∙ sym (length-append commands (one ∷ [])));
    days = days_here.1;
  }

  pub skips_at : is_posted sheet.entries.now sheet.except.now row ≡ false → AreTaken source sheet after rest numbers commands
  skips_at passed = record {
    done = taken.done ++ (row, partner) ∷ [];
    split = moved;
    given = skips_next source sheet taken.done (row, partner) numbers commands taken.given passed;
    next = taken.next;
    as_many = taken.as_many;
    days = days_here.1;
  }

  have_each : (rows : List Judged) (given : List (Key × Asked)) → AllZip (IsHandedIn source sheet) rows given
      → AllByRecursion (λ (r : Judged). (asked : Asked) × HasAskedAt sheet r asked) rows
  have_each [] given all = tt
  have_each (r ∷ rows) [] all = absurd all
  have_each (r ∷ rows) (one ∷ given) all = ((one.1, all.0.asked), have_each rows given all.1)

  -- the row behind those that are handed in is the first that asks for nothing
  pub fails_here : (given : ExportFault) → is_posted sheet.entries.now sheet.except.now row ≡ true → IsToFail sheet (row, partner) given
      → FailsAmong sheet (judged_of sheet) given
  fails_here given posted fails =
      let first : FailsFirst sheet (judged_of sheet) given = record {
        before = taken.done;
        row = (row, partner);
        after = zip after rest;
        all = here;
        earlier = have_each (posted_of sheet taken.done) commands taken.given.commands;
        posted = posted;
        fails = fails;
      } in
      fault_first sheet (judged_of sheet) given first

none_left : (left : List Named) (more : List (Option ℕ)) → (left ≡ []) ⊎ (more ≡ []) → zip left more ≡ []
none_left [] more none = refl
none_left (row ∷ left) [] none = refl
none_left (row ∷ left) (partner ∷ more) (inl none) = cc
none_left (row ∷ left) (partner ∷ more) (inr none) = cc

-- at the end all rows are handed in
pub all_taken : (source : List ℕ) (sheet : Sheet) (left : List Named) (more : List (Option ℕ)) (numbers : List ℕ) (commands : List (Key × Asked))
    → AreTaken source sheet left more numbers commands → (left ≡ []) ⊎ (more ≡ []) → AreHandedIn source sheet (judged_of sheet) (numbers, commands)
all_taken source sheet left more numbers commands taken none =
    let all : judged_of sheet ≡ taken.done = taken.split ∙ ap (λ rows. taken.done ++ rows) (none_left left more none) ∙ append-nil taken.done in
    subst (λ (rows : List Judged). AreHandedIn source sheet rows (numbers, commands)) (sym all) taken.given
