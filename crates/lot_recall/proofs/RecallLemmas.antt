-- The rows of a leg of the book, told by its key.
use Rattle.std.specs.Prelude.{◌≡◌, ◌≢◌, ◌<◌, ◌≤◌, ℕ, zero, suc, ℤ, pos, ◌==◌, ◌&&◌, Bool, true, false, cond, List, [], ◌∷◌, filter, find, map, take, Option, None, Some}
use Rattle.std.specs.List.{AllByRecursion, list_any}
use Rattle.std.specs.Ordering.{is_lt, ordering_then, nat_cmp}
use Rattle.std.specs.declared.cmp.Ordering.{Ordering}
use Rattle.std.specs.declared.cmp.Ordering.TheVariants.{Less, Equal}
use Rattle.std.proofs.Common.{◌⊎◌, inl, inr, refl, sym, ap, ap₂, subst, ◌∙◌, arith}
use Rattle.std.proofs.lemmas.Bool.{and_parts, true≢false}
use Rattle.std.proofs.lemmas.Bool.Decides.{Decides-eqb}
use Rattle.std.proofs.lemmas.Cmp.{nat_cmp_total, on_total, then_total, tied_itself}
use Rattle.std.specs.Cmp.{IsTotalOrder}
use Rattle.std.proofs.lemmas.List.Elements.{recursion_from_All}
use Rattle.sqlite.specs.Order.{Row}
use Rattle.sqlite.specs.Tree.{IsAscending}
use Rattle.sqlite.specs.declared.types.Value.TheVariants.{Int}
use Rattle.sqlite_keyed.proofs.ListLemmas.{all-append, all_weaker, ascending_from_map}
use Rattle.sqlite_rules.proofs.ListLemmas.{all_has, has_kept}
use Rattle.sqlite_rules.specs.Lists.{Has as HasRow}
use Rattle.lot_command.specs.Canonical.{canonical}
use Rattle.lot_command.specs.Sayable.{IsSayable}
use Rattle.lot_command.specs.declared.command.Command.{Command}
use Rattle.lot_book.specs.Book.{IsBook}
use Rattle.lot_book.specs.Edition.{After}
use Rattle.lot_book.specs.Facts.{Entry}
use Rattle.lot_book.specs.declared.leg.Leg.{Leg}
use Rattle.lot_legs.specs.Legs.{by_posting, dated, dated_legs, dated_legs_of, day_of, posting_cmp, row_in}
use Rattle.lot_legs.specs.declared.leg.DatedLeg.{DatedLeg}
use Rattle.lot_legs.proofs.BookLemmas.{AreNumbered, all_sorted, book_numbers, leg_rows, one_entry_row}
use Rattle.lot_legs.proofs.OrderLemmas.{legs_up}
use Rattle.lot_legs.proofs.RowLemmas.{one_leg_row}
use Rattle.lot_noted.specs.Book.{Narrates, bare, narration_of, noted, noted_legs, noted_legs_of}
use Rattle.lot_noted.specs.Keys.{key_of}
use Rattle.lot_noted.specs.declared.key.LegKey.{LegKey}
use Rattle.lot_noted.proofs.BareLemmas.{IsBefore, bare_legs}
use Rattle.lot_noted.proofs.DayLemmas.{IsPlacedBelow, place_cmp}
use Rattle.lot_noted.proofs.HeadLemmas.{TellsApart, narrates_own}
use Rattle.lot_register.specs.declared.leg.NotedLeg.{NotedLeg}
use Rattle.lot_rows.specs.Entry.{IsEntryRow, entry_cells}
use Rattle.lot_rows.specs.Leg.{IsLegRow, leg_cells}
use Rattle.lot_rows.specs.Tables.{Tables}
use Rattle.lot_rows.specs.declared.entry.EntryRow.{EntryRow}
use Rattle.lot_rows.specs.declared.leg.LegRow.{LegRow}
use Rattle.lot_rows.proofs.EntryLemmas.{same_row}
use Rattle.lot_stored.specs.Rows.{entry_row, entry_rows, posting_key}
use Rattle.lot_stored.specs.StandFor.{StandFor}
use Rattle.lot_stored.proofs.LookupLemmas.{has_own_key}
use Rattle.lot_table.proofs.KeyLemmas.{has_mapped, mapped_has}
use Rattle.lot_table.specs.Rows.{has_key, with_key}
use Rattle.lot_recall.specs.Recall.{entries_from, is_entry_at, is_leg_at, legs_of, recalled}
use Rattle.lot_recall.proofs.FindLemmas.{none_any, none_apart}
use Rattle.lot_recall.proofs.FirstLemmas.{among_first}

same_number : (n : ℕ) → (n == n) ≡ true
same_number n = (Decides-eqb n n).1 refl

pub one_number : (m n : ℕ) → (m == n) ≡ true → m ≡ n
one_number m n e = (Decides-eqb m n).0 e

pub number_is : (m n : ℕ) → m ≡ n → (m == n) ≡ true
number_is m n e = (Decides-eqb m n).1 e

-- ---- no two legs are at one place

places_total : IsTotalOrder place_cmp
places_total =
    then_total (on_total (λ (leg : NotedLeg). leg.entry) nat_cmp_total)
    (then_total (on_total (λ (leg : NotedLeg). leg.posting) nat_cmp_total) (on_total (λ (leg : NotedLeg). leg.place) nat_cmp_total))

pub once : {X : Type 0} (R : X → X → Type 0) (xs : List X) (a b : X) → IsAscending R xs → HasRow xs a → HasRow xs b → (R a b → ⊥) → (R b a → ⊥) → a ≡ b
once R [] a b up has other apart turned = absurd has
once R (x ∷ xs) a b up (inl is) (inl at) apart turned = is ∙ sym at
once R (x ∷ xs) a b up (inl is) (inr later) apart turned = absurd (apart (subst (λ y. R y b) (sym is) (all_has (R x) xs b up.0 later)))
once R (x ∷ xs) a b up (inr later) (inl at) apart turned = absurd (turned (subst (λ y. R y a) (sym at) (all_has (R x) xs a up.0 later)))
once R (x ∷ xs) a b up (inr there) (inr later) apart turned = once R xs a b up.1 there later apart turned

pub tied_place : (a b : NotedLeg) → a.entry ≡ b.entry → a.posting ≡ b.posting → a.place ≡ b.place → place_cmp a b ≡ Equal
tied_place a b entry posting place =
    (λ i. ordering_then (nat_cmp a.entry (sym entry i)) (ordering_then (nat_cmp a.posting (sym posting i)) (nat_cmp a.place (sym place i))))
    ∙ tied_itself places_total a

-- ---- the narration of a leg

pub record HasNote (rows : List EntryRow) (leg : NotedLeg) : Type 0 where
  entry : Entry
  among : HasRow rows (entry_row leg.entry entry)
  said : IsSayable entry.command
  note : leg.narration ≡ narration_of entry.command

note_later : (row : EntryRow) (rows : List EntryRow) (leg : NotedLeg) → HasNote rows leg → HasNote (row ∷ rows) leg
note_later row rows leg has = record { entry = has.entry; among = inr has.among; said = has.said; note = has.note }

own_notes : (number : ℕ) (entry : Entry) (rows : List EntryRow) (legs : List Leg) → IsSayable entry.command → AllByRecursion (λ (leg : Leg). leg.entry ≡ number) legs
    → AllByRecursion (HasNote (entry_row number entry ∷ rows)) (map (noted (narration_of entry.command)) (map (dated (day_of entry.command)) legs))
own_notes number entry rows [] said of = tt
own_notes number entry rows (leg ∷ legs) said of = (
  record { entry = entry; among = inl (ap (λ n. entry_row n entry) of.0); said = said; note = refl },
  own_notes number entry rows legs said of.1,
)

legs_have_notes : (number : ℕ) (entries : List Entry) → AreNumbered number entries → AllByRecursion (λ (entry : Entry). IsSayable entry.command) entries
    → AllByRecursion (HasNote (entry_rows number entries)) (noted_legs entries)
legs_have_notes number [] are said = tt
legs_have_notes number (entry ∷ entries) are said =
    let rows = entry_rows (suc number) entries in
    all-append (HasNote (entry_row number entry ∷ rows)) (noted_legs_of entry) (noted_legs entries)
    (own_notes number entry rows (by_posting entry.legs) said.0 (all_sorted posting_cmp (λ (leg : Leg). leg.entry ≡ number) entry.legs are.0.0))
    (all_weaker (HasNote rows) (HasNote (entry_row number entry ∷ rows)) (note_later (entry_row number entry) rows) (noted_legs entries)
    (legs_have_notes (suc number) entries are.1 said.1))

-- ---- a leg and its rows

abbrev pub row_of : NotedLeg → LegRow
row_of leg = row_in (bare leg)

module _ (tables : Tables) (entries : List Entry) (book : IsBook entries) (stand : StandFor tables entries) where
  all_rows : map row_in (map bare (noted_legs entries)) ≡ tables.leg
  all_rows = ap (map row_in) (bare_legs entries) ∙ sym (leg_rows tables entries stand)

  up : IsAscending IsPlacedBelow (noted_legs entries)
  up = ascending_from_map IsBefore bare (noted_legs entries) (subst (IsAscending IsBefore) (sym (bare_legs entries)) (legs_up entries book))

  have_notes : AllByRecursion (HasNote (entry_rows 1 entries)) (noted_legs entries)
  have_notes =
      legs_have_notes 1 entries (book_numbers (After stand.place) entries stand.judged)
      (recursion_from_All (λ (entry : Entry). IsSayable entry.command) entries stand.said)

  module _ (key : LegKey) (leg : NotedLeg) (has : HasRow (noted_legs entries) leg) (is : key ≡ key_of leg) where
    pub row_there : HasRow tables.leg (row_of leg)
    row_there =
        subst (λ (rows : List LegRow). HasRow rows (row_of leg)) all_rows
        (mapped_has row_in (map bare (noted_legs entries)) (bare leg) (mapped_has bare (noted_legs entries) leg has))

    at_key : is_leg_at key (row_of leg) ≡ true
    at_key =
        ap (λ (k : LegKey). is_leg_at k (row_of leg)) is
        ∙ (λ i. same_number leg.entry i && (same_number leg.posting i && same_number leg.place i))

    -- what two rows have in common that have the columns of one
    same_at : (a b : LegRow) → leg_cells a ≡ leg_cells b → is_leg_at key a ≡ is_leg_at key b
    same_at a b same =
        let entry : a.entry ≡ b.entry = cc in
        let posting : a.posting ≡ b.posting = cc in
        let place : a.place ≡ b.place = cc in
        λ i. (entry i == key.entry) && ((posting i == key.posting) && (place i == key.place))

    -- a row at the key is that of the leg
    pub row_is : (row : LegRow) → HasRow (map leg_cells tables.leg) (leg_cells row) → IsLegRow row → is_leg_at key row ≡ true → row ≡ row_of leg
    row_is row there good at =
        let m = has_mapped leg_cells tables.leg (leg_cells row) there in
        let other : IsLegRow m.0 = all_has IsLegRow tables.leg m.0 (recursion_from_All IsLegRow tables.leg stand.good.leg) m.1 in
        let one : row ≡ m.0 = one_leg_row row m.0 good other m.2 in
        let d = has_mapped row_in (map bare (noted_legs entries)) m.0 (subst (λ (rows : List LegRow). HasRow rows m.0) (sym all_rows) m.1) in
        let n = has_mapped bare (noted_legs entries) d.0 d.1 in
        let whole : row ≡ row_of n.0 = one ∙ d.2 ∙ ap row_in n.2 in
        let first = and_parts (row.entry == key.entry) ((row.posting == key.posting) && (row.place == key.place)) at in
        let rest = and_parts (row.posting == key.posting) (row.place == key.place) first.1 in
        let entry : n.0.entry ≡ leg.entry = ap (λ (r : LegRow). r.entry) (sym whole) ∙ one_number row.entry key.entry first.0 ∙ ap (λ (k : LegKey). k.entry) is in
        let posting : n.0.posting ≡ leg.posting = ap (λ (r : LegRow). r.posting) (sym whole) ∙ one_number row.posting key.posting rest.0 ∙ ap (λ (k : LegKey). k.posting) is in
        let place : n.0.place ≡ leg.place = ap (λ (r : LegRow). r.place) (sym whole) ∙ one_number row.place key.place rest.1 ∙ ap (λ (k : LegKey). k.place) is in
        let tie : place_cmp n.0 leg ≡ Equal = tied_place n.0 leg entry posting place in
        let turned : place_cmp leg n.0 ≡ Equal = tied_place leg n.0 (sym entry) (sym posting) (sym place) in
        let never : Less ≢ Equal = λ e. true≢false (ap is_lt e) in
        let same : n.0 ≡ leg = once IsPlacedBelow (noted_legs entries) n.0 leg up n.1 has (λ below. never (sym below ∙ tie)) (λ below. never (sym below ∙ turned)) in
        whole ∙ ap row_of same

    -- the row at the key is among those that are kept
    pub leg_found : (kept : List LegRow) → (list_any (is_leg_at key) kept ≡ true) ⊎ (map leg_cells kept ≡ legs_of key tables.leg)
        → find (is_leg_at key) kept ≡ None → ⊥
    leg_found kept (inl any) none = none_any (is_leg_at key) kept none any
    leg_found kept (inr same) none =
        let own : HasRow (with_key leg_cells 2 (posting_key leg.entry leg.posting) tables.leg) (row_of leg) =
        has_kept (λ (r : LegRow). has_key 2 (posting_key leg.entry leg.posting) (leg_cells r)) tables.leg (row_of leg) row_there (has_own_key 2 (leg_cells (row_of leg))) in
        let keyed : HasRow (legs_of key tables.leg) (leg_cells (row_of leg)) =
        subst (λ (k : LegKey). HasRow (legs_of k tables.leg) (leg_cells (row_of leg))) (sym is)
        (mapped_has leg_cells (with_key leg_cells 2 (posting_key leg.entry leg.posting) tables.leg) (row_of leg) own) in
        let m = has_mapped leg_cells kept (leg_cells (row_of leg)) (subst (λ (l : List Row). HasRow l (leg_cells (row_of leg))) (sym same) keyed) in
        let apart = all_has (λ (r : LegRow). is_leg_at key r ≡ false) kept m.0 (none_apart (is_leg_at key) kept none) m.1 in
        true≢false (sym at_key ∙ same_at (row_of leg) m.0 m.2 ∙ apart)

    -- no row at the key is lost
    pub leg_never_lost : AllByRecursion (λ (r : LegRow). is_leg_at key r ≡ false) tables.leg → ⊥
    leg_never_lost apart = true≢false (sym at_key ∙ all_has (λ (r : LegRow). is_leg_at key r ≡ false) tables.leg (row_of leg) apart row_there)

    pub note : HasNote (entry_rows 1 entries) leg
    note = all_has (HasNote (entry_rows 1 entries)) (noted_legs entries) leg have_notes has

    -- the row of the entry of the leg
    pub entry_there : HasRow tables.entry (entry_row leg.entry note.entry)
    entry_there = subst (λ (rows : List EntryRow). HasRow rows (entry_row leg.entry note.entry)) (sym stand.entry) note.among

    entry_at_key : is_entry_at key.entry (entry_row leg.entry note.entry) ≡ true
    entry_at_key = ap (λ (k : LegKey). leg.entry == k.entry) is ∙ same_number leg.entry

    pub entry_never_lost : AllByRecursion (λ (r : EntryRow). is_entry_at key.entry r ≡ false) tables.entry → ⊥
    entry_never_lost apart =
        true≢false (sym entry_at_key ∙ all_has (λ (r : EntryRow). is_entry_at key.entry r ≡ false) tables.entry (entry_row leg.entry note.entry) apart entry_there)

    -- it is among those that are kept
    pub entry_found : (kept : List EntryRow) → (list_any (is_entry_at key.entry) kept ≡ true) ⊎ (map entry_cells kept ≡ entries_from key.entry tables.entry)
        → find (is_entry_at key.entry) kept ≡ None → ⊥
    entry_found kept (inl any) none = none_any (is_entry_at key.entry) kept none any
    entry_found kept (inr same) none =
        let row : EntryRow = entry_row leg.entry note.entry in
        let number : leg.entry ≡ key.entry = ap (λ (k : LegKey). k.entry) (sym is) in
        let first : HasRow (entries_from key.entry tables.entry) (entry_cells row) =
        subst (λ (rows : List EntryRow). HasRow (entries_from key.entry rows) (entry_cells row)) (sym stand.entry) (among_first 1 entries row key.entry note.among number) in
        let m = has_mapped entry_cells kept (entry_cells row) (subst (λ (l : List Row). HasRow l (entry_cells row)) (sym same) first) in
        let one : row ≡ m.0 = same_row row m.0 m.2 in
        let apart = all_has (λ (r : EntryRow). is_entry_at key.entry r ≡ false) kept m.0 (none_apart (is_entry_at key.entry) kept none) m.1 in
        true≢false (sym entry_at_key ∙ ap (is_entry_at key.entry) one ∙ apart)

    -- a row of that number has the text of its command
    pub text_is : (row : EntryRow) → HasRow (map entry_cells tables.entry) (entry_cells row) → is_entry_at key.entry row ≡ true → row.body ≡ canonical note.entry.command
    text_is row there at =
        let m = has_mapped entry_cells tables.entry (entry_cells row) there in
        let one : row ≡ m.0 = same_row row m.0 m.2 in
        let among = subst (λ (rows : List EntryRow). HasRow rows m.0) stand.entry m.1 in
        let number : m.0.number ≡ leg.entry =
        ap (λ (r : EntryRow). r.number) (sym one) ∙ one_number row.number key.entry at ∙ ap (λ (k : LegKey). k.entry) is in
        ap (λ (r : EntryRow). r.body) (one ∙ one_entry_row 1 entries m.0 (entry_row leg.entry note.entry) among note.among number)

    -- and its narration is that of the leg
    pub narration_is : TellsApart → (row : EntryRow) → HasRow (map entry_cells tables.entry) (entry_cells row) → is_entry_at key.entry row ≡ true
        → (narration : Option (List ℕ)) → Narrates row.body narration → narration ≡ leg.narration
    narration_is apart row there at narration narrates =
        narrates_own apart row.body note.entry.command note.said (text_is row there at) narration narrates ∙ sym note.note

    -- the text isn't that of no command
    pub text_never_bad : (row : EntryRow) → HasRow (map entry_cells tables.entry) (entry_cells row) → is_entry_at key.entry row ≡ true
        → ((command : Command) → IsSayable command → row.body ≢ canonical command) → ⊥
    text_never_bad row there at bad = bad note.entry.command note.said (text_is row there at)

    -- so the leg is read as it is
    pub leg_is : TellsApart → (row : LegRow) → HasRow (map leg_cells tables.leg) (leg_cells row) → IsLegRow row → is_leg_at key row ≡ true
        → (entry : EntryRow) → HasRow (map entry_cells tables.entry) (entry_cells entry) → is_entry_at key.entry entry ≡ true
        → (narration : Option (List ℕ)) → Narrates entry.body narration → recalled row key.day narration ≡ leg
    leg_is apart row there good at entry listed named narration narrates =
        let own = row_is row there good at in
        let says = narration_is apart entry listed named narration narrates in
        let day : key.day ≡ leg.day = ap (λ (k : LegKey). k.day) is in
        λ i. recalled (own i) (day i) (says i)
