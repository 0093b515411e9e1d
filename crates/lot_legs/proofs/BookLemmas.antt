-- The rows of the table `leg` are the legs of the book in the order of their entries, postings and places, and the rows of the
-- table `entry` say the day of each.
use Rattle.std.specs.Prelude.{◌≡◌, ◌≤◌, ◌<◌, ℕ, ℤ, suc, Bool, true, false, cond, List, [], ◌∷◌, ◌++◌, flat_map, length, map, ⊤}
use Rattle.std.specs.List.{AllByRecursion}
use Rattle.std.specs.Ordering.{is_gt, nat_cmp, ordering_reverse}
use Rattle.std.specs.declared.cmp.Ordering.{Ordering}
use Rattle.std.specs.declared.cmp.Ordering.TheVariants.{Less, Greater}
use Rattle.std.proofs.Common.{refl, sym, ap, ap₂, subst, ◌∙◌, ◌⊎◌, inl, inr, arith}
use Rattle.std.proofs.lemmas.Cmp.{by_ranked, ranked}
use Rattle.std.proofs.lemmas.List.{map-append}
use Rattle.sqlite.specs.Tree.{IsAscending}
use Rattle.sqlite_keyed.proofs.ListLemmas.{all-append, all_weaker, ascending-append, ascending-map}
use Rattle.sqlite_keyed.specs.Lists.{insert_sorted, sort_by}
use Rattle.sqlite_rules.proofs.ListLemmas.{has_filtered, has_kept, has_left, has_right}
use Rattle.sqlite_rules.specs.Lists.{Has}
use Rattle.lot_command.specs.Sayable.{IsSayable}
use Rattle.lot_book.specs.Book.{ContinuesIn, IsBookIn}
use Rattle.lot_book.specs.Edition.{After, Migration, edition_on, ties_in}
use Rattle.lot_book.specs.Facts.{Entry, facts_of, legs_of}
use Rattle.lot_book.specs.declared.leg.Leg.{Leg}
use Rattle.lot_laws.proofs.LawBooks.{accepted}
use Rattle.lot_print.specs.Canonical.{IsCanonical}
use Rattle.lot_rows.specs.Leg.{leg_cells}
use Rattle.lot_rows.specs.Tables.{Tables}
use Rattle.lot_rows.specs.declared.entry.EntryRow.{EntryRow}
use Rattle.lot_rows.specs.declared.leg.LegRow.{LegRow}
use Rattle.lot_table.proofs.KeyLemmas.{has_mapped, mapped_has}
use Rattle.lot_table.specs.Rows.{has_key}
use Rattle.lot_stored.specs.Kept.{is_of_posting, legs_of_posting}
use Rattle.lot_stored.specs.Rows.{entry_row, entry_rows, leg_row, posting_key}
use Rattle.lot_stored.specs.StandFor.{StandFor}
use Rattle.lot_stored.proofs.BookedLemmas.{Precedes}
use Rattle.lot_stored.proofs.HeldLemmas.{leg_there}
use Rattle.lot_stored.proofs.LegLemmas.{IsBelow, below_by_entry, below_by_place, below_by_posting}
use Rattle.lot_stored.proofs.LookupLemmas.{has_own_key}
use Rattle.lot_stored.proofs.NumberLemmas.{AreOwn, one_longer, own_legs}
use Rattle.lot_stored.proofs.OneTablesLemmas.{same_list}
use Rattle.lot_stored.proofs.OrderLemmas.{row_order, row_order-total}
use Rattle.lot_legs.specs.Days.{HasDay}
use Rattle.lot_legs.specs.Legs.{by_posting, dated, dated_legs, dated_legs_of, day_of, posting_cmp, row_in}
use Rattle.lot_legs.specs.declared.leg.DatedLeg.{DatedLeg}
use Rattle.lot_legs.proofs.TextLemmas.{canonical_day}

-- ---- a list that is sorted

module _ {X : Type 0} (cmp : X → X → Ordering) where
  all_inserted : (P : X → Type 0) (new : X) (xs : List X) → P new → AllByRecursion P xs → AllByRecursion P (insert_sorted cmp new xs)
  all_inserted P new [] here all = (here, tt)
  all_inserted P new (x ∷ xs) here all =
      elim (is_gt (cmp new x)) as (λ b. AllByRecursion P (cond b (x ∷ insert_sorted cmp new xs) (new ∷ x ∷ xs))) [
        | true ↦ (all.0, all_inserted P new xs here all.1)
        | false ↦ (here, all)
      ]

  pub all_sorted : (P : X → Type 0) (xs : List X) → AllByRecursion P xs → AllByRecursion P (sort_by cmp xs)
  all_sorted P [] all = tt
  all_sorted P (x ∷ xs) all = all_inserted P x (sort_by cmp xs) all.0 (all_sorted P xs all.1)

  has_inserted : (new : X) (xs : List X) (y : X) → Has (insert_sorted cmp new xs) y → Has (new ∷ xs) y
  has_inserted new [] y has = has
  has_inserted new (x ∷ xs) y has = by (is_gt (cmp new x)) has (has_inserted new xs y)
    where
      by : (b : Bool) → Has (cond b (x ∷ insert_sorted cmp new xs) (new ∷ x ∷ xs)) y → (Has (insert_sorted cmp new xs) y → Has (new ∷ xs) y)
          → Has (new ∷ x ∷ xs) y
      by false has more = has
      by true (inl first) more = inr (inl first)
      by true (inr later) more = over (more later)
        where
          over : Has (new ∷ xs) y → Has (new ∷ x ∷ xs) y
          over (inl is) = inl is
          over (inr there) = inr (inr there)

  inserted_has : (new : X) (xs : List X) (y : X) → Has (new ∷ xs) y → Has (insert_sorted cmp new xs) y
  inserted_has new [] y has = has
  inserted_has new (x ∷ xs) y has = by (is_gt (cmp new x)) has (inserted_has new xs y)
    where
      by : (b : Bool) → Has (new ∷ x ∷ xs) y → (Has (new ∷ xs) y → Has (insert_sorted cmp new xs) y)
          → Has (cond b (x ∷ insert_sorted cmp new xs) (new ∷ x ∷ xs)) y
      by false has more = has
      by true (inl is) more = inr (more (inl is))
      by true (inr (inl first)) more = inl first
      by true (inr (inr there)) more = inr (more (inr there))

  pub has_sorted : (xs : List X) (y : X) → Has (sort_by cmp xs) y → Has xs y
  has_sorted [] y has = has
  has_sorted (x ∷ xs) y has = by (has_inserted x (sort_by cmp xs) y has) (has_sorted xs y)
    where
      by : Has (x ∷ sort_by cmp xs) y → (Has (sort_by cmp xs) y → Has xs y) → Has (x ∷ xs) y
      by (inl is) more = inl is
      by (inr there) more = inr (more there)

  pub sorted_has : (xs : List X) (y : X) → Has xs y → Has (sort_by cmp xs) y
  sorted_has [] y has = has
  sorted_has (x ∷ xs) y (inl is) = inserted_has x (sort_by cmp xs) y (inl is)
  sorted_has (x ∷ xs) y (inr there) = inserted_has x (sort_by cmp xs) y (inr (sorted_has xs y there))

has_either : {X : Type 0} (xs ys : List X) (z : X) → Has (xs ++ ys) z → Has xs z ⊎ Has ys z
has_either [] ys z has = inr has
has_either (x ∷ xs) ys z (inl is) = inl (inl is)
has_either (x ∷ xs) ys z (inr there) = over (has_either xs ys z there)
  where
    over : Has xs z ⊎ Has ys z → Has (x ∷ xs) z ⊎ Has ys z
    over (inl first) = inl (inr first)
    over (inr later) = inr later

-- ---- the order of rows

below_then : (a b c : Leg) → IsBelow a b → IsBelow b c → IsBelow a c
below_then a b c one two = (row_order-total leg_cells 3).trans (leg_row a) (leg_row b) (leg_row c) one two

-- a row that is below another is of no later entry
pub upto_by_entry : (a b : Leg) → IsBelow a b → a.entry ≤ b.entry
upto_by_entry a b below =
    by_ranked (a.entry < b.entry) (a.entry ≡ b.entry) (b.entry < a.entry) (nat_cmp a.entry b.entry) (ranked a.entry b.entry (nat_cmp a.entry b.entry) refl)
    (λ is less. omega (arith, less)) (λ is same. omega (arith, same))
    (λ is more.
    let back : IsBelow b a = below_by_entry b a more in
    let turned : row_order leg_cells 3 (leg_row a) (leg_row b) ≡ Greater =
    (row_order-total leg_cells 3).antisymm (leg_row a) (leg_row b) ∙ ap ordering_reverse back in
    let both : Less ≡ Greater = sym below ∙ turned in
    absurd cc)

abbrev AreOf : ℕ → List Leg → Type 0
AreOf number = AllByRecursion (λ (leg : Leg). leg.entry ≡ number)

-- ---- the legs of all entries

-- entries whose legs bear their numbers, of which the first has that one
abbrev pub AreNumbered : ℕ → List Entry → Type 0
AreNumbered number [] = ⊤
AreNumbered number (entry ∷ entries) = AreOwn number entry.legs × AreNumbered (suc number) entries

continued_numbers : (migration : Migration) (before entries : List Entry) → ContinuesIn migration before entries → AreNumbered (suc (length before)) entries
continued_numbers migration before [] continues = tt
continued_numbers migration before (entry ∷ entries) continues =
    let edition = edition_on migration before in
    let judges = (accepted edition before entry.key entry.command entry.legs continues.0).1 in (
      own_legs (ties_in edition before) (facts_of before entry.key) entry.command entry.legs judges,
      subst (λ n. AreNumbered (suc n) entries) (one_longer before entry) (continued_numbers migration (before ++ entry ∷ []) entries continues.1),
    )

pub book_numbers : (migration : Migration) (entries : List Entry) → IsBookIn migration entries → AreNumbered 1 entries
book_numbers migration entries is = continued_numbers migration [] entries is

-- the legs in the order of their rows
abbrev pub placed : List Entry → List Leg
placed entries = flat_map (λ (entry : Entry). by_posting entry.legs) entries

placed_from : (number : ℕ) (entries : List Entry) → AreNumbered number entries → AllByRecursion (λ (leg : Leg). number ≤ leg.entry) (placed entries)
placed_from number [] are = tt
placed_from number (entry ∷ entries) are =
    all-append (λ (leg : Leg). number ≤ leg.entry) (by_posting entry.legs) (placed entries)
    (all_sorted posting_cmp (λ (leg : Leg). number ≤ leg.entry) entry.legs
    (all_weaker (λ (leg : Leg). leg.entry ≡ number) (λ (leg : Leg). number ≤ leg.entry) (λ leg is. here leg.entry is) entry.legs are.0.0))
    (all_weaker (λ (leg : Leg). suc number ≤ leg.entry) (λ (leg : Leg). number ≤ leg.entry) (λ leg from. below leg.entry from) (placed entries)
    (placed_from (suc number) entries are.1))
  where
    here : (n : ℕ) → n ≡ number → number ≤ n
    here n is = omega arith

    below : (n : ℕ) → suc number ≤ n → number ≤ n
    below n from = omega arith

-- ---- the legs of one entry, by an order that goes by entries, postings and places

module _ (R : Leg → Leg → Type 0) (entry_less : (a b : Leg) → a.entry < b.entry → R a b)
    (posting_less : (a b : Leg) → a.entry ≡ b.entry → a.posting < b.posting → R a b)
    (place_less : (a b : Leg) → a.entry ≡ b.entry → a.posting ≡ b.posting → a.place < b.place → R a b)
    (then : (a b c : Leg) → R a b → R b c → R a c) where
  inserted_up : (number : ℕ) (leg : Leg) (legs : List Leg) → leg.entry ≡ number → AreOf number legs → AllByRecursion (Precedes leg) legs
      → IsAscending R legs → IsAscending R (insert_sorted posting_cmp leg legs)
  inserted_up number leg [] is of before up = (tt, tt)
  inserted_up number leg (x ∷ legs) is of before up =
      let same : leg.entry ≡ x.entry = is ∙ sym of.0 in
      let more = inserted_up number leg legs is of.1 before.1 up.1 in
      by_ranked (leg.posting < x.posting) (leg.posting ≡ x.posting) (x.posting < leg.posting) (nat_cmp leg.posting x.posting)
      (ranked leg.posting x.posting (nat_cmp leg.posting x.posting) refl)
      (λ e less. first (posting_less leg x same less) (ap is_gt e))
      (λ e one. first (place_less leg x same one (before.0 same one)) (ap is_gt e))
      (λ e later.
      subst (λ o. IsAscending R (cond (is_gt o) (x ∷ insert_sorted posting_cmp leg legs) (leg ∷ x ∷ legs))) (sym e)
      (all_inserted posting_cmp (R x) leg legs (posting_less x leg (sym same) later) up.0, more))
    where
      first : R leg x → is_gt (nat_cmp leg.posting x.posting) ≡ false → IsAscending R (insert_sorted posting_cmp leg (x ∷ legs))
      first below not =
          subst (λ b. IsAscending R (cond b (x ∷ insert_sorted posting_cmp leg legs) (leg ∷ x ∷ legs))) (sym not)
          ((below, all_weaker (R x) (R leg) (λ y later. then leg x y below later) legs up.0), up)

  sorted_up : (number : ℕ) (legs : List Leg) → AreOf number legs → IsAscending Precedes legs → IsAscending R (by_posting legs)
  sorted_up number [] of up = tt
  sorted_up number (leg ∷ legs) of up =
      inserted_up number leg (by_posting legs) of.0 (all_sorted posting_cmp (λ (l : Leg). l.entry ≡ number) legs of.1)
      (all_sorted posting_cmp (Precedes leg) legs up.0) (sorted_up number legs of.1 up.1)

  pub placed_up : (number : ℕ) (entries : List Entry) → AreNumbered number entries → IsAscending R (placed entries)
  placed_up number [] are = tt
  placed_up number (entry ∷ entries) are =
      ascending-append R (by_posting entry.legs) (placed entries) (sorted_up number entry.legs are.0.0 are.0.1) (placed_up (suc number) entries are.1)
      (all_weaker (λ (leg : Leg). leg.entry ≡ number) (λ (a : Leg). AllByRecursion (R a) (placed entries))
      (λ a is. all_weaker (λ (leg : Leg). suc number ≤ leg.entry) (R a) (λ b from. entry_less a b (before a.entry b.entry number is from)) (placed entries)
      (placed_from (suc number) entries are.1))
      (by_posting entry.legs) (all_sorted posting_cmp (λ (leg : Leg). leg.entry ≡ number) entry.legs are.0.0))
    where
      before : (a b n : ℕ) → a ≡ n → suc n ≤ b → a < b
      before a b n is from = omega arith

-- ---- which legs they are

pub placed_has : (entries : List Entry) (leg : Leg) → Has (legs_of entries) leg → Has (placed entries) leg
placed_has [] leg has = has
placed_has (entry ∷ entries) leg has = by (has_either entry.legs (legs_of entries) leg has) (placed_has entries leg)
  where
    by : Has entry.legs leg ⊎ Has (legs_of entries) leg → (Has (legs_of entries) leg → Has (placed entries) leg) → Has (placed (entry ∷ entries)) leg
    by (inl own) more = has_left (by_posting entry.legs) (placed entries) leg (sorted_has posting_cmp entry.legs leg own)
    by (inr later) more = has_right (by_posting entry.legs) (placed entries) leg (more later)

pub has_placed : (entries : List Entry) (leg : Leg) → Has (placed entries) leg → Has (legs_of entries) leg
has_placed [] leg has = has
has_placed (entry ∷ entries) leg has = by (has_either (by_posting entry.legs) (placed entries) leg has) (has_placed entries leg)
  where
    by : Has (by_posting entry.legs) leg ⊎ Has (placed entries) leg → (Has (placed entries) leg → Has (legs_of entries) leg) → Has (legs_of (entry ∷ entries)) leg
    by (inl own) more = has_left entry.legs (legs_of entries) leg (has_sorted posting_cmp entry.legs leg own)
    by (inr later) more = has_right entry.legs (legs_of entries) leg (more later)

-- ---- the rows of legs

one_row : (day : ℤ) (legs : List Leg) → map row_in (map (dated day) legs) ≡ map leg_row legs
one_row day [] = refl
one_row day (leg ∷ legs) = ap (λ (rows : List LegRow). leg_row leg ∷ rows) (one_row day legs)

pub rows_placed : (entries : List Entry) → map row_in (dated_legs entries) ≡ map leg_row (placed entries)
rows_placed [] = refl
rows_placed (entry ∷ entries) =
    map-append row_in (dated_legs_of entry) (dated_legs entries)
    ∙ ap₂ (λ (a b : List LegRow). a ++ b) (one_row (day_of entry.command) (by_posting entry.legs)) (rows_placed entries)
    ∙ sym (map-append leg_row (by_posting entry.legs) (placed entries))

abbrev pub IsRowBelow : LegRow → LegRow → Type 0
IsRowBelow a b = row_order leg_cells 3 a b ≡ Less

module _ (tables : Tables) (entries : List Entry) (stand : StandFor tables entries) where
  row_placed : (row : LegRow) → Has tables.leg row → Has (map leg_row (placed entries)) row
  row_placed row has =
      let key = posting_key row.entry row.posting in
      let legs = legs_of_posting row.entry row.posting (legs_of entries) in
      let kept = has_kept (λ (r : LegRow). has_key 2 key (leg_cells r)) tables.leg row has (has_own_key 2 (leg_cells row)) in
      let found = has_mapped leg_row legs row (subst (λ (rows : List LegRow). Has rows row) (stand.leg row.entry row.posting) kept) in
      let among = (has_filtered (is_of_posting row.entry row.posting) (legs_of entries) found.0 found.1).0 in
      subst (Has (map leg_row (placed entries))) (sym found.2) (mapped_has leg_row (placed entries) found.0 (placed_has entries found.0 among))

  placed_row : (row : LegRow) → Has (map leg_row (placed entries)) row → Has tables.leg row
  placed_row row has =
      let found = has_mapped leg_row (placed entries) row has in
      subst (Has tables.leg) (sym found.2) (leg_there tables entries stand found.0 (has_placed entries found.0 found.1))

  -- the rows of the table are the legs in their order
  pub leg_rows : tables.leg ≡ map row_in (dated_legs entries)
  leg_rows =
      same_list (row_order leg_cells 3) (row_order-total leg_cells 3) tables.leg (map leg_row (placed entries)) stand.ordered.leg
      (ascending-map IsRowBelow leg_row (placed entries)
      (placed_up IsBelow below_by_entry below_by_posting below_by_place below_then 1 entries (book_numbers (After stand.place) entries stand.judged)))
      row_placed placed_row
      ∙ sym (rows_placed entries)

-- ---- the rows of entries

numbers_from : (number : ℕ) (entries : List Entry) (row : EntryRow) → Has (entry_rows number entries) row → number ≤ row.number
numbers_from number [] row has = absurd has
numbers_from number (entry ∷ entries) row (inl is) = subst (λ (r : EntryRow). number ≤ r.number) (sym is) (omega arith)
numbers_from number (entry ∷ entries) row (inr there) = let later = numbers_from (suc number) entries row there in omega (arith, later)

-- no two have one number
pub one_entry_row : (number : ℕ) (entries : List Entry) (a b : EntryRow) → Has (entry_rows number entries) a → Has (entry_rows number entries) b
    → a.number ≡ b.number → a ≡ b
one_entry_row number [] a b has other same = absurd has
one_entry_row number (entry ∷ entries) a b (inl is) (inl at) same = is ∙ sym at
one_entry_row number (entry ∷ entries) a b (inl is) (inr later) same =
    let first : a.number ≡ number = ap (λ (r : EntryRow). r.number) is in
    let from = numbers_from (suc number) entries b later in
    absurd (omega (arith, first, from, same))
one_entry_row number (entry ∷ entries) a b (inr later) (inl at) same =
    let first : b.number ≡ number = ap (λ (r : EntryRow). r.number) at in
    let from = numbers_from (suc number) entries a later in
    absurd (omega (arith, first, from, same))
one_entry_row number (entry ∷ entries) a b (inr there) (inr later) same = one_entry_row (suc number) entries a b there later same

-- behind a row are those with greater numbers
pub left_behind : (number : ℕ) (entries : List Entry) (before : List EntryRow) (row : EntryRow) (left : List EntryRow) (x : EntryRow)
    → (before ++ row ∷ []) ++ left ≡ entry_rows number entries → Has (entry_rows number entries) x → row.number < x.number → Has left x
left_behind number [] before row left x e has less = absurd has
left_behind number (entry ∷ entries) [] row left x e (inl is) less =
    let here : row.number ≡ number = ap (λ (r : EntryRow). r.number) (first_same row left (entry_row number entry) (entry_rows (suc number) entries) e).0 in
    let same : x.number ≡ number = ap (λ (r : EntryRow). r.number) is in
    absurd (omega (arith, here, same, less))
  where
    first_same : (a : EntryRow) (more : List EntryRow) (b : EntryRow) (others : List EntryRow) → a ∷ more ≡ b ∷ others → (a ≡ b) × (more ≡ others)
    first_same a more b others e = (cc, cc)
left_behind number (entry ∷ entries) [] row left x e (inr there) less =
    let rest : left ≡ entry_rows (suc number) entries = cc in
    subst (λ (rows : List EntryRow). Has rows x) (sym rest) there
left_behind number (entry ∷ entries) (b ∷ before) row left x e (inl is) less =
    let rest : (before ++ row ∷ []) ++ left ≡ entry_rows (suc number) entries = cc in
    let among = subst (λ (rows : List EntryRow). Has rows row) rest (has_left (before ++ row ∷ []) left row (has_right before (row ∷ []) row (inl refl))) in
    let from = numbers_from (suc number) entries row among in
    let same : x.number ≡ number = ap (λ (r : EntryRow). r.number) is in
    absurd (omega (arith, from, same, less))
left_behind number (entry ∷ entries) (b ∷ before) row left x e (inr there) less =
    let rest : (before ++ row ∷ []) ++ left ≡ entry_rows (suc number) entries = cc in
    left_behind (suc number) entries before row left x rest there less

-- each has the canonical text of its command
pub canonical_rows : (number : ℕ) (entries : List Entry) → AllByRecursion (λ (entry : Entry). IsSayable entry.command) entries
    → AllByRecursion (λ (row : EntryRow). IsCanonical row.body) (entry_rows number entries)
canonical_rows number [] said = tt
canonical_rows number (entry ∷ entries) said = ((entry.command, said.0, refl), canonical_rows (suc number) entries said.1)

-- ---- the days of legs

abbrev pub HasItsDay : List EntryRow → DatedLeg → Type 0
HasItsDay rows leg = HasDay rows leg.entry leg.day

has_day_later : (row : EntryRow) (rows : List EntryRow) (leg : DatedLeg) → HasItsDay rows leg → HasItsDay (row ∷ rows) leg
has_day_later row rows leg has = record { row = has.row; among = inr has.among; number = has.number; text = has.text }

own_days : (number : ℕ) (entry : Entry) (rows : List EntryRow) (legs : List Leg) → IsSayable entry.command → AllByRecursion (λ (leg : Leg). leg.entry ≡ number) legs
    → AllByRecursion (HasItsDay (entry_row number entry ∷ rows)) (map (dated (day_of entry.command)) legs)
own_days number entry rows [] said of = tt
own_days number entry rows (leg ∷ legs) said of = (
  record { row = entry_row number entry; among = inl refl; number = sym of.0; text = canonical_day entry.command said },
  own_days number entry rows legs said of.1,
)

pub legs_have_days : (number : ℕ) (entries : List Entry) → AreNumbered number entries → AllByRecursion (λ (entry : Entry). IsSayable entry.command) entries
    → AllByRecursion (HasItsDay (entry_rows number entries)) (dated_legs entries)
legs_have_days number [] are said = tt
legs_have_days number (entry ∷ entries) are said =
    let rows = entry_rows (suc number) entries in
    all-append (HasItsDay (entry_row number entry ∷ rows)) (dated_legs_of entry) (dated_legs entries)
    (own_days number entry rows (by_posting entry.legs) said.0 (all_sorted posting_cmp (λ (leg : Leg). leg.entry ≡ number) entry.legs are.0.0))
    (all_weaker (HasItsDay rows) (HasItsDay (entry_row number entry ∷ rows)) (has_day_later (entry_row number entry) rows) (dated_legs entries)
    (legs_have_days (suc number) entries are.1 said.1))
