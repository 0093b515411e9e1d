-- Tables agree on a book row by row exactly where they stand for it: what rows there are under the keys of the book.
use Rattle.std.specs.Prelude.{◌≡◌, ◌≢◌, ◌⊎◌, ◌≤◌, ◌<◌, ◌==◌, ◌&&◌, ℕ, ℤ, pos, zero, suc, Bool, true, false, List, [], ◌∷◌, length, map, Option, None, Some}
use Rattle.std.specs.List.{AllByRecursion}
use Rattle.std.specs.Ordering.{int_eq}
use Rattle.std.proofs.Common.{refl, sym, ap, subst, ◌∙◌, arith, inl, inr}
use Rattle.std.proofs.lemmas.Bool.{and_parts, cases_lt}
use Rattle.std.proofs.lemmas.Bool.Decides.{Decides-eqb, Decides-int_eq}
use Rattle.sqlite.specs.Order.{Row}
use Rattle.sqlite.specs.declared.types.Value.TheVariants.{Int, Text}
use Rattle.sqlite_keyed.proofs.ListLemmas.{filter_none}
use Rattle.sqlite_rules.specs.Lists.{Has}
use Rattle.sqlite_rules.proofs.ListLemmas.{all_from, all_has, has_filtered, has_kept}
use Rattle.sqlite_rules.proofs.ProbeLemmas.{has_mapped}
use Rattle.lot_base.specs.Text.{same_text}
use Rattle.lot_base.proofs.TextLemmas.{one_text}
use Rattle.lot_book.specs.Edition.{After}
use Rattle.lot_book.specs.Facts.{Entry, legs_of, opening_of}
use Rattle.lot_book.specs.Book.{IsBookIn}
use Rattle.lot_book.specs.OpeningNumber.{IsNumbered}
use Rattle.lot_book.specs.declared.leg.Leg.{Leg}
use Rattle.lot_command.specs.declared.command.Opening.{Opening as OpeningOf}
use Rattle.lot_laws.proofs.OpeningPostings.{all_numbered}
use Rattle.lot_table.specs.Book.{BookTable}
use Rattle.lot_table.specs.Rows.{has_key, with_key}
use Rattle.lot_rows.specs.Allowed.{allowed_cells}
use Rattle.lot_rows.specs.Leg.{IsLegRow, leg_cells}
use Rattle.lot_rows.specs.LotKey.{IsLotKey, cost_currency, cost_day, cost_label, cost_number}
use Rattle.lot_rows.specs.Tables.{Tables}
use Rattle.lot_rows.specs.declared.allowed.AllowedRow.{AllowedRow}
use Rattle.lot_rows.specs.declared.leg.LegRow.{LegRow}
use Rattle.lot_cost.specs.declared.lot_key.LotKey.{LotKey}
use Rattle.lot_book.specs.Leg.{same_position}
use Rattle.lot_book.specs.declared.leg.Position.{Position}
use Rattle.lot_book.proofs.OrderLemmas.{exact_positions}
use Rattle.std.specs.Cmp.{Equal-is}
use Rattle.lot_table.specs.Cell.{label_text}
use Rattle.lot_stored.specs.Kept.{currencies_in, currencies_of, is_of_posting, legs_of_posting}
use Rattle.lot_stored.specs.Rows.{allowed_rows, leg_row, lot_key, name_key, pair_key, posting_key, price_key, row_at}
use Rattle.lot_stored.proofs.KeyLemmas.{at_lot, has_lot, has_name, has_pair, has_posting, has_price}
use Rattle.lot_stored.proofs.LegLemmas.{its_parts}
use Rattle.lot_stored.proofs.LookupLemmas.{has_own_key, row-only, row-there}
use Rattle.lot_stored.proofs.NumberLemmas.{numbered_legs}
use Rattle.lot_stored.proofs.OrderLemmas.{IsRising}
use Rattle.lot_audit.specs.Agree.{Agrees, AllowedAgree, LegsAgree}

-- ---- one table

module _ {X K : Type 0} (t : BookTable Tables X) (key : K → Row) (of : X → K) (IsKey : K → Type 0)
    (row : K → Option X) (tables : Tables)
    (good : (x : X) → Has (t.rows tables) x → IsKey (of x))
    (one : (k : K) (x : X) → IsKey k → IsKey (of x) → has_key t.width (key k) (t.encode x) ≡ true → of x ≡ k) where
  pub looked_up : Agrees t key of IsKey row tables → (k : K) → IsKey k → row_at t (key k) tables ≡ row k
  looked_up agrees k is = by (row_at t (key k) tables) refl
    where
      none_either : (o : Option X) → row k ≡ o → row_at t (key k) tables ≡ None → None ≡ o
      none_either None here none = refl
      none_either (Some x) here none =
          absurd (agrees.every k is (λ (empty : row k ≡ None). absurd (let absent : Some x ≡ None = sym here ∙ empty in cc)) none)

      by : (o : Option X) → row_at t (key k) tables ≡ o → row_at t (key k) tables ≡ row k
      by None none = none ∙ none_either (row k) refl none
      by (Some x) found =
          let there = row-there t.encode t.width (key k) (t.rows tables) x found in
          let same = one k x is (good x there.0) there.1 in
          found
          ∙ sym (all_has (λ (y : X). row (of y) ≡ Some y) (t.rows tables) x agrees.each there.0)
          ∙ ap row same

  pub agreed : IsRising t.encode t.width (t.rows tables)
      → ((x : X) → has_key t.width (key (of x)) (t.encode x) ≡ true)
      → ((k : K) → IsKey k → row_at t (key k) tables ≡ row k) → Agrees t key of IsKey row tables
  agreed rising own looks = record {
    each = all_from (λ (x : X). row (of x) ≡ Some x) (t.rows tables)
        (λ x has.
        sym (looks (of x) (good x has))
        ∙ row-only t.encode t.width (key (of x)) (t.rows tables) x rising has (own x));
    every = λ k is some none. some (sym (looks k is) ∙ none);
  }

-- ---- one key

pub one_name : (name other : List ℕ) (rest : Row) → has_key 1 (name_key name) (Text other ∷ rest) ≡ true → other ≡ name
one_name name other rest is = sym (one_text name other (sym (has_name name other rest) ∙ is))

pub one_pair : (account commodity other what : List ℕ) (rest : Row)
    → has_key 2 (pair_key account commodity) (Text other ∷ Text what ∷ rest) ≡ true
    → ◌≡◌ {A = List ℕ × List ℕ} (other, what) (account, commodity)
one_pair account commodity other what rest is =
    let parts = and_parts (same_text account other) (same_text commodity what)
    (sym (has_pair account commodity other what rest) ∙ is) in
    let accounts = one_text account other parts.0 in
    let commodities = one_text commodity what parts.1 in
    sym (λ i. (accounts i, commodities i))

pub one_price : (base quote : List ℕ) (day : ℤ) (other against : List ℕ) (on : ℤ) (rest : Row)
    → has_key 3 (price_key base quote day) (Text other ∷ Text against ∷ Int on ∷ rest) ≡ true
    → ◌≡◌ {A = List ℕ × List ℕ × ℤ} (other, against, on) (base, quote, day)
one_price base quote day other against on rest is =
    let first = and_parts (same_text base other) (same_text quote against && int_eq day on)
    (sym (has_price base quote day other against on rest) ∙ is) in
    let second = and_parts (same_text quote against) (int_eq day on) first.1 in
    let bases = one_text base other first.0 in
    let quotes = one_text quote against second.0 in
    let days = (Decides-int_eq day on).0 second.1 in
    sym (λ i. (bases i, quotes i, days i))

pub one_lot : (account commodity other what : List ℕ) (lot there : LotKey) (rest : Row) → IsLotKey lot → IsLotKey there
    → has_key 6 (lot_key account commodity lot)
    (Text other ∷ Text what ∷ Int there.day ∷ Text there.currency ∷ Int (pos there.number) ∷ Text (label_text there.label) ∷ rest)
    ≡ true
    → ◌≡◌ {A = List ℕ × List ℕ × LotKey} (other, what, there) (account, commodity, lot)
one_lot account commodity other what lot there rest good good_there is =
    let here = at_lot account commodity lot in
    let same : same_position here (at_lot other what there) ≡ true =
    sym (has_lot account commodity other what lot there rest good.label good_there.label) ∙ is in
    let places : here ≡ at_lot other what there = exact_positions here (at_lot other what there) ((Equal-is _).0 same) in
    let lots : Some lot ≡ Some there = ap (λ (p : Position). p.lot) places in
    let one : lot ≡ there = cc in
    sym (λ i. ((places i).account, (places i).commodity, one i))

-- ---- currencies

module _ (entries : List Entry) (tables : Tables) where
  abbrev ofAccount : List ℕ → List AllowedRow
  ofAccount account = with_key allowed_cells 1 (name_key account) tables.allowed

  abbrev AllowedLook : Type 0
  AllowedLook = (account : List ℕ) → ofAccount account ≡ allowed_rows account 0 (currencies_of entries account)

  abbrev is_of : List ℕ → AllowedRow → Bool
  is_of account row = has_key 1 (name_key account) (allowed_cells row)

  pub allowed_looked_up : AllowedAgree entries tables → AllowedLook
  allowed_looked_up agrees account = by (opening_of entries account) refl
    where
      apart : opening_of entries account ≡ None → (row : AllowedRow) → Has tables.allowed row → (b : Bool) → is_of account row ≡ b → b ≡ false
      apart none row has false is = refl
      apart none row has true is =
          let same = one_name account row.account (Int (pos row.place) ∷ Text row.commodity ∷ []) is in
          absurd (all_has (λ (r : AllowedRow). opening_of entries r.account ≢ None) tables.allowed row agrees.each has
          (ap (opening_of entries) same ∙ none))

      by : (o : Option OpeningOf) → opening_of entries account ≡ o
          → ofAccount account ≡ allowed_rows account 0 (currencies_of entries account)
      by None none =
          filter_none (is_of account) tables.allowed
          (all_from (λ (row : AllowedRow). is_of account row ≡ false) tables.allowed
          (λ row has. apart none row has (is_of account row) refl))
          ∙ sym (ap (λ (o : Option OpeningOf). allowed_rows account 0 (currencies_in o)) none)
      by (Some opening) some = agrees.every account (λ none. absurd (let absent : Some opening ≡ None = sym some ∙ none in cc))

  pub allowed_agreed : AllowedLook → AllowedAgree entries tables
  allowed_agreed looks = record {
    each = all_from (λ (row : AllowedRow). opening_of entries row.account ≢ None) tables.allowed
        (λ row has none.
        let kept : Has (ofAccount row.account) row =
        has_kept (is_of row.account) tables.allowed row has (has_own_key 1 (allowed_cells row)) in
        subst (λ (rows : List AllowedRow). Has rows row)
        (looks row.account ∙ ap (λ (o : Option OpeningOf). allowed_rows row.account 0 (currencies_in o)) none) kept);
    every = λ account some. looks account;
  }

-- ---- legs

module _ (place : ℕ) (entries : List Entry) (tables : Tables) (book : IsBookIn (After place) entries)
    (good : AllByRecursion IsLegRow tables.leg) where
  abbrev ofPosting : ℕ → ℕ → List LegRow
  ofPosting entry posting = with_key leg_cells 2 (posting_key entry posting) tables.leg

  abbrev inBook : ℕ → ℕ → List Leg
  inBook entry posting = legs_of_posting entry posting (legs_of entries)

  abbrev LegsLook : Type 0
  LegsLook = (entry posting : ℕ) → ofPosting entry posting ≡ map leg_row (inBook entry posting)

  abbrev is_row_of : ℕ → ℕ → LegRow → Bool
  is_row_of entry posting row = has_key 2 (posting_key entry posting) (leg_cells row)

  -- which entry a row and a leg are of
  row_entry : (entry posting : ℕ) (row : LegRow) → is_row_of entry posting row ≡ true → row.entry ≡ entry
  row_entry entry posting row is =
      (Decides-eqb row.entry entry).0
      (and_parts (row.entry == entry) (row.posting == posting)
      (sym (has_posting entry posting row.entry row.posting
      (Int (pos row.place) ∷ Text row.account ∷ Text row.commodity ∷ Int row.units ∷ cost_number row.lot
      ∷ cost_currency row.lot ∷ cost_day row.lot ∷ cost_label row.lot ∷ []))
      ∙ is)).0

  false_or : (b : Bool) → (b ≡ true → ⊥) → b ≡ false
  false_or false never = refl
  false_or true never = absurd (never refl)

  -- an entry that the book doesn't have has neither rows nor legs
  none_of : LegsAgree entries tables → (entry posting : ℕ) → ((n : ℕ) → 1 ≤ n → n ≤ length entries → n ≡ entry → ⊥)
      → ofPosting entry posting ≡ map leg_row (inBook entry posting)
  none_of agrees entry posting never =
      filter_none (is_row_of entry posting) tables.leg
      (all_from (λ (row : LegRow). is_row_of entry posting row ≡ false) tables.leg
      (λ row has. false_or (is_row_of entry posting row) (λ is.
      never row.entry (all_has IsLegRow tables.leg row good has).entry.0
      (all_has (λ (r : LegRow). r.entry ≤ length entries) tables.leg row agrees.each has)
      (row_entry entry posting row is))))
      ∙ sym (ap (map leg_row) (filter_none (is_of_posting entry posting) (legs_of entries)
      (all_from (λ (leg : Leg). is_of_posting entry posting leg ≡ false) (legs_of entries)
      (λ leg has. false_or (is_of_posting entry posting leg) (λ is.
      never leg.entry
      (all_has IsNumbered (legs_of entries) leg (all_numbered (After place) [] entries book) has).entry_from_one
      (all_has (λ (l : Leg). l.entry ≤ length entries) (legs_of entries) leg (numbered_legs (After place) entries book) has)
      (its_parts entry posting leg is).0)))))

  pub legs_looked_up : LegsAgree entries tables → LegsLook
  legs_looked_up agrees entry posting = by entry (cases_lt (length entries) entry)
    where
      by : (e : ℕ) → (length entries < e) ⊎ (e ≤ length entries) → ofPosting e posting ≡ map leg_row (inBook e posting)
      by e (inl beyond) = none_of agrees e posting (λ n from within same. omega arith)
      by zero (inr within) = none_of agrees zero posting (λ n from up same. omega arith)
      by (suc e) (inr within) = agrees.every (suc e) posting (omega arith) within

  pub legs_agreed : LegsLook → LegsAgree entries tables
  legs_agreed looks = record {
    each = all_from (λ (row : LegRow). row.entry ≤ length entries) tables.leg
        (λ row has.
        let kept : Has (ofPosting row.entry row.posting) row =
        has_kept (is_row_of row.entry row.posting) tables.leg row has (has_own_key 2 (leg_cells row)) in
        let found =
        has_mapped leg_row (inBook row.entry row.posting) row
        (subst (λ (rows : List LegRow). Has rows row) (looks row.entry row.posting) kept) in
        let leg = has_filtered (is_of_posting row.entry row.posting) (legs_of entries) found.0 found.1 in
        subst (λ (n : ℕ). n ≤ length entries) (its_parts row.entry row.posting found.0 leg.1).0
        (all_has (λ (l : Leg). l.entry ≤ length entries) (legs_of entries) found.0
        (numbered_legs (After place) entries book) leg.0));
    every = λ entry posting from within. looks entry posting;
  }
