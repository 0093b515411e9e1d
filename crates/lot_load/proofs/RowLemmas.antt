-- What the rows of a book say: entries, accounts with their currencies, commodities and heads.
use Rattle.std.specs.Prelude.{◌≡◌, ℕ, suc, ◌+◌, ◌≤◌, Bool, true, false, cond, ◌&&◌, List, [], ◌∷◌, ◌++◌, length, map, find, filter, slice_get, Option, None, Some, is_some, option_map, ℤ, All}
use Rattle.std.specs.List.{AllByRecursion}
use Rattle.std.specs.Option.{option_or}
use Rattle.std.specs.Ordering.{is_eq, ordering_then}
use Rattle.std.specs.declared.cmp.Ordering.TheVariants.{Equal}
use Rattle.std.proofs.Common.{refl, ap, ◌∙◌, arith}
use Rattle.std.proofs.Math.Bool.{and-true}
use Rattle.std.proofs.lemmas.List.Elements.{All-from_recursion, recursion_from_All}
use Rattle.sqlite_keyed.proofs.ListLemmas.{all-filter, all_weaker}
use Rattle.sqlite.specs.declared.types.Value.TheVariants.{Text}
use Rattle.sqlite_value.specs.Order.{value_cmp}
use Rattle.lot_base.specs.Text.{same_text, text_cmp}
use Rattle.lot_cost.proofs.OrderLemmas.{eq_then}
use Rattle.lot_command.specs.Canonical.{canonical}
use Rattle.lot_command.specs.Currencies.{most_currencies}
use Rattle.lot_command.specs.declared.command.Command.{Command}
use Rattle.lot_command.specs.declared.command.Command.TheVariants.{Opening, Closing, Declaring, Quoting, Transaction}
use Rattle.lot_command.specs.declared.command.Opening.{Opening as OpeningOf}
use Rattle.lot_command.specs.declared.key.Key.{Key}
use Rattle.lot_book.specs.Facts.{Entry, Facts, facts_of, opening_by, opening_of, same_key, standing_by, text_under}
use Rattle.lot_book.specs.Openings.{AgreesOnOpenings, FactsWithOpenings, HaveSameOpenings}
use Rattle.lot_book.specs.Recorded.{facts_in}
use Rattle.lot_load.specs.Known.{KnowsOpenings, KnowsPair, KnowsTouched, said_by}
use Rattle.std.specs.BTreeSet.{IsFromIterResult}
use Rattle.lot_book.specs.Agree.{Agrees, HaveSameOf}
use Rattle.lot_book.specs.Change.{pair_cmp}
use Rattle.lot_book.specs.Touched.{accounts_in, declared_in, pairs_in, plain_in}
use Rattle.lot_book.specs.declared.change.Pair.{Pair}
use Rattle.lot_laws.proofs.StepAgree.{all_of}
use Rattle.lot_view.proofs.TouchedLemmas.{agrees_from_touched}
use Rattle.lot_view.specs.declared.touched.Touched.{Touched}
use Rattle.lot_command.specs.Sayable.{IsSayable}
use Rattle.lot_rows.specs.Entry.{entry_cells, is_named, named}
use Rattle.lot_rows.specs.declared.account.AccountRow.{AccountRow}
use Rattle.lot_rows.specs.declared.allowed.AllowedRow.{AllowedRow}
use Rattle.lot_rows.specs.declared.entry.EntryRow.{EntryRow}
use Rattle.lot_stored.specs.Kept.{currencies_in, currencies_of}
use Rattle.lot_stored.specs.Rows.{account_row, allowed_rows, entry_row, entry_rows}
use Rattle.lot_stored.proofs.KeyLemmas.{text_tie}

-- ---- entries

named_as : (key : Key) (number : ℕ) (entry : Entry) → is_named key.source key.name (entry_cells (entry_row number entry)) ≡ same_key key entry.key
named_as key number entry =
    let source = value_cmp (Text entry.key.source) (Text key.source) in
    let name = value_cmp (Text entry.key.name) (Text key.name) in
    eq_then source (ordering_then name Equal)
    ∙ ap (λ b. b && is_eq (ordering_then name Equal)) (text_tie key.source entry.key.source)
    ∙ ap (λ b. same_text key.source entry.key.source && b) (eq_then name Equal ∙ and-true (is_eq name) ∙ text_tie key.name entry.key.name)

-- the row of a key has the text that stands under it
pub named_text : (number : ℕ) (entries : List Entry) (key : Key)
    → option_map (λ (row : EntryRow). row.body) (slice_get (named key.source key.name (entry_rows number entries)) 0) ≡ text_under entries key
named_text number [] key = refl
named_text number (entry ∷ entries) key =
    let row = entry_row number entry in
    let rest = named key.source key.name (entry_rows (suc number) entries) in
    ap (λ b. option_map (λ (row : EntryRow). row.body) (slice_get (cond b (row ∷ rest) rest) 0)) (named_as key number entry)
    ∙ by (same_key key entry.key) (named_text (suc number) entries key)
  where
    by : (b : Bool) → option_map (λ (row : EntryRow). row.body) (slice_get (named key.source key.name (entry_rows (suc number) entries)) 0) ≡ text_under entries key
        → option_map (λ (row : EntryRow). row.body)
        (slice_get (cond b (entry_row number entry ∷ named key.source key.name (entry_rows (suc number) entries)) (named key.source key.name (entry_rows (suc number) entries))) 0)
        ≡ option_map (λ (e : Entry). canonical e.command) (cond b (Some entry) (find (λ (e : Entry). same_key key e.key) entries))
    by true more = refl
    by false more = more

-- ---- accounts

pub standing_is : (name : List ℕ) (opening : Option OpeningOf) (closing : Option ℤ) (row : AccountRow) (currencies : List (List ℕ))
    → Some row ≡ option_map (account_row name) (option_map (standing_by closing) opening) → currencies ≡ currencies_in opening
    → Some (record { opened = row.opened; closed = row.closed; method = row.method; allowed = currencies }) ≡ option_map (standing_by closing) opening
standing_is name None closing row currencies e allowed = cc
standing_is name (Some o) closing row currencies e allowed =
    let same : row ≡ account_row name (standing_by closing o) = cc in
    λ i. Some (record { opened = (same i).opened; closed = (same i).closed; method = (same i).method; allowed = allowed i })

pub commodities_allowed : (account : List ℕ) (place : ℕ) (currencies : List (List ℕ))
    → map (λ (row : AllowedRow). row.commodity) (allowed_rows account place currencies) ≡ currencies
commodities_allowed account place [] = refl
commodities_allowed account place (currency ∷ currencies) = ap (λ rest. currency ∷ rest) (commodities_allowed account (suc place) currencies)

few_opening : (account : List ℕ) (command : Command) (others : Option OpeningOf) → IsSayable command → length (currencies_in others) ≤ most_currencies
    → length (currencies_in (option_or (opening_by account command) others)) ≤ most_currencies
few_opening account (Opening o) others said few =
    elim (same_text account o.account) as (λ b. length (currencies_in (option_or (cond b (Some o) None) others)) ≤ most_currencies) [
      | true ↦ said.in_currencies.few
      | false ↦ few
    ]
few_opening account (Closing c) others said few = few
few_opening account (Declaring d) others said few = few
few_opening account (Quoting q) others said few = few
few_opening account (Transaction t) others said few = few

few_by : (entries : List Entry) (account : List ℕ) → AllByRecursion (λ (entry : Entry). IsSayable entry.command) entries
    → length (currencies_of entries account) ≤ most_currencies
few_by [] account said = omega arith
few_by (entry ∷ entries) account said = few_opening account entry.command (opening_of entries account) said.0 (few_by entries account said.1)

-- an account has no more currencies than an opening may have
pub few_currencies : (entries : List Entry) (account : List ℕ) → All (λ (entry : Entry). IsSayable entry.command) entries
    → length (currencies_of entries account) ≤ most_currencies
few_currencies entries account said = few_by entries account (recursion_from_All (λ (entry : Entry). IsSayable entry.command) entries said)

pub mapped_is_some : {X Y : Type 0} (f : X → Y) (o : Option X) → is_some (option_map f o) ≡ is_some o
mapped_is_some f None = refl
mapped_is_some f (Some x) = refl

-- ---- rows that a book can have

pub good_filtered : {X : Type 0} (IsGood : X → Type 0) (p : X → Bool) (rows : List X) → All IsGood rows → All IsGood (filter p rows)
good_filtered IsGood p rows good =
    All-from_recursion IsGood (filter p rows) (all-filter IsGood p rows (recursion_from_All IsGood rows good))

-- ---- what a command looks at

-- facts of which all is known that a command looks at agree with the book
pub looked : (entries : List Entry) (key : Key) (command : Command) (t : Touched) (facts : Facts)
    → IsFromIterResult text_cmp (accounts_in command) t.accounts → IsFromIterResult text_cmp (declared_in command) t.declared
    → IsFromIterResult pair_cmp (pairs_in command) t.pairs → IsFromIterResult text_cmp (plain_in command) t.plain
    → facts.entries ≡ length entries → facts.text ≡ text_under entries key → KnowsTouched t (facts_in entries) facts
    → Agrees facts (facts_of entries key) command
looked entries key command t facts accounts declared pairs plain count text knows =
    agrees_from_touched facts (facts_of entries key) command t accounts declared pairs plain (record {
      entries = count;
      text = text;
      standing = knows.0;
      is_declared = knows.1;
      latest_at_cost = all_weaker (λ (pair : Pair). KnowsPair pair (facts_in entries) facts)
          (λ (pair : Pair). facts.latest_at_cost pair.account pair.commodity ≡ (facts_of entries key).latest_at_cost pair.account pair.commodity)
          (λ pair known. known.0) t.pairs.keys knows.2;
      held = all_weaker (λ (pair : Pair). KnowsPair pair (facts_in entries) facts)
          (λ (pair : Pair). HaveSameOf pair.commodity (facts.held pair.account) ((facts_of entries key).held pair.account))
          (λ pair known. known.1) t.pairs.keys knows.2;
      plain_units = knows.3;
    })

-- so do the numbers of the lots that are held
pub numbers_looked : (entries : List Entry) (command : Command) (known : FactsWithOpenings) → KnowsOpenings (said_by entries) known
    → AgreesOnOpenings known (said_by entries) (pairs_in command)
numbers_looked entries command known numbers =
    all_of (λ (pair : Pair). HaveSameOpenings pair.commodity (known.facts.held pair.account) (known.opening pair.account pair.commodity)
    ((said_by entries).opening pair.account pair.commodity))
    (λ pair. numbers pair.account pair.commodity) (pairs_in command)
