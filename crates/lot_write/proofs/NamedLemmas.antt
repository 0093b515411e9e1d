-- The tables account, allowed, commodity, price, entry, book and migration after what an accepted command writes.
use Rattle.std.specs.Prelude.{◌≡◌, ℕ, suc, ◌<◌, ◌&&◌, Bool, true, false, cond, List, [], ◌∷◌, ◌++◌, length, map, Option, None, Some, ℤ, is_some, ⊤, pos}
use Rattle.std.specs.BTreeMap.{get}
use Rattle.std.specs.List.{AllByRecursion}
use Rattle.std.specs.Option.{is_none, option_map, option_or}
use Rattle.std.specs.Ordering.{int_eq}
use Rattle.std.specs.declared.cmp.Ordering.TheVariants.{Less}
use Rattle.std.proofs.Common.{refl, sym, ap, subst, ◌∙◌, append-nil, append_assoc, arith}
use Rattle.std.proofs.lemmas.Bool.{and_parts, true≢false}
use Rattle.std.proofs.lemmas.Bool.Decides.{Decides-int_eq}
use Rattle.std.proofs.lemmas.List.Elements.{All-from_recursion, recursion_from_All}
use Rattle.sqlite.specs.Order.{Row}
use Rattle.sqlite.specs.Values.{or_null}
use Rattle.sqlite.specs.declared.types.Value.TheVariants.{Int, Text}
use Rattle.sqlite_keyed.proofs.ListLemmas.{all-append, all-flat_map, all-map, all_weaker}
use Rattle.lot_base.specs.Text.{same_text}
use Rattle.lot_cost.specs.Method.{word_of}
use Rattle.lot_base.proofs.OptionLemmas.{not_mapped, or_none}
use Rattle.lot_base.proofs.TextLemmas.{one_text, same_text-itself}
use Rattle.lot_cost.specs.declared.lot_key.LotKey.{LotKey}
use Rattle.lot_command.specs.declared.command.Closing.{Closing as ClosingOf}
use Rattle.lot_command.specs.declared.command.Command.{Command}
use Rattle.lot_command.specs.declared.command.Command.TheVariants.{Opening, Closing, Declaring, Quoting, Transaction}
use Rattle.lot_command.specs.declared.command.Declaring.{Declaring as DeclaringOf}
use Rattle.lot_command.specs.declared.command.Opening.{Opening as OpeningOf}
use Rattle.lot_command.specs.declared.key.Key.{Key}
use Rattle.lot_book.specs.Agree.{Agrees}
use Rattle.lot_book.specs.Book.{entry_of}
use Rattle.lot_book.specs.Booking.{TieRule}
use Rattle.lot_book.specs.Edition.{After, Edition, ties_in}
use Rattle.lot_book.specs.Facts.{Entry, Facts, closing_of, facts_of, is_declared, opening_by, opening_of, standing_by, standing_of, text_under}
use Rattle.lot_book.specs.Leg.{position_cmp}
use Rattle.lot_book.specs.Recorded.{closed_on, standing_after}
use Rattle.lot_book.specs.Refusals.{already_declared, book_full, closing_again, closing_too_early, closing_unknown, holds_as, was_closed}
use Rattle.lot_book.specs.Step.{Accept, JudgesUnder, StepIn, first_of}
use Rattle.lot_book.specs.Touched.{pairs_in}
use Rattle.lot_book.specs.Change.{IsAcceptedUnder, units_before}
use Rattle.lot_book.specs.declared.change.Change.{Change}
use Rattle.lot_book.specs.declared.change.Pair.{Pair}
use Rattle.lot_book.specs.declared.leg.Leg.{Leg}
use Rattle.lot_book.specs.declared.leg.Position.{Position}
use Rattle.lot_book.specs.declared.refusal.Refusal.{Refusal}
use Rattle.lot_book.specs.declared.standing.Standing.{Standing}
use Rattle.lot_laws.proofs.LawBooks.{accepted, none_holds}
use Rattle.lot_laws.proofs.RecordedBook.{closes_opened, closing_is_known, opening_is_new, opening_of-append, standing-recorded}
use Rattle.lot_laws.proofs.StepAgree.{TiesAlike}
use Rattle.lot_laws.proofs.StepLooks.{same_decision_under}
use Rattle.lot_table.specs.Rows.{has_key, key_order, put_in, with_key}
use Rattle.lot_rows.specs.Account.{account_cells}
use Rattle.lot_rows.specs.Allowed.{allowed_cells}
use Rattle.lot_rows.specs.Commodity.{commodity_cells}
use Rattle.lot_rows.specs.Entry.{entry_cells}
use Rattle.lot_rows.specs.Price.{price_cells}
use Rattle.lot_rows.specs.Tables.{Tables, account_table, allowed_table, commodity_table, entry_table, price_table}
use Rattle.lot_rows.specs.declared.account.AccountRow.{AccountRow}
use Rattle.lot_rows.specs.declared.allowed.AllowedRow.{AllowedRow}
use Rattle.lot_rows.specs.declared.book.BookRow.{BookRow}
use Rattle.lot_rows.specs.declared.commodity.CommodityRow.{CommodityRow}
use Rattle.lot_rows.specs.declared.migration.MigrationRow.{MigrationRow}
use Rattle.lot_rows.specs.declared.price.PriceRow.{PriceRow}
use Rattle.lot_stored.specs.Kept.{currencies_in, currencies_of, declared_on, declaring_by, rate_by, rate_on}
use Rattle.lot_stored.specs.Rows.{account_row, allowed_rows, commodity_row, entry_row, entry_rows, head_row, lot_row, name_key, plain_row, price_key, price_row, row_at}
use Rattle.lot_stored.specs.StandFor.{StandFor}
use Rattle.lot_stored.proofs.KeptLemmas.{declared_on-append, declared_on-none, entry_rows-append, entry_rows-below, rate_on-append}
use Rattle.lot_stored.proofs.KeyLemmas.{has_name, has_price, number_below, same_first}
use Rattle.lot_stored.proofs.LookupLemmas.{first_with_key, put_in-last, row-put, with_key-put_last, with_key-put_other}
use Rattle.lot_stored.proofs.OrderLemmas.{IsRising, all-put_in, rises-put_in, row_order}
use Rattle.lot_write.proofs.WrittenLemmas.{IsNoEntry, left-written_all}
use Rattle.lot_write.proofs.AsPutLemmas.{written, written_all}
use Rattle.lot_write.specs.Write.{with_put}
use Rattle.lot_write.specs.Writes.{closing_written, head_written, heads_written, legs_written, listed_write, lot_write, number_written, opening_written, own_writes, plain_write, position_write, positions_written, sales_written, units_listed, writes_of}
use Rattle.lot_write.specs.declared.write.Write.{Write}
use Rattle.lot_write.specs.declared.write.Write.TheVariants as write

-- ---- an accepted command

-- it was accepted on what a book says, where ties are decided as an edition does on it
pub record IsAccepted (entries : List Entry) (known : Facts) (key : Key) (command : Command) (change : Change) : Type 0 where
  pub agrees : Agrees known (facts_of entries key) command
  pub edition : Edition
  pub ties : TieRule
  pub alike : AllByRecursion (TiesAlike ties (ties_in edition entries) known) (pairs_in command)
  pub comes : IsAcceptedUnder ties known command change

module _ (entries : List Entry) (known : Facts) (key : Key) (change : Change) where
  pub accepting_step : (command : Command) (is : IsAccepted entries known key command change)
      → StepIn is.edition entries key command (Accept change.legs)
  accepting_step command is =
      same_decision_under is.ties (ties_in is.edition entries) known (facts_of entries key) command (Accept change.legs)
      is.agrees is.alike is.comes.0

  pub judged : (command : Command) (is : IsAccepted entries known key command change)
      → (text_under entries key ≡ None)
      × JudgesUnder (ties_in is.edition entries) (facts_of entries key) command (Accept change.legs)
  judged command is = accepted is.edition entries key command change.legs (accepting_step command is)

-- ---- writes of a transaction

abbrev IsOfTransaction : Write → Type 0
IsOfTransaction (write.Account row) = ⊥
IsOfTransaction (write.Allowed row) = ⊥
IsOfTransaction (write.Commodity row) = ⊥
IsOfTransaction (write.Price row) = ⊥
IsOfTransaction (write.Entry row) = ⊥
IsOfTransaction _ = ⊤

plain_is : (account commodity : List ℕ) (before units : ℤ) → IsOfTransaction (plain_write account commodity before units)
plain_is account commodity before units =
    elim (int_eq before (pos 0)) as (λ b. IsOfTransaction (cond b (write.Plain (plain_row account commodity units))
    (write.SetPlain (plain_row account commodity units)))) [
      | true ↦ tt
      | false ↦ tt
    ]

lot_is : (account commodity : List ℕ) (lot : LotKey) (before units : ℤ) → IsOfTransaction (lot_write account commodity lot before units)
lot_is account commodity lot before units =
    elim (int_eq before (pos 0)) as (λ b. IsOfTransaction (cond b (write.Lot (lot_row account commodity lot units))
    (write.SetLot (lot_row account commodity lot units)))) [
      | true ↦ tt
      | false ↦ tt
    ]

position_is : (account commodity : List ℕ) (lot : Option LotKey) (before units : ℤ)
    → IsOfTransaction (position_write account commodity lot before units)
position_is account commodity None before units =
    elim (int_eq units (pos 0)) as (λ b. IsOfTransaction (cond b (write.NoPlain account commodity)
    (plain_write account commodity before units))) [
      | true ↦ tt
      | false ↦ plain_is account commodity before units
    ]
position_is account commodity (Some lot) before units =
    elim (int_eq units (pos 0)) as (λ b. IsOfTransaction (cond b (write.NoLot account commodity lot)
    (lot_write account commodity lot before units))) [
      | true ↦ tt
      | false ↦ lot_is account commodity lot before units
    ]

opening_is : (account commodity : List ℕ) (lot : Option LotKey) (units : ℤ) (listed : Option ℕ)
    → AllByRecursion IsOfTransaction (opening_written account commodity lot units listed)
opening_is account commodity None units listed = tt
opening_is account commodity (Some lot) units listed =
    elim (int_eq units (pos 0)) as (λ b. AllByRecursion IsOfTransaction
    (cond b (write.NoOpening account commodity lot ∷ []) (number_written account commodity lot listed))) [
      | true ↦ (tt, tt)
      | false ↦ number_is listed
    ]
  where
    number_is : (number : Option ℕ) → AllByRecursion IsOfTransaction (number_written account commodity lot number)
    number_is None = tt
    number_is (Some number) = (tt, tt)

listed_is : (facts : Facts) (change : Change) (p : Position) → AllByRecursion IsOfTransaction (listed_write facts change p)
listed_is facts change p =
    let units = units_listed facts change p in (
      position_is p.account p.commodity p.lot (units_before facts p) units,
      opening_is p.account p.commodity p.lot units (get position_cmp change.openings p),
    )

all_of : {A X : Type 0} (P : X → Type 0) (f : A → List X) → ((a : A) → AllByRecursion P (f a)) → (xs : List A)
    → AllByRecursion (λ a. AllByRecursion P (f a)) xs
all_of P f each [] = tt
all_of P f each (x ∷ xs) = (each x, all_of P f each xs)

head_is : (before : Option ℤ) (account commodity : List ℕ) (day : ℤ)
    → AllByRecursion IsOfTransaction (head_written before account commodity day)
head_is None account commodity day = (tt, tt)
head_is (Some before) account commodity day =
    elim (int_eq before day) as (λ b. AllByRecursion IsOfTransaction (cond b [] (write.SetHead (head_row account commodity day) ∷ []))) [
      | true ↦ tt
      | false ↦ (tt, tt)
    ]

pub transaction_is : (facts : Facts) (change : Change)
    → AllByRecursion IsOfTransaction (legs_written change.legs ++ (sales_written (suc facts.entries) change.sales
    ++ (positions_written facts change change.legs ++ heads_written facts change.heads.entries)))
transaction_is facts change =
    let written_at : Leg → List Write = λ leg. listed_write facts change leg.position in
    let head_at : Pair × ℤ → List Write =
    λ head. head_written (facts.latest_at_cost head.0.account head.0.commodity) head.0.account head.0.commodity head.1 in
    all-append IsOfTransaction (legs_written change.legs) _ (all-map IsOfTransaction _ (λ leg. tt) change.legs)
    (all-append IsOfTransaction (sales_written (suc facts.entries) change.sales) _
    (all-map IsOfTransaction _ (λ sale. tt) change.sales)
    (all-append IsOfTransaction (positions_written facts change change.legs) _
    (all-flat_map IsOfTransaction written_at change.legs
    (all_of IsOfTransaction written_at (λ leg. listed_is facts change leg.position) change.legs))
    (all-flat_map IsOfTransaction head_at change.heads.entries
    (all_of IsOfTransaction head_at
    (λ (head : Pair × ℤ). head_is (facts.latest_at_cost head.0.account head.0.commodity) head.0.account head.0.commodity head.1)
    change.heads.entries))))

-- the tables that it leaves
abbrev named : Tables → List AccountRow × List AllowedRow × List CommodityRow × List PriceRow
named tables = (tables.account, tables.allowed, tables.commodity, tables.price)

named_left : (one : Write) → IsOfTransaction one → (old : Tables) → named (written one old) ≡ named old
named_left (write.Account row) is old = absurd is
named_left (write.Allowed row) is old = absurd is
named_left (write.Commodity row) is old = absurd is
named_left (write.Price row) is old = absurd is
named_left (write.Entry row) is old = absurd is
named_left _ is old = refl

transaction_leaves : (facts : Facts) (change : Change) (tables : Tables)
    → named (written_all (legs_written change.legs ++ (sales_written (suc facts.entries) change.sales
    ++ (positions_written facts change change.legs ++ heads_written facts change.heads.entries))) tables) ≡ named tables
transaction_leaves facts change tables =
    left-written_all named _ tables (all_weaker IsOfTransaction _ named_left _ (transaction_is facts change))

-- ---- the tables entry, book and migration

no_entry_of : (one : Write) → IsOfTransaction one → IsNoEntry one
no_entry_of (write.Entry row) is = is
no_entry_of _ is = tt

closing_no_entry : (closing : ClosingOf) (standing : Option Standing) → AllByRecursion IsNoEntry (closing_written closing standing)
closing_no_entry closing None = tt
closing_no_entry closing (Some standing) = (tt, tt)

pub own_no_entry : (facts : Facts) (command : Command) (change : Change) → AllByRecursion IsNoEntry (own_writes facts command change)
own_no_entry facts (Opening o) change = (tt, all-map IsNoEntry write.Allowed (λ row. tt) (allowed_rows o.account 0 o.currencies))
own_no_entry facts (Closing c) change = closing_no_entry c (facts.standing c.account)
own_no_entry facts (Declaring d) change = (tt, tt)
own_no_entry facts (Quoting q) change = (tt, tt)
own_no_entry facts (Transaction t) change = all_weaker IsOfTransaction IsNoEntry no_entry_of _ (transaction_is facts change)

entry_left : (one : Write) → IsNoEntry one → (old : Tables) → (written one old).entry ≡ old.entry
entry_left (write.Entry row) is old = absurd is
entry_left _ is old = refl

-- what it is marked with, and its place of migration
abbrev kind : Tables → List BookRow × List MigrationRow
kind tables = (tables.book, tables.migration)

kind_left : (one : Write) (old : Tables) → kind (written one old) ≡ kind old
kind_left (write.Entry row) old = refl
kind_left _ old = refl

all_so : (P : Write → Type 0) → ((one : Write) → P one) → (writes : List Write) → AllByRecursion P writes
all_so P each [] = tt
all_so P each (one ∷ more) = (each one, all_so P each more)

pub kind-written : (writes : List Write) (tables : Tables) → kind (written_all writes tables) ≡ kind tables
kind-written writes tables = left-written_all kind writes tables (all_so _ kind_left writes)

-- ---- rows of currencies, one put in after another

all_put : {X : Type 0} (encode : X → Row) (width : ℕ) (P : X → Type 0) (new : X) (xs : List X) → P new → AllByRecursion P xs
    → AllByRecursion P (put_in encode width new xs)
all_put encode width P new xs here all =
    recursion_from_All P (put_in encode width new xs) (all-put_in encode width P new xs here (All-from_recursion P xs all))

-- the rows of an account are of places below that one
abbrev IsBelow : List ℕ → ℕ → AllowedRow → Type 0
IsBelow account place row = has_key 1 (name_key account) (allowed_cells row) ≡ true → row.place < place

row_below : (account currency : List ℕ) (place : ℕ) (row : AllowedRow) → IsBelow account place row
    → has_key 1 (name_key account) (allowed_cells row) ≡ true
    → row_order allowed_cells 2 row (record { account = account; place = place; commodity = currency }) ≡ Less
row_below account currency place row below has =
    let named : row.account ≡ account =
    sym (one_text account row.account (sym (has_name account row.account (Int (pos row.place) ∷ Text row.commodity ∷ [])) ∙ has)) in
    ap (λ who. key_order 2 (Text who ∷ Int (pos row.place) ∷ Text row.commodity ∷ []) (Text account ∷ Int (pos place) ∷ Text currency ∷ [])) named
    ∙ same_first 1 (Text account) (Int (pos row.place) ∷ Text row.commodity ∷ []) (Int (pos place) ∷ Text currency ∷ [])
    ∙ number_below 0 row.place place (Text row.commodity ∷ []) (Text currency ∷ []) (below has)

-- they are behind those that are there
allowed_put : (account : List ℕ) (place : ℕ) (currencies : List (List ℕ)) (tables : Tables) → IsRising allowed_cells 2 tables.allowed
    → AllByRecursion (IsBelow account place) tables.allowed
    → with_key allowed_cells 1 (name_key account) (written_all (map write.Allowed (allowed_rows account place currencies)) tables).allowed
    ≡ with_key allowed_cells 1 (name_key account) tables.allowed ++ allowed_rows account place currencies
allowed_put account place [] tables up below = sym (append-nil (with_key allowed_cells 1 (name_key account) tables.allowed))
allowed_put account place (currency ∷ currencies) tables up below =
    let new : AllowedRow = record { account = account; place = place; commodity = currency } in
    let own : has_key 1 (name_key account) (allowed_cells new) ≡ true =
    has_name account account (Int (pos place) ∷ Text currency ∷ []) ∙ same_text-itself account in
    let now = put_in allowed_cells 2 new tables.allowed in
    allowed_put account (suc place) currencies (with_put allowed_table new tables) (rises-put_in allowed_cells 2 new tables.allowed up)
    (all_put allowed_cells 2 (IsBelow account (suc place)) new tables.allowed (λ has. omega arith)
    (all_weaker (IsBelow account place) (IsBelow account (suc place)) (λ row under has. let less = under has in omega arith) tables.allowed below))
    ∙ ap (λ rows. rows ++ allowed_rows account (suc place) currencies)
    (with_key-put_last allowed_cells 1 2 (name_key account) new tables.allowed own up
    (all_weaker (IsBelow account place) _ (λ row under has. row_below account currency place row under has) tables.allowed below))
    ∙ append_assoc (with_key allowed_cells 1 (name_key account) tables.allowed) (new ∷ []) (allowed_rows account (suc place) currencies)

-- and leave those of another account
allowed_other : (account other : List ℕ) (place : ℕ) (currencies : List (List ℕ)) (tables : Tables) → same_text other account ≡ false
    → with_key allowed_cells 1 (name_key other) (written_all (map write.Allowed (allowed_rows account place currencies)) tables).allowed
    ≡ with_key allowed_cells 1 (name_key other) tables.allowed
allowed_other account other place [] tables apart = refl
allowed_other account other place (currency ∷ currencies) tables apart =
    let new : AllowedRow = record { account = account; place = place; commodity = currency } in
    allowed_other account other (suc place) currencies (with_put allowed_table new tables) apart
    ∙ with_key-put_other allowed_cells 1 2 (name_key other) new tables.allowed (omega arith)
    (has_name other account (Int (pos place) ∷ Text currency ∷ []) ∙ apart)

-- no row of a key that none has is below any place
none_below : (account : List ℕ) (rows : List AllowedRow) → with_key allowed_cells 1 (name_key account) rows ≡ []
    → AllByRecursion (IsBelow account 0) rows
none_below account [] none = tt
none_below account (row ∷ rows) none = by (has_key 1 (name_key account) (allowed_cells row)) refl none (none_below account rows)
  where
    by : (b : Bool) → has_key 1 (name_key account) (allowed_cells row) ≡ b
        → cond b (row ∷ with_key allowed_cells 1 (name_key account) rows) (with_key allowed_cells 1 (name_key account) rows) ≡ []
        → (with_key allowed_cells 1 (name_key account) rows ≡ [] → AllByRecursion (IsBelow account 0) rows)
        → AllByRecursion (IsBelow account 0) (row ∷ rows)
    by true has e more = absurd cc
    by false fails e more = (λ has. absurd (true≢false (sym has ∙ fails)), more e)

module _ (tables : Tables) (entries : List Entry) (known : Facts) (key : Key) (change : Change) (stand : StandFor tables entries) where
  abbrev entry_for : Command → Entry
  entry_for command = entry_of key command change.legs

  abbrev after : Command → Tables
  after command = written_all (writes_of known key command change) tables

  -- the tables with the entry alone
  abbrev with_entry : Command → Tables
  with_entry command = with_put entry_table (entry_row (suc known.entries) (entry_for command)) tables

  pub entry-after : (command : Command) → IsAccepted entries known key command change
      → (after command).entry ≡ entry_rows 1 (entries ++ entry_for command ∷ [])
  entry-after command is =
      let new = entry_row (suc known.entries) (entry_for command) in
      let same : known.entries ≡ length entries = is.agrees.entries in
      left-written_all (λ (t : Tables). t.entry) (own_writes known command change) (with_entry command)
      (all_weaker IsNoEntry _ entry_left _ (own_no_entry known command change))
      ∙ ap (put_in entry_cells 1 new) stand.entry
      ∙ put_in-last entry_cells 1 new (entry_rows 1 entries) (entry_rows-below 1 entries new (omega arith))
      ∙ ap (λ n. entry_rows 1 entries ++ entry_row n (entry_for command) ∷ []) (omega arith)
      ∙ sym (entry_rows-append 1 entries (entry_for command))

  -- ---- tables that an opening and a closing leave

  opening_left : {Y : Type 0} (part : Tables → Y) → ((row : AllowedRow) (old : Tables) → part (written (write.Allowed row) old) ≡ part old)
      → (o : OpeningOf) → part (after (Opening o)) ≡ part (with_put account_table (account_row o.account (standing_by None o)) (with_entry (Opening o)))
  opening_left part leaves o =
      left-written_all part (map write.Allowed (allowed_rows o.account 0 o.currencies))
      (with_put account_table (account_row o.account (standing_by None o)) (with_entry (Opening o)))
      (all-map _ write.Allowed leaves (allowed_rows o.account 0 o.currencies))

  closing_left : {Y : Type 0} (part : Tables → Y) → ((row : AccountRow) (old : Tables) → part (written (write.Account row) old) ≡ part old)
      → (c : ClosingOf) → part (after (Closing c)) ≡ part (with_entry (Closing c))
  closing_left part leaves c =
      left-written_all part (closing_written c (known.standing c.account)) (with_entry (Closing c)) (each (known.standing c.account))
    where
      each : (standing : Option Standing)
          → AllByRecursion (λ (one : Write). (old : Tables) → part (written one old) ≡ part old) (closing_written c standing)
      each None = tt
      each (Some standing) = (leaves (account_row c.account (record standing { closed = Some c.day })), tt)

  -- ---- accounts

  -- the columns of an account behind its name
  abbrev told : AccountRow → Row
  told row = Int row.opened ∷ or_null Int row.closed ∷ Text (word_of row.method) ∷ []

  standing_so : (command : Command) → IsAccepted entries known key command change → (name : List ℕ)
      → standing_after name command (standing_of entries name) ≡ standing_of (entries ++ entry_for command ∷ []) name
  standing_so command is name =
      standing-recorded (ties_in is.edition entries) entries key command change.legs
      (closes_opened (After stand.place) entries stand.judged) (judged entries known key change command is).1 name

  -- an account's row, where another's or its own is written
  account_put : (account : List ℕ) (standing : Standing) (old : Option Standing) (name : List ℕ) (b : Bool) → same_text name account ≡ b
      → cond b (Some (account_row account standing)) (option_map (account_row name) old)
      ≡ option_map (account_row name) (cond b (Some standing) old)
  account_put account standing old name true here = ap (λ who. Some (account_row who standing)) (sym (one_text name account here))
  account_put account standing old name false apart = refl

  account_at : (account : List ℕ) (standing : Standing) (name : List ℕ)
      → first_with_key account_cells 1 (name_key name) (put_in account_cells 1 (account_row account standing) tables.account)
      ≡ option_map (account_row name) (cond (same_text name account) (Some standing) (standing_of entries name))
  account_at account standing name =
      let row = account_row account standing in
      row-put account_cells 1 (name_key name) row tables.account
      ∙ ap (λ b. cond b (Some row) (row_at account_table (name_key name) tables)) (has_name name account (told row))
      ∙ ap (λ old. cond (same_text name account) (Some row) old) (stand.account name)
      ∙ account_put account standing (standing_of entries name) name (same_text name account) refl

  first_none : {X : Type 0} (o p : Option X) → option_or o p ≡ None → (o ≡ None) × (p ≡ None)
  first_none None p e = (refl, e)
  first_none (Some x) p e = absurd (true≢false (ap is_some e))

  not_held : (holds : Bool) (refusal : Refusal) → holds_as holds refusal ≡ None → holds ≡ false
  not_held true refusal e = absurd (true≢false (ap is_some e))
  not_held false refusal e = refl

  not_closed : (standing : Option Standing) (found : Standing) → standing ≡ Some found → was_closed standing ≡ false → found.closed ≡ None
  not_closed None found e fails = absurd (true≢false (ap is_some (sym e)))
  not_closed (Some standing) found e fails = sym (ap closed_of e) ∙ by standing.closed fails
    where
      closed_of : Option Standing → Option ℤ
      closed_of None = None
      closed_of (Some s) = s.closed

      by : (closed : Option ℤ) → is_some closed ≡ false → closed ≡ None
      by None e = refl
      by (Some day) e = absurd (true≢false e)

  -- an account that is closed stood open
  closing_found : (c : ClosingOf) → IsAccepted entries known key (Closing c) change
      → (standing : Standing) × (known.standing c.account ≡ Some standing) × (standing_of entries c.account ≡ Some standing) × (standing.closed ≡ None)
  closing_found c is = by (standing_of entries c.account) refl
    where
      facts : Facts
      facts = facts_of entries key

      judges : JudgesUnder (ties_in is.edition entries) facts (Closing c) (Accept change.legs)
      judges = (judged entries known key change (Closing c) is).1

      open_still : was_closed (facts.standing c.account) ≡ false
      open_still =
          let conditions = closing_unknown facts c.account ∷ closing_too_early facts c.account c.day ∷ closing_again facts c.account ∷ book_full facts ∷ [] in
          let none = (none_holds (first_of conditions) change.legs [] judges).0 in
          let unknown = first_none (closing_unknown facts c.account) _ none in
          let early = first_none (closing_too_early facts c.account c.day) _ unknown.1 in
          not_held (was_closed (facts.standing c.account)) _ (first_none (closing_again facts c.account) _ early.1).0

      by : (standing : Option Standing) → standing_of entries c.account ≡ standing
          → (found : Standing) × (known.standing c.account ≡ Some found) × (standing_of entries c.account ≡ Some found) × (found.closed ≡ None)
      by None e = absurd (true≢false (sym (ap is_none e) ∙ closing_is_known (ties_in is.edition entries) facts c change.legs judges))
      by (Some found) e = (found, is.agrees.standing.0 ∙ e, e, not_closed (standing_of entries c.account) found e open_still)

  pub account-after : (command : Command) → IsAccepted entries known key command change → (name : List ℕ)
      → row_at account_table (name_key name) (after command)
      ≡ option_map (account_row name) (standing_of (entries ++ entry_for command ∷ []) name)
  account-after (Opening o) is name =
      ap (λ rows. first_with_key account_cells 1 (name_key name) rows) (opening_left (λ (t : Tables). t.account) (λ row old. refl) o)
      ∙ account_at o.account (standing_by None o) name
      ∙ ap (option_map (account_row name)) (standing_so (Opening o) is name)
  account-after (Closing c) is name =
      let found = closing_found c is in
      let shut : Standing = record found.0 { closed = Some c.day } in
      ap (λ standing. row_at account_table (name_key name) (written_all (closing_written c standing) (with_entry (Closing c)))) found.1
      ∙ account_at c.account shut name
      ∙ ap (option_map (account_row name)) (shuts found.0 found.2 found.3 (same_text name c.account) refl ∙ standing_so (Closing c) is name)
    where
      shuts : (was : Standing) → standing_of entries c.account ≡ Some was → was.closed ≡ None → (b : Bool) → same_text name c.account ≡ b
          → cond b (Some (record was { closed = Some c.day })) (standing_of entries name)
          ≡ cond b (option_map (closed_on c.day) (standing_of entries name)) (standing_of entries name)
      shuts was stands still true here =
          ap (λ closed. Some (record was { closed = option_or closed (Some c.day) })) (sym still)
          ∙ ap (option_map (closed_on c.day)) (sym stands ∙ ap (standing_of entries) (sym (one_text name c.account here)))
      shuts was stands still false apart = refl
  account-after (Declaring d) is name = stand.account name ∙ ap (option_map (account_row name)) (standing_so (Declaring d) is name)
  account-after (Quoting q) is name = stand.account name ∙ ap (option_map (account_row name)) (standing_so (Quoting q) is name)
  account-after (Transaction t) is name =
      ap (λ rows. first_with_key account_cells 1 (name_key name) rows.0) (transaction_leaves known change (with_entry (Transaction t)))
      ∙ stand.account name
      ∙ ap (option_map (account_row name)) (standing_so (Transaction t) is name)

  -- ---- commodities

  not_declared : (d : DeclaringOf) → IsAccepted entries known key (Declaring d) change → declared_on entries d.commodity ≡ None
  not_declared d is =
      let facts = facts_of entries key in
      let conditions = already_declared facts d.commodity ∷ book_full facts ∷ [] in
      let none = (none_holds (first_of conditions) change.legs [] (judged entries known key change (Declaring d) is).1).0 in
      declared_on-none entries d.commodity (not_held (is_declared entries d.commodity) _ (first_none (already_declared facts d.commodity) _ none).0)

  -- another command declares nothing
  still_declared : (command : Command) (name : List ℕ) → declaring_by name command ≡ None
      → option_map (commodity_row name) (declared_on entries name) ≡ option_map (commodity_row name) (declared_on (entries ++ entry_for command ∷ []) name)
  still_declared command name none =
      ap (option_map (commodity_row name))
      (sym (declared_on-append entries (entry_for command) name ∙ ap (option_or (declared_on entries name)) none ∙ or_none (declared_on entries name)))

  pub commodity-after : (command : Command) → IsAccepted entries known key command change → (name : List ℕ)
      → row_at commodity_table (name_key name) (after command)
      ≡ option_map (commodity_row name) (declared_on (entries ++ entry_for command ∷ []) name)
  commodity-after (Opening o) is name =
      ap (λ rows. first_with_key commodity_cells 1 (name_key name) rows) (opening_left (λ (t : Tables). t.commodity) (λ row old. refl) o)
      ∙ stand.commodity name
      ∙ still_declared (Opening o) name refl
  commodity-after (Closing c) is name =
      ap (λ rows. first_with_key commodity_cells 1 (name_key name) rows) (closing_left (λ (t : Tables). t.commodity) (λ row old. refl) c)
      ∙ stand.commodity name
      ∙ still_declared (Closing c) name refl
  commodity-after (Declaring d) is name =
      let row = commodity_row d.commodity d.day in
      row-put commodity_cells 1 (name_key name) row tables.commodity
      ∙ ap (λ b. cond b (Some row) (row_at commodity_table (name_key name) tables)) (has_name name d.commodity (Int d.day ∷ []))
      ∙ ap (λ old. cond (same_text name d.commodity) (Some row) old) (stand.commodity name)
      ∙ puts (same_text name d.commodity) refl
      ∙ ap (option_map (commodity_row name)) (sym (declared_on-append entries (entry_for (Declaring d)) name))
    where
      puts : (b : Bool) → same_text name d.commodity ≡ b
          → cond b (Some (commodity_row d.commodity d.day)) (option_map (commodity_row name) (declared_on entries name))
          ≡ option_map (commodity_row name) (option_or (declared_on entries name) (cond b (Some d.day) None))
      puts true here =
          let names = one_text name d.commodity here in
          ap (λ who. Some (commodity_row who d.day)) (sym names)
          ∙ ap (λ day. option_map (commodity_row name) (option_or day (Some d.day))) (sym (ap (declared_on entries) names ∙ not_declared d is))
      puts false apart = ap (option_map (commodity_row name)) (sym (or_none (declared_on entries name)))
  commodity-after (Quoting q) is name = stand.commodity name ∙ still_declared (Quoting q) name refl
  commodity-after (Transaction t) is name =
      ap (λ rows. first_with_key commodity_cells 1 (name_key name) rows.2) (transaction_leaves known change (with_entry (Transaction t)))
      ∙ stand.commodity name
      ∙ still_declared (Transaction t) name refl

  -- ---- prices

  -- another command quotes nothing
  still_quoted : (command : Command) (base quote : List ℕ) (day : ℤ) → rate_by base quote day command ≡ None
      → option_map (price_row base quote day) (rate_on entries base quote day)
      ≡ option_map (price_row base quote day) (rate_on (entries ++ entry_for command ∷ []) base quote day)
  still_quoted command base quote day none =
      ap (option_map (price_row base quote day))
      (sym (rate_on-append entries (entry_for command) base quote day ∙ ap (λ rate. option_or rate (rate_on entries base quote day)) none))

  pub price-after : (command : Command) → (base quote : List ℕ) (day : ℤ)
      → row_at price_table (price_key base quote day) (after command)
      ≡ option_map (price_row base quote day) (rate_on (entries ++ entry_for command ∷ []) base quote day)
  price-after (Opening o) base quote day =
      ap (λ rows. first_with_key price_cells 3 (price_key base quote day) rows) (opening_left (λ (t : Tables). t.price) (λ row old. refl) o)
      ∙ stand.price base quote day
      ∙ still_quoted (Opening o) base quote day refl
  price-after (Closing c) base quote day =
      ap (λ rows. first_with_key price_cells 3 (price_key base quote day) rows) (closing_left (λ (t : Tables). t.price) (λ row old. refl) c)
      ∙ stand.price base quote day
      ∙ still_quoted (Closing c) base quote day refl
  price-after (Declaring d) base quote day = stand.price base quote day ∙ still_quoted (Declaring d) base quote day refl
  price-after (Quoting q) base quote day =
      let row = price_row q.base q.quote q.day q.rate in
      row-put price_cells 3 (price_key base quote day) row tables.price
      ∙ ap (λ b. cond b (Some row) (row_at price_table (price_key base quote day) tables))
      (has_price base quote day q.base q.quote q.day (Int (pos q.rate) ∷ []))
      ∙ ap (λ old. cond (same_text base q.base && (same_text quote q.quote && int_eq day q.day)) (Some row) old) (stand.price base quote day)
      ∙ puts (same_text base q.base && (same_text quote q.quote && int_eq day q.day)) refl
      ∙ ap (option_map (price_row base quote day)) (sym (rate_on-append entries (entry_for (Quoting q)) base quote day))
    where
      puts : (b : Bool) → (same_text base q.base && (same_text quote q.quote && int_eq day q.day)) ≡ b
          → cond b (Some (price_row q.base q.quote q.day q.rate)) (option_map (price_row base quote day) (rate_on entries base quote day))
          ≡ option_map (price_row base quote day) (option_or (cond b (Some q.rate) None) (rate_on entries base quote day))
      puts true here =
          let first = and_parts (same_text base q.base) _ here in
          let second = and_parts (same_text quote q.quote) _ first.1 in
          λ i. Some (price_row (sym (one_text base q.base first.0) i) (sym (one_text quote q.quote second.0) i) (sym ((Decides-int_eq day q.day).0 second.1) i) q.rate)
      puts false apart = refl
  price-after (Transaction t) base quote day =
      ap (λ rows. first_with_key price_cells 3 (price_key base quote day) rows.3) (transaction_leaves known change (with_entry (Transaction t)))
      ∙ stand.price base quote day
      ∙ still_quoted (Transaction t) base quote day refl

  -- ---- currencies that accounts allow

  abbrev allowed_at : List ℕ → Tables → List AllowedRow
  allowed_at account t = with_key allowed_cells 1 (name_key account) t.allowed

  -- an account that another command opens, or none, allows what it did
  abbrev SaysSame : List ℕ → Command → Type 0
  SaysSame account command = allowed_rows account 0 (currencies_of entries account) ≡ allowed_rows account 0 (currencies_of (entries ++ entry_for command ∷ []) account)

  says_same : (command : Command) (account : List ℕ) → opening_by account command ≡ None → SaysSame account command
  says_same command account none =
      ap (λ opening. allowed_rows account 0 (currencies_in opening))
      (sym (opening_of-append entries (entry_for command) account ∙ ap (option_or (opening_of entries account)) none ∙ or_none (opening_of entries account)))

  pub allowed-after : (command : Command) → IsAccepted entries known key command change → (account : List ℕ)
      → allowed_at account (after command) ≡ allowed_rows account 0 (currencies_of (entries ++ entry_for command ∷ []) account)
  allowed-after (Opening o) is account =
      by (same_text account o.account) refl
    where
      opened : Tables
      opened = with_put account_table (account_row o.account (standing_by None o)) (with_entry (Opening o))

      new : standing_of entries o.account ≡ None
      new = opening_is_new (ties_in is.edition entries) (facts_of entries key) o change.legs (judged entries known key change (Opening o) is).1

      unopened : opening_of entries o.account ≡ None
      unopened = not_mapped (standing_by (closing_of entries o.account)) (opening_of entries o.account) new

      none : allowed_at o.account opened ≡ []
      none = stand.allowed o.account ∙ ap (λ opening. allowed_rows o.account 0 (currencies_in opening)) unopened

      own : allowed_at o.account (after (Opening o)) ≡ allowed_rows o.account 0 o.currencies
      own =
          allowed_put o.account 0 o.currencies opened stand.ordered.allowed (none_below o.account tables.allowed none)
          ∙ ap (λ rows. rows ++ allowed_rows o.account 0 o.currencies) none

      said : (b : Bool) → same_text o.account o.account ≡ b
          → option_or None (cond b (Some o) None) ≡ Some o
      said true here = refl
      said false apart = absurd (true≢false (sym (same_text-itself o.account) ∙ apart))

      own_says : currencies_of (entries ++ entry_for (Opening o) ∷ []) o.account ≡ o.currencies
      own_says =
          ap currencies_in
          (opening_of-append entries (entry_for (Opening o)) o.account
          ∙ ap (λ opening. option_or opening (opening_by o.account (Opening o))) unopened
          ∙ said (same_text o.account o.account) refl)

      by : (b : Bool) → same_text account o.account ≡ b
          → allowed_at account (after (Opening o)) ≡ allowed_rows account 0 (currencies_of (entries ++ entry_for (Opening o) ∷ []) account)
      by true here =
          subst (λ who. allowed_at who (after (Opening o)) ≡ allowed_rows who 0 (currencies_of (entries ++ entry_for (Opening o) ∷ []) who))
          (sym (one_text account o.account here))
          (own ∙ sym (ap (allowed_rows o.account 0) own_says))
      by false apart =
          allowed_other o.account account 0 o.currencies opened apart
          ∙ stand.allowed account
          ∙ says_same (Opening o) account (ap (λ b. cond b (Some o) None) apart)
  allowed-after (Closing c) is account =
      ap (λ rows. with_key allowed_cells 1 (name_key account) rows) (closing_left (λ (t : Tables). t.allowed) (λ row old. refl) c)
      ∙ stand.allowed account
      ∙ says_same (Closing c) account refl
  allowed-after (Declaring d) is account = stand.allowed account ∙ says_same (Declaring d) account refl
  allowed-after (Quoting q) is account = stand.allowed account ∙ says_same (Quoting q) account refl
  allowed-after (Transaction t) is account =
      ap (λ rows. with_key allowed_cells 1 (name_key account) rows.1) (transaction_leaves known change (with_entry (Transaction t)))
      ∙ stand.allowed account
      ∙ says_same (Transaction t) account refl
