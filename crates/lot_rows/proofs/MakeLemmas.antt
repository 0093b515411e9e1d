-- The texts that make the tables of a book, each under the schema of those before it.
use Rattle.std.proofs.Common.{◌≡◌, ◌≢◌, ℕ, ◌+◌, true, false, true≢false, if◌then◌else◌, ltb, Ok, Err, IfErr, Result, List, [], ◌∷◌, map, codes, refl, sym, ap, subst, ◌∙◌, take, arith}
use Rattle.lot_rows.specs.Tables.{Has, HasFirst, Tables, book_shape, account_shape, allowed_shape, commodity_shape, price_shape, entry_shape, leg_shape, sale_shape, lot_shape, plain_shape, head_shape, opening_shape, opening_table, migration_shape, first_layout, first_shapes, later_names, layout, no_rows_yet, shapes}
use Rattle.lot_table.proofs.CreateLemmas.{Creates, CreatesEach, names_of, none_taken, one_taken, texts_of}
use Rattle.lot_table.proofs.FreshLemmas.{AreNew, Excused, Fits, FitsEach, excused, makes_all}
use Rattle.lot_table.proofs.MakeLemmas.{Stores, no_rows}
use Rattle.lot_table.specs.Book.{AreHeld, Slot}
use Rattle.lot_table.specs.Make.{HaltedIn, RanEach, is_taken}
use Rattle.lot_table.specs.Rows.{HasRows}
use Rattle.lot_table.specs.Shape.{schema_of, table}
use Rattle.lot_table.specs.declared.make.MakeFault.TheVariants.{Taken}
use Rattle.lot_table.specs.declared.make.MakeFault.{MakeFault}
use Rattle.sqlite.specs.Held.{Held, state}
use Rattle.sqlite.specs.Schema.{Schema}
use Rattle.sqlite.specs.State.{State}
use Rattle.sqlite.specs.Store.{Ghosts}
use Rattle.sqlite.specs.Table.{Table}
use Rattle.sqlite.specs.Tree.{Trees}
use Rattle.sqlite_catalog.specs.Change.{KeepsRows}
use Rattle.sqlite_catalog.specs.Listing.{IsSound}
use Rattle.sqlite_tied.specs.Compute.{everything}
use Rattle.sqlite_trees.specs.Sound as sound
use Rattle.sqlite_trees.specs.Sound.{begins, fits_kind, is_free_name}
use Rattle.sqlite_value.specs.Order.{value_cmp}
use lib.Ieee.{is_nan, lt}

abbrev upto : ℕ → Schema
upto n = schema_of (take n shapes)

abbrev book_text : List ℕ
book_text = codes "CREATE TABLE book (mark TEXT NOT NULL, edition INTEGER NOT NULL, UNIQUE (mark)) STRICT"

book_creates : Creates book_text (table 0 book_shape)
unfolding everything
book_creates = record { parsed = _; def = _; read = refl; makes = refl; always = refl; named = refl; defined = refl; plain = refl; unreserved = refl; whole = omega arith; bare = refl; all = refl }

book_fits : Fits (upto 0) (upto 1) book_text (table 0 book_shape)
unfolding everything begins fits_kind is_free_name value_cmp is_nan lt sound.same_name
book_fits = record { made = refl; free = refl; free_indexes = refl; room = omega arith; uncounted = refl; plain = refl; plain_name = refl; short = omega arith; formed = refl; listed = refl; reals = omega arith; key_reals = (omega arith, tt) }

abbrev account_text : List ℕ
account_text = codes "CREATE TABLE account (name TEXT NOT NULL, opened INTEGER NOT NULL, closed INTEGER, method TEXT NOT NULL, UNIQUE (name)) STRICT"

account_creates : Creates account_text (table 0 account_shape)
unfolding everything
account_creates = record { parsed = _; def = _; read = refl; makes = refl; always = refl; named = refl; defined = refl; plain = refl; unreserved = refl; whole = omega arith; bare = refl; all = refl }

account_fits : Fits (upto 1) (upto 2) account_text (table 0 account_shape)
unfolding everything begins fits_kind is_free_name value_cmp is_nan lt sound.same_name
account_fits = record { made = refl; free = refl; free_indexes = refl; room = omega arith; uncounted = refl; plain = refl; plain_name = refl; short = omega arith; formed = refl; listed = refl; reals = omega arith; key_reals = (omega arith, tt) }

abbrev allowed_text : List ℕ
allowed_text = codes "CREATE TABLE allowed (account TEXT NOT NULL, place INTEGER NOT NULL, commodity TEXT NOT NULL, UNIQUE (account, place)) STRICT"

allowed_creates : Creates allowed_text (table 0 allowed_shape)
unfolding everything
allowed_creates = record { parsed = _; def = _; read = refl; makes = refl; always = refl; named = refl; defined = refl; plain = refl; unreserved = refl; whole = omega arith; bare = refl; all = refl }

allowed_fits : Fits (upto 2) (upto 3) allowed_text (table 0 allowed_shape)
unfolding everything begins fits_kind is_free_name value_cmp is_nan lt sound.same_name
allowed_fits = record { made = refl; free = refl; free_indexes = refl; room = omega arith; uncounted = refl; plain = refl; plain_name = refl; short = omega arith; formed = refl; listed = refl; reals = omega arith; key_reals = (omega arith, tt) }

abbrev commodity_text : List ℕ
commodity_text = codes "CREATE TABLE commodity (name TEXT NOT NULL, day INTEGER NOT NULL, UNIQUE (name)) STRICT"

commodity_creates : Creates commodity_text (table 0 commodity_shape)
unfolding everything
commodity_creates = record { parsed = _; def = _; read = refl; makes = refl; always = refl; named = refl; defined = refl; plain = refl; unreserved = refl; whole = omega arith; bare = refl; all = refl }

commodity_fits : Fits (upto 3) (upto 4) commodity_text (table 0 commodity_shape)
unfolding everything begins fits_kind is_free_name value_cmp is_nan lt sound.same_name
commodity_fits = record { made = refl; free = refl; free_indexes = refl; room = omega arith; uncounted = refl; plain = refl; plain_name = refl; short = omega arith; formed = refl; listed = refl; reals = omega arith; key_reals = (omega arith, tt) }

abbrev price_text : List ℕ
price_text = codes "CREATE TABLE price (base TEXT NOT NULL, quote TEXT NOT NULL, day INTEGER NOT NULL, rate INTEGER NOT NULL, UNIQUE (base, quote, day)) STRICT"

price_creates : Creates price_text (table 0 price_shape)
unfolding everything
price_creates = record { parsed = _; def = _; read = refl; makes = refl; always = refl; named = refl; defined = refl; plain = refl; unreserved = refl; whole = omega arith; bare = refl; all = refl }

price_fits : Fits (upto 4) (upto 5) price_text (table 0 price_shape)
unfolding everything begins fits_kind is_free_name value_cmp is_nan lt sound.same_name
price_fits = record { made = refl; free = refl; free_indexes = refl; room = omega arith; uncounted = refl; plain = refl; plain_name = refl; short = omega arith; formed = refl; listed = refl; reals = omega arith; key_reals = (omega arith, tt) }

abbrev entry_text : List ℕ
entry_text = codes "CREATE TABLE entry (number INTEGER NOT NULL, source TEXT NOT NULL, name TEXT NOT NULL, body TEXT NOT NULL, UNIQUE (number), UNIQUE (source, name)) STRICT"

entry_creates : Creates entry_text (table 0 entry_shape)
unfolding everything
entry_creates = record { parsed = _; def = _; read = refl; makes = refl; always = refl; named = refl; defined = refl; plain = refl; unreserved = refl; whole = omega arith; bare = refl; all = refl }

entry_fits : Fits (upto 5) (upto 6) entry_text (table 0 entry_shape)
unfolding everything begins fits_kind is_free_name value_cmp is_nan lt sound.same_name
entry_fits = record { made = refl; free = refl; free_indexes = refl; room = omega arith; uncounted = refl; plain = refl; plain_name = refl; short = omega arith; formed = refl; listed = refl; reals = omega arith; key_reals = (omega arith, (omega arith, tt)) }

abbrev leg_text : List ℕ
leg_text = codes "CREATE TABLE leg (entry INTEGER NOT NULL, posting INTEGER NOT NULL, place INTEGER NOT NULL, account TEXT NOT NULL, commodity TEXT NOT NULL, units INTEGER NOT NULL, cost_number INTEGER, cost_currency TEXT, cost_day INTEGER, cost_label TEXT, UNIQUE (entry, posting, place)) STRICT"

leg_creates : Creates leg_text (table 0 leg_shape)
unfolding everything
leg_creates = record { parsed = _; def = _; read = refl; makes = refl; always = refl; named = refl; defined = refl; plain = refl; unreserved = refl; whole = omega arith; bare = refl; all = refl }

leg_fits : Fits (upto 6) (upto 7) leg_text (table 0 leg_shape)
unfolding everything begins fits_kind is_free_name value_cmp is_nan lt sound.same_name
leg_fits = record { made = refl; free = refl; free_indexes = refl; room = omega arith; uncounted = refl; plain = refl; plain_name = refl; short = omega arith; formed = refl; listed = refl; reals = omega arith; key_reals = (omega arith, tt) }

abbrev sale_text : List ℕ
sale_text = codes "CREATE TABLE sale (entry INTEGER NOT NULL, posting INTEGER NOT NULL, day INTEGER NOT NULL, account TEXT NOT NULL, commodity TEXT NOT NULL, units INTEGER NOT NULL, kind INTEGER NOT NULL, amount INTEGER, currency TEXT, UNIQUE (entry, posting)) STRICT"

sale_creates : Creates sale_text (table 0 sale_shape)
unfolding everything
sale_creates = record { parsed = _; def = _; read = refl; makes = refl; always = refl; named = refl; defined = refl; plain = refl; unreserved = refl; whole = omega arith; bare = refl; all = refl }

sale_fits : Fits (upto 7) (upto 8) sale_text (table 0 sale_shape)
unfolding everything begins fits_kind is_free_name value_cmp is_nan lt sound.same_name
sale_fits = record { made = refl; free = refl; free_indexes = refl; room = omega arith; uncounted = refl; plain = refl; plain_name = refl; short = omega arith; formed = refl; listed = refl; reals = omega arith; key_reals = (omega arith, tt) }

abbrev lot_text : List ℕ
lot_text = codes "CREATE TABLE lot (account TEXT NOT NULL, commodity TEXT NOT NULL, cost_day INTEGER NOT NULL, cost_currency TEXT NOT NULL, cost_number INTEGER NOT NULL, cost_label TEXT NOT NULL, units INTEGER NOT NULL, UNIQUE (account, commodity, cost_day, cost_currency, cost_number, cost_label)) STRICT"

lot_creates : Creates lot_text (table 0 lot_shape)
unfolding everything
lot_creates = record { parsed = _; def = _; read = refl; makes = refl; always = refl; named = refl; defined = refl; plain = refl; unreserved = refl; whole = omega arith; bare = refl; all = refl }

lot_fits : Fits (upto 8) (upto 9) lot_text (table 0 lot_shape)
unfolding everything begins fits_kind is_free_name value_cmp is_nan lt sound.same_name
lot_fits = record { made = refl; free = refl; free_indexes = refl; room = omega arith; uncounted = refl; plain = refl; plain_name = refl; short = omega arith; formed = refl; listed = refl; reals = omega arith; key_reals = (omega arith, tt) }

abbrev plain_text : List ℕ
plain_text = codes "CREATE TABLE plain (account TEXT NOT NULL, commodity TEXT NOT NULL, units INTEGER NOT NULL, UNIQUE (account, commodity)) STRICT"

plain_creates : Creates plain_text (table 0 plain_shape)
unfolding everything
plain_creates = record { parsed = _; def = _; read = refl; makes = refl; always = refl; named = refl; defined = refl; plain = refl; unreserved = refl; whole = omega arith; bare = refl; all = refl }

plain_fits : Fits (upto 9) (upto 10) plain_text (table 0 plain_shape)
unfolding everything begins fits_kind is_free_name value_cmp is_nan lt sound.same_name
plain_fits = record { made = refl; free = refl; free_indexes = refl; room = omega arith; uncounted = refl; plain = refl; plain_name = refl; short = omega arith; formed = refl; listed = refl; reals = omega arith; key_reals = (omega arith, tt) }

abbrev head_text : List ℕ
head_text = codes "CREATE TABLE head (account TEXT NOT NULL, commodity TEXT NOT NULL, day INTEGER NOT NULL, UNIQUE (account, commodity)) STRICT"

head_creates : Creates head_text (table 0 head_shape)
unfolding everything
head_creates = record { parsed = _; def = _; read = refl; makes = refl; always = refl; named = refl; defined = refl; plain = refl; unreserved = refl; whole = omega arith; bare = refl; all = refl }

head_fits : Fits (upto 10) (upto 11) head_text (table 0 head_shape)
unfolding everything begins fits_kind is_free_name value_cmp is_nan lt sound.same_name
head_fits = record { made = refl; free = refl; free_indexes = refl; room = omega arith; uncounted = refl; plain = refl; plain_name = refl; short = omega arith; formed = refl; listed = refl; reals = omega arith; key_reals = (omega arith, tt) }

abbrev opening_text : List ℕ
opening_text = codes "CREATE TABLE opening (account TEXT NOT NULL, commodity TEXT NOT NULL, cost_day INTEGER NOT NULL, cost_currency TEXT NOT NULL, cost_number INTEGER NOT NULL, cost_label TEXT NOT NULL, opening INTEGER NOT NULL, UNIQUE (account, commodity, cost_day, cost_currency, cost_number, cost_label)) STRICT"

opening_creates : Creates opening_text (table 0 opening_shape)
unfolding everything
opening_creates = record { parsed = _; def = _; read = refl; makes = refl; always = refl; named = refl; defined = refl; plain = refl; unreserved = refl; whole = omega arith; bare = refl; all = refl }

opening_fits : Fits (upto 11) (upto 12) opening_text (table 0 opening_shape)
unfolding everything begins fits_kind is_free_name value_cmp is_nan lt sound.same_name
opening_fits = record { made = refl; free = refl; free_indexes = refl; room = omega arith; uncounted = refl; plain = refl; plain_name = refl; short = omega arith; formed = refl; listed = refl; reals = omega arith; key_reals = (omega arith, tt) }

abbrev migration_text : List ℕ
migration_text = codes "CREATE TABLE migration (entries INTEGER NOT NULL, UNIQUE (entries)) STRICT"

migration_creates : Creates migration_text (table 0 migration_shape)
unfolding everything
migration_creates = record { parsed = _; def = _; read = refl; makes = refl; always = refl; named = refl; defined = refl; plain = refl; unreserved = refl; whole = omega arith; bare = refl; all = refl }

migration_fits : Fits (upto 12) (upto 13) migration_text (table 0 migration_shape)
unfolding everything begins fits_kind is_free_name value_cmp is_nan lt sound.same_name
migration_fits = record { made = refl; free = refl; free_indexes = refl; room = omega arith; uncounted = refl; plain = refl; plain_name = refl; short = omega arith; formed = refl; listed = refl; reals = omega arith; key_reals = (omega arith, tt) }

-- ---- all of them, and those that edition 1 had not

abbrev pub later_steps : List (List ℕ × Table)
later_steps = (opening_text, table 0 opening_shape) ∷ (migration_text, table 0 migration_shape) ∷ []

abbrev pub steps : List (List ℕ × Table)
steps = (book_text, table 0 book_shape) ∷ (account_text, table 0 account_shape) ∷ (allowed_text, table 0 allowed_shape) ∷ (commodity_text, table 0 commodity_shape) ∷ (price_text, table 0 price_shape) ∷ (entry_text, table 0 entry_shape) ∷ (leg_text, table 0 leg_shape) ∷ (sale_text, table 0 sale_shape) ∷ (lot_text, table 0 lot_shape) ∷ (plain_text, table 0 plain_shape) ∷ (head_text, table 0 head_shape)
    ∷ later_steps

pub later_creates : CreatesEach later_steps
unfolding everything
later_creates = (opening_creates, refl, (migration_creates, refl, tt))

pub each_creates : CreatesEach steps
unfolding everything
each_creates = (book_creates, refl, (account_creates, refl, (allowed_creates, refl, (commodity_creates, refl, (price_creates, refl, (entry_creates, refl, (leg_creates, refl, (sale_creates, refl, (lot_creates, refl, (plain_creates, refl, (head_creates, refl, later_creates)))))))))))

later_fits : FitsEach upto 11 later_steps
later_fits = (opening_fits, (migration_fits, tt))

each_fits : FitsEach upto 0 steps
each_fits = (book_fits, (account_fits, (allowed_fits, (commodity_fits, (price_fits, (entry_fits, (leg_fits, (sale_fits, (lot_fits, (plain_fits, (head_fits, later_fits)))))))))))

-- no name of a later table is taken in a book of edition 1
none_used : is_taken later_names (schema_of first_shapes) ≡ false
unfolding everything
none_used = refl

-- ---- what is stored then

-- in a new book there is no row
none_new : (each : ℕ → Schema) (n : ℕ) (those : List (List ℕ × Table)) → AreNew (λ _. []) each n those
none_new each n [] = tt
none_new each n (step ∷ more) = (refl, none_new each (n + 1) more)

none_held : AreHeld (λ _. []) (layout.slots no_rows_yet)
none_held = (no_rows 1 [] refl, (no_rows 1 [] refl, (no_rows 2 [] refl, (no_rows 1 [] refl, (no_rows 3 [] refl, (no_rows 1 [] refl, (no_rows 3 [] refl, (no_rows 2 [] refl, (no_rows 6 [] refl, (no_rows 2 [] refl, (no_rows 2 [] refl, (no_rows 6 [] refl, (no_rows 1 [] refl, tt)))))))))))))

-- in one of edition 1, those of its tables, and none in the trees behind them
abbrev first_rows : Trees → Trees
first_rows trees tree = if ltb tree opening_table.table.tree then trees tree else []

first_new : (trees : Trees) → AreNew (first_rows trees) upto 11 later_steps
unfolding everything
first_new trees = (refl, (refl, tt))

first_stored : (trees : Trees) → KeepsRows (schema_of first_shapes).tables (first_rows trees) trees
first_stored trees = (refl, (refl, (refl, (refl, (refl, (refl, (refl, (refl, (refl, (refl, (refl, tt)))))))))))

first_held : (trees : Trees) (tables : Tables) → AreHeld trees (first_layout.slots tables)
    → AreHeld (first_rows trees) (layout.slots (record tables { opening = []; migration = [] }))
first_held trees tables h = (h.0, (h.1.0, (h.1.1.0, (h.1.1.1.0, (h.1.1.1.1.0, (h.1.1.1.1.1.0, (h.1.1.1.1.1.1.0, (h.1.1.1.1.1.1.1.0, (h.1.1.1.1.1.1.1.1.0, (h.1.1.1.1.1.1.1.1.1.0, (h.1.1.1.1.1.1.1.1.1.1.0, (no_rows 6 [] refl, (no_rows 1 [] refl, tt)))))))))))))

held_as : (rows trees : Trees) (slots : List Slot) (those : List Table)
    → map (λ (slot : Slot). slot.tree) slots ≡ map (λ (t : Table). t.tree) those → KeepsRows those rows trees
    → AreHeld rows slots → AreHeld trees slots
held_as rows trees [] those aligned stored held = tt
held_as rows trees (slot ∷ slots) [] aligned stored held = absurd cc
held_as rows trees (slot ∷ slots) (t ∷ those) aligned stored held =
    let here : slot.tree ≡ t.tree = cc in
    let rest : map (λ (slot : Slot). slot.tree) slots ≡ map (λ (t : Table). t.tree) those = cc in
    let same : trees slot.tree ≡ rows slot.tree = subst (λ n. trees n ≡ rows n) (sym here) stored.0 in (
      subst (λ is. HasRows slot.width is slot.rows) (sym same) held.0,
      held_as rows trees slots those rest stored.1 held.1,
    )

-- the book has the lists that are stored so
has_stored : (rows : Trees) (s : State) (tables : Tables) → Stores rows layout.schema s
    → AreHeld rows (layout.slots tables) → Has s tables
has_stored rows s tables it held = (
  it.tables,
  record {
    sound = subst (λ d. IsSound d s.now.trees) it.tables it.sound;
    held = held_as rows s.now.trees (layout.slots tables) layout.schema.tables refl it.stored held;
  },
)

-- ---- what the calls say

pub err_is : {A E : Type 0} (r : Result A E) (P : E → Type 0) (e : E) → IfErr r P → r ≡ Err e → P e
err_is (Ok x) P e h is = absurd cc
err_is (Err f) P e h is = let same : f ≡ e = cc in subst P same h

module _ {S : Type 0} (g : Ghosts S) (a b : Held S) where
  pub all_made : RanEach g (texts_of steps) a b → (state g a).now.schema ≡ schema_of []
      → IsSound (schema_of []) (state g a).now.trees → Has (state g b) no_rows_yet
  all_made ran none sound =
      let is_sound = subst (λ s. IsSound s (state g a).now.trees) (sym none) sound in
      let had : Stores (λ _. []) (upto 0) (state g a) =
      record { tables = none; stored = tt; sound = is_sound } in
      let made = makes_all g upto (λ _. []) 0 steps a b each_creates each_fits (none_new upto 0 steps) ran had in
      has_stored (λ _. []) (state g b) no_rows_yet made none_held

  later_stored : RanEach g (texts_of later_steps) a b → (tables : Tables) → HasFirst (state g a) tables
      → Stores (first_rows (state g a).now.trees) layout.schema (state g b)
  later_stored ran tables has =
      let trees = (state g a).now.trees in
      let is_sound = subst (λ s. IsSound s trees) (sym has.0) has.1.sound in
      let had : Stores (first_rows trees) (upto 11) (state g a) =
      record { tables = has.0; stored = first_stored trees; sound = is_sound } in
      makes_all g upto (first_rows trees) 11 later_steps a b later_creates later_fits (first_new trees) ran had

  pub all_added : RanEach g (texts_of later_steps) a b → (tables : Tables) → HasFirst (state g a) tables
      → Has (state g b) (record tables { opening = []; migration = [] })
  all_added ran tables has =
      let trees = (state g a).now.trees in
      has_stored (first_rows trees) (state g b) _ (later_stored ran tables has) (first_held trees tables has.1.held)

  -- the eleven tables have the stored rows that they had
  pub first_kept : RanEach g (texts_of later_steps) a b → (tables : Tables) → HasFirst (state g a) tables
      → KeepsRows (schema_of first_shapes).tables (state g a).now.trees (state g b).now.trees
  first_kept ran tables has =
      let s = (later_stored ran tables has).stored in
      (s.0, (s.1.0, (s.1.1.0, (s.1.1.1.0, (s.1.1.1.1.0, (s.1.1.1.1.1.0, (s.1.1.1.1.1.1.0, (s.1.1.1.1.1.1.1.0, (s.1.1.1.1.1.1.1.1.0, (s.1.1.1.1.1.1.1.1.1.0, (s.1.1.1.1.1.1.1.1.1.1.0, tt)))))))))))

  module _ (those : List (List ℕ × Table)) (creates : CreatesEach those) where
    pub all_free : RanEach g (texts_of those) a b → is_taken (names_of those) (state g a).now.schema ≡ false
    all_free = none_taken g those a b creates

    pub one_is_taken : (fault : MakeFault) → HaltedIn g (texts_of those) a b fault → fault ≡ Taken
        → is_taken (names_of those) (state g a).now.schema ≡ true
    one_is_taken fault halts = one_taken g those halts.done halts.left halts.text a halts.mid b fault creates halts.order halts.ran halts.refused

  module _ (fault : MakeFault) where
    pub excused_as : HaltedIn g (texts_of steps) a b fault → (state g a).now.schema ≡ schema_of []
        → Excused (state g a) (state g b) fault
    excused_as halts none = excused g upto 0 steps a b fault each_creates each_fits none halts

    pub later_excused : HaltedIn g (texts_of later_steps) a b fault → (state g a).now.schema ≡ schema_of first_shapes
        → Excused (state g a) (state g b) fault
    later_excused halts first = excused g upto 11 later_steps a b fault later_creates later_fits first halts

    pub later_free : HaltedIn g (texts_of later_steps) a b fault → fault ≡ Taken
        → (state g a).now.schema ≢ schema_of first_shapes
    later_free halts taken first =
        true≢false (sym (one_is_taken later_steps later_creates fault halts taken) ∙ ap (is_taken later_names) first ∙ none_used)
