-- Each entry has the rows of its command: then what the entries say has rows, and in tables that stand for a book each has.
use Rattle.std.specs.Prelude.{◌≡◌, ◌≢◌, ◌&&◌, ℕ, ℤ, Bool, true, false, cond, List, [], ◌∷◌, Option, None, Some}
use Rattle.std.specs.List.{list_any}
use Rattle.std.specs.Option.{option_or}
use Rattle.std.specs.Ordering.{int_eq}
use Rattle.std.proofs.Common.{refl, sym, ap, subst, ◌∙◌}
use Rattle.std.proofs.lemmas.Bool.{and_parts}
use Rattle.std.proofs.lemmas.Bool.Decides.{Decides-int_eq}
use Rattle.lot_base.specs.Text.{same_text}
use Rattle.lot_base.proofs.TextLemmas.{one_text}
use Rattle.lot_command.specs.declared.command.Command.{Command}
use Rattle.lot_command.specs.declared.command.Command.TheVariants.{Opening, Closing, Declaring, Quoting, Transaction}
use Rattle.lot_command.specs.declared.command.Opening.{Opening as OpeningOf}
use Rattle.lot_book.specs.Facts.{Entry, day_at_cost, later, latest_at_cost, opening_by, opening_of, posts_at_cost}
use Rattle.lot_rows.specs.Tables.{Tables, commodity_table, head_table, price_table}
use Rattle.lot_stored.specs.Kept.{declared_on, declaring_by, rate_by, rate_on}
use Rattle.lot_stored.specs.Rows.{commodity_row, name_key, pair_key, price_key, row_at}
use Rattle.lot_audit.specs.Entries.{AllHave, HasRows, IsOpened}

module _ (tables : Tables) where
  abbrev IsDeclaredOn : List ℕ → ℤ → Type 0
  IsDeclaredOn commodity day = row_at commodity_table (name_key commodity) tables ≡ Some (commodity_row commodity day)

  abbrev IsQuoted : List ℕ → List ℕ → ℤ → Type 0
  IsQuoted base quote day = row_at price_table (price_key base quote day) tables ≢ None

  abbrev IsPosted : List ℕ → List ℕ → Type 0
  IsPosted account commodity = row_at head_table (pair_key account commodity) tables ≢ None

  -- ---- accounts

  opened_by : (account : List ℕ) (command : Command) (opening : OpeningOf) → opening_by account command ≡ Some opening
      → HasRows command tables → IsOpened tables account opening
  opened_by account (Opening o) opening is has = by (same_text account o.account) refl is
    where
      by : (b : Bool) → same_text account o.account ≡ b → cond b (Some o) None ≡ Some opening → IsOpened tables account opening
      by false apart gone = absurd cc
      by true here some =
          let same : o ≡ opening = cc in
          let account_is : o.account ≡ account = sym (one_text account o.account here) in
          subst (λ (it : OpeningOf). IsOpened tables account it) same (subst (λ (name : List ℕ). IsOpened tables name o) account_is has)
  opened_by account (Closing c) opening is has = absurd cc
  opened_by account (Declaring d) opening is has = absurd cc
  opened_by account (Quoting q) opening is has = absurd cc
  opened_by account (Transaction t) opening is has = absurd cc

  pub opened : (entries : List Entry) (account : List ℕ) (opening : OpeningOf) → AllHave tables entries
      → opening_of entries account ≡ Some opening → IsOpened tables account opening
  opened [] account opening all is = absurd cc
  opened (entry ∷ entries) account opening all is =
      by (opening_by account entry.command) refl is (opened entries account opening all.1)
    where
      by : (o : Option OpeningOf) → opening_by account entry.command ≡ o
          → option_or o (opening_of entries account) ≡ Some opening
          → (opening_of entries account ≡ Some opening → IsOpened tables account opening) → IsOpened tables account opening
      by None none behind rest = rest behind
      by (Some first) here some rest =
          let same : first ≡ opening = cc in
          opened_by account entry.command opening (here ∙ ap Some same) all.0

  -- ---- commodities

  declared_by : (commodity : List ℕ) (command : Command) (day : ℤ) → declaring_by commodity command ≡ Some day
      → HasRows command tables → row_at commodity_table (name_key commodity) tables ≡ Some (commodity_row commodity day)
  declared_by commodity (Opening o) day is has = absurd cc
  declared_by commodity (Closing c) day is has = absurd cc
  declared_by commodity (Declaring d) day is has = by (same_text commodity d.commodity) refl is
    where
      by : (b : Bool) → same_text commodity d.commodity ≡ b → cond b (Some d.day) None ≡ Some day
          → row_at commodity_table (name_key commodity) tables ≡ Some (commodity_row commodity day)
      by false apart gone = absurd cc
      by true here some =
          let same : d.day ≡ day = cc in
          let name : d.commodity ≡ commodity = sym (one_text commodity d.commodity here) in
          subst (λ (n : List ℕ). row_at commodity_table (name_key n) tables ≡ Some (commodity_row n day)) name
          (has ∙ ap (λ (on : ℤ). Some (commodity_row d.commodity on)) same)
  declared_by commodity (Quoting q) day is has = absurd cc
  declared_by commodity (Transaction t) day is has = absurd cc

  pub declared : (entries : List Entry) (commodity : List ℕ) (day : ℤ) → AllHave tables entries
      → declared_on entries commodity ≡ Some day
      → row_at commodity_table (name_key commodity) tables ≡ Some (commodity_row commodity day)
  declared [] commodity day all is = absurd cc
  declared (entry ∷ entries) commodity day all is =
      by (declaring_by commodity entry.command) refl is (declared entries commodity day all.1)
    where
      by : (o : Option ℤ) → declaring_by commodity entry.command ≡ o
          → option_or o (declared_on entries commodity) ≡ Some day
          → (declared_on entries commodity ≡ Some day → IsDeclaredOn commodity day) → IsDeclaredOn commodity day
      by None none behind rest = rest behind
      by (Some first) here some rest =
          let same : first ≡ day = cc in
          declared_by commodity entry.command day (here ∙ ap Some same) all.0

  -- ---- prices

  quoted_by : (base quote : List ℕ) (day : ℤ) (command : Command) (rate : ℕ) → rate_by base quote day command ≡ Some rate
      → HasRows command tables → row_at price_table (price_key base quote day) tables ≢ None
  quoted_by base quote day (Opening o) rate is has = absurd cc
  quoted_by base quote day (Closing c) rate is has = absurd cc
  quoted_by base quote day (Declaring d) rate is has = absurd cc
  quoted_by base quote day (Quoting q) rate is has =
      by (same_text base q.base && (same_text quote q.quote && int_eq day q.day)) refl is
    where
      by : (b : Bool) → (same_text base q.base && (same_text quote q.quote && int_eq day q.day)) ≡ b
          → cond b (Some q.rate) None ≡ Some rate → row_at price_table (price_key base quote day) tables ≢ None
      by false apart gone = absurd cc
      by true here some =
          let first = and_parts (same_text base q.base) (same_text quote q.quote && int_eq day q.day) here in
          let second = and_parts (same_text quote q.quote) (int_eq day q.day) first.1 in
          let bases : q.base ≡ base = sym (one_text base q.base first.0) in
          let quotes : q.quote ≡ quote = sym (one_text quote q.quote second.0) in
          let days : q.day ≡ day = sym ((Decides-int_eq day q.day).0 second.1) in
          subst (λ (b : List ℕ). row_at price_table (price_key b quote day) tables ≢ None) bases
          (subst (λ (a : List ℕ). row_at price_table (price_key q.base a day) tables ≢ None) quotes
          (subst (λ (on : ℤ). row_at price_table (price_key q.base q.quote on) tables ≢ None) days has))
  quoted_by base quote day (Transaction t) rate is has = absurd cc

  pub quoted : (entries : List Entry) (base quote : List ℕ) (day : ℤ) (rate : ℕ) → AllHave tables entries
      → rate_on entries base quote day ≡ Some rate → row_at price_table (price_key base quote day) tables ≢ None
  quoted [] base quote day rate all is = absurd cc
  quoted (entry ∷ entries) base quote day rate all is =
      by (rate_on entries base quote day) refl is (λ last. quoted entries base quote day last all.1)
    where
      by : (o : Option ℕ) → rate_on entries base quote day ≡ o → option_or o (rate_by base quote day entry.command) ≡ Some rate
          → ((last : ℕ) → rate_on entries base quote day ≡ Some last → IsQuoted base quote day) → IsQuoted base quote day
      by (Some last) there some rest = rest last there
      by None none here rest = quoted_by base quote day entry.command rate here all.0

  -- ---- days at cost

  posted_by : (account commodity : List ℕ) (command : Command) (day : ℤ) → day_at_cost account commodity command ≡ Some day
      → HasRows command tables → row_at head_table (pair_key account commodity) tables ≢ None
  posted_by account commodity (Opening o) day is has = absurd cc
  posted_by account commodity (Closing c) day is has = absurd cc
  posted_by account commodity (Declaring d) day is has = absurd cc
  posted_by account commodity (Quoting q) day is has = absurd cc
  posted_by account commodity (Transaction t) day is has = by (list_any (posts_at_cost account commodity) t.postings) refl is
    where
      by : (b : Bool) → list_any (posts_at_cost account commodity) t.postings ≡ b → cond b (Some t.day) None ≡ Some day
          → row_at head_table (pair_key account commodity) tables ≢ None
      by false apart gone = absurd cc
      by true here some = has account commodity here

  pub posted : (entries : List Entry) (account commodity : List ℕ) (day : ℤ) → AllHave tables entries
      → latest_at_cost entries account commodity ≡ Some day
      → row_at head_table (pair_key account commodity) tables ≢ None
  posted [] account commodity day all is = absurd cc
  posted (entry ∷ entries) account commodity day all is =
      by (day_at_cost account commodity entry.command) refl (latest_at_cost entries account commodity) refl is
      (λ last. posted entries account commodity last all.1)
    where
      by : (o : Option ℤ) → day_at_cost account commodity entry.command ≡ o
          → (p : Option ℤ) → latest_at_cost entries account commodity ≡ p → later o p ≡ Some day
          → ((last : ℤ) → latest_at_cost entries account commodity ≡ Some last → IsPosted account commodity) → IsPosted account commodity
      by (Some first) here p there some rest = posted_by account commodity entry.command first here all.0
      by None none (Some last) there some rest = rest last there
      by None none None there some rest = absurd cc
