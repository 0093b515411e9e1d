-- In tables that stand for a book each of its entries has the rows of its command.
use Rattle.std.specs.Prelude.{◌≡◌, ◌≢◌, ◌&&◌, ℕ, ℤ, Bool, true, false, cond, List, [], ◌∷◌, ◌++◌, option_map, Option, None, Some}
use Rattle.std.specs.Option.{option_or}
use Rattle.std.specs.Ordering.{int_eq}
use Rattle.std.proofs.Common.{refl, sym, ap, subst, ◌∙◌}
use Rattle.std.proofs.lemmas.Bool.Decides.{Decides-int_eq}
use Rattle.std.proofs.lemmas.List.{append_assoc}
use Rattle.lot_base.specs.Text.{same_text}
use Rattle.lot_base.proofs.OptionLemmas.{not_mapped, or_or}
use Rattle.lot_base.proofs.TextLemmas.{same_text-itself}
use Rattle.lot_command.specs.declared.command.Command.{Command}
use Rattle.lot_command.specs.declared.command.Command.TheVariants.{Opening, Closing, Declaring, Quoting, Transaction}
use Rattle.lot_command.specs.declared.command.Declaring.{Declaring as DeclaringOf}
use Rattle.lot_command.specs.declared.command.Opening.{Opening as OpeningOf}
use Rattle.lot_command.specs.declared.command.Quoting.{Quoting as QuotingOf}
use Rattle.lot_command.specs.declared.transaction.Transaction.{Transaction as TransactionOf}
use Rattle.lot_book.specs.Book.{ContinuesIn}
use Rattle.lot_book.specs.Edition.{After, edition_on, ties_in}
use Rattle.lot_book.specs.Facts.{Entry, closing_of, day_at_cost, facts_of, is_declared, later, latest_at_cost, opening_by, opening_of, standing_by, standing_of}
use Rattle.lot_book.specs.Booking.{TieRule}
use Rattle.lot_book.specs.Refusals.{book_full, holds_as}
use Rattle.lot_book.specs.Step.{Accept, JudgesUnder, accept_unless, first_of}
use Rattle.lot_book.specs.declared.leg.Leg.{Leg}
use Rattle.lot_book.specs.declared.refusal.Refusal.{Refusal}
use Rattle.lot_book.specs.declared.refusal.Refusal.TheVariants.{AlreadyDeclared}
use Rattle.lot_laws.proofs.LawBooks.{accepted}
use Rattle.lot_laws.proofs.RecordedBook.{opening_is_new}
use Rattle.lot_rows.specs.Tables.{Tables}
use Rattle.lot_stored.specs.Kept.{currencies_in, declared_on, declaring_by, rate_by, rate_on}
use Rattle.lot_stored.specs.Rows.{account_row, allowed_rows, commodity_row, head_row, price_row}
use Rattle.lot_stored.specs.StandFor.{StandFor}
use Rattle.lot_stored.proofs.KeptLemmas.{declared_on-none}
use Rattle.lot_audit.specs.Entries.{AllHave, HasRows}

-- ---- what entries say, and entries behind them

opening_of-both : (before rest : List Entry) (account : List ℕ)
    → opening_of (before ++ rest) account ≡ option_or (opening_of before account) (opening_of rest account)
opening_of-both [] rest account = refl
opening_of-both (first ∷ before) rest account =
    ap (option_or (opening_by account first.command)) (opening_of-both before rest account)
    ∙ or_or (opening_by account first.command) (opening_of before account) (opening_of rest account)

declared_on-both : (before rest : List Entry) (commodity : List ℕ)
    → declared_on (before ++ rest) commodity ≡ option_or (declared_on before commodity) (declared_on rest commodity)
declared_on-both [] rest commodity = refl
declared_on-both (first ∷ before) rest commodity =
    ap (option_or (declaring_by commodity first.command)) (declared_on-both before rest commodity)
    ∙ or_or (declaring_by commodity first.command) (declared_on before commodity) (declared_on rest commodity)

-- one of two is there
or_there : {X : Type 0} (o p : Option X) → o ≢ None → option_or o p ≢ None
or_there None p some none = some refl
or_there (Some x) p some none = cc

or_behind : {X : Type 0} (o p : Option X) → p ≢ None → option_or o p ≢ None
or_behind None p some none = some none
or_behind (Some x) p some none = cc

later_first : (o p : Option ℤ) → o ≢ None → later o p ≢ None
later_first None p some none = some refl
later_first (Some x) None some none = cc
later_first (Some x) (Some y) some none = cc

later_behind : (o p : Option ℤ) → p ≢ None → later o p ≢ None
later_behind None p some none = some none
later_behind (Some x) None some none = some refl
later_behind (Some x) (Some y) some none = cc

quoted_behind : (before rest : List Entry) (base quote : List ℕ) (day : ℤ) → rate_on rest base quote day ≢ None
    → rate_on (before ++ rest) base quote day ≢ None
quoted_behind [] rest base quote day some = some
quoted_behind (first ∷ before) rest base quote day some =
    or_there (rate_on (before ++ rest) base quote day) (rate_by base quote day first.command)
    (quoted_behind before rest base quote day some)

posted_behind : (before rest : List Entry) (account commodity : List ℕ) → latest_at_cost rest account commodity ≢ None
    → latest_at_cost (before ++ rest) account commodity ≢ None
posted_behind [] rest account commodity some = some
posted_behind (first ∷ before) rest account commodity some =
    later_behind (day_at_cost account commodity first.command) (latest_at_cost (before ++ rest) account commodity)
    (posted_behind before rest account commodity some)

-- ---- what an acceptance says

not_held : (holds : Bool) (refusal : Refusal) (rest : List (Option Refusal)) (legs others : List Leg)
    → Accept legs ≡ accept_unless (first_of (holds_as holds refusal ∷ rest)) others → holds ≡ false
not_held true refusal rest legs others e = cc
not_held false refusal rest legs others e = refl

mapped : {X Y : Type 0} (f : X → Y) (o : Option X) → o ≢ None → option_map f o ≢ None
mapped f None some none = some refl
mapped f (Some x) some none = cc

-- ---- one entry

module _ (tables : Tables) (book : List Entry) (stand : StandFor tables book) where
  opens : (before more : List Entry) (entry : Entry) (o : OpeningOf) → book ≡ before ++ entry ∷ more → entry.command ≡ Opening o
      → opening_of before o.account ≡ None → HasRows (Opening o) tables
  opens before more entry o split is new =
      let own : opening_by o.account entry.command ≡ Some o =
      ap (opening_by o.account) is ∙ ap (λ (b : Bool). cond b (Some o) None) (same_text-itself o.account) in
      let found : opening_of book o.account ≡ Some o =
      ap (λ (entries : List Entry). opening_of entries o.account) split
      ∙ opening_of-both before (entry ∷ more) o.account
      ∙ ap (λ (it : Option OpeningOf). option_or it (opening_of (entry ∷ more) o.account)) new
      ∙ ap (λ (it : Option OpeningOf). option_or it (opening_of more o.account)) own in
      let standing : standing_of book o.account ≡ Some (standing_by (closing_of book o.account) o) =
      ap (option_map (standing_by (closing_of book o.account))) found in (
        (λ none.
            let absent : Some (account_row o.account (standing_by (closing_of book o.account) o)) ≡ None =
            sym (stand.account o.account ∙ ap (option_map (account_row o.account)) standing) ∙ none in
            cc),
        stand.allowed o.account ∙ ap (λ (it : Option OpeningOf). allowed_rows o.account 0 (currencies_in it)) found,
      )

  declares_it : (before more : List Entry) (entry : Entry) (d : DeclaringOf) → book ≡ before ++ entry ∷ more
      → entry.command ≡ Declaring d → declared_on before d.commodity ≡ None → HasRows (Declaring d) tables
  declares_it before more entry d split is new =
      let own : declaring_by d.commodity entry.command ≡ Some d.day =
      ap (declaring_by d.commodity) is ∙ ap (λ (b : Bool). cond b (Some d.day) None) (same_text-itself d.commodity) in
      let found : declared_on book d.commodity ≡ Some d.day =
      ap (λ (entries : List Entry). declared_on entries d.commodity) split
      ∙ declared_on-both before (entry ∷ more) d.commodity
      ∙ ap (λ (it : Option ℤ). option_or it (declared_on (entry ∷ more) d.commodity)) new
      ∙ ap (λ (it : Option ℤ). option_or it (declared_on more d.commodity)) own in
      stand.commodity d.commodity ∙ ap (option_map (commodity_row d.commodity)) found

  quotes : (before more : List Entry) (entry : Entry) (q : QuotingOf) → book ≡ before ++ entry ∷ more
      → entry.command ≡ Quoting q → HasRows (Quoting q) tables
  quotes before more entry q split is none =
      let same : (same_text q.base q.base && (same_text q.quote q.quote && int_eq q.day q.day)) ≡ true =
      (λ i. same_text-itself q.base i && (same_text-itself q.quote i && (Decides-int_eq q.day q.day).1 refl i)) in
      let own : rate_by q.base q.quote q.day entry.command ≡ Some q.rate =
      ap (rate_by q.base q.quote q.day) is ∙ ap (λ (b : Bool). cond b (Some q.rate) None) same in
      let some : rate_on book q.base q.quote q.day ≢ None =
      subst (λ (entries : List Entry). rate_on entries q.base q.quote q.day ≢ None) (sym split)
      (quoted_behind before (entry ∷ more) q.base q.quote q.day
      (or_behind (rate_on more q.base q.quote q.day) (rate_by q.base q.quote q.day entry.command)
      (λ gone. let absent : Some q.rate ≡ None = sym own ∙ gone in cc))) in
      mapped (price_row q.base q.quote q.day) (rate_on book q.base q.quote q.day) some
      (sym (stand.price q.base q.quote q.day) ∙ none)

  posts : (before more : List Entry) (entry : Entry) (t : TransactionOf) → book ≡ before ++ entry ∷ more
      → entry.command ≡ Transaction t → HasRows (Transaction t) tables
  posts before more entry t split is account commodity at none =
      let some : latest_at_cost book account commodity ≢ None =
      subst (λ (entries : List Entry). latest_at_cost entries account commodity ≢ None) (sym split)
      (posted_behind before (entry ∷ more) account commodity
      (later_first (day_at_cost account commodity entry.command) (latest_at_cost more account commodity)
      (λ gone.
      let day : day_at_cost account commodity entry.command ≡ Some t.day =
      ap (day_at_cost account commodity) is ∙ ap (λ (b : Bool). cond b (Some t.day) None) at in
      let absent : Some t.day ≡ None = sym day ∙ gone in cc))) in
      mapped (head_row account commodity) (latest_at_cost book account commodity) some
      (sym (stand.head account commodity) ∙ none)

  one_has : (before more : List Entry) (entry : Entry) (ties : TieRule) → book ≡ before ++ entry ∷ more
      → JudgesUnder ties (facts_of before entry.key) entry.command (Accept entry.legs) → HasRows entry.command tables
  one_has before more entry ties split judges = by entry.command refl judges
    where
      by : (c : Command) → entry.command ≡ c → JudgesUnder ties (facts_of before entry.key) c (Accept entry.legs) → HasRows c tables
      by (Opening o) is judged =
          opens before more entry o split is
          (not_mapped (standing_by (closing_of before o.account)) (opening_of before o.account)
          (opening_is_new ties (facts_of before entry.key) o entry.legs judged))
      by (Closing c) is judged = tt
      by (Declaring d) is judged =
          declares_it before more entry d split is
          (declared_on-none before d.commodity
          (not_held (is_declared before d.commodity) AlreadyDeclared (book_full (facts_of before entry.key) ∷ []) entry.legs [] judged))
      by (Quoting q) is judged = quotes before more entry q split is
      by (Transaction t) is judged = posts before more entry t split is

  -- ---- all entries

  all_from_here : (place : ℕ) (before entries : List Entry) → book ≡ before ++ entries → ContinuesIn (After place) before entries
      → AllHave tables entries
  all_from_here place before [] split continues = tt
  all_from_here place before (entry ∷ entries) split continues =
      let edition = edition_on (After place) before in (
        one_has before entries entry (ties_in edition before) split
            (accepted edition before entry.key entry.command entry.legs continues.0).1,
        all_from_here place (before ++ entry ∷ []) entries (split ∙ sym (append_assoc before (entry ∷ []) entries)) continues.1,
      )

  pub all_have : AllHave tables book
  all_have = all_from_here stand.place [] book refl stand.judged
