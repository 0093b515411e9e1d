-- A split depends on what its command looks at alone: how the account stands, and its lots of the commodity. What judges
-- commands cites these lemmas.
use Rattle.std.proofs.Common.{◌≡◌, ◌≢◌, ◌∙◌, ℕ, List, [], ◌∷◌, ◌++◌, Option, None, Some, ℤ, pos, sym, ap, ap₂, subst}
use Rattle.std.specs.Prelude.{map}
use Rattle.std.specs.declared.cmp.Ordering.TheVariants.{Less}
use Rattle.std.specs.FinMap as finite
use Rattle.std.specs.List.{AllByRecursion, Contains}
use Rattle.std.specs.List.Sorted.{IsPermutation, IsStrictlySortedBy}
use Rattle.std.specs.Map.{keys_of}
use Rattle.std.specs.Option.{unwrap_or}
use Rattle.std.specs.Ordering.{nat_cmp, ordering_then}
use Rattle.std.proofs.lemmas.Cmp.{eq_by_cmp_equiv}
use Rattle.std.proofs.lemmas.List.{append-nil}
use Rattle.std.proofs.lemmas.Map.Keys.{IsDistinct-from_sorted}
use Rattle.std.proofs.lemmas.Map.Views.{lookup-from_Contains}
use Rattle.lot_cost.specs.declared.lot_key.LotKey.{LotKey}
use Rattle.lot_cost.specs.LotKey.{lot_cmp}
use Rattle.lot_cost.proofs.OrderLemmas.{lots_total}
use Rattle.lot_command.specs.declared.command.Command.{Command}
use Rattle.lot_command.specs.declared.command.Command.TheVariants.{Opening, Closing, Declaring, Quoting, Transaction}
use Rattle.lot_command.specs.declared.key.Key.{Key}
use Rattle.lot_command.specs.declared.transaction.Amount.{Amount}
use Rattle.lot_command.specs.declared.transaction.Posting.{Posting}
use Rattle.lot_command.specs.declared.transaction.Transaction.{Transaction as TransactionOf}
use Rattle.lot_inv.specs.Inventory.{Held, lots_of, non_zero, units_at}
use Rattle.lot_inv.proofs.LawLemmas.{lots_of-get, sorted_lots_of}
use Rattle.lot_inv.proofs.LotLemmas.{same_lots}
use Rattle.lot_booking.specs.Method.{ByOpening}
use Rattle.lot_booking.proofs.ListLemmas.{all_permuted, each_member}
use Rattle.lot_book.specs.declared.change.Pair.{Pair}
use Rattle.lot_book.specs.Agree.{HaveSameOf}
use Rattle.lot_book.specs.Edition.{Second, ties_in}
use Rattle.lot_book.specs.Facts.{Entry, facts_of, legs_of}
use Rattle.lot_book.specs.Leg.{inventory_of}
use Rattle.lot_book.specs.OpeningNumber.{opening_in}
use Rattle.lot_book.specs.Openings.{AgreesWithOpenings, FactsWithOpenings, HaveSameOpenings, facts_with_openings, ties_on}
use Rattle.lot_book.specs.Touched.{accounts_in, accounts_of, pairs_in, pairs_of}
use Rattle.lot_book.proofs.HeldLemmas.{no_zeros-empty, no_zeros-legs}
use Rattle.lot_rounding.specs.declared.ratio.Change.{Change}
use Rattle.lot_split.specs.Held.{AreHeld, IsSplitOn, key_and_units, key_of, opened_cmp, split_at, split_in, split_of}
use Rattle.lot_split.specs.declared.lot.HeldLot.{HeldLot}
use Rattle.lot_split.specs.declared.transaction.Split.{Split}

-- ---- a command looks at what its split is of

-- what holds of each account whose standing a command looks at holds of the split's
module _ (P : List ℕ → Type 0) (rounding : List ℕ) (change : Change) (asked : Split) where
  account_at : (t : TransactionOf) (account : List ℕ) (amount : Option Amount) → P account
      → split_at rounding change t account amount ≡ Some asked → P asked.account
  account_at t account None holds asks = cc
  account_at t account (Some amount) holds asks =
      let same : account ≡ asked.account = cc in
      subst P same holds

  account_among : (t : TransactionOf) (postings : List Posting) → AllByRecursion P (accounts_of postings)
      → split_in rounding change t postings ≡ Some asked → P asked.account
  account_among t [] all asks = cc
  account_among t (p ∷ []) all asks = account_at t p.account p.amount all.0 asks
  account_among t (p ∷ q ∷ ps) all asks = cc

  account_in : (command : Command) → AllByRecursion P (accounts_in command) → split_of rounding change command ≡ Some asked → P asked.account
  account_in (Transaction t) all asks = account_among t t.postings all asks
  account_in (Opening o) all asks = cc
  account_in (Closing c) all asks = cc
  account_in (Declaring d) all asks = cc
  account_in (Quoting q) all asks = cc

abbrev pair_asked : Split → Pair
pair_asked asked = record { account = asked.account; commodity = asked.commodity }

-- and of each account and commodity of which it looks at what is held
module _ (P : Pair → Type 0) (rounding : List ℕ) (change : Change) (asked : Split) where
  pair_among : (t : TransactionOf) (postings : List Posting) → AllByRecursion P (pairs_of postings)
      → split_in rounding change t postings ≡ Some asked → P (pair_asked asked)
  pair_among t [] all asks = cc
  pair_among t (p ∷ []) all asks = by p.amount all asks
    where
      by : (amount : Option Amount) → AllByRecursion P (pairs_of (record p { amount = amount } ∷ []))
          → split_at rounding change t p.account amount ≡ Some asked → P (pair_asked asked)
      by None all asks = cc
      by (Some amount) all asks =
          let there : Pair = record { account = p.account; commodity = amount.commodity } in
          let same : there ≡ pair_asked asked = cc in
          subst P same all.0
  pair_among t (p ∷ q ∷ ps) all asks = cc

  pair_in : (command : Command) → AllByRecursion P (pairs_in command) → split_of rounding change command ≡ Some asked → P (pair_asked asked)
  pair_in (Transaction t) all asks = pair_among t t.postings all asks
  pair_in (Opening o) all asks = cc
  pair_in (Closing c) all asks = cc
  pair_in (Declaring d) all asks = cc
  pair_in (Quoting q) all asks = cc

-- ---- the same lots in the same order

-- no lot of a commodity holds zero units
abbrev LotsHaveUnits : Held → List ℕ → Type 0
LotsHaveUnits held commodity = (key : LotKey) → finite.get held (commodity, Some key) ≡ non_zero (units_at held (commodity, Some key))

to_keys : (P : LotKey → Type 0) (lots : List HeldLot) → AllByRecursion (λ (lot : LotKey × ℤ). P lot.0) (map key_and_units lots)
    → AllByRecursion P (map key_of lots)
to_keys P [] all = tt
to_keys P (l ∷ ls) all = (all.0, to_keys P ls all.1)

module _ (commodity : List ℕ) (held : Held) (some : LotsHaveUnits held commodity) where
  -- a lot that is listed holds some units
  lot_has_units : (lot : LotKey × ℤ) → Contains (lots_of held commodity) lot → units_at held (commodity, Some lot.0) ≢ pos 0
  lot_has_units lot among zero =
      let found : finite.get held (commodity, Some lot.0) ≡ Some lot.1 =
      sym (lots_of-get held commodity lot.0)
      ∙ lookup-from_Contains (eq_by_cmp_equiv lots_total) lot.0 lot.1 (lots_of held commodity)
      (IsDistinct-from_sorted lot_cmp (keys_of (lots_of held commodity)) (sorted_lots_of held commodity)) among in
      let none : finite.get held (commodity, Some lot.0) ≡ None = some lot.0 ∙ ap non_zero zero in
      cc

  -- numbers that are the same for each lot that is held are so for all lots that are listed
  same_numbers : (opening other : LotKey → ℕ) → HaveSameOpenings commodity held opening other → (lots : List HeldLot)
      → IsPermutation (lots_of held commodity) (map key_and_units lots) → AllByRecursion (λ (key : LotKey). opening key ≡ other key) (map key_of lots)
  same_numbers opening other same lots all =
      let Same : LotKey × ℤ → Type 0 = λ lot. opening lot.0 ≡ other lot.0 in
      to_keys (λ key. opening key ≡ other key) lots
      (all_permuted Same (lots_of held commodity) (map key_and_units lots) all
      (each_member Same (lots_of held commodity) (λ lot among. same lot.0 (lot_has_units lot among))))

below_too : (opening other : LotKey → ℕ) (key : LotKey) (keys : List LotKey) → opening key ≡ other key
    → AllByRecursion (λ (k : LotKey). opening k ≡ other k) keys
    → AllByRecursion (λ (k : LotKey). opened_cmp (ByOpening opening) key k ≡ Less) keys
    → AllByRecursion (λ (k : LotKey). opened_cmp (ByOpening other) key k ≡ Less) keys
below_too opening other key [] is same below = tt
below_too opening other key (k ∷ ks) is same below = (
  ap₂ (λ m n. ordering_then (nat_cmp m n) (lot_cmp key k)) (sym is) (sym same.0) ∙ below.0,
  below_too opening other key ks is same.1 below.1,
)

-- numbers that are the same for each key of a list order it alike
rises_too : (opening other : LotKey → ℕ) (keys : List LotKey) → AllByRecursion (λ (k : LotKey). opening k ≡ other k) keys
    → IsStrictlySortedBy (opened_cmp (ByOpening opening)) keys → IsStrictlySortedBy (opened_cmp (ByOpening other)) keys
unfolding IsStrictlySortedBy
rises_too opening other [] same up = tt
rises_too opening other (k ∷ ks) same up = (below_too opening other k ks same.0 same.1 up.0, rises_too opening other ks same.1 up.1)

held_alike : (commodity : List ℕ) (held there : Held) (opening other : LotKey → ℕ) (lots : List HeldLot) → LotsHaveUnits held commodity
    → HaveSameOf commodity held there → HaveSameOpenings commodity held opening other
    → AreHeld (ByOpening opening) held commodity lots → AreHeld (ByOpening other) there commodity lots
held_alike commodity held there opening other lots some alike same are = record {
  all = subst (λ (listed : List (LotKey × ℤ)). IsPermutation listed (map key_and_units lots))
      (same_lots held there commodity (λ key. alike (Some key))) are.all;
  in_order = rises_too opening other (map key_of lots) (same_numbers commodity held some opening other same lots are.all) are.in_order;
}

-- ---- on a book

module _ (known : FactsWithOpenings) (book : List Entry) (key : Key) (command : Command) (rounding : List ℕ) (change : Change)
    (asked : Split) (t : TransactionOf) (agrees : AgreesWithOpenings known (facts_with_openings book key) command)
    (asks : split_of rounding change command ≡ Some asked) where
  abbrev account : List ℕ
  account = asked.account

  abbrev commodity : List ℕ
  commodity = asked.commodity

  abbrev on_known : Held
  on_known = known.facts.held account

  abbrev on_book : Held
  on_book = inventory_of (legs_of book) account

  standing_same : known.facts.standing account ≡ (facts_of book key).standing account
  standing_same =
      account_in (λ account. known.facts.standing account ≡ (facts_of book key).standing account) rounding change asked command
      agrees.facts.standing asks

  held_same : HaveSameOf commodity on_known on_book
  held_same =
      pair_in (λ pair. HaveSameOf pair.commodity (known.facts.held pair.account) (inventory_of (legs_of book) pair.account))
      rounding change asked command agrees.facts.held asks

  units_same : (lot : LotKey) → units_at on_known (commodity, Some lot) ≡ units_at on_book (commodity, Some lot)
  units_same lot = ap (λ (found : Option ℤ). unwrap_or found (pos 0)) (held_same (Some lot))

  numbers_same : HaveSameOpenings commodity on_known (known.opening account commodity) (opening_in (legs_of book) account commodity)
  numbers_same =
      pair_in (λ pair. HaveSameOpenings pair.commodity (known.facts.held pair.account) (known.opening pair.account pair.commodity)
      (opening_in (legs_of book) pair.account pair.commodity)) rounding change asked command agrees.opening asks

  book_has_units : LotsHaveUnits on_book commodity
  book_has_units lot = no_zeros-legs account finite.empty (legs_of book) no_zeros-empty (commodity, Some lot)

  known_has_units : LotsHaveUnits on_known commodity
  known_has_units lot = held_same (Some lot) ∙ book_has_units lot ∙ ap non_zero (sym (units_same lot))

  all_legs : legs_of book ++ [] ≡ legs_of book
  all_legs = append-nil (legs_of book)

  -- a split on facts that agree with a book's is one on the book
  pub split_on_book : IsSplitOn (ties_on known) known.facts asked t → IsSplitOn (ties_in Second book) (facts_of book key) asked t
  split_on_book is = record {
    standing = is.standing;
    lots = is.lots;
    holds = record {
      opened = sym standing_same ∙ is.holds.opened;
      held = subst (λ legs. AreHeld (ByOpening (opening_in legs account commodity)) on_book commodity is.lots) (sym all_legs)
          (held_alike commodity on_known on_book (known.opening account commodity) (opening_in (legs_of book) account commodity) is.lots
          known_has_units held_same numbers_same is.holds.held);
    };
    is = is.is;
  }

  pub split_on_known : IsSplitOn (ties_in Second book) (facts_of book key) asked t → IsSplitOn (ties_on known) known.facts asked t
  split_on_known is = record {
    standing = is.standing;
    lots = is.lots;
    holds = record {
      opened = standing_same ∙ is.holds.opened;
      held = held_alike commodity on_book on_known (opening_in (legs_of book) account commodity) (known.opening account commodity) is.lots
          book_has_units (λ lot. sym (held_same lot))
          (λ lot some. sym (numbers_same lot (λ none. some (sym (units_same lot) ∙ none))))
          (subst (λ legs. AreHeld (ByOpening (opening_in legs account commodity)) on_book commodity is.lots) all_legs is.holds.held);
    };
    is = is.is;
  }
