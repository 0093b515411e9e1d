-- The latest days at cost once those of a transaction are written.
use Rattle.std.specs.Prelude.{◌≡◌, ℕ, ◌&&◌, ◌||◌, Bool, true, false, cond, is_some, List, [], ◌∷◌, Option, None, Some, ℤ}
use Rattle.std.specs.BTreeMap.{is_at}
use Rattle.std.specs.Cmp.Lexicographic.{texts_ties}
use Rattle.std.specs.List.{AllByRecursion, list_any}
use Rattle.std.specs.List.Sorted.{IsStrictlySortedBy}
use Rattle.std.specs.Map.{keys_of, lookup}
use Rattle.std.specs.Option.{option_map, option_or}
use Rattle.std.specs.Ordering.{int_eq, is_eq}
use Rattle.std.specs.declared.cmp.Ordering.TheVariants.{Less}
use Rattle.std.proofs.Common.{refl, sym, ap, subst, ◌∙◌, inl, inr}
use Rattle.std.proofs.lemmas.Bool.{and_parts, cases_Bool, true≢false}
use Rattle.std.proofs.lemmas.Bool.Decides.{Decides-int_eq}
use Rattle.sqlite.specs.declared.types.Value.TheVariants.{Int}
use Rattle.sqlite_rules.specs.Lists.{Has}
use Rattle.lot_base.specs.Text.{same_text, text_cmp}
use Rattle.lot_base.proofs.TextLemmas.{one_text, same_text-itself}
use Rattle.lot_command.specs.declared.transaction.Amount.{Amount}
use Rattle.lot_command.specs.declared.transaction.Posting.{Posting}
use Rattle.lot_cost.proofs.OrderLemmas.{eq_then}
use Rattle.lot_book.specs.Change.{pair_cmp}
use Rattle.lot_book.specs.Facts.{Facts, is_at_cost, posts_at_cost}
use Rattle.lot_book.specs.declared.change.Pair.{Pair}
use Rattle.lot_laws.proofs.StepAgree.{Alike, AlikeIn}
use Rattle.lot_rows.specs.Head.{head_cells}
use Rattle.lot_rows.specs.Tables.{Tables, head_table}
use Rattle.lot_rows.specs.declared.head.HeadRow.{HeadRow}
use Rattle.lot_stored.specs.Rows.{head_row, pair_key, row_at}
use Rattle.lot_stored.proofs.KeyLemmas.{has_pair}
use Rattle.lot_stored.proofs.LookupLemmas.{row-put}
use Rattle.lot_write.proofs.AsPutLemmas.{written, written_all}
use Rattle.lot_write.proofs.PutLemmas.{head_of}
use Rattle.lot_write.proofs.WrittenLemmas.{written_all-append}
use Rattle.lot_write.specs.Writes.{head_written, heads_written}
use Rattle.lot_write.specs.declared.write.Write.{Write}
use Rattle.lot_write.specs.declared.write.Write.TheVariants as write

-- the row of a pair that had a day says that day
abbrev pub Says : Tables → Pair → Option ℤ → Type 0
Says tables pair before =
    (day : ℤ) → before ≡ Some day
    → row_at head_table (pair_key pair.account pair.commodity) tables ≡ Some (head_row pair.account pair.commodity day)

abbrev pub SaysDay : Facts → Tables → Pair × ℤ → Type 0
SaysDay facts tables head = Says tables head.0 (facts.latest_at_cost head.0.account head.0.commodity)

-- what is written of one pair
abbrev pub days_written : Facts → Pair × ℤ → List Write
days_written facts head =
    head_written (facts.latest_at_cost head.0.account head.0.commodity) head.0.account head.0.commodity head.1

module _ (account commodity : List ℕ) where
  abbrev pair : Pair
  pair = record { account = account; commodity = commodity }

  -- the day of the pair in a list
  abbrev pub day_in : List (Pair × ℤ) → Option ℤ
  day_in heads = lookup (is_at (pair_cmp pair)) heads

  abbrev there : Tables → Option HeadRow
  there = row_at head_table (pair_key account commodity)

  pub same_pair : (other : Pair) → is_eq (pair_cmp pair other) ≡ (same_text account other.account && same_text commodity other.commodity)
  same_pair other =
      eq_then (text_cmp account other.account) (text_cmp commodity other.commodity)
      ∙ (λ i. sym (texts_ties account other.account) i && sym (texts_ties commodity other.commodity) i)

  one_pair : (other : Pair) → is_eq (pair_cmp pair other) ≡ true → pair ≡ other
  one_pair other here =
      let parts = and_parts (same_text account other.account) (same_text commodity other.commodity) (sym (same_pair other) ∙ here) in
      let accounts = one_text account other.account parts.0 in
      let commodities = one_text commodity other.commodity parts.1 in
      λ i. record { account = accounts i; commodity = commodities i }

  -- a pair isn't among those above it
  none_above : (heads : List (Pair × ℤ)) → AllByRecursion (λ (other : Pair). pair_cmp pair other ≡ Less) (keys_of heads)
      → day_in heads ≡ None
  none_above [] above = refl
  none_above (head ∷ heads) above =
      ap (λ o. cond (is_eq o) (Some head.1) (day_in heads)) above.0 ∙ none_above heads above.1

  head_put : (head : Pair × ℤ) (tables : Tables)
      → there (written (write.Head (head_of head)) tables) ≡ cond (is_eq (pair_cmp pair head.0)) (Some (head_of head)) (there tables)
  head_put head tables =
      row-put head_cells 2 (pair_key account commodity) (head_of head) tables.head
      ∙ ap (λ b. cond b (Some (head_of head)) (there tables))
      (has_pair account commodity head.0.account head.0.commodity (Int head.1 ∷ []) ∙ sym (same_pair head.0))

  -- the row of a pair once the day of one is written: where it stays, it is there
  head_step : (before : Option ℤ) (head : Pair × ℤ) (tables : Tables) → Says tables head.0 before
      → there (written_all (head_written before head.0.account head.0.commodity head.1) tables)
      ≡ cond (is_eq (pair_cmp pair head.0)) (Some (head_of head)) (there tables)
  head_step None head tables says = head_put head tables
  head_step (Some before) head tables says = by (int_eq before head.1) refl
    where
      stays : before ≡ head.1 → (b : Bool) → is_eq (pair_cmp pair head.0) ≡ b
          → there tables ≡ cond b (Some (head_of head)) (there tables)
      stays same true here =
          ap (λ (p : Pair). row_at head_table (pair_key p.account p.commodity) tables) (one_pair head.0 here)
          ∙ says before refl
          ∙ ap (λ day. Some (head_row head.0.account head.0.commodity day)) same
      stays same false apart = refl

      by : (b : Bool) → int_eq before head.1 ≡ b
          → there (written_all (cond b [] (write.SetHead (head_of head) ∷ [])) tables)
          ≡ cond (is_eq (pair_cmp pair head.0)) (Some (head_of head)) (there tables)
      by true same = stays ((Decides-int_eq before head.1).0 same) (is_eq (pair_cmp pair head.0)) refl
      by false other = head_put head tables

-- ---- pairs in their order

-- a pair isn't below one above it
apart : (p q : Pair) → pair_cmp p q ≡ Less → is_eq (pair_cmp q p) ≡ false
apart p q less =
    elim (cases_Bool (is_eq (pair_cmp q p))) [
      | inl same ↦
          let own : is_eq (pair_cmp p p) ≡ true =
          same_pair p.account p.commodity p ∙ (λ i. same_text-itself p.account i && same_text-itself p.commodity i) in
          let one : q ≡ p = one_pair q.account q.commodity p same in
          absurd (true≢false (sym (ap (λ (r : Pair). is_eq (pair_cmp p r)) one ∙ own) ∙ ap is_eq less))
      | inr other ↦ other
    ]

-- once the first day is written, the rows of the others are as they were
pub others_say : (facts : Facts) (head : Pair × ℤ) (heads : List (Pair × ℤ)) (tables : Tables) → SaysDay facts tables head
    → AllByRecursion (λ (other : Pair). pair_cmp head.0 other ≡ Less) (keys_of heads) → AllByRecursion (SaysDay facts tables) heads
    → AllByRecursion (SaysDay facts (written_all (days_written facts head) tables)) heads
others_say facts head [] tables own above says = tt
others_say facts head (other ∷ heads) tables own above says = (
  λ day is.
      head_step other.0.account other.0.commodity (facts.latest_at_cost head.0.account head.0.commodity) head tables own
      ∙ ap (λ b. cond b (Some (head_of head)) (row_at head_table (pair_key other.0.account other.0.commodity) tables))
      (apart head.0 other.0 above.0)
      ∙ says.0 day is,
  others_say facts head heads tables own above.1 says.1,
)

module _ (account commodity : List ℕ) where
  -- the row of a pair once the days are written
  pub heads_row : (facts : Facts) (heads : List (Pair × ℤ)) (tables : Tables) → IsStrictlySortedBy pair_cmp (keys_of heads)
      → AllByRecursion (SaysDay facts tables) heads
      → there account commodity (written_all (heads_written facts heads) tables)
      ≡ option_or (option_map (head_row account commodity) (day_in account commodity heads)) (there account commodity tables)
  unfolding IsStrictlySortedBy
  heads_row facts [] tables up says = refl
  heads_row facts (head ∷ heads) tables up says =
      let first = days_written facts head in
      let next = written_all first tables in
      ap (there account commodity) (written_all-append first (heads_written facts heads) tables)
      ∙ heads_row facts heads next up.1 (others_say facts head heads tables says.0 up.0 says.1)
      ∙ ap (option_or (option_map (head_row account commodity) (day_in account commodity heads)))
      (head_step account commodity (facts.latest_at_cost head.0.account head.0.commodity) head tables says.0)
      ∙ by (is_eq (pair_cmp (pair account commodity) head.0)) refl
    where
      by : (b : Bool) → is_eq (pair_cmp (pair account commodity) head.0) ≡ b
          → option_or (option_map (head_row account commodity) (day_in account commodity heads))
          (cond b (Some (head_of head)) (there account commodity tables))
          ≡ option_or (option_map (head_row account commodity) (cond b (Some head.1) (day_in account commodity heads)))
          (there account commodity tables)
      by true here =
          let one = one_pair account commodity head.0 here in
          ap (λ (day : Option ℤ). option_or (option_map (head_row account commodity) day) (Some (head_of head)))
          (none_above account commodity heads
          (subst (λ (p : Pair). AllByRecursion (λ (other : Pair). pair_cmp p other ≡ Less) (keys_of heads)) (sym one) up.0))
          ∙ ap (λ (p : Pair). Some (head_row p.account p.commodity head.1)) (sym one)
      by false other = refl

-- ---- the day that is known of a pair

-- a pair is among those that are listed
pub has_listed : (heads : List (Pair × ℤ)) (head : Pair × ℤ) → Has heads head → is_some (lookup (is_at (pair_cmp head.0)) heads) ≡ true
has_listed [] head has = absurd has
has_listed (first ∷ heads) head (inl here) =
    let own : is_eq (pair_cmp head.0 first.0) ≡ true =
    ap (λ (h : Pair × ℤ). is_eq (pair_cmp head.0 h.0)) (sym here)
    ∙ same_pair head.0.account head.0.commodity head.0
    ∙ (λ i. same_text-itself head.0.account i && same_text-itself head.0.commodity i) in
    ap (λ b. is_some (cond b (Some first.1) (lookup (is_at (pair_cmp head.0)) heads))) own
has_listed (first ∷ heads) head (inr later) =
    elim (is_eq (pair_cmp head.0 first.0))
    as (λ b. is_some (cond b (Some first.1) (lookup (is_at (pair_cmp head.0)) heads)) ≡ true) [
      | true ↦ refl
      | false ↦ has_listed heads head later
    ]

-- two bodies of facts that a transaction finds alike have the same day where it posts with braces
pub same_day : (a b : Facts) (account commodity : List ℕ) (postings : List Posting)
    → list_any (posts_at_cost account commodity) postings ≡ true → AllByRecursion (Alike a b) postings
    → a.latest_at_cost account commodity ≡ b.latest_at_cost account commodity
same_day a b account commodity [] some same = absurd (true≢false (sym some))
same_day a b account commodity (posting ∷ postings) some same =
    by (posts_at_cost account commodity posting) refl (λ rest. same_day a b account commodity postings rest same.1)
  where
    of : (amount : Option Amount) → account ≡ posting.account → is_at_cost commodity amount ≡ true → AlikeIn a b posting.account amount
        → a.latest_at_cost account commodity ≡ b.latest_at_cost account commodity
    of None who costs days = absurd (true≢false (sym costs))
    of (Some amount) who costs days =
        let what = one_text commodity amount.commodity (and_parts (is_some amount.cost) (same_text commodity amount.commodity) costs).1 in
        (λ i. a.latest_at_cost (who i) (what i)) ∙ days.0 ∙ (λ i. b.latest_at_cost (sym who i) (sym what i))

    by : (here : Bool) → posts_at_cost account commodity posting ≡ here
        → (list_any (posts_at_cost account commodity) postings ≡ true
        → a.latest_at_cost account commodity ≡ b.latest_at_cost account commodity)
        → a.latest_at_cost account commodity ≡ b.latest_at_cost account commodity
    by true here more =
        let parts = and_parts (same_text account posting.account) (is_at_cost commodity posting.amount) here in
        of posting.amount (one_text account posting.account parts.0) parts.1 same.0.1
    by false apart more = more (ap (λ b. b || list_any (posts_at_cost account commodity) postings) (sym apart) ∙ some)
