-- The last row of each pair, of rows in the order of their keys.
use Rattle.std.specs.Prelude.{◌≡◌, ◌<ℤ◌, ℕ, ℤ, Bool, true, false, cond, ◌&&◌, ◌||◌, List, [], ◌∷◌, int_lt}
use Rattle.std.specs.Cmp.{Equal-is, IsTotalOrder}
use Rattle.std.specs.List.{list_any}
use Rattle.std.specs.Ordering.{int_cmp, is_eq, is_gt, ordering_then}
use Rattle.std.specs.declared.cmp.Ordering.{Ordering}
use Rattle.std.specs.declared.cmp.Ordering.TheVariants.{Less, Equal, Greater}
use Rattle.std.proofs.Common.{refl, sym, ap, subst, ◌∙◌, arith, inl, inr}
use Rattle.std.proofs.lemmas.Bool.{cases_Bool, true≢false}
use Rattle.std.proofs.lemmas.Cmp.{alike_right, int_ranked, nat_list_cmp_total, on_total, then_total, tied_itself}
use Rattle.std.proofs.lemmas.Int.{ints}
use Rattle.std.proofs.lemmas.Map.Lookups.{CmpEqualImpliesEq, exact_bytes, exact_pairs}
use Rattle.sqlite.specs.Tree.{IsAscending}
use Rattle.sqlite_keyed.proofs.ListLemmas.{any_from_none, none_from_any}
use Rattle.sqlite_rules.specs.Lists.{Has}
use Rattle.sqlite_rules.proofs.ListLemmas.{all_from, all_has, some_has}
use Rattle.lot_base.specs.Text.{same_text, text_cmp}
use Rattle.lot_base.proofs.TextLemmas.{same_text-ordered, same_text-turned}
use Rattle.lot_cost.proofs.OrderLemmas.{eq_then}
use Rattle.lot_rows.specs.declared.price.PriceRow.{PriceRow}
use Rattle.lot_walk.specs.Prices.{is_of_pair, last_rows, pair_cmp, row_pair}

-- ---- pairs

pub pairs_total : IsTotalOrder pair_cmp
pairs_total = then_total (on_total (λ p. p.0) nat_list_cmp_total) (on_total (λ p. p.1) nat_list_cmp_total)

pub exact_pair : CmpEqualImpliesEq pair_cmp
exact_pair = exact_pairs text_cmp text_cmp exact_bytes exact_bytes

-- ---- rows in their order

-- by base, quote and day
abbrev pub row_cmp : PriceRow → PriceRow → Ordering
row_cmp a b = ordering_then (pair_cmp (row_pair a) (row_pair b)) (int_cmp a.day b.day)

abbrev pub AreUp : List PriceRow → Type 0
AreUp = IsAscending (λ a b. row_cmp a b ≡ Less)

-- ---- the last of each pair

pub same_pair : (p q : List ℕ × List ℕ) → is_eq (pair_cmp p q) ≡ true → p ≡ q
same_pair p q e = exact_pair p q ((Equal-is (pair_cmp p q)).0 e)

pub own_pair : (p : List ℕ × List ℕ) → is_eq (pair_cmp p p) ≡ true
own_pair p = ap is_eq (tied_itself pairs_total p)

-- rows are of one pair where their texts are the same
pub texts_of_pair : (a b : PriceRow) → is_of_pair a b ≡ (same_text a.base b.base && same_text a.quote b.quote)
texts_of_pair a b =
    eq_then (text_cmp a.base b.base) (text_cmp a.quote b.quote)
    ∙ (λ i. same_order a.base b.base i && same_order a.quote b.quote i)
  where
    same_order : (s t : List ℕ) → is_eq (text_cmp s t) ≡ same_text s t
    same_order s t = same_text-ordered s t ∙ same_text-turned s t (same_text s t) refl

one_pair : (a b : PriceRow) → is_of_pair a b ≡ true → row_pair a ≡ row_pair b
one_pair a b e = same_pair (row_pair a) (row_pair b) e

alike : (a b : PriceRow) → row_pair a ≡ row_pair b → is_of_pair a b ≡ true
alike a b e = ap (λ p. is_eq (pair_cmp (row_pair a) p)) (sym e) ∙ own_pair (row_pair a)

pub last_rows-of : (rows : List PriceRow) (row : PriceRow) → Has (last_rows rows) row → Has rows row
last_rows-of [] row has = absurd has
last_rows-of (first ∷ rows) row has = by (list_any (is_of_pair first) rows) has (last_rows-of rows row)
  where
    by : (b : Bool) → Has (cond b (last_rows rows) (first ∷ last_rows rows)) row → (Has (last_rows rows) row → Has rows row) → Has (first ∷ rows) row
    by true later more = inr (more later)
    by false (inl same) more = inl same
    by false (inr later) more = inr (more later)

-- each pair has a last row
pub last_rows-all : (rows : List PriceRow) (row : PriceRow) → Has rows row → (last : PriceRow) × Has (last_rows rows) last × (row_pair last ≡ row_pair row)
last_rows-all [] row has = absurd has
last_rows-all (first ∷ rows) row (inl same) =
    elim (cases_Bool (list_any (is_of_pair first) rows)) [
      | inl others ↦
          let other = some_has (is_of_pair first) rows others in
          let last = last_rows-all rows other.0 other.1 in (
            last.0,
            subst (λ b. Has (cond b (last_rows rows) (first ∷ last_rows rows)) last.0) (sym others) last.1,
            last.2 ∙ sym (one_pair first other.0 other.2) ∙ ap row_pair (sym same),
          )
      | inr none ↦ (first, subst (λ b. Has (cond b (last_rows rows) (first ∷ last_rows rows)) first) (sym none) (inl refl), ap row_pair (sym same))
    ]
last_rows-all (first ∷ rows) row (inr later) =
    let last = last_rows-all rows row later in (
      last.0,
      elim (list_any (is_of_pair first) rows) as (λ b. Has (cond b (last_rows rows) (first ∷ last_rows rows)) last.0) [ true ↦ last.1 | false ↦ inr last.1 ],
      last.2,
    )

less_is : (o p : Ordering) → ordering_then o p ≡ Less → is_eq o ≡ false → o ≡ Less
less_is Less p e apart = refl
less_is Equal p e apart = absurd (true≢false apart)
less_is Greater p e apart = absurd (true≢false (sym (ap is_gt (sym e))))

-- they rise by their pairs
pub last_rows-up : (rows : List PriceRow) → AreUp rows → IsAscending (λ a b. pair_cmp (row_pair a) (row_pair b) ≡ Less) (last_rows rows)
last_rows-up [] up = tt
last_rows-up (first ∷ rows) up =
    elim (cases_Bool (list_any (is_of_pair first) rows)) [
      | inl others ↦ subst (λ b. IsAscending (λ a b. pair_cmp (row_pair a) (row_pair b) ≡ Less) (cond b (last_rows rows) (first ∷ last_rows rows))) (sym others) (last_rows-up rows up.1)
      | inr none ↦
          subst (λ b. IsAscending (λ a b. pair_cmp (row_pair a) (row_pair b) ≡ Less) (cond b (last_rows rows) (first ∷ last_rows rows))) (sym none) (
            all_from _ (last_rows rows)
                (λ row has.
                let there = last_rows-of rows row has in
                less_is (pair_cmp (row_pair first) (row_pair row)) (int_cmp first.day row.day) (all_has (λ other. row_cmp first other ≡ Less) rows row up.0 there)
                (all_has (λ other. is_of_pair first other ≡ false) rows row (none_from_any (is_of_pair first) rows none) there)),
            last_rows-up rows up.1,
          )
    ]

-- where the pairs are one a row is below another by its day
later_day : (a b : PriceRow) → row_pair a ≡ row_pair b → row_cmp a b ≡ Less → int_cmp a.day b.day ≡ Less
later_day a b same less =
    sym (ap (λ o. ordering_then o (int_cmp a.day b.day)) (ap (λ p. pair_cmp (row_pair a) p) (sym same) ∙ tied_itself pairs_total (row_pair a))) ∙ less

not_above : (a b : ℤ) → int_cmp a b ≡ Less → int_lt b a ≡ false
not_above a b e = let below : a <ℤ b = int_ranked a b Less (sym e) in grind (arith, ints)

not_below_itself : (a : ℤ) → int_lt a a ≡ false
not_below_itself a = grind (arith, ints)

first_earlier : (first : PriceRow) (rows : List PriceRow) (last : PriceRow) → AreUp (first ∷ rows) → Has rows last → row_pair last ≡ row_pair first
    → int_lt last.day first.day ≡ false
first_earlier first rows last up has same =
    not_above first.day last.day (later_day first last (sym same) (all_has (λ other. row_cmp first other ≡ Less) rows last up.0 has))

none_there : (first : PriceRow) (rows : List PriceRow) (row : PriceRow) → list_any (is_of_pair first) rows ≡ false → Has rows row
    → row_pair first ≡ row_pair row → ⊥
none_there first rows row none has same =
    true≢false (sym (alike first row same) ∙ all_has (λ other. is_of_pair first other ≡ false) rows row (none_from_any (is_of_pair first) rows none) has)

-- no row of the pair has a later day than the last
pub last_rows-latest : (rows : List PriceRow) (last row : PriceRow) → AreUp rows → Has (last_rows rows) last → Has rows row → row_pair last ≡ row_pair row
    → int_lt last.day row.day ≡ false
last_rows-latest [] last row up has there same = absurd there
last_rows-latest (first ∷ rows) last row up has there same =
    by (list_any (is_of_pair first) rows) refl has there (λ among later. last_rows-latest rows last row up.1 among later same)
  where
    by : (b : Bool) → list_any (is_of_pair first) rows ≡ b → Has (cond b (last_rows rows) (first ∷ last_rows rows)) last → Has (first ∷ rows) row
        → (Has (last_rows rows) last → Has rows row → int_lt last.day row.day ≡ false) → int_lt last.day row.day ≡ false
    by true e among (inr later) more = more among later
    by true e among (inl is) more =
        subst (λ (r : PriceRow). int_lt last.day r.day ≡ false) (sym is)
        (first_earlier first rows last up (last_rows-of rows last among) (same ∙ ap row_pair is))
    by false e (inl at) (inl is) more =
        ap (λ (r : PriceRow). int_lt r.day row.day) (at ∙ sym is) ∙ not_below_itself row.day
    by false e (inl at) (inr later) more = absurd (none_there first rows row e later (ap row_pair (sym at) ∙ same))
    by false e (inr among) (inl is) more =
        subst (λ (r : PriceRow). int_lt last.day r.day ≡ false) (sym is)
        (first_earlier first rows last up (last_rows-of rows last among) (same ∙ ap row_pair is))
    by false e (inr among) (inr later) more = more among later

-- ---- one row after another

-- behind a row of its pair a row isn't the last
pub last_rows-pair : (row next : PriceRow) (rows : List PriceRow) → is_of_pair row next ≡ true → last_rows (row ∷ next ∷ rows) ≡ last_rows (next ∷ rows)
last_rows-pair row next rows same = ap (λ b. cond (b || list_any (is_of_pair row) rows) (last_rows (next ∷ rows)) (row ∷ last_rows (next ∷ rows))) same

less_then : (o p : Ordering) → is_gt (ordering_then o p) ≡ false → is_gt o ≡ false
less_then Less p e = refl
less_then Equal p e = refl
less_then Greater p e = e

not_tied : (o : Ordering) → is_gt o ≡ false → is_eq o ≡ false → o ≡ Less
not_tied Less e apart = refl
not_tied Equal e apart = absurd (true≢false apart)
not_tied Greater e apart = absurd (true≢false e)

-- behind a row of another pair it is the last
pub last_rows-next : (row next : PriceRow) (rows : List PriceRow) → AreUp (row ∷ next ∷ rows) → is_of_pair row next ≡ false
    → last_rows (row ∷ next ∷ rows) ≡ row ∷ last_rows (next ∷ rows)
last_rows-next row next rows up apart =
    let below : pair_cmp (row_pair row) (row_pair next) ≡ Less = less_is (pair_cmp (row_pair row) (row_pair next)) (int_cmp row.day next.day) up.0.0 apart in
    ap (λ b. cond b (last_rows (next ∷ rows)) (row ∷ last_rows (next ∷ rows)))
    (any_from_none (is_of_pair row) (next ∷ rows) (
      apart,
      all_from (λ other. is_of_pair row other ≡ false) rows (λ other has.
          let after : is_gt (pair_cmp (row_pair next) (row_pair other)) ≡ false =
          less_then (pair_cmp (row_pair next) (row_pair other)) (int_cmp next.day other.day) (ap is_gt (all_has (λ r. row_cmp next r ≡ Less) rows other up.1.0 has)) in
          ap is_eq (below_upto (row_pair row) (row_pair next) (row_pair other) below after)),
    ))
  where
    below_upto : (p q r : List ℕ × List ℕ) → pair_cmp p q ≡ Less → is_gt (pair_cmp q r) ≡ false → pair_cmp p r ≡ Less
    below_upto p q r below after = by (pair_cmp q r) refl after
      where
        by : (o : Ordering) → pair_cmp q r ≡ o → is_gt o ≡ false → pair_cmp p r ≡ Less
        by Less e not = pairs_total.trans p q r below e
        by Equal e not = sym (alike_right pairs_total q r p e) ∙ below
        by Greater e not = absurd (true≢false not)
