-- The prices of a book at a day, as they are kept: by base, then by quote.
use Rattle.std.specs.Prelude.{◌≡◌, ℕ, ℤ, Bool, true, false, cond, ◌&&◌, filter, List, [], ◌∷◌, ◌++◌, map, Option, None, Some, Ok, option_and_then}
use Rattle.std.specs.BTreeMap.{BTreeMap, get, is_at}
use Rattle.std.specs.List.{AllByRecursion, list_any}
use Rattle.std.specs.Map.{lookup}
use Rattle.std.specs.Ordering.{is_eq}
use Rattle.std.proofs.Common.{refl, sym, ap, ◌∙◌, subst, inl, inr}
use Rattle.std.proofs.lemmas.Bool.{cases_Bool, true≢false}
use Rattle.sqlite.specs.Store.{Ghosts}
use Rattle.sqlite.specs.Tree.{IsAscending}
use Rattle.sqlite_keyed.proofs.ListLemmas.{ascending-map, none_from_any}
use Rattle.sqlite_rules.proofs.ListLemmas.{all_from, all_has}
use Rattle.lot_base.specs.Text.{same_text, text_cmp}
use Rattle.lot_base.proofs.TextLemmas.{one_text, same_text-ordered, same_text-turned}
use Rattle.lot_book.specs.declared.holding.Holding.{Holding}
use Rattle.lot_cost.specs.declared.lot_key.LotKey.{LotKey}
use Rattle.lot_cost.proofs.OrderLemmas.{eq_then}
use Rattle.lot_report.specs.declared.holdings.ValuedHolding.{ValuedHolding}
use Rattle.lot_report.specs.declared.lot.Valuation.{Valuation}
use Rattle.lot_rows.specs.declared.price.PriceRow.{PriceRow}
use Rattle.lot_book_report.proofs.GivenLemmas.{Gave, gave_all_rows}
use Rattle.lot_book_report.specs.Holdings.{KeepsPrices, KeepsRowPrices, at_price, kept, listed, rate_in, valuation_at, valued_by, valued_with}
use Rattle.lot_book_report.specs.Show.{HoldsOfBook, HoldsOfTables}
use Rattle.lot_book_report.specs.declared.prices.DayPrices.{DayPrices}
use Rattle.lot_walk.proofs.LastLemmas.{last_rows-of, own_pair, same_pair}
use Rattle.lot_walk.proofs.PriceLemmas.{prices_at_day}
use Rattle.lot_walk.specs.Prices.{AreAllPriceRows, ArePricesAt, IsAnyPrice, IsBehindPriceRows, IsBehindPrices, is_by, is_of_pair, last_rows, pair_cmp, pair_of, price_in, price_of, prices_by, shown_price}
use Rattle.lot_store.specs.Walk.{Walks, WalksOverRows}
use Rattle.lot_store.specs.declared.book.Book.{Book}
use Rattle.lot_walk.specs.declared.price.PairPrice.{PairPrice}
use Rattle.lot_store.specs.declared.walk.Walk.{Walk}
use Rattle.lot_walk.specs.declared.prices.PricesPlace.{PricesPlace}
use Rattle.lot_view.proofs.ViewLemmas.{Sets, sets-seen}

-- ---- one price more, in rows

-- no price is of the pair of another
abbrev pub AreApart : List PairPrice → Type 0
AreApart = IsAscending (λ a b. is_eq (pair_cmp (pair_of a) (pair_of b)) ≡ false)

-- the last rows of their pairs are of different pairs
last_rows_apart : (rows : List PriceRow) → IsAscending (λ a b. is_of_pair a b ≡ false) (last_rows rows)
last_rows_apart [] = tt
last_rows_apart (first ∷ rows) =
    elim (cases_Bool (list_any (is_of_pair first) rows)) [
      | inl others ↦ subst (λ b. IsAscending (λ a b. is_of_pair a b ≡ false) (cond b (last_rows rows) (first ∷ last_rows rows))) (sym others) (last_rows_apart rows)
      | inr none ↦
          subst (λ b. IsAscending (λ a b. is_of_pair a b ≡ false) (cond b (last_rows rows) (first ∷ last_rows rows))) (sym none) (
            all_from (λ row. is_of_pair first row ≡ false) (last_rows rows)
                (λ row has. all_has (λ other. is_of_pair first other ≡ false) rows row (none_from_any (is_of_pair first) rows none) (last_rows-of rows row has)),
            last_rows_apart rows,
          )
    ]

prices_apart : (day : ℤ) (rows : List PriceRow) → AreApart (prices_by day rows)
prices_apart day rows =
    ascending-map (λ (a b : PairPrice). is_eq (pair_cmp (pair_of a) (pair_of b)) ≡ false) price_of (last_rows (filter (is_by day) rows))
    (last_rows_apart (filter (is_by day) rows))

-- those before the last of all
all_before : {X : Type 0} (P : X → Type 0) (xs : List X) (x : X) → AllByRecursion P (xs ++ x ∷ []) → AllByRecursion P xs × P x
all_before P [] x all = (tt, all.0)
all_before P (first ∷ xs) x all = let (before, last) = all_before P xs x all.1 in ((all.0, before), last)

apart_before : (given : List PairPrice) (row : PairPrice) → AreApart (given ++ row ∷ []) → AreApart given
apart_before [] row apart = tt
apart_before (first ∷ given) row apart =
    ((all_before (λ p. is_eq (pair_cmp (pair_of first) (pair_of p)) ≡ false) given row apart.0).0, apart_before given row apart.1)

-- two rows that aren't of one pair are found in either order
either_first : {X : Type 0} (a b : Bool) (x y z : X) → (a ≡ true → b ≡ true → ⊥) → cond a x (cond b y z) ≡ cond b y (cond a x z)
either_first true true x y z apart = absurd (apart refl refl)
either_first true false x y z apart = refl
either_first false true x y z apart = refl
either_first false false x y z apart = refl

never_both : (pair : List ℕ × List ℕ) (first row : PairPrice) → is_eq (pair_cmp (pair_of first) (pair_of row)) ≡ false
    → is_eq (pair_cmp pair (pair_of first)) ≡ true → is_eq (pair_cmp pair (pair_of row)) ≡ true → ⊥
never_both pair first row differ one other =
    let e : pair_of first ≡ pair_of row = sym (same_pair pair (pair_of first) one) ∙ same_pair pair (pair_of row) other in
    true≢false (sym (own_pair (pair_of first)) ∙ ap (λ p. is_eq (pair_cmp (pair_of first) p)) e ∙ differ)

listed_more : (given : List PairPrice) (row : PairPrice) → AreApart (given ++ row ∷ []) → (pair : List ℕ × List ℕ)
    → price_in (given ++ row ∷ []) pair ≡ cond (is_eq (pair_cmp pair (pair_of row))) (Some row.rate) (price_in given pair)
listed_more [] row apart pair = refl
listed_more (first ∷ given) row apart pair =
    ap (λ (found : Option ℕ). cond (is_eq (pair_cmp pair (pair_of first))) (Some first.rate) found) (listed_more given row apart.1 pair)
    ∙ either_first (is_eq (pair_cmp pair (pair_of first))) (is_eq (pair_cmp pair (pair_of row))) (Some first.rate) (Some row.rate) (price_in given pair)
    (never_both pair first row (all_before (λ p. is_eq (pair_cmp (pair_of first) (pair_of p)) ≡ false) given row apart.0).1)

same_order : (s t : List ℕ) → is_eq (text_cmp s t) ≡ same_text s t
same_order s t = same_text-ordered s t ∙ same_text-turned s t (same_text s t) refl

of_texts : (base quote : List ℕ) (row : PairPrice) → is_eq (pair_cmp (base, quote) (pair_of row)) ≡ (same_text base row.base && same_text quote row.quote)
of_texts base quote row =
    eq_then (text_cmp base row.base) (text_cmp quote row.quote)
    ∙ (λ i. same_order base row.base i && same_order quote row.quote i)

-- ---- one price more, in the maps

-- the rate of a quote among those of a base, where there are some
abbrev pub rate_at : Option (BTreeMap (List ℕ) ℕ) → List ℕ → Option ℕ
rate_at quotes quote = option_and_then (λ rates. get text_cmp rates quote) quotes

pub rate_set : (old new : BTreeMap (List ℕ) (BTreeMap (List ℕ) ℕ)) (base quote : List ℕ) (rate : ℕ)
    (quotes : BTreeMap (List ℕ) ℕ) (at : Option (BTreeMap (List ℕ) ℕ))
    → at ≡ get text_cmp old base
    → ((what : List ℕ) → get text_cmp quotes what ≡ cond (is_eq (text_cmp quote what)) (Some rate) (rate_at at what))
    → Sets old new base quotes
    → (other what : List ℕ)
    → rate_in new other what ≡ cond (same_text other base && same_text what quote) (Some rate) (rate_in old other what)
rate_set old new base quote rate quotes at is sets changes other what =
    ap (λ o. rate_at o what) (sets-seen old new base quotes changes other) ∙ by (same_text other base) refl
  where
    by : (b : Bool) → same_text other base ≡ b
        → rate_at (cond b (Some quotes) (get text_cmp old other)) what
        ≡ cond (b && same_text what quote) (Some rate) (rate_in old other what)
    by true e =
        sets what
        ∙ ap (λ b. cond b (Some rate) (rate_at at what)) (same_text-ordered quote what)
        ∙ ap (λ o. cond (same_text what quote) (Some rate) (rate_at o what))
        (is ∙ ap (get text_cmp old) (sym (one_text other base e)))
    by false e = refl

pub quotes_new : (old new : BTreeMap (List ℕ) ℕ) (quote : List ℕ) (rate : ℕ) → old.entries ≡ [] → Sets old new quote rate
    → (what : List ℕ) → get text_cmp new what ≡ cond (is_eq (text_cmp quote what)) (Some rate) (rate_at None what)
quotes_new old new quote rate nothing sets what =
    sets what ∙ ap (λ rows. cond (is_eq (text_cmp quote what)) (Some rate) (lookup (is_at (text_cmp what)) rows)) nothing

-- ---- the walk

module _ {S : Type 0} (g : Ghosts S) (book : Book S g) (day : ℤ) where
  -- the prices that a walk has given are kept, and no other
  pub record HasKept (walk : Walk S PricesPlace g) (rates : BTreeMap (List ℕ) (BTreeMap (List ℕ) ℕ)) : Type 0 where
    pub given : List PairPrice
    pub gave : Gave g ArePricesAt IsBehindPrices IsBehindPriceRows book day walk given
    pub same : AreApart given → (base quote : List ℕ) → rate_in rates base quote ≡ listed given base quote

  pub kept_none : (walk : Walk S PricesPlace g) (rates : BTreeMap (List ℕ) (BTreeMap (List ℕ) ℕ)) → rates.entries ≡ []
      → Gave g ArePricesAt IsBehindPrices IsBehindPriceRows book day walk [] → HasKept walk rates
  kept_none walk rates nothing gave = record {
    given = [];
    gave = gave;
    same = λ apart base quote. ap (λ rows. rate_at (lookup (is_at (text_cmp base)) rows) quote) nothing;
  }

  pub kept_more : (before after : Walk S PricesPlace g) (old new : BTreeMap (List ℕ) (BTreeMap (List ℕ) ℕ)) (price : PairPrice)
      → (has : HasKept before old) → Gave g ArePricesAt IsBehindPrices IsBehindPriceRows book day after (has.given ++ price ∷ [])
      → ((base quote : List ℕ) → rate_in new base quote ≡ cond (same_text base price.base && same_text quote price.quote) (Some price.rate) (rate_in old base quote))
      → HasKept after new
  kept_more before after old new price has gave sets = record {
    given = has.given ++ price ∷ [];
    gave = gave;
    same = λ apart base quote.
        sets base quote
        ∙ ap (λ (found : Option ℕ). cond (same_text base price.base && same_text quote price.quote) (Some price.rate) found)
        (has.same (apart_before has.given price apart) base quote)
        ∙ ap (λ (b : Bool). cond b (Some price.rate) (listed has.given base quote)) (sym (of_texts base quote price))
        ∙ sym (listed_more has.given price apart (base, quote));
  }

  -- at its end those of the rows of the table are, all of them
  pub rows_kept : (before after : Walk S PricesPlace g) (prices : DayPrices) → (has : HasKept before prices.rates)
      → Walks g shown_price IsAnyPrice ArePricesAt IsBehindPrices before after (Ok None)
      → WalksOverRows g shown_price AreAllPriceRows IsBehindPriceRows before after (Ok None)
      → HoldsOfTables g book after.book.now (λ tables. KeepsRowPrices tables day prices)
  rows_kept before after prices has walks rows = record {
    holds = λ clean tables stand base quote.
        let all : has.given ≡ prices_by day tables.price = gave_all_rows has.gave walks rows clean tables stand in
        has.same (subst AreApart (sym all) (prices_apart day tables.price)) base quote ∙ ap (λ (given : List PairPrice). listed given base quote) all;
  }

-- where the tables stand for a book its prices are those of their rows
pub of_rows : {S : Type 0} (g : Ghosts S) (old new : Book S g) (day : ℤ) (prices : DayPrices) → HoldsOfTables g old new (λ tables. KeepsRowPrices tables day prices)
    → HoldsOfBook g old new (λ entries. KeepsPrices entries day prices)
of_rows g old new day prices keeps = record {
  holds = λ clean entries stands.
      (prices_by day stands.tables.price, prices_at_day stands.tables entries day stands.stand, keeps.holds clean stands.tables stands.has);
}

-- ---- values

same_valuation : (a b : List ℕ → List ℕ → Option ℕ) → ((base quote : List ℕ) → a base quote ≡ b base quote)
    → (commodity : List ℕ) (lot : Option LotKey) → valuation_at a commodity lot ≡ valuation_at b commodity lot
same_valuation a b same commodity None = refl
same_valuation a b same commodity (Some lot) = ap at_price (same commodity lot.currency)

same_valued : (prices : DayPrices) (rows : List PairPrice) → ((base quote : List ℕ) → kept prices base quote ≡ listed rows base quote)
    → (holding : Holding) → valued_with (Some prices) holding ≡ valued_by (Some rows) holding
same_valued prices rows same holding =
    let valuation : valuation_at (kept prices) holding.commodity holding.lot ≡ valuation_at (listed rows) holding.commodity holding.lot =
    same_valuation (kept prices) (listed rows) same holding.commodity holding.lot in
    ap (λ (v : Valuation). let row : ValuedHolding = record { holding = holding; valuation = v } in row) valuation

pub all_valued : (prices : DayPrices) (rows : List PairPrice) → ((base quote : List ℕ) → kept prices base quote ≡ listed rows base quote)
    → (holdings : List Holding) → map (valued_with (Some prices)) holdings ≡ map (valued_by (Some rows)) holdings
all_valued prices rows same [] = refl
all_valued prices rows same (holding ∷ holdings) = λ i. same_valued prices rows same holding i ∷ all_valued prices rows same holdings i

pub none_valued : (holdings : List Holding) → map (valued_with None) holdings ≡ map (valued_by None) holdings
none_valued [] = refl
none_valued (holding ∷ holdings) = ap (λ (rows : List ValuedHolding). valued_by None holding ∷ rows) (none_valued holdings)
