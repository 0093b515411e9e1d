-- The gains of the rows in a currency add up to the total of the sales there.
use Rattle.std.specs.Prelude.{◌≡◌, ◌≢◌, ℕ, suc, ◌+◌, ◌-◌, ℤ, pos, ◌+ℤ◌, Bool, true, false, not, cond, ◌||◌, if◌then◌else◌, List, [], ◌∷◌, ◌++◌, length, map, take, zip, filter, Option, None, Some, option_map}
use Rattle.std.specs.Cmp.{Equal-is}
use Rattle.std.specs.List.{AllByRecursion, list_any}
use Rattle.std.specs.Map.{keys_of, lookup}
use Rattle.std.specs.Option.{unwrap_or}
use Rattle.std.specs.Ordering.{is_eq}
use Rattle.std.specs.declared.cmp.Ordering.TheVariants.{Less}
use Rattle.std.proofs.Common.{refl, sym, ap, subst, ◌∙◌, arith}
use Rattle.std.proofs.Math.IntN.{+ℤ_idl, +ℤ_idr}
use Rattle.std.proofs.lemmas.Bool.{or_parts, true≢false}
use Rattle.std.proofs.lemmas.Cmp.{tied_itself}
use Rattle.std.proofs.lemmas.Int.{ints}
use Rattle.std.proofs.lemmas.List.{length-append, length-map, length-take-le}
use Rattle.std.proofs.lemmas.Map.Keys.{sorted_head, sorted_tail}
use Rattle.lot_num.specs.Sum.{sum_of}
use Rattle.lot_base.specs.Text.{same_text}
use Rattle.lot_base.proofs.TextLemmas.{one_text}
use Rattle.lot_cost.specs.declared.lot_key.LotKey.{LotKey}
use Rattle.lot_command.specs.declared.price.Price.{Price}
use Rattle.lot_command.specs.declared.price.Price.TheVariants as price
use Rattle.lot_book.specs.declared.gain.Gain.{Gain}
use Rattle.lot_book.specs.Currencies.{sum_in}
use Rattle.lot_book.specs.Gain.{currency_of, gain_at, gain_of, has_other_currency}
use Rattle.lot_book.specs.Sale.{AreLegsOf, SaleParts}
use Rattle.lot_book.proofs.SumLemmas.{sum_in-append, sum_in-cons, sum_where, sum_where-append, sum_where-cons}
use Rattle.lot_csv.specs.Shares.{AddUpTo, SoldLot, gain_in, lots_at, lots_in, lots_of, lots_priced, lots_unpriced, parts_of, shares_of}
use Rattle.lot_report.specs.Gains.{amounts_in, amounts_of, gained, gained_at}
use Rattle.lot_tally.specs.Lots.{CountedLot, RowKey, all_lots, counted, legs_of, sale_lots}
use Rattle.lot_tally.specs.Rows.{AreRows, is_in_row, lots_in_row, of_gain, row_cmp, sums_of}
use Rattle.lot_tally.specs.Table.{HasOwnLegs, gain_in_rows}
use Rattle.lot_tally.specs.declared.key.GainKey.{GainKey}
use Rattle.lot_tally.specs.declared.key.TableForm.{TableForm}
use Rattle.lot_tally.specs.declared.sums.RowSums.{RowSums}
use Rattle.lot_tally.proofs.RowLemmas.{exact_row, rows_total}

abbrev gain_of_lot : CountedLot → ℤ
gain_of_lot lot = of_gain (λ (g : Gain). g.gain) lot.gain

abbrev is_lot_in : List ℕ → CountedLot → Bool
is_lot_in currency lot = same_text currency lot.row.1

-- what the lots in a currency gained
abbrev gain_in_lots : List ℕ → List CountedLot → ℤ
gain_in_lots currency lots = sum_where (is_lot_in currency) gain_of_lot lots

-- ---- what passes a test, and what doesn't

module _ {X : Type 0} (q : X → Bool) where
  abbrev others : List X → List X
  others xs = filter (λ x. not (q x)) xs

  pub none_other : (xs : List X) → list_any q (others xs) ≡ false
  none_other [] = refl
  none_other (x ∷ xs) =
      elim (q x) as (λ b. q x ≡ b → list_any q (cond (not b) (x ∷ others xs) (others xs)) ≡ false) [
        | true ↦ λ e. none_other xs
        | false ↦ λ e. ap (λ b. b || list_any q (others xs)) e ∙ none_other xs
      ] refl

  -- another test, which none passes that passes the first
  pub same_others : (p : X → Bool) → ((x : X) → q x ≡ true → p x ≡ false) → (xs : List X) → filter p (others xs) ≡ filter p xs
  same_others p apart [] = refl
  same_others p apart (x ∷ xs) =
      elim (q x) as (λ b. q x ≡ b → filter p (cond (not b) (x ∷ others xs) (others xs)) ≡ cond (p x) (x ∷ filter p xs) (filter p xs)) [
        | true ↦ λ e. same_others p apart xs ∙ ap (λ b. cond b (x ∷ filter p xs) (filter p xs)) (sym (apart x e))
        | false ↦ λ e. ap (λ l. cond (p x) (x ∷ l) l) (same_others p apart xs)
      ] refl

  pub any_other : (p : X → Bool) → ((x : X) → q x ≡ true → p x ≡ false) → (xs : List X) → list_any p (others xs) ≡ list_any p xs
  any_other p apart [] = refl
  any_other p apart (x ∷ xs) =
      elim (q x) as (λ b. q x ≡ b → list_any p (cond (not b) (x ∷ others xs) (others xs)) ≡ (p x || list_any p xs)) [
        | true ↦ λ e. any_other p apart xs ∙ ap (λ b. b || list_any p xs) (sym (apart x e))
        | false ↦ λ e. ap (λ b. p x || b) (any_other p apart xs)
      ] refl

  -- a sum over both
  pub both_parts : (p : X → Bool) (f : X → ℤ) (xs : List X) → sum_where p f xs ≡ sum_where p f (filter q xs) +ℤ sum_where p f (others xs)
  both_parts p f [] = refl
  both_parts p f (x ∷ xs) =
      let first = sum_where p f (filter q xs) in
      let rest = sum_where p f (others xs) in
      elim (q x) as (λ b. sum_where p f (x ∷ xs) ≡ sum_where p f (cond b (x ∷ filter q xs) (filter q xs)) +ℤ sum_where p f (cond (not b) (x ∷ others xs) (others xs))) [
        | true ↦ sum_where-cons p f x xs ∙ ap (λ z. cond (p x) (f x +ℤ z) z) (both_parts p f xs) ∙ in_first (p x) (f x) first rest
            ∙ ap (λ z. z +ℤ rest) (sym (sum_where-cons p f x (filter q xs)))
        | false ↦ sum_where-cons p f x xs ∙ ap (λ z. cond (p x) (f x +ℤ z) z) (both_parts p f xs) ∙ in_rest (p x) (f x) first rest
            ∙ ap (λ z. first +ℤ z) (sym (sum_where-cons p f x (others xs)))
      ]
    where
      in_first : (b : Bool) (z a c : ℤ) → cond b (z +ℤ (a +ℤ c)) (a +ℤ c) ≡ cond b (z +ℤ a) a +ℤ c
      in_first true z a c = omega (arith, ints)
      in_first false z a c = refl

      in_rest : (b : Bool) (z a c : ℤ) → cond b (z +ℤ (a +ℤ c)) (a +ℤ c) ≡ a +ℤ cond b (z +ℤ c) c
      in_rest true z a c = omega (arith, ints)
      in_rest false z a c = refl

-- ---- rows

here_is : (row : RowKey) (lot : CountedLot) → is_in_row row lot ≡ true → row ≡ lot.row
here_is row lot here = exact_row row lot.row ((Equal-is (row_cmp row lot.row)).0 here)

own_row : (row : RowKey) → is_eq (row_cmp row row) ≡ true
own_row row = ap is_eq (tied_itself rows_total row)

-- the lots of a row are all in its currency
of_one_row : (currency : List ℕ) (row : RowKey) (lots : List CountedLot)
    → gain_in_lots currency (lots_in_row row lots) ≡ cond (same_text currency row.1) (sum_of (map gain_of_lot (lots_in_row row lots))) (pos 0)
of_one_row currency row [] = nothing (same_text currency row.1)
  where
    nothing : (b : Bool) → pos 0 ≡ cond b (pos 0) (pos 0)
    nothing true = refl
    nothing false = refl
of_one_row currency row (lot ∷ lots) =
    elim (is_in_row row lot) as (λ b. is_in_row row lot ≡ b
    → gain_in_lots currency (cond b (lot ∷ lots_in_row row lots) (lots_in_row row lots))
    ≡ cond (same_text currency row.1) (sum_of (map gain_of_lot (cond b (lot ∷ lots_in_row row lots) (lots_in_row row lots)))) (pos 0)) [
      | true ↦ λ e. sum_where-cons (is_lot_in currency) gain_of_lot lot (lots_in_row row lots)
          ∙ ap (λ (r : RowKey). cond (same_text currency r.1) (gain_of_lot lot +ℤ gain_in_lots currency (lots_in_row row lots)) (gain_in_lots currency (lots_in_row row lots)))
          (sym (here_is row lot e))
          ∙ ap (λ z. cond (same_text currency row.1) (gain_of_lot lot +ℤ z) z) (of_one_row currency row lots)
          ∙ once (same_text currency row.1) (gain_of_lot lot) (sum_of (map gain_of_lot (lots_in_row row lots)))
      | false ↦ λ e. of_one_row currency row lots
    ] refl
  where
    once : (b : Bool) (z s : ℤ) → cond b (z +ℤ cond b s (pos 0)) (cond b s (pos 0)) ≡ cond b (z +ℤ s) (pos 0)
    once true z s = refl
    once false z s = refl

not_among : (row : RowKey) (rows : List (RowKey × RowSums)) → AllByRecursion (λ y. row_cmp row y ≡ Less) (keys_of rows)
    → lookup (λ other. is_eq (row_cmp row other)) rows ≡ None
not_among row [] all = refl
not_among row (r ∷ rows) all =
    ap (λ o. cond (is_eq o) (Some r.1) (lookup (λ other. is_eq (row_cmp row other)) rows)) all.0 ∙ not_among row rows all.1

-- without the lots of the first row, the other rows are those of the lots
rows_behind : (lots : List CountedLot) (row : RowKey × RowSums) (rows : List (RowKey × RowSums)) → AreRows lots (row ∷ rows)
    → AreRows (others (is_in_row row.0) lots) rows
rows_behind lots row rows are = record {
  in_order = sorted_tail row_cmp row.0 (keys_of rows) are.in_order;
  each = λ key. by key (is_eq (row_cmp key row.0)) refl;
}
  where
    by : (key : RowKey) (b : Bool) → is_eq (row_cmp key row.0) ≡ b
        → lookup (λ other. is_eq (row_cmp key other)) rows
        ≡ (if list_any (is_in_row key) (others (is_in_row row.0) lots) then Some (sums_of (lots_in_row key (others (is_in_row row.0) lots))) else None)
    by key true e =
        let one : key ≡ row.0 = exact_row key row.0 ((Equal-is (row_cmp key row.0)).0 e) in
        subst (λ k. lookup (λ other. is_eq (row_cmp k other)) rows ≡ (if list_any (is_in_row k) (others (is_in_row row.0) lots) then Some (sums_of (lots_in_row k (others (is_in_row row.0) lots))) else None)) (sym one)
        (not_among row.0 rows (sorted_head row_cmp row.0 (keys_of rows) are.in_order)
        ∙ ap (λ b. if b then Some (sums_of (lots_in_row row.0 (others (is_in_row row.0) lots))) else None) (sym (none_other (is_in_row row.0) lots)))
    by key false e =
        let apart : (lot : CountedLot) → is_in_row row.0 lot ≡ true → is_in_row key lot ≡ false = λ lot here.
        elim (is_in_row key lot) as (λ b. is_in_row key lot ≡ b → b ≡ false) [
          | true ↦ λ own. absurd (true≢false (sym (own_row key) ∙ ap (λ r. is_eq (row_cmp key r)) (here_is key lot own ∙ sym (here_is row.0 lot here)) ∙ e))
          | false ↦ λ own. refl
        ] refl in
        ap (λ b. cond b (Some row.1) (lookup (λ other. is_eq (row_cmp key other)) rows)) (sym e)
        ∙ are.each key
        ∙ (λ i. if sym (any_other (is_in_row row.0) (is_in_row key) apart lots) i
        then Some (sums_of (sym (same_others (is_in_row row.0) (is_in_row key) apart lots) i)) else None)

-- the first row has the sums over its lots
first_sums : (lots : List CountedLot) (row : RowKey × RowSums) (rows : List (RowKey × RowSums)) → AreRows lots (row ∷ rows)
    → row.1 ≡ sums_of (lots_in_row row.0 lots)
first_sums lots row rows are =
    by (list_any (is_in_row row.0) lots)
    (ap (λ b. cond b (Some row.1) (lookup (λ other. is_eq (row_cmp row.0 other)) rows)) (sym (own_row row.0)) ∙ are.each row.0)
  where
    by : (b : Bool) → Some row.1 ≡ (if b then Some (sums_of (lots_in_row row.0 lots)) else None) → row.1 ≡ sums_of (lots_in_row row.0 lots)
    by true e = ap (λ o. unwrap_or o row.1) e
    by false e = cc

no_lots : (lots : List CountedLot) → AreRows lots [] → lots ≡ []
no_lots [] are = refl
no_lots (lot ∷ lots) are =
    let some : list_any (is_in_row lot.row) (lot ∷ lots) ≡ true = ap (λ b. b || list_any (is_in_row lot.row) lots) (own_row lot.row) in
    let never : None ≡ Some (sums_of (lots_in_row lot.row (lot ∷ lots))) =
    are.each lot.row ∙ ap (λ b. if b then Some (sums_of (lots_in_row lot.row (lot ∷ lots))) else None) some in
    cc never

pub rows_add_up : (currency : List ℕ) (lots : List CountedLot) (rows : List (RowKey × RowSums)) → AreRows lots rows
    → gain_in_rows currency rows ≡ gain_in_lots currency lots
rows_add_up currency lots [] are = ap (gain_in_lots currency) (sym (no_lots lots are))
rows_add_up currency lots (row ∷ rows) are =
    let left = others (is_in_row row.0) lots in
    let own = sum_of (map gain_of_lot (lots_in_row row.0 lots)) in
    let behind : gain_in_rows currency rows ≡ gain_in_lots currency left = rows_add_up currency left rows (rows_behind lots row rows are) in
    sum_where-cons (λ (r : RowKey × RowSums). same_text currency r.0.1) (λ (r : RowKey × RowSums). r.1.gain) row rows
    ∙ (λ i. cond (same_text currency row.0.1) ((first_sums lots row rows are i).gain +ℤ behind i) (behind i))
    ∙ apart (same_text currency row.0.1) own (gain_in_lots currency left)
    ∙ ap (λ z. z +ℤ gain_in_lots currency left) (sym (of_one_row currency row.0 lots))
    ∙ sym (both_parts (is_in_row row.0) (is_lot_in currency) gain_of_lot lots)
  where
    apart : (b : Bool) (z s : ℤ) → cond b (z +ℤ s) s ≡ cond b z (pos 0) +ℤ s
    apart true z s = refl
    apart false z s = sym (+ℤ_idl s)

-- ---- one sale

abbrev one_lot : List GainKey → TableForm → SaleParts → (LotKey × ℤ) × Option Gain → CountedLot
one_lot by form sale lot = counted by form sale lot

priced_legs : (by : List GainKey) (form : TableForm) (sale : SaleParts) (currency own : List ℕ) (legs : List (LotKey × ℤ)) (gains : List Gain)
    → has_other_currency own legs ≡ false → length gains ≡ length legs
    → gain_in_lots currency (map (counted by form sale) (zip legs (map Some gains)))
    ≡ cond (same_text currency own) (sum_of (map (λ (g : Gain). g.gain) gains)) (pos 0)
priced_legs by form sale currency own [] [] none same = nothing (same_text currency own)
  where
    nothing : (b : Bool) → pos 0 ≡ cond b (pos 0) (pos 0)
    nothing true = refl
    nothing false = refl
priced_legs by form sale currency own [] (gain ∷ gains) none same = absurd (omega (arith, same))
priced_legs by form sale currency own (leg ∷ legs) [] none same = absurd (omega (arith, same))
priced_legs by form sale currency own (leg ∷ legs) (gain ∷ gains) none same =
    let parts = or_parts (not (same_text own leg.0.currency)) (has_other_currency own legs) none in
    let lots = map (counted by form sale) (zip legs (map Some gains)) in
    let rest = sum_of (map (λ (g : Gain). g.gain) gains) in
    sum_where-cons (is_lot_in currency) gain_of_lot (counted by form sale (leg, Some gain)) lots
    ∙ ap (λ c. cond (same_text currency c) (gain.gain +ℤ gain_in_lots currency lots) (gain_in_lots currency lots))
    (sym (one_text own leg.0.currency (not_other (same_text own leg.0.currency) parts.0)))
    ∙ ap (λ z. cond (same_text currency own) (gain.gain +ℤ z) z) (priced_legs by form sale currency own legs gains parts.1 (omega (arith, same)))
    ∙ once (same_text currency own) gain.gain rest
  where
    not_other : (b : Bool) → not b ≡ false → b ≡ true
    not_other true e = refl
    not_other false e = absurd (true≢false e)

    once : (b : Bool) (z s : ℤ) → cond b (z +ℤ cond b s (pos 0)) (cond b s (pos 0)) ≡ cond b (z +ℤ s) (pos 0)
    once true z s = refl
    once false z s = refl

unpriced_legs : (by : List GainKey) (form : TableForm) (sale : SaleParts) (currency : List ℕ) (units : ℤ) (legs : List (LotKey × ℤ))
    → gain_in_lots currency (map (counted by form sale) (zip legs (map (gain_in units) (lots_unpriced legs)))) ≡ pos 0
unpriced_legs by form sale currency units [] = refl
unpriced_legs by form sale currency units (leg ∷ legs) =
    let lots = map (counted by form sale) (zip legs (map (gain_in units) (lots_unpriced legs))) in
    sum_where-cons (is_lot_in currency) gain_of_lot (counted by form sale (leg, None)) lots
    ∙ ap (λ z. cond (same_text currency leg.0.currency) (pos 0 +ℤ z) z) (unpriced_legs by form sale currency units legs)
    ∙ nothing (same_text currency leg.0.currency)
  where
    nothing : (b : Bool) → cond b (pos 0 +ℤ pos 0) (pos 0) ≡ pos 0
    nothing true = refl
    nothing false = refl

-- there are as many lots as legs
some_legs : (legs : List (LotKey × ℤ)) (units : ℤ) → AreLegsOf units legs → (first : LotKey × ℤ) × (more : List (LotKey × ℤ)) × (legs ≡ first ∷ more)
some_legs [] units are = absurd (are.some (sym are.sum))
some_legs (first ∷ more) units are = (first, more, refl)

as_many_shares : (total units : ℤ) (first : LotKey × ℤ) (more : List (LotKey × ℤ)) → length (shares_of total units (first ∷ more)) ≡ length (first ∷ more)
as_many_shares total units first more =
    length-append (parts_of total units (take (length (first ∷ more) - 1) (first ∷ more))) _
    ∙ ap (λ n. n + 1) (length-map (take (length (first ∷ more) - 1) (first ∷ more)) _ ∙ length-take-le (length (first ∷ more) - 1) (first ∷ more) (omega arith))
    ∙ omega arith

as_many_zipped : {X Y : Type 0} (xs : List X) (ys : List Y) → length ys ≡ length xs → length (zip xs ys) ≡ length xs
as_many_zipped [] ys same = refl
as_many_zipped (x ∷ xs) [] same = absurd (omega (arith, same))
as_many_zipped (x ∷ xs) (y ∷ ys) same = ap suc (as_many_zipped xs ys (omega (arith, same)))

as_many_at : (p : Price) (sale : SaleParts) → AreLegsOf sale.units sale.legs → length (lots_at p sale) ≡ length sale.legs
as_many_at (price.Each each) sale are = length-map sale.legs _
as_many_at (price.Whole whole) sale are =
    let (first, more, is) = some_legs sale.legs sale.units are in
    length-map (zip sale.legs (shares_of whole.0 sale.units sale.legs)) _
    ∙ as_many_zipped sale.legs (shares_of whole.0 sale.units sale.legs)
    (subst (λ legs. length (shares_of whole.0 sale.units legs) ≡ length legs) (sym is) (as_many_shares whole.0 sale.units first more))

-- that the gains of the lots of a priced sale add up to its own
abbrev pub GainsAddUp : Type 0
GainsAddUp =
    (sale : SaleParts) (gain : Gain) → AreLegsOf sale.units sale.legs → gain_of sale ≡ Some gain
    → (gains : List Gain) × (map (gain_in sale.units) (lots_of sale) ≡ map Some gains) × AddUpTo gains gain

module _ (law : GainsAddUp) (by : List GainKey) (form : TableForm) (currency : List ℕ) where
  priced_one : (sale : SaleParts) (p : Price) (gain : Gain) → AreLegsOf sale.units sale.legs → sale.price ≡ Some p → gain_of sale ≡ Some gain
      → gain_in_lots currency (sale_lots by form sale) ≡ sum_in ((currency_of p, gain.gain) ∷ []) currency
  priced_one sale p gain are at is =
      let (gains, all, add) = law sale gain are is in
      let own = currency_of p in
      let lots : lots_of sale ≡ lots_at p sale = ap (λ g. lots_in g sale) is ∙ ap (λ q. lots_priced q sale) at in
      let other : has_other_currency own sale.legs ≡ false = no_other (has_other_currency own sale.legs) _ (ap (λ q. gain_at q sale) (sym at) ∙ is) in
      let many : length gains ≡ length sale.legs =
      sym (length-map gains Some) ∙ ap length (sym all) ∙ length-map (lots_of sale) (gain_in sale.units) ∙ ap length lots ∙ as_many_at p sale are in
      ap (λ gs. gain_in_lots currency (map (counted by form sale) (zip sale.legs gs))) all
      ∙ priced_legs by form sale currency own sale.legs gains other many
      ∙ ap (λ z. cond (same_text currency own) z (pos 0)) (add.gain ∙ sym (+ℤ_idr gain.gain))
      ∙ sym (sum_in-cons (own, gain.gain) [] currency)
    where
      no_other : (b : Bool) (found : Gain) → (if b then None else Some found) ≡ Some gain → b ≡ false
      no_other true found e = cc
      no_other false found e = refl

  one_at : (p : Option Price) (sale : SaleParts) (found : Option Gain) → AreLegsOf sale.units sale.legs → sale.price ≡ p → gain_of sale ≡ found
      → gain_in_lots currency (sale_lots by form sale) ≡ sum_in (amounts_in (gained_at p sale)) currency
  one_at None sale found are at is =
      ap (λ g. gain_in_lots currency (map (counted by form sale) (zip sale.legs (map (gain_in sale.units) (lots_in g sale))))) (ap (λ q. gain_at q sale) at)
      ∙ unpriced_legs by form sale currency sale.units sale.legs
  one_at (Some p) sale None are at is =
      ap (λ g. gain_in_lots currency (map (counted by form sale) (zip sale.legs (map (gain_in sale.units) (lots_in g sale))))) is
      ∙ unpriced_legs by form sale currency sale.units sale.legs
      ∙ ap (λ (g : Option Gain). sum_in (amounts_in (option_map (λ (x : Gain). (currency_of p, x)) g)) currency) (sym is)
  one_at (Some p) sale (Some gain) are at is =
      priced_one sale p gain are at is
      ∙ ap (λ (g : Option Gain). sum_in (amounts_in (option_map (λ (x : Gain). (currency_of p, x)) g)) currency) (sym is)

  -- ---- all sales

  pub lots_add_up : (sales : List SaleParts) → AllByRecursion HasOwnLegs sales
      → gain_in_lots currency (all_lots by form sales) ≡ sum_in (amounts_of sales) currency
  lots_add_up [] all = refl
  lots_add_up (sale ∷ sales) all =
      sum_where-append (is_lot_in currency) gain_of_lot (sale_lots by form sale) (all_lots by form sales)
      ∙ (λ i. one_at sale.price sale (gain_of sale) all.0 refl refl i +ℤ lots_add_up sales all.1 i)
      ∙ sym (sum_in-append (amounts_in (gained sale)) (amounts_of sales) currency)

pub total_of_rows : GainsAddUp → (by : List GainKey) (form : TableForm) (sales : List SaleParts) (rows : List (RowKey × RowSums)) (currency : List ℕ)
    → AllByRecursion HasOwnLegs sales → AreRows (all_lots by form sales) rows → gain_in_rows currency rows ≡ sum_in (amounts_of sales) currency
total_of_rows law by form sales rows currency own are =
    rows_add_up currency (all_lots by form sales) rows are ∙ lots_add_up law by form currency sales own
