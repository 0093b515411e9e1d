-- What setting and adding units at a position does to the map, and to the lots of a commodity: their list, their number and
-- their sums. Crates above cite these lemmas.
use Rattle.std.specs.Prelude.{◌≡◌, ◌≢◌, ℕ, ◌+◌, Bool, true, false, cond, not, T, List, [], ◌∷◌, length, map, Option, None, Some, is_some, ℤ, pos, ◌+ℤ◌, ◌*ℤ◌, neg_ℤ}
use Rattle.std.specs.declared.cmp.Ordering.TheVariants.{Less, Greater}
use Rattle.std.specs.Cmp.{alike_right, eq_by_cmp_equiv, tied_itself}
use Rattle.std.specs.FinMap.{empty, get, get-empty, insert, remove, get-insert, get-remove, same_map}
use Rattle.std.specs.FinMap.Entries.{find, is_sorted, where_key, is_sorted-where_key, find-where_key, length_without, same_entries}
use Rattle.std.specs.List.{AllByRecursion}
use Rattle.std.specs.List.Sorted.{IsStrictlySortedBy}
use Rattle.std.specs.Map.{keys_of, values_of}
use Rattle.std.specs.Option.{unwrap_or}
use Rattle.std.specs.Ordering.{eq_by_cmp, int_eq, is_eq, ordering_then}
use Rattle.std.proofs.Common.{refl, sym, ap, subst, ◌∙◌, arith}
use Rattle.std.proofs.Math.IntN.{+ℤ_assoc, +ℤ_comm, +ℤ_idl, +ℤ_idr, +ℤ_one, -ℤ_one, suc_ℤ-+ℤ, pred_ℤ-+ℤ, suc_ℤ-*ℤ, pred_ℤ-*ℤ, zero-*ℤ, *ℤ-one, ℤ_ind, one}
use Rattle.std.proofs.lemmas.Cmp.{nat_list_cmp_total}
use Rattle.std.proofs.lemmas.Int.{ints}
use Rattle.lot_base.proofs.MapLemmas.{found_by_order, in_order, none_below, one_map}
use Rattle.lot_base.specs.Text.{text_cmp}
use Rattle.lot_num.specs.Sum.{sum_of}
use Rattle.lot_cost.specs.declared.lot_key.LotKey.{LotKey}
use Rattle.lot_inv.specs.Inventory.{Held, Position, position_cmp, added, lots_of, non_zero, sum, units_at, with_units}
use Rattle.lot_cost.specs.LotKey.{lot_cmp}
use Rattle.lot_cost.proofs.OrderLemmas.{eq_then, is_equal}
use Rattle.lot_inv.proofs.InventoryLemmas.{never_less}
use Rattle.lot_inv.proofs.LawLemmas.{lots_of-get, sorted_lots_of}
use Rattle.lot_cost.proofs.OrderLemmas.{exact_lots, lots_total}
use Rattle.lot_inv.proofs.OrderLemmas.{exact_positions, positions_total}

-- ---- positions

pub get-with_units : (held : Held) (position : Position) (units : ℤ) (other : Position)
    → get (with_units held position units) other ≡ cond (eq_by_cmp position_cmp other position) (non_zero units) (get held other)
get-with_units held position units other =
    elim (int_eq units (pos 0)) as (λ b. get (cond b (remove held position) (insert held position units)) other
    ≡ cond (eq_by_cmp position_cmp other position) (cond b None (Some units)) (get held other)) [
      | true ↦ get-remove positions_total held position other
      | false ↦ get-insert positions_total held position units other
    ]

pub get-with_units_here : (held : Held) (position : Position) (units : ℤ) → get (with_units held position units) position ≡ non_zero units
get-with_units_here held position units =
    get-with_units held position units position
    ∙ ap (λ o. cond (is_eq o) (non_zero units) (get held position)) (tied_itself positions_total position)

pub get-with_units_apart : (held : Held) (position : Position) (units : ℤ) (other : Position) → other ≢ position
    → get (with_units held position units) other ≡ get held other
get-with_units_apart held position units other apart =
    get-with_units held position units other
    ∙ elim (eq_by_cmp position_cmp other position) as (λ b. eq_by_cmp position_cmp other position ≡ b → cond b (non_zero units) (get held other) ≡ get held other) [
      | true ↦ λ e. absurd (apart (exact_positions other position (is_equal (position_cmp other position) e)))
      | false ↦ λ e. refl
    ] refl

-- inventories that have the same at each position are one
pub same_held : (a b : Held) → ((position : Position) → get a position ≡ get b position) → a ≡ b
same_held a b alike = same_map positions_total exact_positions a b alike

-- ---- the lots of a commodity

-- inventories that have the same under each key of a commodity have the same lots of it
pub same_lots : (a b : Held) (commodity : List ℕ) → ((key : LotKey) → get a (commodity, Some key) ≡ get b (commodity, Some key)) → lots_of a commodity ≡ lots_of b commodity
same_lots a b commodity alike =
    one_map lot_cmp lots_total exact_lots (lots_of a commodity) (lots_of b commodity) (sorted_lots_of a commodity) (sorted_lots_of b commodity)
    (λ key. lots_of-get a commodity key ∙ alike key ∙ sym (lots_of-get b commodity key))

-- an empty inventory has none
pub lots_of-empty : (commodity : List ℕ) → lots_of empty commodity ≡ []
unfolding IsStrictlySortedBy
lots_of-empty commodity =
    one_map lot_cmp lots_total exact_lots (lots_of empty commodity) [] (sorted_lots_of empty commodity) tt
    (λ key. lots_of-get empty commodity key ∙ get-empty position_cmp (commodity, Some key))

-- plain units don't touch the lots
pub lots_of-plain : (held : Held) (other : List ℕ) (units : ℤ) (commodity : List ℕ) → lots_of (with_units held (other, None) units) commodity ≡ lots_of held commodity
lots_of-plain held other units commodity =
    same_lots (with_units held (other, None) units) held commodity (λ key.
    let o = text_cmp commodity other in
    get-with_units held (other, None) units (commodity, Some key)
    ∙ ap (λ b. cond b (non_zero units) (get held (commodity, Some key))) (eq_then o Greater ∙ never_less (is_eq o)))

-- nor does another commodity
pub lots_of-other : (held : Held) (other : List ℕ) (key : Option LotKey) (units : ℤ) (commodity : List ℕ) → other ≢ commodity
    → lots_of (with_units held (other, key) units) commodity ≡ lots_of held commodity
lots_of-other held other key units commodity apart =
    same_lots (with_units held (other, key) units) held commodity (λ lot.
    get-with_units_apart held (other, key) units (commodity, Some lot) (λ e. apart (sym (ap (λ (p : Position). p.0) e))))

-- what the list of lots has under a key
pub find-lots_of : (held : Held) (commodity : List ℕ) (key : LotKey) → find lot_cmp key (lots_of held commodity) ≡ get held (commodity, Some key)
find-lots_of held commodity key = found_by_order lot_cmp key (lots_of held commodity) ∙ lots_of-get held commodity key

lots_in_order : (held : Held) (commodity : List ℕ) → T (is_sorted lot_cmp (lots_of held commodity))
lots_in_order held commodity = in_order lot_cmp (lots_of held commodity) (sorted_lots_of held commodity)

-- the lots but the one of that key
abbrev pub other_lots : LotKey → List (LotKey × ℤ) → List (LotKey × ℤ)
other_lots key lots = where_key lot_cmp (λ other. not (eq_by_cmp lot_cmp key other)) lots

find-other_lots : (key other : LotKey) (lots : List (LotKey × ℤ))
    → find lot_cmp other (other_lots key lots) ≡ cond (not (eq_by_cmp lot_cmp key other)) (find lot_cmp other lots) None
find-other_lots key other lots =
    find-where_key lot_cmp (λ k. not (eq_by_cmp lot_cmp key k)) other (λ k tied. ap (λ o. not (is_eq o)) (sym (alike_right lots_total other k key tied))) lots

pub lot_position : (commodity : List ℕ) (other key : LotKey) → eq_by_cmp position_cmp (commodity, Some other) (commodity, Some key) ≡ eq_by_cmp lot_cmp other key
lot_position commodity other key = ap (λ o. is_eq (ordering_then o (lot_cmp other key))) (tied_itself nat_list_cmp_total commodity)

-- setting one lot leaves the other ones
pub other_lots-set : (held : Held) (commodity : List ℕ) (key : LotKey) (units : ℤ)
    → other_lots key (lots_of (with_units held (commodity, Some key) units) commodity) ≡ other_lots key (lots_of held commodity)
other_lots-set held commodity key units =
    let now = with_units held (commodity, Some key) units in
    let test = λ (other : LotKey). not (eq_by_cmp lot_cmp key other) in
    same_entries lot_cmp lots_total exact_lots (other_lots key (lots_of now commodity)) (other_lots key (lots_of held commodity))
    (is_sorted-where_key lot_cmp test (lots_of now commodity) (lots_in_order now commodity))
    (is_sorted-where_key lot_cmp test (lots_of held commodity) (lots_in_order held commodity))
    (λ other.
    find-other_lots key other (lots_of now commodity)
    ∙ ap (λ found. cond (test other) found None) (find-lots_of now commodity other
    ∙ get-with_units held (commodity, Some key) units (commodity, Some other)
    ∙ ap (λ b. cond b (non_zero units) (get held (commodity, Some other))) (lot_position commodity other key ∙ (eq_by_cmp_equiv lots_total).symm other key))
    ∙ elim (eq_by_cmp lot_cmp key other) as (λ b. cond (not b) (cond b (non_zero units) (get held (commodity, Some other))) None ≡ cond (not b) (get held (commodity, Some other)) None) [
      | true ↦ refl
      | false ↦ refl
    ]
    ∙ ap (λ found. cond (test other) found None) (sym (find-lots_of held commodity other))
    ∙ sym (find-other_lots key other (lots_of held commodity)))

-- ---- how many lots

-- one, where there is something
abbrev pub one_if : Bool → ℕ
one_if b = cond b 1 0

length-parts : (held : Held) (commodity : List ℕ) (key : LotKey)
    → one_if (is_some (get held (commodity, Some key))) + length (other_lots key (lots_of held commodity)) ≡ length (lots_of held commodity)
length-parts held commodity key =
    ap (λ found. one_if (is_some found) + length (other_lots key (lots_of held commodity))) (sym (find-lots_of held commodity key))
    ∙ length_without lot_cmp lots_total key (lots_of held commodity) (lots_in_order held commodity)

is_some-non_zero : (units : ℤ) → is_some (non_zero units) ≡ not (int_eq units (pos 0))
is_some-non_zero units = elim (int_eq units (pos 0)) as (λ b. is_some (cond b None (Some units)) ≡ not b) [ true ↦ refl | false ↦ refl ]

two_lengths : (a b n m o : ℕ) → a + o ≡ n → b + o ≡ m → n + b ≡ m + a
two_lengths a b n m o first second = omega (arith, first, second)

pub length-set : (held : Held) (commodity : List ℕ) (key : LotKey) (units : ℤ)
    → length (lots_of (with_units held (commodity, Some key) units) commodity) + one_if (is_some (get held (commodity, Some key)))
    ≡ length (lots_of held commodity) + one_if (not (int_eq units (pos 0)))
length-set held commodity key units =
    let now = with_units held (commodity, Some key) units in
    let others = length (other_lots key (lots_of held commodity)) in
    let set : one_if (not (int_eq units (pos 0))) + others ≡ length (lots_of now commodity) =
    ap (λ b. one_if b + others) (sym (ap is_some (get-with_units_here held (commodity, Some key) units) ∙ is_some-non_zero units))
    ∙ ap (λ lots. one_if (is_some (get now (commodity, Some key))) + length lots) (sym (other_lots-set held commodity key units))
    ∙ length-parts now commodity key in
    two_lengths (one_if (not (int_eq units (pos 0)))) (one_if (is_some (get held (commodity, Some key)))) (length (lots_of now commodity)) (length (lots_of held commodity)) others
    set (length-parts held commodity key)

-- ---- sums over the lots

+ℤ_later : (a b c : ℤ) → (a +ℤ b) +ℤ c ≡ (a +ℤ c) +ℤ b
+ℤ_later a b c = +ℤ_assoc a b c ∙ ap (λ z. a +ℤ z) (+ℤ_comm b c) ∙ sym (+ℤ_assoc a c b)

-- a product of a sum
+ℤ-*ℤ : (a b c : ℤ) → (a +ℤ b) *ℤ c ≡ a *ℤ c +ℤ b *ℤ c
+ℤ-*ℤ a b c =
    ℤ_ind (λ a. (a +ℤ b) *ℤ c ≡ a *ℤ c +ℤ b *ℤ c)
    (ap (λ z. z *ℤ c) (+ℤ_idl b) ∙ sym (+ℤ_idl (b *ℤ c)) ∙ ap (λ z. z +ℤ b *ℤ c) (sym (zero-*ℤ c)))
    (λ n same. subst (λ a. (a +ℤ b) *ℤ c ≡ a *ℤ c +ℤ b *ℤ c) (sym (+ℤ_one (pos n)))
    (ap (λ z. z *ℤ c) (suc_ℤ-+ℤ (pos n) b) ∙ suc_ℤ-*ℤ (pos n +ℤ b) c ∙ ap (λ z. z +ℤ c) same ∙ +ℤ_later (pos n *ℤ c) (b *ℤ c) c
    ∙ ap (λ z. z +ℤ b *ℤ c) (sym (suc_ℤ-*ℤ (pos n) c))))
    (λ n same. let m = neg_ℤ (pos n) in
    subst (λ a. (a +ℤ b) *ℤ c ≡ a *ℤ c +ℤ b *ℤ c) (sym (-ℤ_one m))
    (ap (λ z. z *ℤ c) (pred_ℤ-+ℤ m b) ∙ pred_ℤ-*ℤ (m +ℤ b) c ∙ ap (λ z. z +ℤ neg_ℤ c) same ∙ +ℤ_later (m *ℤ c) (b *ℤ c) (neg_ℤ c)
    ∙ ap (λ z. z +ℤ b *ℤ c) (sym (pred_ℤ-*ℤ m c)))) a

-- the sum over the lots of their units by a number for each key
abbrev pub sum_at : (LotKey → ℤ) → List (LotKey × ℤ) → ℤ
sum_at f lots = sum_of (map (λ (lot : LotKey × ℤ). lot.1 *ℤ f lot.0) lots)

sum_at-parts : (f : LotKey → ℤ) (key : LotKey) (lots : List (LotKey × ℤ)) → IsStrictlySortedBy lot_cmp (keys_of lots)
    → sum_at f lots ≡ sum_at f (other_lots key lots) +ℤ unwrap_or (find lot_cmp key lots) (pos 0) *ℤ f key
unfolding IsStrictlySortedBy
sum_at-parts f key [] sorted = sym (+ℤ_idl (pos 0 *ℤ f key) ∙ zero-*ℤ (f key))
sum_at-parts f key (lot ∷ lots) sorted =
    let others = other_lots key lots in
    let here = lot.1 *ℤ f lot.0 in
    let rest = sum_at-parts f key lots sorted.1 in
    elim (eq_by_cmp lot_cmp key lot.0) as (λ b. eq_by_cmp lot_cmp key lot.0 ≡ b
    → here +ℤ sum_at f lots ≡ sum_at f (cond (not b) (lot ∷ others) others) +ℤ unwrap_or (cond b (Some lot.1) (find lot_cmp key lots)) (pos 0) *ℤ f key) [
      | true ↦ λ e.
          let same : key ≡ lot.0 = exact_lots key lot.0 (is_equal (lot_cmp key lot.0) e) in
          let none : find lot_cmp key lots ≡ None = found_by_order lot_cmp key lots ∙ none_below lot_cmp key lots
          (subst (λ k. AllByRecursion (λ (other : LotKey). lot_cmp k other ≡ Less) (keys_of lots)) (sym same) sorted.0) in
          let left : sum_at f lots ≡ sum_at f others = rest ∙ ap (λ o. sum_at f others +ℤ unwrap_or o (pos 0) *ℤ f key) none
          ∙ ap (λ z. sum_at f others +ℤ z) (zero-*ℤ (f key)) ∙ +ℤ_idr (sum_at f others) in
          ap (λ z. here +ℤ z) left ∙ +ℤ_comm here (sum_at f others) ∙ ap (λ k. sum_at f others +ℤ lot.1 *ℤ f k) (sym same)
      | false ↦ λ e. ap (λ z. here +ℤ z) rest ∙ sym (+ℤ_assoc here (sum_at f others) (unwrap_or (find lot_cmp key lots) (pos 0) *ℤ f key))
    ] refl

sum_at-lots : (f : LotKey → ℤ) (held : Held) (commodity : List ℕ) (key : LotKey)
    → sum_at f (lots_of held commodity) ≡ sum_at f (other_lots key (lots_of held commodity)) +ℤ units_at held (commodity, Some key) *ℤ f key
sum_at-lots f held commodity key =
    sum_at-parts f key (lots_of held commodity) (sorted_lots_of held commodity)
    ∙ ap (λ found. sum_at f (other_lots key (lots_of held commodity)) +ℤ unwrap_or found (pos 0) *ℤ f key) (find-lots_of held commodity key)

kept_units : (units : ℤ) → unwrap_or (non_zero units) (pos 0) ≡ units
kept_units units = elim (int_eq units (pos 0)) as (λ b. int_eq units (pos 0) ≡ b → unwrap_or (cond b None (Some units)) (pos 0) ≡ units) [
  | true ↦ λ e. sym (is_zero units e)
  | false ↦ λ e. refl
] refl
  where
    is_zero : (z : ℤ) → int_eq z (pos 0) ≡ true → z ≡ pos 0
    is_zero z e = grind (arith, ints)

-- what is held where units were set
pub units_at-set : (held : Held) (position : Position) (units : ℤ) → units_at (with_units held position units) position ≡ units
units_at-set held position units = ap (λ found. unwrap_or found (pos 0)) (get-with_units_here held position units) ∙ kept_units units

sum_at-set : (f : LotKey → ℤ) (held : Held) (commodity : List ℕ) (key : LotKey) (units : ℤ)
    → sum_at f (lots_of (with_units held (commodity, Some key) units) commodity) ≡ sum_at f (other_lots key (lots_of held commodity)) +ℤ units *ℤ f key
sum_at-set f held commodity key units =
    let now = with_units held (commodity, Some key) units in
    sum_at-lots f now commodity key
    ∙ ap (λ lots. sum_at f lots +ℤ units_at now (commodity, Some key) *ℤ f key) (other_lots-set held commodity key units)
    ∙ ap (λ u. sum_at f (other_lots key (lots_of held commodity)) +ℤ u *ℤ f key) (units_at-set held (commodity, Some key) units)

pub sum_at-added : (f : LotKey → ℤ) (held : Held) (commodity : List ℕ) (key : LotKey) (units : ℤ)
    → sum_at f (lots_of (added held (commodity, Some key) units) commodity) ≡ sum_at f (lots_of held commodity) +ℤ units *ℤ f key
sum_at-added f held commodity key units =
    let old = units_at held (commodity, Some key) in
    let others = sum_at f (other_lots key (lots_of held commodity)) in
    sum_at-set f held commodity key (old +ℤ units)
    ∙ ap (λ z. others +ℤ z) (+ℤ-*ℤ old units (f key))
    ∙ sym (+ℤ_assoc others (old *ℤ f key) (units *ℤ f key))
    ∙ ap (λ z. z +ℤ units *ℤ f key) (sym (sum_at-lots f held commodity key))

-- the sum of the units is the sum at one
sum_at_one : (lots : List (LotKey × ℤ)) → sum_at (λ key. pos 1) lots ≡ sum_of (values_of lots)
unfolding one
sum_at_one [] = refl
sum_at_one (lot ∷ lots) = ap (λ z. z +ℤ sum_at (λ key. pos 1) lots) (*ℤ-one lot.1) ∙ ap (λ z. lot.1 +ℤ z) (sum_at_one lots)

pub sum-added : (held : Held) (commodity : List ℕ) (key : LotKey) (units : ℤ) → sum (added held (commodity, Some key) units) commodity ≡ sum held commodity +ℤ units
unfolding one
sum-added held commodity key units =
    sym (sum_at_one (lots_of (added held (commodity, Some key) units) commodity))
    ∙ sum_at-added (λ key. pos 1) held commodity key units
    ∙ ap (λ z. z +ℤ units *ℤ pos 1) (sum_at_one (lots_of held commodity))
    ∙ ap (λ z. sum held commodity +ℤ z) (*ℤ-one units)
