-- The rows of a sale are those of its lots.
use Rattle.std.specs.Prelude.{ℤ, Option, None, Some, flat_map, map, take, zip}
use Rattle.std.proofs.Common.{◌≡◌, ◌⊎◌, ℕ, ◌+◌, ◌-◌, List, [], ◌∷◌, ◌++◌, length, ap, refl, sym, subst, ◌∙◌, append-nil, append_assoc, arith, inl, inr}
use Rattle.std.proofs.lemmas.List.{length-append, length-map, length-take-le}
use Rattle.lot_cost.specs.declared.lot_key.LotKey.{LotKey}
use Rattle.lot_command.specs.declared.price.Price.{Price}
use Rattle.lot_command.specs.declared.price.Price.TheVariants as price
use Rattle.lot_book.specs.declared.gain.Gain.{Gain}
use Rattle.lot_book.specs.Gain.{gain_of}
use Rattle.lot_book.specs.Sale.{AreLegsOf, SaleParts}
use Rattle.lot_csv.specs.Shares.{SoldLot, gain_in, lots_at, lots_in, lots_of, lots_priced, parts_of, shares_of}

abbrev Leg : Type 0
Leg = LotKey × ℤ

-- ---- rows

pub one_row_more : {X : Type 0} (html : X → List ℕ) (text next whole : List ℕ) (x : X) (xs ys : List X) → text ++ flat_map html xs ≡ whole
    → xs ≡ x ∷ ys → next ≡ text ++ html x → next ++ flat_map html ys ≡ whole
one_row_more html text next whole x xs ys all is grown =
    ap (λ (t : List ℕ). t ++ flat_map html ys) grown
    ∙ append_assoc text (html x) (flat_map html ys)
    ∙ ap (λ rest. text ++ flat_map html rest) (sym is)
    ∙ all

pub no_row_left : {X : Type 0} (html : X → List ℕ) (text whole : List ℕ) (xs : List X) → text ++ flat_map html xs ≡ whole → xs ≡ []
    → text ≡ whole
no_row_left html text whole xs all is = sym (append-nil text) ∙ ap (λ rest. text ++ flat_map html rest) (sym is) ∙ all

pub none_zipped : {X Y : Type 0} (xs : List X) (ys : List Y) → (xs ≡ []) ⊎ (ys ≡ []) → zip xs ys ≡ []
none_zipped xs ys (inl none) = ap (λ l. zip l ys) none
none_zipped [] ys (inr none) = refl
none_zipped (x ∷ xs) ys (inr none) = ap (λ l. zip (x ∷ xs) l) none

-- ---- the legs of lots

-- what is beside each leg doesn't matter
legs_alike : {P : Type 0} (beside : P) (legs : List Leg) → map (λ (lot : Leg × P). lot.0) (map (λ (leg : Leg). (leg, beside)) legs) ≡ legs
legs_alike beside [] = refl
legs_alike beside (leg ∷ legs) = ap (λ (rest : List Leg). leg ∷ rest) (legs_alike beside legs)

legs_beside : {P S : Type 0} (lot_of : Leg × S → Leg × P) → ((pair : Leg × S) → (lot_of pair).0 ≡ pair.0) → (legs : List Leg) (shares : List S)
    → length shares ≡ length legs → map (λ (lot : Leg × P). lot.0) (map lot_of (zip legs shares)) ≡ legs
legs_beside lot_of same [] shares as_long = refl
legs_beside lot_of same (leg ∷ legs) [] as_long = absurd (omega (arith, as_long))
legs_beside lot_of same (leg ∷ legs) (share ∷ shares) as_long =
    λ i. same (leg, share) i ∷ legs_beside lot_of same legs shares (omega (arith, as_long)) i

abbrev leg_of : SoldLot → Leg
leg_of lot = lot.0

as_many : (total units : ℤ) (first : Leg) (others : List Leg) → length (shares_of total units (first ∷ others)) ≡ length (first ∷ others)
as_many total units first others =
    length-append (parts_of total units (take (length (first ∷ others) - 1) (first ∷ others))) _
    ∙ ap (λ n. n + 1) (length-map (take (length (first ∷ others) - 1) (first ∷ others)) _ ∙ length-take-le (length (first ∷ others) - 1) (first ∷ others) (omega arith))
    ∙ omega arith

some_legs : (legs : List Leg) (units : ℤ) → AreLegsOf units legs → (first : Leg) × (others : List Leg) × (legs ≡ first ∷ others)
some_legs [] units are = absurd (are.some (sym are.sum))
some_legs (first ∷ others) units are = (first, others, refl)

share_for_each : (total : ℤ) (sale : SaleParts) → AreLegsOf sale.units sale.legs → length (shares_of total sale.units sale.legs) ≡ length sale.legs
share_for_each total sale are =
    let (first, others, is) = some_legs sale.legs sale.units are in
    subst (λ legs. length (shares_of total sale.units legs) ≡ length legs) (sym is) (as_many total sale.units first others)

legs_at : (price : Price) (sale : SaleParts) → AreLegsOf sale.units sale.legs → map leg_of (lots_at price sale) ≡ sale.legs
legs_at (price.Each each) sale are = legs_alike _ sale.legs
legs_at (price.Whole whole) sale are =
    legs_beside _ (λ pair. refl) sale.legs (shares_of whole.0 sale.units sale.legs) (share_for_each whole.0 sale are)

legs_priced : (price : Option Price) (sale : SaleParts) → AreLegsOf sale.units sale.legs → map leg_of (lots_priced price sale) ≡ sale.legs
legs_priced None sale are = legs_alike _ sale.legs
legs_priced (Some price) sale are = legs_at price sale are

legs_in : (gain : Option Gain) (sale : SaleParts) → AreLegsOf sale.units sale.legs → map leg_of (lots_in gain sale) ≡ sale.legs
legs_in None sale are = legs_alike _ sale.legs
legs_in (Some gain) sale are = legs_priced sale.price sale are

side_by_side : (html : Leg × Option Gain → List ℕ) (units : ℤ) (lots : List SoldLot)
    → flat_map html (zip (map leg_of lots) (map (gain_in units) lots)) ≡ flat_map (λ (lot : SoldLot). html (lot.0, gain_in units lot)) lots
side_by_side html units [] = refl
side_by_side html units (lot ∷ lots) = ap (λ (rest : List ℕ). html (lot.0, gain_in units lot) ++ rest) (side_by_side html units lots)

-- the rows of legs with their gains are those of the lots
pub rows_are : (html : Leg × Option Gain → List ℕ) (sale : SaleParts) → AreLegsOf sale.units sale.legs
    → (legs : List Leg) (gains : List (Option Gain)) → legs ≡ sale.legs → gains ≡ map (gain_in sale.units) (lots_of sale)
    → flat_map html (zip legs gains) ≡ flat_map (λ (lot : SoldLot). html (lot.0, gain_in sale.units lot)) (lots_of sale)
rows_are html sale are legs gains is same =
    (λ i. flat_map html (zip ((is ∙ sym (legs_in (gain_of sale) sale are)) i) (same i))) ∙ side_by_side html sale.units (lots_of sale)
