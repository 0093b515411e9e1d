-- What each lot of a sale gains, beside its leg.
use Rattle.std.specs.Prelude.{◌≡◌, ◌+◌, ◌<◌, ℕ, ℤ, List, [], ◌∷◌, ◌++◌, get_or, length, map, take, zip, Option, None, Some, Result, Ok, Err, IsErrAnd}
use Rattle.std.proofs.Common.{append_assoc, refl, sym, ap, subst, ◌∙◌}
use Rattle.std.proofs.KnownBytes.{Appends-nil}
use Rattle.std.proofs.lemmas.List.{map-append, take_more}
use Rattle.std.proofs.lemmas.Slice.Zip.{firsts-zip}
use Rattle.lot_cost.specs.declared.lot_key.LotKey.{LotKey}
use Rattle.lot_command.specs.declared.price.Price.{Price}
use Rattle.lot_command.specs.declared.price.Price.TheVariants as price
use Rattle.lot_book.specs.declared.gain.Gain.{Gain}
use Rattle.lot_book.specs.Gain.{gain_of}
use Rattle.lot_book.specs.Sale.{AreLegsOf, SaleParts}
use Rattle.lot_report.specs.Written.{WritesEach}
use Rattle.lot_report.specs.declared.line.PrintFault.{PrintFault}
use Rattle.lot_report.specs.declared.line.PrintFault.TheVariants.{Memory}
use Rattle.lot_report.proofs.FedLemmas.{lines_of_items}
use Rattle.lot_csv.specs.Shares.{SoldLot, gain_in, lots_at, lots_in, lots_of, lots_priced, shares_of}
use Rattle.lot_csv.specs.declared.shares.LotPrice.{LotPrice}
use Rattle.lot_csv.specs.declared.shares.LotPrice.TheVariants.{Each, Share}
use Rattle.lot_csv.proofs.LawLemmas.{share_for_each, some_legs}
use Rattle.lot_csv.proofs.SumLemmas.{fused}

abbrev Leg : Type 0
Leg = LotKey × ℤ

abbrev leg_of : SoldLot → Leg
leg_of lot = lot.0

-- ---- the legs of lots

legs_alike : (price : Option LotPrice) (legs : List Leg) → map leg_of (map (λ (leg : Leg). (leg, price)) legs) ≡ legs
legs_alike price [] = refl
legs_alike price (leg ∷ legs) = ap (λ (rest : List Leg). leg ∷ rest) (legs_alike price legs)

legs_at : (price : Price) (sale : SaleParts) → AreLegsOf sale.units sale.legs → map leg_of (lots_at price sale) ≡ sale.legs
legs_at (price.Each each) sale are = legs_alike (Some (Each each.rate)) sale.legs
legs_at (price.Whole whole) sale are =
    let shares = shares_of whole.0 sale.units sale.legs in
    fused leg_of (λ (shared : Leg × ℤ). (shared.0, Some (Share shared.1))) (zip sale.legs shares)
    ∙ firsts-zip sale.legs shares (share_for_each whole.0 sale are)

legs_priced : (price : Option Price) (sale : SaleParts) → AreLegsOf sale.units sale.legs → map leg_of (lots_priced price sale) ≡ sale.legs
legs_priced None sale are = legs_alike None sale.legs
legs_priced (Some price) sale are = legs_at price sale are

legs_in : (gain : Option Gain) (sale : SaleParts) → AreLegsOf sale.units sale.legs → map leg_of (lots_in gain sale) ≡ sale.legs
legs_in None sale are = legs_alike None sale.legs
legs_in (Some gain) sale are = legs_priced sale.price sale are

-- the lots of a sale are those of its legs
legs_of : (sale : SaleParts) → AreLegsOf sale.units sale.legs → map leg_of (lots_of sale) ≡ sale.legs
legs_of sale are = legs_in (gain_of sale) sale are

-- ---- gains beside legs

side_by_side : (units : ℤ) (lots : List SoldLot)
    → zip (map leg_of lots) (map (gain_in units) lots) ≡ map (λ (lot : SoldLot). (lot.0, gain_in units lot)) lots
side_by_side units [] = refl
side_by_side units (lot ∷ lots) = ap (λ (rest : List (Leg × Option Gain)). (lot.0, gain_in units lot) ∷ rest) (side_by_side units lots)

module _ (record_of : Leg × Option Gain → List ℕ) (sale : SaleParts) (are : AreLegsOf sale.units sale.legs) where
  same_records : (legs : List Leg) (gains : List (Option Gain)) → legs ≡ sale.legs → gains ≡ map (gain_in sale.units) (lots_of sale)
      → map record_of (zip legs gains) ≡ map (λ (lot : SoldLot). record_of (lot.0, gain_in sale.units lot)) (lots_of sale)
  same_records legs gains is same =
      (λ i. map record_of (zip ((is ∙ sym (legs_of sale are)) i) (same i)))
      ∙ ap (map record_of) (side_by_side sale.units (lots_of sale))
      ∙ fused record_of (λ (lot : SoldLot). (lot.0, gain_in sale.units lot)) (lots_of sale)

  -- the records of legs with their gains are those of the lots
  pub wrote_lots : (legs : List Leg) (gains : List (Option Gain)) (old new : Option (List ℕ)) (result : Result (Unit {0}) PrintFault)
      → legs ≡ sale.legs → gains ≡ map (gain_in sale.units) (lots_of sale) → WritesEach record_of (zip legs gains) old new result
      → WritesEach (λ (text : List ℕ). text) (map (λ (lot : SoldLot). record_of (lot.0, gain_in sale.units lot)) (lots_of sale)) old new result
  wrote_lots legs gains old new result is same wrote =
      subst (λ (texts : List (List ℕ)). WritesEach (λ (text : List ℕ). text) texts old new result) (same_records legs gains is same)
      (lines_of_items record_of (zip legs gains) old new result wrote)

-- ---- out of memory before the first record

some_lots : (lots : List SoldLot) (first : Leg) (others : List Leg) → map leg_of lots ≡ first ∷ others
    → (lot : SoldLot) × (more : List SoldLot) × (lots ≡ lot ∷ more)
some_lots [] first others is = cc
some_lots (lot ∷ more) first others is = (lot, more, refl)

-- there is a record for each lot, and a lot
pub none_wrote : (record_of : SoldLot → List ℕ) (sale : SaleParts) (held : Option (List ℕ)) (result : Result (Unit {0}) PrintFault)
    → AreLegsOf sale.units sale.legs → IsErrAnd result (λ fault. fault ≡ Memory)
    → WritesEach (λ (text : List ℕ). text) (map record_of (lots_of sale)) held held result
none_wrote record_of sale held (Ok done) are memory = absurd memory
none_wrote record_of sale held (Err fault) are memory =
    let (first, others, is) = some_legs sale.legs sale.units are in
    let (lot, more, split) = some_lots (lots_of sale) first others (legs_of sale are ∙ is) in
    rw (memory) ([], record_of lot, map record_of more, ap (map record_of) split, Appends-nil held)

-- ---- one gain more

-- the first items, and one more
pub mapped_more : {X Y : Type 0} (f : X → Y) (items : List X) (i : ℕ) (item : X) → i < length items → item ≡ get_or items i item
    → map f (take (i + 1) items) ≡ map f (take i items) ++ f item ∷ []
mapped_more f items i item below is =
    ap (map f) (take_more items i item below)
    ∙ map-append f (take i items) (get_or items i item ∷ [])
    ∙ ap (λ x. map f (take i items) ++ f x ∷ []) (sym is)

-- one of those that are left
pub one_gain_more : {X Y : Type 0} (f : X → Y) (left rest : List X) (item : X) (gained now all : List Y) (gain : Y)
    → gained ++ map f left ≡ all → left ≡ item ∷ rest → gain ≡ f item → now ≡ gained ++ gain ∷ []
    → now ++ map f rest ≡ all
one_gain_more f left rest item gained now all gain so_far is one more =
    (λ i. (more ∙ ap (λ g. gained ++ g ∷ []) one) i ++ map f rest)
    ∙ append_assoc gained (f item ∷ []) (map f rest)
    ∙ ap (λ xs. gained ++ map f xs) (sym is)
    ∙ so_far
