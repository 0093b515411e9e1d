-- What a tally lists of its legs, and how booking the legs of one posting ends where a sum leaves the range of units.
use Rattle.std.specs.Prelude.{◌≡◌, ℕ, Bool, true, false, ◌&&◌, is_none, is_some, if◌then◌else◌, List, [], ◌∷◌, Option, None, Some, ℤ, pos, ◌+ℤ◌, ⊤}
use Rattle.std.specs.List.{AllByRecursion}
use Rattle.std.specs.Ordering.{int_eq}
use Rattle.lot_num.specs.Amount.{IsUnits}
use Rattle.lot_inv.specs.Inventory.{Held, Stock, lots_of, opening_at, other_sign}
use Rattle.lot_base.specs.Text.{same_text}
use Rattle.lot_book.specs.declared.leg.Position.{Position}
use Rattle.lot_book.specs.declared.leg.Leg.{Leg}
use Rattle.lot_book.specs.declared.refusal.Refusal.TheVariants.{Range}
use Rattle.lot_book.specs.declared.refusal.Stop.{Stop}
use Rattle.lot_book.specs.declared.refusal.Stop.TheVariants.{Refused, Memory}
use Rattle.lot_posting.specs.declared.kept.KeptLots.{KeptLots}
use Rattle.lot_posting.specs.declared.tally.Tally.{Tally}
use Rattle.lot_book.specs.Change.{ListsOpened, ListsSums, units_after}
use Rattle.lot_book.specs.OpeningNumber.{HasNumber}
use Rattle.lot_book.specs.Facts.{Facts}
use Rattle.lot_book.specs.Leg.{leave_range, with_legs}
use Rattle.lot_book.specs.Openings.{FactsWithOpenings, HaveSameOpenings, opening_after}

-- an inventory has the lots that an account holds of a commodity after legs, each under its opening number
pub record HasLotsAfter (known : FactsWithOpenings) (legs : List Leg) (account commodity : List ℕ) (stock : Stock) : Type 0 where
  pub lots : lots_of stock.held commodity ≡ lots_of (with_legs account (known.facts.held account) legs) commodity
  pub openings : HaveSameOpenings commodity stock.held (opening_at stock commodity)
      (opening_after known legs account commodity)

-- the lots that are kept, if any are, are those of their pair after the legs
abbrev pub KeepsLots : FactsWithOpenings → List Leg → Option KeptLots → Type 0
KeepsLots known legs None = ⊤
KeepsLots known legs (Some kept) = HasLotsAfter known legs kept.pair.account kept.pair.commodity kept.lots

-- a tally lists what its legs change: the units that each position holds after them, and the opening number of each lot that
-- they open; and it keeps lots as they leave them
pub record ListsTally (known : FactsWithOpenings) (tally : Tally) : Type 0 where
  pub sums : ListsSums known.facts tally.legs tally.positions.entries
  pub openings : ListsOpened known.facts tally.legs tally.openings
  pub kept : KeepsLots known tally.legs tally.kept

-- each leg has a number
abbrev pub HaveNumbers : List Leg → Type 0
HaveNumbers legs = AllByRecursion (λ (leg : Leg). HasNumber leg.entry leg.posting) legs

-- the legs are those of one posting to one account
abbrev pub AreOf : List ℕ → ℕ → List Leg → Type 0
AreOf account posting legs = AllByRecursion (λ (leg : Leg). (leg.position.account ≡ account) × (leg.posting ≡ posting)) legs

-- a leg leaves its position out of range, or there is no memory, of which the clause `memory` says where
abbrev pub StopsAtLeg : Facts → List Leg → Leg → Stop → Type 0
StopsAtLeg facts before leg (Refused refusal) =
    (IsUnits (units_after facts before leg.position +ℤ leg.units) → ⊥) × (refusal ≡ Range leg.posting)
StopsAtLeg facts before leg Memory = ⊤

-- the legs of a posting leave some sum of their account out of range, or there is no memory, of which the clause `memory`
-- says where
abbrev pub StopsAt : Held → ℕ → List Leg → Stop → Type 0
StopsAt held posting legs (Refused refusal) = (leave_range held legs ≡ true) × (refusal ≡ Range posting)
StopsAt held posting legs Memory = ⊤

-- there are legs, and the first of them leaves its sum in range
abbrev pub BeginInRange : Held → List Leg → Type 0
BeginInRange held [] = ⊥
BeginInRange held (leg ∷ legs) = leave_range held (leg ∷ []) ≡ false

-- the first leg, if there is one, leaves its sum in range
abbrev pub IsFirstInRange : Held → List Leg → Type 0
IsFirstInRange held [] = ⊤
IsFirstInRange held (leg ∷ legs) = leave_range held (leg ∷ []) ≡ false

-- the position of the plain units of a commodity in an account
abbrev pub plain : List ℕ → List ℕ → Position
plain account commodity = record { account = account; commodity = commodity; lot = None }

-- whether a position is a lot of the commodity in the account
abbrev pub is_lot_of : List ℕ → List ℕ → Position → Bool
is_lot_of account commodity position =
    is_some position.lot && (same_text position.account account && same_text position.commodity commodity)

-- whether a position is that of the plain units of the commodity in the account
abbrev pub is_plain_of : List ℕ → List ℕ → Position → Bool
is_plain_of account commodity position =
    is_none position.lot && (same_text position.account account && same_text position.commodity commodity)

-- whether a row is of a lot of the commodity in the account, which has the other sign than the units
abbrev pub is_lot_against : List ℕ → List ℕ → ℤ → Position × ℤ → Bool
is_lot_against account commodity units row = is_lot_of account commodity row.0 && other_sign row.1 units

-- how many lots units make: none where they are zero
abbrev pub lot_count : ℤ → ℕ
lot_count units = if int_eq units (pos 0) then 0 else 1
