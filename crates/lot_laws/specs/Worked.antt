-- Legs of worked cases: two lots of one day and one cost, bought by entries 5 and 6.
use Rattle.std.specs.Prelude.{ℕ, List, [], ◌∷◌, ◌++◌, Some, codes, ℤ, pos, neg_ℤ}
use Rattle.lot_cost.specs.declared.lot_key.LotKey.{LotKey}
use Rattle.lot_book.specs.declared.leg.Leg.{Leg}
use Rattle.lot_book.specs.Leg.{leg_at}

-- an account, a commodity and a currency
abbrev pub broker : List ℕ
broker = codes "Broker"

abbrev pub hool : List ℕ
hool = codes "HOOL"

abbrev pub usd : List ℕ
usd = codes "USD"

-- a lot of one day at 100 USD with that label
abbrev pub labelled : List ℕ → LotKey
labelled label = record { day = pos 18263; currency = usd; number = 10000000000; label = Some label }

abbrev pub lot_a : LotKey
lot_a = labelled (codes "a")

abbrev pub lot_b : LotKey
lot_b = labelled (codes "b")

-- a leg at a lot, of a posting of an entry
abbrev pub leg_to : ℕ → ℕ → LotKey → ℤ → Leg
leg_to entry posting lot units = leg_at entry posting 0 broker hool (Some lot) units

-- 5 of the second are bought, then 5 of the first
abbrev pub bought_each : List Leg
bought_each = leg_to 5 1 lot_b (pos 5) ∷ leg_to 6 1 lot_a (pos 5) ∷ []

-- then 1 more of the second
abbrev pub added_to : List Leg
added_to = bought_each ++ leg_to 7 1 lot_b (pos 1) ∷ []

-- or all of the second are sold, and 5 of it are bought again
abbrev pub reopened : List Leg
reopened = bought_each ++ leg_to 7 1 lot_b (neg_ℤ (pos 5)) ∷ leg_to 8 1 lot_b (pos 5) ∷ []

-- the same within one transaction
abbrev pub reopened_within : List Leg
reopened_within = bought_each ++ leg_to 7 1 lot_b (neg_ℤ (pos 5)) ∷ leg_to 7 2 lot_b (pos 5) ∷ []
