-- Whether the numbers of a trade agree (docs/FORMATS.md, Profiles).
use Rattle.std.specs.Prelude.{ℕ, ◌+◌, ◌-◌, ◌*◌, ◌^◌, Bool, nat_le, List, ℤ, pos, ◌+ℤ◌, ◌*ℤ◌, unsigned_abs}
use Rattle.std.specs.List.{fold}
use Rattle.lot_num.specs.Amount.{one}
use Rattle.lot_profile.specs.declared.basis.Rounded.{Rounded}
use Rattle.lot_profile.specs.declared.role.Role.{Role}
use Rattle.lot_profile.specs.declared.role.Role.TheVariants.{Amount, Fee, Price, Rate, Units}
use Rattle.lot_deal_read.specs.declared.figures.Figures.{Figures}
use Rattle.lot_deal_read.specs.declared.figures.Places.{Places}

-- ---- The last places to which the broker rounds, at scale 8; zero where it doesn't.

abbrev pub no_places : Places
no_places = record { units = 0; price = 0; amount = 0; fee = 0; rate = 0 }

-- the last of so many decimals
abbrev pub place_of : ℕ → ℕ
place_of decimals = 10 ^ (8 - decimals)

-- the places with that of one role more; other roles have none
abbrev pub place_by : Role → ℕ → Places → Places
place_by Units place places = record places { units = place }
place_by Price place places = record places { price = place }
place_by Amount place places = record places { amount = place }
place_by Fee place places = record places { fee = place }
place_by Rate place places = record places { rate = place }
place_by role place places = places

abbrev pub with_place : Places → Rounded → Places
with_place places rounded = place_by rounded.role (place_of rounded.decimals) places

abbrev pub places_of : List Rounded → Places
places_of rounded = fold with_place no_places rounded

-- ---- Whether the numbers agree.

-- a cent, at scale 8
abbrev pub cent : ℕ
cent = 1000000

-- what was paid or received without the fee in the currency of the cash, at scale 8
abbrev pub cash : Figures → ℤ
cash f = f.amount +ℤ f.fee

-- That in the currency of the price, and what the units are worth with the fee in that currency: they have other signs, so this is
-- by how much they differ, at scale 16.
abbrev pub difference : Figures → ℤ
difference f =
    f.amount *ℤ pos f.rate +ℤ f.fee *ℤ pos f.rate +ℤ (f.units *ℤ pos f.price +ℤ f.price_fee *ℤ pos one)

-- By how much they may differ, four times, at scale 16. Each number may be half of its last place apart from what is printed: the cash,
-- which may also be a cent and the bound of crumbs apart, times the rate, and the units times the price.
abbrev pub allowed : Places → ℤ → Figures → ℕ
allowed places within f =
    (2 * cent + 2 * unsigned_abs within + places.amount + places.fee) * (2 * f.rate + places.rate)
    + 2 * (unsigned_abs (cash f) * places.rate)
    + 2 * (unsigned_abs f.units * places.price) + 2 * (places.units * f.price) + places.units * places.price

-- whether the numbers agree
abbrev pub agree : Places → ℤ → Figures → Bool
agree places within f = nat_le (4 * unsigned_abs (difference f)) (allowed places within f)
