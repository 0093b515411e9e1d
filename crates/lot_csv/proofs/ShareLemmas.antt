-- Parts of a total stay within it.
use Rattle.std.specs.Prelude.{◌≡◌, ◌≢◌, ◌+◌, ◌*◌, ◌-◌, ◌<◌, ◌≤◌, ℕ, ℤ, pos, ◌+ℤ◌, ◌-ℤ◌, ◌≤ℤ◌, List, [], ◌∷◌, ◌++◌, get_or, length, map, take, sum_by, unsigned_abs}
use Rattle.std.proofs.Common.{refl, sym, ap, subst, ◌∙◌, arith}
use Rattle.std.proofs.Math.Nat.{add-mul, div-mul-le_self, le_of_mul-le-mul_right, mul-le-mul_left, mul_comm}
use Rattle.std.proofs.lemmas.Int.{ints}
use Rattle.std.proofs.lemmas.List.{map-append, take_all, take_more}
use Rattle.std.proofs.lemmas.List.Sums.{get_or-le-sum_by, sum_by-cons, sum_by-take-le, sum_by_more}
use Rattle.lot_num.specs.Sum.{sum_of}
use Rattle.lot_cost.specs.declared.lot_key.LotKey.{LotKey}
use Rattle.lot_inv.specs.Inventory.{held_in}
use Rattle.lot_book.proofs.GainLemmas.{held_in-legs}
use Rattle.lot_book.specs.Sale.{AreLegsOf}
use Rattle.lot_csv.specs.Shares.{part_of, parts_of, shares_of, with_rest}

abbrev Leg : Type 0
Leg = LotKey × ℤ

abbrev pub part_at : ℕ → ℕ → Leg → ℕ
part_at total all leg = part_of total all (unsigned_abs leg.1)

-- the parts of lots, as one number
abbrev pub parts_in : ℕ → ℕ → List Leg → ℕ
parts_in total all legs = sum_by (part_at total all) legs

-- parts of so many units are no more than these have in the total
one_within : (total all units part rest held : ℕ) → part * all ≤ total * units → rest * all ≤ total * held
    → (part + rest) * all ≤ total * (units + held)
one_within total all units part rest held one more =
    let left = add-mul part rest all in
    let right = mul_comm total (units + held) ∙ add-mul units held total ∙ (λ i. mul_comm units total i + mul_comm held total i) in
    rw (left, right) (omega (arith, one, more))

times_all : (total all : ℕ) (legs : List Leg) → parts_in total all legs * all ≤ total * held_in legs
times_all total all [] = omega arith
times_all total all (leg ∷ legs) =
    rw (sum_by-cons (part_at total all) leg legs, sum_by-cons (λ (l : Leg). unsigned_abs l.1) leg legs)
    (one_within total all (unsigned_abs leg.1) (part_at total all leg) (parts_in total all legs) (held_in legs)
    (div-mul-le_self (total * unsigned_abs leg.1) all) (times_all total all legs))

-- the first legs of a sale have no more units than the sale
pub front_within : (units : ℤ) (legs : List Leg) (k : ℕ) → AreLegsOf units legs → held_in (take k legs) ≤ unsigned_abs units
front_within units legs k are =
    subst (λ n. held_in (take k legs) ≤ n) (held_in-legs units legs are) (sum_by-take-le (λ (leg : Leg). unsigned_abs leg.1) legs k)

module _ (total all : ℕ) (front : List Leg) (room : held_in front ≤ all) where
  -- one of them has no more either
  pub leg_within : (i : ℕ) (leg : Leg) → i < length front → leg ≡ get_or front i leg → unsigned_abs leg.1 ≤ all
  leg_within i leg below is =
      let one = get_or-le-sum_by (λ (l : Leg). unsigned_abs l.1) front i leg below in
      let same : unsigned_abs leg.1 ≡ unsigned_abs (get_or front i leg).1 = ap (λ (l : Leg). unsigned_abs l.1) is in
      omega (arith, one, room, same)

  -- their parts are no more than the total
  parts_within : (i : ℕ) → 0 < all → parts_in total all (take i front) ≤ total
  parts_within i some =
      let held = sum_by-take-le (λ (leg : Leg). unsigned_abs leg.1) front i in
      let few : held_in (take i front) ≤ all = omega (arith, held, room) in
      let parts = times_all total all (take i front) in
      let most = mul-le-mul_left total few in
      le_of_mul-le-mul_right (omega (arith, parts, most)) some

  module _ (i : ℕ) (leg : Leg) (below : i < length front) (is : leg ≡ get_or front i leg) where
    one_part : parts_in total all (take (i + 1) front) ≡ parts_in total all (take i front) + part_at total all leg
    one_part =
        sum_by_more (part_at total all) front i leg below
        ∙ ap (λ (l : Leg). parts_in total all (take i front) + part_at total all l) (sym is)

    -- what is left has room for one more part
    pub part_left : (left : ℕ) → 0 < all → left + parts_in total all (take i front) ≡ total → part_at total all leg ≤ left
    part_left left some so_far =
        let more = parts_within (i + 1) some in
        omega (arith, more, one_part, so_far)

    pub part_taken : (left : ℕ) → 0 < all → left + parts_in total all (take i front) ≡ total
        → left - part_at total all leg + parts_in total all (take (i + 1) front) ≡ total
    part_taken left some so_far =
        let room_for = part_left left some so_far in
        rw one_part (omega (arith, room_for, so_far))

-- one part more
pub parts_more : (total units : ℤ) (front : List Leg) (i : ℕ) (leg : Leg) → i < length front → leg ≡ get_or front i leg
    → parts_of total units (take (i + 1) front) ≡ parts_of total units (take i front) ++ pos (part_at (unsigned_abs total) (unsigned_abs units) leg) ∷ []
parts_more total units front i leg below is =
    let part : Leg → ℤ = λ leg. pos (part_at (unsigned_abs total) (unsigned_abs units) leg) in
    ap (map part) (take_more front i leg below)
    ∙ map-append part (take i front) (get_or front i leg ∷ [])
    ∙ ap (λ (l : Leg). map part (take i front) ++ part l ∷ []) (sym is)

-- units of a sale aren't zero
pub some_units : (units : ℤ) → units ≢ pos 0 → 0 < unsigned_abs units
some_units units some = grind (arith, ints)

-- parts as numbers, and as one
sum_of-parts : (total units : ℤ) (legs : List Leg) → sum_of (parts_of total units legs) ≡ pos (parts_in (unsigned_abs total) (unsigned_abs units) legs)
sum_of-parts total units [] = refl
sum_of-parts total units (leg ∷ legs) =
    ap (λ z. pos (part_at (unsigned_abs total) (unsigned_abs units) leg) +ℤ z) (sum_of-parts total units legs)
    ∙ ap pos (sym (sum_by-cons (part_at (unsigned_abs total) (unsigned_abs units)) leg legs))

-- what is left is the last share
pub last_share : (total units : ℤ) (front : List Leg) (left : ℕ) → pos 0 ≤ℤ total
    → left + parts_in (unsigned_abs total) (unsigned_abs units) front ≡ unsigned_abs total
    → parts_of total units front ++ pos left ∷ [] ≡ with_rest total (parts_of total units front)
last_share total units front left some is =
    let sum = sum_of-parts total units front in
    let rest : pos left ≡ total -ℤ pos (parts_in (unsigned_abs total) (unsigned_abs units) front) = omega (arith, ints, some, is) in
    ap (λ (z : ℤ). parts_of total units front ++ z ∷ []) (rest ∙ ap (λ (z : ℤ). total -ℤ z) (sym sum))

-- the legs before the last, as they are lent
pub lent_within : (units : ℤ) (all : ℕ) (legs lent : List Leg) → AreLegsOf units legs → lent ≡ legs → all ≡ unsigned_abs units
    → held_in (take (length lent - 1) lent) ≤ all
lent_within units all legs lent are same is =
    let within : held_in (take (length legs - 1) legs) ≤ unsigned_abs units = front_within units legs (length legs - 1) are in
    rw (same, is) within

pub some_of : (units : ℤ) (all : ℕ) (legs : List Leg) → AreLegsOf units legs → all ≡ unsigned_abs units → 0 < all
some_of units all legs are is = rw is (some_units units are.some)

-- all shares
pub all_shares : (total units : ℤ) (whole all left i : ℕ) (legs lent : List Leg) (parts shares : List ℤ) (last : ℤ) → pos 0 ≤ℤ total
    → whole ≡ unsigned_abs total → all ≡ unsigned_abs units → lent ≡ legs → length (take (length lent - 1) lent) ≤ i
    → parts ≡ parts_of total units (take i (take (length lent - 1) lent)) → left + parts_in whole all (take i (take (length lent - 1) lent)) ≡ whole
    → last ≡ pos left → shares ≡ parts ++ last ∷ [] → shares ≡ shares_of total units legs
all_shares total units whole all left i legs lent parts shares last some of_total of_units same past are so_far is given =
    let front = take (length lent - 1) lent in
    let full : take i front ≡ front = take_all i front past in
    let sum : left + parts_in (unsigned_abs total) (unsigned_abs units) front ≡ unsigned_abs total =
    (λ j. left + parts_in (sym of_total j) (sym of_units j) (sym full j)) ∙ so_far ∙ of_total in
    given
    ∙ (λ j. (are ∙ ap (parts_of total units) full) j ++ is j ∷ [])
    ∙ last_share total units front left some sum
    ∙ ap (shares_of total units) same
