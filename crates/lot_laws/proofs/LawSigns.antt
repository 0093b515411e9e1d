-- Lots of one sign keep it, as units are added to one of them.
use Rattle.std.specs.Prelude.{◌≡◌, ◌≢◌, ◌⊎◌, ℕ, ◌≤◌, true, false, cond, List, [], ◌∷◌, Option, None, Some, ℤ, pos, ◌+ℤ◌, unsigned_abs}
use Rattle.std.specs.BTreeMap.{is_at}
use Rattle.std.specs.Cmp.{eq_by_cmp_equiv}
use Rattle.std.specs.List.{AllByRecursion, list_any}
use Rattle.std.specs.Map.{keys_of, lookup, values_of}
use Rattle.std.specs.Option.{unwrap_or}
use Rattle.std.specs.Ordering.{eq_by_cmp}
use Rattle.std.proofs.Common.{sym, ap, subst, ◌∙◌, arith, inl, inr}
use Rattle.std.proofs.lemmas.Bool.{or_parts, true≢false}
use Rattle.std.proofs.lemmas.Int.{ints}
use Rattle.std.proofs.lemmas.Map.Keys.{IsDistinct-head, IsDistinct-tail}
use Rattle.lot_cost.specs.declared.lot_key.LotKey.{LotKey}
use Rattle.lot_inv.specs.Inventory.{Held, Position, added, lots_of, other_sign, position_cmp, reduces, units_at}
use Rattle.lot_cost.specs.LotKey.{lot_cmp}
use Rattle.lot_cost.proofs.OrderLemmas.{is_equal}
use Rattle.lot_inv.proofs.LawLemmas.{lots_of-get}
use Rattle.lot_inv.proofs.LotLemmas.{get-with_units_apart, units_at-set}
use Rattle.lot_cost.proofs.OrderLemmas.{lots_total}
use Rattle.lot_inv.proofs.OrderLemmas.{exact_positions, positions_total}
use Rattle.lot_booking.specs.Choice.{HaveDistinctKeys}
use Rattle.lot_booking.proofs.ListLemmas.{each_member}
use Rattle.lot_booking.proofs.SameTies.{held_lot, sign_none}
use Rattle.lot_laws.specs.Laws.{HaveOneSign}
use Rattle.lot_book.proofs.CaseLemmas.{by_bool}

-- ---- Signs of numbers.

sign_itself : (z : ℤ) → other_sign z z ≡ false
sign_itself z = grind (arith, ints)

sign_turned : (y z : ℤ) → other_sign y z ≡ false → other_sign z y ≡ false
sign_turned y z e = grind (arith, ints)

-- more of a sign, where neither number has the other one
sign_more : (held units other : ℤ) → units ≢ pos 0 → other_sign held units ≡ false → other_sign other units ≡ false
    → other_sign (held +ℤ units) other ≡ false
sign_more held units other some e g = grind (arith, ints)

-- less of a sign, and no further than to zero
sign_less : (held units other : ℤ) → other_sign held units ≡ true → unsigned_abs units ≤ unsigned_abs held → other_sign held other ≡ false
    → other_sign (held +ℤ units) other ≡ false
sign_less held units other e within g = grind (arith, ints)

-- ---- Lots of one sign.

abbrev lot_at : List ℕ → LotKey → Position
lot_at name key = (name, Some key)

-- the units of a lot
abbrev in_lot : Held → List ℕ → LotKey → ℤ
in_lot held name key = units_at held (name, Some key)

-- in each commodity no two lots have other signs
pub record IsSigned (held : Held) : Type 0 where
  pub each : (name : List ℕ) (a b : LotKey) → other_sign (in_lot held name a) (in_lot held name b) ≡ false

-- the lots of each commodity, as they are listed
pub one_sign : (held : Held) → IsSigned held → (name : List ℕ) → HaveOneSign (lots_of held name)
one_sign held signed name =
    each_member _ (lots_of held name) (λ lot member. each_member _ (lots_of held name) (λ other among.
    ap (λ z. other_sign z other.1) (sym (held_lot held name lot member)) ∙ ap (other_sign (units_at held (name, Some lot.0))) (sym (held_lot held name other among))
    ∙ signed.each name lot.0 other.0))

-- ---- Units added at a position.

elsewhere : (held : Held) (at : Position) (units : ℤ) (other : Position) → other ≢ at → units_at (added held at units) other ≡ units_at held other
elsewhere held at units other apart =
    ap (λ (found : Option ℤ). unwrap_or found (pos 0)) (get-with_units_apart held at (units_at held at +ℤ units) other apart)

here : (held : Held) (at : Position) (units : ℤ) → units_at (added held at units) at ≡ units_at held at +ℤ units
here held at units = units_at-set held at (units_at held at +ℤ units)

-- whether two positions are one
one_or_other : (a b : Position) → (a ≡ b) ⊎ (a ≢ b)
one_or_other a b = by_bool (eq_by_cmp position_cmp a b)
    (λ e. inl (exact_positions a b (is_equal (position_cmp a b) e)))
    (λ e. inr (λ same. true≢false (sym (ap (eq_by_cmp position_cmp a) (sym same) ∙ (eq_by_cmp_equiv positions_total).refl a) ∙ e)))

-- plain units change no lot
pub signed_plain : (held : Held) (name : List ℕ) (units : ℤ) → IsSigned held → IsSigned (added held (name, None) units)
signed_plain held name units signed = record {
  each = λ other a b.
      ap (λ z. other_sign z (in_lot (added held (name, None) units) other b)) (same other a)
      ∙ ap (other_sign (in_lot held other a)) (same other b)
      ∙ signed.each other a b;
}
  where
    not_plain : (key : LotKey) → Some key ≡ None → ⊥
    not_plain key e = cc

    same : (other : List ℕ) (key : LotKey) → in_lot (added held (name, None) units) other key ≡ in_lot held other key
    same other key = elsewhere held (name, None) units (other, Some key) (λ e. not_plain key (ap (λ (p : Position). p.1) e))

-- units are added at a lot, which then has the other sign of none
module _ (held : Held) (name : List ℕ) (key : LotKey) (units : ℤ) (signed : IsSigned held)
    (suits : (other : LotKey) → other_sign (in_lot held name key +ℤ units) (in_lot held name other) ≡ false) where
  abbrev now : Held
  now = added held (name, Some key) units

  -- the lot beside another one
  beside : (other : List ℕ) (a b : LotKey) → lot_at other a ≡ lot_at name key → lot_at other b ≢ lot_at name key
      → other_sign (in_lot now other a) (in_lot now other b) ≡ false
  beside other a b same apart =
      ap (λ (p : Position). other_sign (units_at now p) (in_lot now other b)) same
      ∙ ap (λ z. other_sign z (in_lot now other b)) (here held (name, Some key) units)
      ∙ ap (other_sign (in_lot held name key +ℤ units)) (elsewhere held (name, Some key) units (other, Some b) apart)
      ∙ ap (λ (p : Position). other_sign (in_lot held name key +ℤ units) (units_at held (p.0, Some b))) same
      ∙ suits b

  two : (other : List ℕ) (a b : LotKey) → other_sign (in_lot now other a) (in_lot now other b) ≡ false
  two other a b = elim (one_or_other (other, Some a) (name, Some key)) [
    | inl at ↦ elim (one_or_other (other, Some b) (name, Some key)) [
      | inl also ↦ ap (λ (p : Position). other_sign (units_at now p) (in_lot now other b)) (at ∙ sym also) ∙ sign_itself (in_lot now other b)
      | inr apart ↦ beside other a b at apart
    ]
    | inr apart ↦ elim (one_or_other (other, Some b) (name, Some key)) [
      | inl at ↦ sign_turned (in_lot now other b) (in_lot now other a) (beside other b a at apart)
      | inr also ↦
          ap (λ z. other_sign z (in_lot now other b)) (elsewhere held (name, Some key) units (other, Some a) apart)
          ∙ ap (other_sign (in_lot held other a)) (elsewhere held (name, Some key) units (other, Some b) also)
          ∙ signed.each other a b
    ]
  ]

  signed_lot : IsSigned now
  signed_lot = record { each = two }

-- ---- Augmenting.

found_sign : (units : ℤ) (key : LotKey) (lots : List (LotKey × ℤ)) → list_any (λ lot. other_sign lot units) (values_of lots) ≡ false
    → other_sign (unwrap_or (lookup (is_at (lot_cmp key)) lots) (pos 0)) units ≡ false
found_sign units key [] none = sign_none units
found_sign units key (lot ∷ lots) none =
    let parts = or_parts (other_sign lot.1 units) (list_any (λ lot. other_sign lot units) (values_of lots)) none in
    by_bool (is_at (lot_cmp key) lot.0)
    (λ e. ap (λ b. other_sign (unwrap_or (cond b (Some lot.1) (lookup (is_at (lot_cmp key)) lots)) (pos 0)) units) e ∙ parts.0)
    (λ e. ap (λ b. other_sign (unwrap_or (cond b (Some lot.1) (lookup (is_at (lot_cmp key)) lots)) (pos 0)) units) e ∙ found_sign units key lots parts.1)

-- where units take no lots away, no lot has their other sign
no_other : (held : Held) (name : List ℕ) (units : ℤ) → reduces held name units ≡ false → (key : LotKey)
    → other_sign (in_lot held name key) units ≡ false
no_other held name units none key =
    ap (λ (found : Option ℤ). other_sign (unwrap_or found (pos 0)) units) (sym (lots_of-get held name key)) ∙ found_sign units key (lots_of held name) none

pub signed_more : (held : Held) (name : List ℕ) (key : LotKey) (units : ℤ) → units ≢ pos 0 → reduces held name units ≡ false → IsSigned held
    → IsSigned (added held (name, Some key) units)
signed_more held name key units some none signed = signed_lot held name key units signed
    (λ other. sign_more (in_lot held name key) units (in_lot held name other) some
    (no_other held name units none key) (no_other held name units none other))

-- ---- Reducing.

-- a leg takes from a lot that is held, and no more than is there
pub record TakesHeld (held : Held) (name : List ℕ) (leg : LotKey × ℤ) : Type 0 where
  pub sign : other_sign (in_lot held name leg.0) leg.1 ≡ true
  pub bound : unsigned_abs leg.1 ≤ unsigned_abs (in_lot held name leg.0)

-- an inventory with these units added at lots of a commodity, one after another
abbrev pub adding : Held → List ℕ → List (LotKey × ℤ) → Held
adding held name [] = held
adding held name (leg ∷ legs) = adding (added held (name, Some leg.0) leg.1) name legs

still_takes : (held : Held) (name : List ℕ) (leg : LotKey × ℤ) (legs : List (LotKey × ℤ))
    → AllByRecursion (λ key. eq_by_cmp lot_cmp leg.0 key ≡ false) (keys_of legs)
    → AllByRecursion (TakesHeld held name) legs → AllByRecursion (TakesHeld (added held (name, Some leg.0) leg.1) name) legs
still_takes held name leg [] apart takes = tt
still_takes held name leg (next ∷ legs) apart takes =
    let same : in_lot (added held (name, Some leg.0) leg.1) name next.0 ≡ in_lot held name next.0 =
    elsewhere held (name, Some leg.0) leg.1 (name, Some next.0)
    (λ e. other_key leg.0 next.0 apart.0 (ap (λ (p : Position). p.1) e)) in (
      record {
        sign = ap (λ z. other_sign z next.1) same ∙ takes.0.sign;
        bound = subst (λ (z : ℤ). unsigned_abs next.1 ≤ unsigned_abs z) (sym same) takes.0.bound;
      },
      still_takes held name leg legs apart.1 takes.1,
    )
  where
    other_key : (a b : LotKey) → eq_by_cmp lot_cmp a b ≡ false → Some b ≡ Some a → ⊥
    other_key a b e same = let is : b ≡ a = cc in true≢false (sym (ap (eq_by_cmp lot_cmp a) is ∙ (eq_by_cmp_equiv lots_total).refl a) ∙ e)

pub signed_less : (held : Held) (name : List ℕ) (legs : List (LotKey × ℤ)) → HaveDistinctKeys legs
    → AllByRecursion (TakesHeld held name) legs → IsSigned held
    → IsSigned (adding held name legs)
signed_less held name [] distinct takes signed = signed
signed_less held name (leg ∷ legs) distinct takes signed =
    let same = eq_by_cmp lot_cmp in
    signed_less (added held (name, Some leg.0) leg.1) name legs (IsDistinct-tail same leg.0 (keys_of legs) distinct)
    (still_takes held name leg legs (IsDistinct-head same leg.0 (keys_of legs) distinct) takes.1)
    (signed_lot held name leg.0 leg.1 signed (λ other. sign_less (in_lot held name leg.0) leg.1 (in_lot held name other)
    takes.0.sign takes.0.bound (signed.each name leg.0 other)))
