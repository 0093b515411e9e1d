-- What is kept of lots, leg by leg.
use Rattle.std.specs.Prelude.{◌≡◌, ◌≢◌, ℕ, suc, ◌+◌, ◌<◌, ◌≤◌, true, false, cond, List, [], ◌∷◌, ◌++◌, length, take, get_or, Any, Option, None, Some, is_some, IsSome, pos, ◌+ℤ◌}
use Rattle.std.specs.BTreeMap.{BTreeMap, get}
use Rattle.std.specs.Ordering.{int_eq}
use Rattle.std.specs.Map.{lookup}
use Rattle.std.specs.Option.{unwrap_or}
use Rattle.std.proofs.Common.{arith, refl, sym, ap, subst, ◌∙◌}
use Rattle.std.proofs.lemmas.Bool.{true≢false}
use Rattle.std.proofs.lemmas.Grind.{common_steps}
use Rattle.std.proofs.lemmas.List.{take_all, take_more}
use Rattle.std.proofs.lemmas.List.Quantifiers.{Any-push}
use Rattle.lot_num.specs.Amount.{IsUnits}
use Rattle.lot_book.specs.declared.leg.Leg.{Leg}
use Rattle.lot_book.specs.declared.leg.Position.{Position}
use Rattle.lot_book.specs.Leg.{position_cmp, same_position, sum_at}
use Rattle.lot_book.specs.OpeningNumber.{HasOpeningNumber, posting_number}
use Rattle.lot_book.proofs.CaseLemmas.{by_bool}
use Rattle.lot_book.proofs.OrderLemmas.{one_position, same_position-itself, same_position-turned}
use Rattle.lot_laws.proofs.OpeningLemmas.{number_elsewhere, number_has, number_is, number_kept, is_zero, not_zero, number_opened, some_units, sum_at-push, sum_at-push_apart, zero_is}
use Rattle.lot_migrate.specs.declared.opening_numbers.OpenLot.{OpenLot}
use Rattle.lot_book.specs.OpeningNumber.{StayInRange}
use Rattle.lot_migrate.specs.LotOpenings.{IsKept, Keeps, KeepsLots, LeavesRange, lot_with, units_kept}
use Rattle.lot_migrate.specs.declared.opening_numbers.OpenLots.{OpenLots}

pub units_kept-sum : (legs : List Leg) (lot : Position) (kept : Option OpenLot) → IsKept legs lot kept
    → units_kept kept ≡ sum_at legs lot
units_kept-sum legs lot None h = sym h
units_kept-sum legs lot (Some kept) h = h.0

-- ---- A leg elsewhere.

apart_from_lot : (lot : Position) (leg : Leg) → same_position lot leg.position ≡ false → leg.position ≢ lot
apart_from_lot lot leg apart is =
    true≢false (sym (ap (same_position lot) is ∙ same_position-itself lot) ∙ apart)

kept_elsewhere : (legs : List Leg) (leg : Leg) (lot : Position) (kept : Option OpenLot)
    → same_position lot leg.position ≡ false → IsKept legs lot kept → IsKept (legs ++ leg ∷ []) lot kept
kept_elsewhere legs leg lot None apart h = sum_at-push_apart legs leg lot apart ∙ h
kept_elsewhere legs leg lot (Some kept) apart h = (
  h.0 ∙ sym (sum_at-push_apart legs leg lot apart),
  h.1,
  number_has (legs ++ leg ∷ []) lot kept.opening
      (number_elsewhere legs leg lot (apart_from_lot lot leg apart) ∙ number_is legs lot kept.opening h.2),
)

-- a leg at a plain position leaves all lots
pub lots-plain : (legs : List Leg) (leg : Leg) (lots : BTreeMap Position OpenLot) → leg.position.lot ≡ None
    → KeepsLots legs lots → KeepsLots (legs ++ leg ∷ []) lots
lots-plain legs leg lots plain keeps lot is_lot =
    kept_elsewhere legs leg lot (get position_cmp lots lot)
    (by_bool (same_position lot leg.position)
    (λ here.
    let none : lot.lot ≡ None = ap (λ (p : Position). p.lot) (one_position lot leg.position here) ∙ plain in
    let some : is_some lot.lot ≡ true = is_lot in
    absurd (true≢false (sym some ∙ ap is_some none)))
    (λ e. e))
    (keeps lot is_lot)

-- ---- A leg in the lot.

sum_at-push_here : (legs : List Leg) (leg : Leg)
    → sum_at (legs ++ leg ∷ []) leg.position ≡ sum_at legs leg.position +ℤ leg.units
sum_at-push_here legs leg =
    let sum = sum_at legs leg.position in
    sum_at-push legs leg leg.position ∙ ap (λ b. cond b (sum +ℤ leg.units) sum) (same_position-itself leg.position)

-- what is kept of a lot after one more leg in it: more units, and the number of the leg that opens it, or its own
pub record IsAfter (kept : Option OpenLot) (leg : Leg) (after : OpenLot) : Type 0 where
  pub units : after.units ≡ units_kept kept +ℤ leg.units
  pub opened : units_kept kept ≡ pos 0 → after.opening ≡ posting_number leg
  pub same : (lot : OpenLot) → kept ≡ Some lot → lot.units ≢ pos 0 → after.opening ≡ lot.opening

-- what is kept of a lot, or of one that no leg is at
abbrev pub lot_before : Option OpenLot → OpenLot
lot_before kept = unwrap_or kept (record { units = pos 0; opening = 0 })

units_before : (kept : Option OpenLot) → units_kept kept ≡ (lot_before kept).units
units_before None = refl
units_before (Some lot) = refl

-- a lot with one more leg
after_before : (leg : Leg) (kept : Option OpenLot) → IsAfter kept leg (lot_with (lot_before kept) leg)
after_before leg kept = record {
  units = ap (λ z. z +ℤ leg.units) (sym (units_before kept));
  opened = λ zero.
      ap (λ b. cond b (posting_number leg) (lot_before kept).opening)
      (is_zero (lot_before kept).units (sym (units_before kept) ∙ zero));
  same = λ lot is some.
      ap (λ (o : Option OpenLot). (lot_with (lot_before o) leg).opening) is
      ∙ ap (λ b. cond b (posting_number leg) lot.opening) (not_zero lot.units some);
}

pub after_with : (leg : Leg) (kept : Option OpenLot) (before after : OpenLot) → before ≡ lot_before kept
    → after ≡ lot_with before leg → IsAfter kept leg after
after_with leg kept before after at is =
    subst (IsAfter kept leg) (sym (is ∙ ap (λ lot. lot_with lot leg) at)) (after_before leg kept)

number_after : (legs : List Leg) (leg : Leg) (kept : Option OpenLot) (after : OpenLot) → IsAfter kept leg after
    → IsKept legs leg.position kept → sum_at legs leg.position ≢ pos 0 → sum_at (legs ++ leg ∷ []) leg.position ≢ pos 0
    → HasOpeningNumber (legs ++ leg ∷ []) leg.position after.opening
number_after legs leg None after is h some still = absurd (some h)
number_after legs leg (Some lot) after is h some still =
    let same : after.opening ≡ lot.opening = is.same lot (λ i. Some lot) h.1 in
    number_has (legs ++ leg ∷ []) leg.position after.opening
    (number_kept legs leg some still ∙ number_is legs leg.position lot.opening h.2 ∙ ap Some (sym same))

sum_after : (legs : List Leg) (leg : Leg) (kept : Option OpenLot) (after : OpenLot) → IsAfter kept leg after
    → IsKept legs leg.position kept → after.units ≡ sum_at (legs ++ leg ∷ []) leg.position
sum_after legs leg kept after is h =
    is.units ∙ ap (λ z. z +ℤ leg.units) (units_kept-sum legs leg.position kept h)
    ∙ sym (sum_at-push_here legs leg)

-- a lot that the leg leaves some units in
pub kept_here : (legs : List Leg) (leg : Leg) (kept : Option OpenLot) (after : OpenLot) → IsAfter kept leg after
    → after.units ≢ pos 0 → IsKept legs leg.position kept → IsKept (legs ++ leg ∷ []) leg.position (Some after)
kept_here legs leg kept after is some h =
    let before : units_kept kept ≡ sum_at legs leg.position = units_kept-sum legs leg.position kept h in
    let sum : after.units ≡ sum_at (legs ++ leg ∷ []) leg.position = sum_after legs leg kept after is h in
    let still : sum_at (legs ++ leg ∷ []) leg.position ≢ pos 0 = λ zero. some (sum ∙ zero) in (
      sum,
      some,
      by_bool (int_eq (sum_at legs leg.position) (pos 0))
          (λ e.
          let none : sum_at legs leg.position ≡ pos 0 = zero_is (sum_at legs leg.position) e in
          number_has (legs ++ leg ∷ []) leg.position after.opening
          (number_opened legs leg none still ∙ ap Some (sym (is.opened (before ∙ none)))))
          (λ e. number_after legs leg kept after is h (some_units (sum_at legs leg.position) e) still),
    )

-- a lot that the leg empties
pub kept_emptied : (legs : List Leg) (leg : Leg) (kept : Option OpenLot) (after : OpenLot) → IsAfter kept leg after
    → after.units ≡ pos 0 → IsKept legs leg.position kept → IsKept (legs ++ leg ∷ []) leg.position None
kept_emptied legs leg kept after is zero h = sym (sum_after legs leg kept after is h) ∙ zero

-- ---- Any leg.

-- the lots stay as legs leave them where the position of one more leg is kept anew or no more
pub lots-push : (legs : List Leg) (leg : Leg) (old new : BTreeMap Position OpenLot) (now : Option OpenLot)
    → (IsKept legs leg.position (get position_cmp old leg.position) → IsKept (legs ++ leg ∷ []) leg.position now)
    → ((lot : Position) → get position_cmp new lot ≡ cond (same_position leg.position lot) now (get position_cmp old lot))
    → KeepsLots legs old → KeepsLots (legs ++ leg ∷ []) new
lots-push legs leg old new now here changes keeps lot is_lot =
    by_bool (same_position leg.position lot)
    (λ same.
    let there : leg.position ≡ lot = one_position leg.position lot same in
    let kept : IsKept legs leg.position (get position_cmp old leg.position) =
    keeps leg.position (ap (λ (p : Position). is_some p.lot) there ∙ is_lot) in
    let at : now ≡ get position_cmp new lot =
    sym (changes lot ∙ ap (λ b. cond b now (get position_cmp old lot)) same) in
    subst (λ (o : Option OpenLot). IsKept (legs ++ leg ∷ []) lot o) at
    (subst (λ (p : Position). IsKept (legs ++ leg ∷ []) p now) there (here kept)))
    (λ apart.
    let at : get position_cmp old lot ≡ get position_cmp new lot =
    sym (changes lot ∙ ap (λ b. cond b now (get position_cmp old lot)) apart) in
    subst (λ (o : Option OpenLot). IsKept (legs ++ leg ∷ []) lot o) at
    (kept_elsewhere legs leg lot (get position_cmp old lot) (same_position-turned lot leg.position ∙ apart) (keeps lot is_lot)))

-- the same where the position was not kept, and its copy is inserted
pub changes-inserted : (old mid new : BTreeMap Position OpenLot) (key copied : Position) (after : OpenLot)
    → copied ≡ key → mid ≡ old
    → ((lot : Position) → get position_cmp new lot ≡ cond (same_position copied lot) (Some after) (get position_cmp mid lot))
    → (lot : Position) → get position_cmp new lot ≡ cond (same_position key lot) (Some after) (get position_cmp old lot)
changes-inserted old mid new key copied after e m changes lot =
    changes lot
    ∙ ap (λ p. cond (same_position p lot) (Some after) (get position_cmp mid lot)) e
    ∙ ap (λ lots. cond (same_position key lot) (Some after) (get position_cmp lots lot)) m

-- ---- What is kept of all lots.

-- nothing is kept of no legs
pub keeps_nothing : (lots : OpenLots) → lots.lots.entries ≡ [] → Keeps [] lots
keeps_nothing lots none = record {
  lots = λ lot is_lot. subst (IsKept [] lot) (sym (ap (lookup (same_position lot)) none)) refl;
  begun = λ some. absurd (some none);
}

-- the same is kept where the entries are the same
pub keeps_same : (legs : List Leg) (old new : OpenLots) → new.lots.entries ≡ old.lots.entries → Keeps legs old → Keeps legs new
keeps_same legs old new same keeps = record {
  lots = λ lot is_lot.
      subst (IsKept legs lot) (sym (ap (lookup (same_position lot)) same)) (keeps.lots lot is_lot);
  begun = λ some. keeps.begun (λ none. some (same ∙ none));
}

any_before : (legs : List Leg) (leg : Leg) → Any (λ (l : Leg). IsSome l.position.lot) legs
    → Any (λ (l : Leg). IsSome l.position.lot) (legs ++ leg ∷ [])
any_before legs leg (i, found, within, at, is_lot) =
    (i, found, grind (arith, common_steps), grind (arith, common_steps), is_lot)

-- a leg at a plain position leaves what is kept
pub keeps_plain : (legs : List Leg) (leg : Leg) (lots : OpenLots) → leg.position.lot ≡ None → Keeps legs lots
    → Keeps (legs ++ leg ∷ []) lots
keeps_plain legs leg lots plain keeps = record {
  lots = lots-plain legs leg lots.lots plain keeps.lots;
  begun = λ some. any_before legs leg (keeps.begun some);
}

-- a leg at a lot changes what is kept of the lot alone
pub keeps_push : (legs : List Leg) (leg : Leg) (old new : OpenLots) (now : Option OpenLot) → IsSome leg.position.lot
    → (IsKept legs leg.position (get position_cmp old.lots leg.position) → IsKept (legs ++ leg ∷ []) leg.position now)
    → ((lot : Position) → get position_cmp new.lots lot
    ≡ cond (same_position leg.position lot) now (get position_cmp old.lots lot))
    → Keeps legs old → Keeps (legs ++ leg ∷ []) new
keeps_push legs leg old new now is_lot here changes keeps = record {
  lots = lots-push legs leg old.lots new.lots now here changes keeps.lots;
  begun = λ some. Any-push (λ (l : Leg). IsSome l.position.lot) legs leg is_lot;
}

-- what one more leg leaves in its lot, by what is kept
sum_kept : (legs : List Leg) (leg : Leg) (lots : OpenLots) (before : OpenLot)
    → before ≡ lot_before (get position_cmp lots.lots leg.position) → IsSome leg.position.lot → Keeps legs lots
    → sum_at (legs ++ leg ∷ []) leg.position ≡ before.units +ℤ leg.units
sum_kept legs leg lots before at is_lot keeps =
    let kept = get position_cmp lots.lots leg.position in
    sum_at-push_here legs leg
    ∙ ap (λ z. z +ℤ leg.units) (sym (units_kept-sum legs leg.position kept (keeps.lots leg.position is_lot))
    ∙ units_before kept ∙ ap (λ (lot : OpenLot). lot.units) (sym at))

-- where the sum is out of range, the leg leaves it
pub leaves_range : (legs : List Leg) (leg : Leg) (lots : OpenLots) (before : OpenLot)
    → before ≡ lot_before (get position_cmp lots.lots leg.position) → IsSome leg.position.lot → Keeps legs lots
    → (IsUnits (before.units +ℤ leg.units) → ⊥) → LeavesRange legs leg
leaves_range legs leg lots before at is_lot keeps out =
    (is_lot, λ fits. out (subst IsUnits (sum_kept legs leg lots before at is_lot keeps) fits))

-- where it is in range, the leg stays in it
pub stays_within : (legs : List Leg) (leg : Leg) (lots : OpenLots) (before : OpenLot)
    → before ≡ lot_before (get position_cmp lots.lots leg.position) → Keeps legs lots
    → IsUnits (before.units +ℤ leg.units) → LeavesRange legs leg → ⊥
stays_within legs leg lots before at keeps fits leaves =
    leaves.1 (subst IsUnits (sym (sum_kept legs leg lots before at leaves.0 keeps)) fits)

-- ---- The legs one after another.

-- the legs up to the next one
next_legs : (legs : List Leg) (i : ℕ) (leg : Leg) → i < length legs → leg ≡ get_or legs i leg
    → take (i + 1) legs ≡ take i legs ++ leg ∷ []
next_legs legs i leg within at =
    take_more legs i leg within ∙ ap (λ (l : Leg). take i legs ++ l ∷ []) (sym at)

-- the legs up to one of them
first_legs : (legs rest : List Leg) (leg : Leg) → take (suc (length legs)) (legs ++ leg ∷ rest) ≡ legs ++ leg ∷ []
first_legs [] rest leg = refl
first_legs (first ∷ legs) rest leg = ap (λ (ls : List Leg). first ∷ ls) (first_legs legs rest leg)

-- a leg behind others in range leaves its lot in the range of units
pub stays_in_range : (legs rest : List Leg) (leg : Leg) → StayInRange (legs ++ leg ∷ rest) → LeavesRange legs leg → ⊥
stays_in_range legs rest leg range leaves =
    leaves.1 (subst (λ (ls : List Leg). IsUnits (sum_at ls leg.position)) (first_legs legs rest leg)
    (range (suc (length legs)) leg.position))

pub next_kept : (legs : List Leg) (i : ℕ) (leg : Leg) (lots : OpenLots) → i < length legs → leg ≡ get_or legs i leg
    → Keeps (take i legs ++ leg ∷ []) lots → Keeps (take (i + 1) legs) lots
next_kept legs i leg lots within at keeps =
    subst (λ (ls : List Leg). Keeps ls lots) (sym (next_legs legs i leg within at)) keeps

-- behind the last leg all are kept
pub all_kept : (legs : List Leg) (i : ℕ) (lots : OpenLots) → length legs ≤ i → Keeps (take i legs) lots → Keeps legs lots
all_kept legs i lots end keeps = subst (λ (ls : List Leg). Keeps ls lots) (take_all i legs end) keeps
