-- Keys of legs, with one more leg.
use Rattle.std.specs.Prelude.{◌≡◌, Bool, true, false, cond, List, [], ◌∷◌, ◌++◌, filter, map}
use Rattle.std.proofs.Common.{refl, sym, ap, ◌∙◌}
use Rattle.std.proofs.lemmas.List.{map-append}
use Rattle.lot_legs.specs.declared.leg.DatedLeg.{DatedLeg}
use Rattle.lot_tally.proofs.SumLemmas.{filter_push}
use Rattle.lot_noted.specs.Book.{Asked, asked_in, has}
use Rattle.lot_noted.specs.Keys.{HasTaken, asked_keys, key_in}
use Rattle.lot_noted.specs.declared.key.LegKey.{LegKey}
use Rattle.lot_noted.specs.declared.keys.LegKeys.{LegKeys}

abbrev pub has_leg : Asked → DatedLeg → Bool
has_leg asked leg = has asked leg.account leg.commodity leg.day

keys_push : (asked : Asked) (legs : List DatedLeg) (leg : DatedLeg) (b : Bool) → has_leg asked leg ≡ b
    → asked_keys asked (legs ++ leg ∷ []) ≡ map key_in (cond b (filter (has_leg asked) legs ++ leg ∷ []) (filter (has_leg asked) legs))
keys_push asked legs leg b is =
    ap (map key_in) (filter_push (has_leg asked) legs leg ∙ ap (λ c. cond c (filter (has_leg asked) legs ++ leg ∷ []) (filter (has_leg asked) legs)) is)

-- a leg that isn't asked for is passed over
pub keys_passed : (asked : Asked) (legs : List DatedLeg) (leg : DatedLeg) (keys : LegKeys) → HasTaken asked legs keys
    → has_leg (asked_in keys.scope.now) leg ≡ false → HasTaken asked (legs ++ leg ∷ []) keys
keys_passed asked legs leg keys taken apart =
    (taken.0, taken.1 ∙ sym (keys_push asked legs leg false (ap (λ (a : Asked). has_leg a leg) (sym taken.0) ∙ apart)))

-- the key of one that is, is kept
pub keys_kept : (asked : Asked) (legs : List DatedLeg) (leg : DatedLeg) (old new : LegKeys) → HasTaken asked legs old
    → has_leg (asked_in old.scope.now) leg ≡ true → asked_in new.scope.now ≡ asked_in old.scope.now → new.keys.items ≡ old.keys.items ++ key_in leg ∷ []
    → HasTaken asked (legs ++ leg ∷ []) new
keys_kept asked legs leg old new taken here scope items = (
  scope ∙ taken.0,
  items
      ∙ ap (λ (ks : List LegKey). ks ++ key_in leg ∷ []) taken.1
      ∙ sym (map-append key_in (filter (has_leg asked) legs) (leg ∷ []))
      ∙ sym (keys_push asked legs leg true (ap (λ (a : Asked). has_leg a leg) (sym taken.0) ∙ here)),
)
