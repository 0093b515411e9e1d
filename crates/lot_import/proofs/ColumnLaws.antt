-- Each column says one thing, or nothing.
use Rattle.std.proofs.Common.{◌≡◌, ℕ, Bool, true, false, List, [], ◌∷◌, Option, Some, None, ℤ, refl, sym, ◌∙◌, ap, inl, inr}
use Rattle.std.specs.Prelude.{Ok, codes}
use Rattle.std.specs.Str.{IsUtf8, is_utf8}
use Rattle.std.proofs.lemmas.Bool.{false≢true}
use Rattle.std.proofs.lemmas.Option.{same_Some}
use Rattle.std.proofs.lemmas.Str.{IsUtf8-from_is_utf8, is_utf8-from_IsUtf8}
use Rattle.lot_num.specs.NumberText.{rate_of, total_of}
use Rattle.lot_base.specs.Name.{is_commodity, is_label}
use Rattle.lot_base.specs.Day.{named_day}
use Rattle.lot_base.proofs.DecisionLemmas.{Decided, decided_by, ok_or_not, same_or_not, some_or_not, true_or_not}
use Rattle.lot_import.specs.Row.{HasLot, NamesLot, SaysAction, SaysCommodity, SaysDay, SaysFee, SaysLabel, SaysLot, SaysRate, SaysUnits, at_column}
use Rattle.lot_import.specs.declared.row.Action.{Action}
use Rattle.lot_import.specs.declared.row.Action.TheVariants.{Buy, Sell}
use Rattle.lot_import.specs.declared.version.Version.{Version}
use Rattle.lot_import.specs.declared.version.Version.TheVariants.{First, Second}

-- ---- Whether there is a value.

utf8_or_not : (field : List ℕ) → Decided (IsUtf8 field)
utf8_or_not field = decided_by (is_utf8 field ≡ true) (IsUtf8 field) (IsUtf8-from_is_utf8 field) (is_utf8-from_IsUtf8 field) (true_or_not (is_utf8 field))

-- a value that a field says as text
text_says : {X : Type 0} (Says : X → Type 0) (field : List ℕ) → Decided (IsUtf8 field) → Decided ((x : X) × Says x) → Decided ((x : X) × (IsUtf8 field × Says x))
text_says Says field (inl u) (inl (x, says)) = inl (x, (u, says))
text_says Says field (inl u) (inr none) = inr (λ (x, (v, says)). none (x, says))
text_says Says field (inr none) d = inr (λ (x, (v, says)). none v)

-- a name of that grammar, spelled as the field
named_by : (good : Bool) (field : List ℕ) → Decided (IsUtf8 field) → Decided ((name : List ℕ) × (IsUtf8 field × (good ≡ true) × (name ≡ field)))
named_by true field (inl u) = inl (field, (u, refl, refl))
named_by false field (inl u) = inr (λ (name, says). false≢true says.1)
named_by good field (inr none) = inr (λ (name, says). none says.0)

pub label_known : (field : List ℕ) → Decided ((label : List ℕ) × SaysLabel field label)
label_known field = named_by (is_label field) field (utf8_or_not field)

pub commodity_known : (field : List ℕ) → Decided ((commodity : List ℕ) × SaysCommodity field commodity)
commodity_known field = named_by (is_commodity field) field (utf8_or_not field)

pub day_known : (field : List ℕ) → Decided ((day : ℤ) × SaysDay field day)
day_known field = text_says (λ day. named_day field ≡ Some day) field (utf8_or_not field) (some_or_not (named_day field))

pub units_known : (field : List ℕ) → Decided ((units : ℤ) × SaysUnits field units)
units_known field = text_says (λ units. total_of field ≡ Ok units) field (utf8_or_not field) (ok_or_not (total_of field))

pub rate_known : (field : List ℕ) → Decided ((rate : ℕ) × SaysRate field rate)
rate_known field = text_says (λ rate. rate_of field ≡ Ok rate) field (utf8_or_not field) (ok_or_not (rate_of field))

pub fee_known : (field : List ℕ) → Decided ((fee : ℕ) × SaysFee field fee)
fee_known [] = inl (0, refl)
fee_known (b ∷ bytes) = rate_known (b ∷ bytes)

action_by : (field : List ℕ) → Decided (field ≡ codes "BUY") → Decided (field ≡ codes "SELL") → Decided ((action : Action) × SaysAction field action)
action_by field (inl e) d = inl (Buy, e)
action_by field (inr none) (inl e) = inl (Sell, e)
action_by field (inr none) (inr other) = inr (λ (action, says). neither action says)
  where
    neither : (action : Action) → SaysAction field action → ⊥
    neither Buy says = none says
    neither Sell says = other says

pub action_known : (field : List ℕ) → Decided ((action : Action) × SaysAction field action)
action_known field = action_by field (same_or_not field (codes "BUY")) (same_or_not field (codes "SELL"))

-- ---- The lot.

named_lot : (action : Action) (reference field : List ℕ) → Decided (field ≡ reference) → Decided ((label : List ℕ) × SaysLabel field label)
    → Decided ((label : List ℕ) × NamesLot action reference field label)
named_lot Buy reference field (inl e) (inl (label, says)) = inl (label, (e, says))
named_lot Buy reference field (inl e) (inr none) = inr (λ (label, (same, says)). none (label, says))
named_lot Buy reference field (inr other) d = inr (λ (label, (same, says)). other same)
named_lot Sell reference field same d = d

lot_by : (action : Action) (reference : List ℕ) (b : ℕ) (bytes : List ℕ) → Decided ((label : List ℕ) × NamesLot action reference (b ∷ bytes) label)
    → Decided ((lot : Option (List ℕ)) × SaysLot action reference (b ∷ bytes) lot)
lot_by action reference b bytes (inl (label, names)) = inl (Some label, names)
lot_by action reference b bytes (inr none) = inr (λ (lot, says). neither lot says)
  where
    neither : (lot : Option (List ℕ)) → SaysLot action reference (b ∷ bytes) lot → ⊥
    neither None says = says
    neither (Some label) says = none (label, says)

says_lot_known : (action : Action) (reference field : List ℕ) → Decided ((lot : Option (List ℕ)) × SaysLot action reference field lot)
says_lot_known action reference [] = inl (None, refl)
says_lot_known action reference (b ∷ bytes) =
    lot_by action reference b bytes (named_lot action reference (b ∷ bytes) (same_or_not (b ∷ bytes) reference) (label_known (b ∷ bytes)))

pub lot_known : (version : Version) (action : Action) (written : List (List ℕ)) → Decided ((lot : Option (List ℕ)) × HasLot version action written lot)
lot_known First action written = inl (None, refl)
lot_known Second action written = says_lot_known action (at_column written 0) (at_column written 8)

-- ---- One value.

pub one_label : (field a b : List ℕ) → SaysLabel field a → SaysLabel field b → a ≡ b
one_label field a b h k = h.2 ∙ sym k.2

pub one_commodity : (field a b : List ℕ) → SaysCommodity field a → SaysCommodity field b → a ≡ b
one_commodity field a b h k = h.2 ∙ sym k.2

pub one_day : (field : List ℕ) (a b : ℤ) → SaysDay field a → SaysDay field b → a ≡ b
one_day field a b h k = same_Some a b (sym h.1 ∙ k.1)

pub one_units : (field : List ℕ) (a b : ℤ) → SaysUnits field a → SaysUnits field b → a ≡ b
one_units field a b h k = let e : ◌≡◌ (Ok a) (Ok b) = sym h.1 ∙ k.1 in cc

pub one_rate : (field : List ℕ) (a b : ℕ) → SaysRate field a → SaysRate field b → a ≡ b
one_rate field a b h k = let e : ◌≡◌ (Ok a) (Ok b) = sym h.1 ∙ k.1 in cc

pub one_fee : (field : List ℕ) (a b : ℕ) → SaysFee field a → SaysFee field b → a ≡ b
one_fee [] a b h k = h ∙ sym k
one_fee (x ∷ xs) a b h k = one_rate (x ∷ xs) a b h k

named_one : (action : Action) (reference field a b : List ℕ) → NamesLot action reference field a → NamesLot action reference field b → a ≡ b
named_one Buy reference field a b h k = one_label field a b h.1 k.1
named_one Sell reference field a b h k = one_label field a b h k

says_lot_one : (action : Action) (reference field : List ℕ) (a b : Option (List ℕ)) → SaysLot action reference field a → SaysLot action reference field b → a ≡ b
says_lot_one action reference [] a b h k = h ∙ sym k
says_lot_one action reference (x ∷ xs) None b h k = absurd h
says_lot_one action reference (x ∷ xs) (Some a) None h k = absurd k
says_lot_one action reference (x ∷ xs) (Some a) (Some b) h k = ap Some (named_one action reference (x ∷ xs) a b h k)

pub one_lot : (version : Version) (action : Action) (written : List (List ℕ)) (a b : Option (List ℕ)) → HasLot version action written a → HasLot version action written b → a ≡ b
one_lot First action written a b h k = h ∙ sym k
one_lot Second action written a b h k = says_lot_one action (at_column written 0) (at_column written 8) a b h k
