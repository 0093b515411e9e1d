-- The currencies of an opening, and its method.
use Rattle.std.proofs.Common.{◌≡◌, ℕ, Bool, true, false, List, [], ◌∷◌, map, flat_map, Option, None, Some, refl, sym, subst}
use Rattle.std.specs.Prelude.{Result, Ok, Err, IfErr, IsErrAnd, IsErrOf, ◌&&◌}
use Rattle.std.specs.List.{AllZip, list_all}
use Rattle.std.proofs.lemmas.Bool.{and_parts}
use Rattle.std.proofs.lemmas.Option.{none-some}
use Rattle.lot_base.specs.Name.{is_account, is_commodity}
use Rattle.lot_cost.specs.Method.{word_of}
use Rattle.lot_cost.specs.declared.method.Method.{Method}
use Rattle.lot_syntax.specs.Form.{opening}
use Rattle.lot_syntax.specs.Header.{seen_text}
use Rattle.lot_read.specs.declared.fault.ValueFault.{ValueFault}
use Rattle.lot_read.specs.declared.fault.ValueFault.TheVariants.{BadName}
use Rattle.lot_read.specs.declared.fault.MeaningFault.{MeaningFault}
use Rattle.lot_read.specs.declared.fault.MeaningFault.TheVariants.{Outside, Memory}
use Rattle.lot_read.specs.Meaning.{Names, MeansMethod, Item, AreInside, FirstOutside, commodity_item, method_item, listed_by, directive_items}
use Rattle.lot_read.specs.NameLaws.{commodity_outside}
use Rattle.lot_read.specs.Outside.{IsOutside}
use Rattle.lot_read.specs.Refusal.{IsRefusal}
use Rattle.lot_read.proofs.ItemLemmas.{both_inside, outside_first, outside_later, outside_before, outside_behind}
use denote.Ref.{Bor}

-- ---- Currencies.

abbrev names_commodity : Bor (List ℕ) → Bool
names_commodity word = is_commodity word.now

pub currencies_named : (words : List (Bor (List ℕ))) → list_all names_commodity words ≡ true
    → AllZip (Names is_commodity) (map seen_text words) (map seen_text words)
currencies_named [] e = tt
currencies_named (word ∷ words) e =
    let both = and_parts (names_commodity word) (list_all names_commodity words) e in
    (record { spelled = refl; good = both.0 }, currencies_named words both.1)

abbrev FirstBad : List (Bor (List ℕ)) → Type 0
FirstBad words = FirstOutside (flat_map (λ c. commodity_item c ∷ []) (map seen_text words)) BadName

first_bad_by : (word : Bor (List ℕ)) (words : List (Bor (List ℕ))) (good : Bool) → names_commodity word ≡ good
    → (list_all names_commodity words ≡ false → FirstBad words) → good && list_all names_commodity words ≡ false → FirstBad (word ∷ words)
first_bad_by word words true e later f = outside_later _ _ _ (word.now, record { spelled = refl; good = e }) (later f)
first_bad_by word words false e later f = outside_first _ _ _ (commodity_outside word.now e)

pub currency_outside : (words : List (Bor (List ℕ))) → list_all names_commodity words ≡ false → FirstBad words
currency_outside [] e = cc
currency_outside (word ∷ words) e = first_bad_by word words (names_commodity word) refl (currency_outside words) e

-- ---- Methods.

pub no_method : (word : List ℕ)
    → ((method : Method) → (None ≡ Some method → word ≡ word_of method) × (word ≡ word_of method → None ≡ Some method))
    → IsOutside (method_item word) BadName
no_method word unknown = record { outside = λ (method, e). none-some method ((unknown method).1 e); which = refl }

method_inside : (part : Option (List ℕ)) (method : Method) → MeansMethod part method → AreInside (listed_by (λ m. method_item m ∷ []) part)
method_inside None method e = tt
method_inside (Some word) method e = ((method, e), tt)

-- ---- Openings.

currencies_inside : (currencies names : List (List ℕ)) → AllZip (Names is_commodity) currencies names
    → AreInside (flat_map (λ c. commodity_item c ∷ []) currencies)
currencies_inside [] [] e = tt
currencies_inside (word ∷ currencies) [] e = absurd e
currencies_inside [] (name ∷ names) e = absurd e
currencies_inside (word ∷ currencies) (name ∷ names) e = ((name, e.0), currencies_inside currencies names e.1)

pub opening_inside : (account name : List ℕ) (currencies names : List (List ℕ)) (part : Option (List ℕ)) (method : Method)
    → Names is_account account name → AllZip (Names is_commodity) currencies names → MeansMethod part method
    → AreInside (directive_items (opening account currencies part))
opening_inside account name currencies names part method a c m =
    ((name, a), both_inside _ _ (currencies_inside currencies names c) (method_inside part method m))

pub opening_currency_outside : (account name : List ℕ) (currencies : List (List ℕ)) (part : Option (List ℕ)) (fault : ValueFault)
    → Names is_account account name → FirstOutside (flat_map (λ c. commodity_item c ∷ []) currencies) fault
    → FirstOutside (directive_items (opening account currencies part)) fault
opening_currency_outside account name currencies part fault a c = outside_later _ _ _ (name, a) (outside_before _ _ _ c)

pub opening_method_outside : (account name : List ℕ) (currencies names : List (List ℕ)) (part : Option (List ℕ)) (fault : ValueFault)
    → Names is_account account name → AllZip (Names is_commodity) currencies names
    → FirstOutside (listed_by (λ m. method_item m ∷ []) part) fault → FirstOutside (directive_items (opening account currencies part)) fault
opening_method_outside account name currencies names part fault a c m =
    outside_later _ _ _ (name, a) (outside_behind _ _ _ (currencies_inside currencies names c) m)

-- ---- What a call refuses.

pub refused_outside : {T : Type 0} (items : List Item) (fault : ValueFault) (result : Result T MeaningFault)
    → IsErrAnd result (λ e. e ≡ Outside fault) → FirstOutside items fault → IfErr result (IsRefusal items)
refused_outside items fault (Ok command) is first = tt
refused_outside items fault (Err e) is first = subst (IsRefusal items) (sym is) first

pub refused_memory : {T : Type 0} (items : List Item) (result : Result T MeaningFault)
    → IsErrAnd result (λ e. e ≡ Memory) → AreInside items → IfErr result (IsRefusal items)
refused_memory items (Ok command) is inside = tt
refused_memory items (Err e) is inside = subst (IsRefusal items) (sym is) inside

pub refused_with : {T : Type 0} (items : List Item) (fault : ValueFault) (result : Result T MeaningFault)
    → IfErr result (IsRefusal items) → IsErrOf result (Outside fault) → FirstOutside items fault
refused_with items fault result refused is = subst (λ r. IfErr r (IsRefusal items)) is refused
