-- What is read of a list, item by item.
use Rattle.std.proofs.Common.{◌≡◌, ℕ, suc, ◌+◌, ◌<◌, List, [], ◌∷◌, ◌++◌, append_assoc, drop, get_or, length, Ok, Err, refl, sym, ap}
use Rattle.std.proofs.lemmas.List.{drop_more}
use Rattle.toml.specs.View.{view, items_view}
use Rattle.toml.specs.declared.value.Value.{Value}
use Rattle.lot_profile_text.specs.Reading.{Read, ◌>>=◌, each, numbered_items}
use Rattle.lot_profile_text.specs.declared.fault.ProfileFault.{ProfileFault}

-- what is said, behind what was said before
abbrev pub behind : {T : Type 0} → List T → Read (List T) → Read (List T)
behind before (Ok xs) = Ok (before ++ xs)
behind before (Err fault) = Err fault

behind_one : {T : Type 0} (before : List T) (x : T) (rest : Read (List T)) → behind before (rest >>= λ xs. Ok (x ∷ xs)) ≡ behind (before ++ x ∷ []) rest
behind_one before x (Ok xs) = ap (λ all. Ok all) (sym (append_assoc before (x ∷ []) xs))
behind_one before x (Err fault) = refl

pub each_more : {A T : Type 0} (said : A → Read T) (before : List T) (a : A) (more : List A) (x : T) → said a ≡ Ok x
    → behind before (each said (a ∷ more)) ≡ behind (before ++ x ∷ []) (each said more)
each_more said before a more x ok = rw ok (behind_one before x (each said more))

pub each_stop : {A T : Type 0} (said : A → Read T) (before : List T) (a : A) (more : List A) (fault : ProfileFault) → said a ≡ Err fault
    → behind before (each said (a ∷ more)) ≡ Err fault
each_stop said before a more fault err = rw err refl

pub items_at : (vs : List Value) (i : ℕ) (v : Value) → i < length vs → v ≡ get_or vs i v
    → numbered_items (suc i) (items_view (drop i vs)) ≡ (suc i, view v) ∷ numbered_items (suc (suc i)) (items_view (drop (i + 1) vs))
items_at vs i v small is = rw (drop_more vs i v small) (ap (λ (w : Value). (suc i, view w) ∷ numbered_items (suc (suc i)) (items_view (drop (i + 1) vs))) (sym is))
