-- The keys of entries.
use Rattle.std.proofs.Common.{◌≡◌, ℕ, List, [], ◌∷◌, map, refl, ap}
use Rattle.std.specs.Prelude.{bytes_eq, ◌||◌}
use Rattle.std.specs.List.{list_any}
use Rattle.lot_profile_text.specs.declared.entry.Entry.{Entry}
use Rattle.lot_profile_text.specs.Reading.{is_known, key_of}

pub known_entries : (entries : List Entry) (key : List ℕ) → list_any (λ (e : Entry). bytes_eq e.key.now key) entries ≡ is_known (map key_of entries) key
known_entries [] key = refl
known_entries (e ∷ more) key = ap (λ b. bytes_eq e.key.now key || b) (known_entries more key)
