-- A truth value is one of two.
use Rattle.std.specs.Prelude.{◌≡◌, Bool, true, false}
use Rattle.std.proofs.Common.{refl}

pub by_bool : {P : Type 0} (b : Bool) → (b ≡ true → P) → (b ≡ false → P) → P
by_bool true holds fails = holds refl
by_bool false holds fails = fails refl
