-- Whether a call of `read` met the end.
use Rattle.std.proofs.Common.{◌≡◌, ◌<◌, ℕ, zero, suc, arith, refl}
use Rattle.lot_io.specs.Reads.{ends}

-- a call that gave bytes didn't meet the end
pub gives : (count : ℕ) → 0 < count → ends count ≡ 0
gives zero some = absurd (omega (arith, some))
gives (suc more) some = refl

-- one that gave nothing did
pub gives_none : (count : ℕ) → count ≡ 0 → ends count ≡ 1
gives_none zero none = refl
gives_none (suc more) none = absurd (omega (arith, none))
