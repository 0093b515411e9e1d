-- An error that `?` passes on as it is.
use Rattle.std.proofs.Common.{◌≡◌, Ok, Err, Result, sym, subst}
use Rattle.std.specs.Result.{IfErr, IsErrAnd}

pub passed_on : {T E : Type 0} (r : Result T E) (error : E) (P : E → Type 0) → IsErrAnd r (λ e. e ≡ error) → P error → IfErr r P
passed_on (Ok x) error P is h = tt
passed_on (Err e) error P is h = subst P (sym is) h
