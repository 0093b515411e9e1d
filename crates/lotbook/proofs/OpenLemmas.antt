-- What a result comes to, by whether there is a value.
use Rattle.std.specs.Prelude.{IfErr, IfOk, Result, Ok, Err}

module _ {A E : Type 0} (Is : Result A E → Type 0) where
  pub where_ok : (result : Result A E) → Is result → IfOk result (λ value. Is (Ok value))
  where_ok (Ok value) is = is
  where_ok (Err error) is = tt

  pub where_ok_so : (So : A → Type 0) → ((value : A) → Is (Ok value) → So value) → (result : Result A E) → Is result → IfOk result So
  where_ok_so So so (Ok value) is = so value is
  where_ok_so So so (Err error) is = tt

  pub where_err : (So : E → Type 0) → ((error : E) → Is (Err error) → So error) → (result : Result A E) → Is result → IfErr result So
  where_err So so (Ok value) is = tt
  where_err So so (Err error) is = so error is
