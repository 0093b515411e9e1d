-- What is read of a row, or the first fault.
use Rattle.std.specs.Prelude.{◌≡◌, ◌≢◌, Option, None, Some, Result, Ok, Err, MatchResult}
use Rattle.lot_roles.specs.declared.fault.RowFault.{RowFault}
use Rattle.lot_roles.specs.declared.fault.RowFault.TheVariants.{Memory}

-- what is said, or the first fault
abbrev pub Read : Type 0 → Type 0
Read T = Result T RowFault

-- one after another: a later one counts only where the earlier ones have no fault
infixl 10 ◌>>=◌
abbrev pub ◌>>=◌ : {A B : Type 0} → Read A → (A → Read B) → Read B
Ok x >>= f = f x
Err fault >>= f = Err fault

-- what has to be there
abbrev pub or_fault : {T : Type 0} → RowFault → Option T → Read T
or_fault fault None = Err fault
or_fault fault (Some x) = Ok x

-- what is read of a value, where there is one
abbrev pub if_any : {A B : Type 0} → (A → Read B) → Option A → Read (Option B)
if_any f None = Ok None
if_any f (Some x) = f x >>= λ y. Ok (Some y)

-- an answer is what is read, unless memory runs out
abbrev pub Gives : {T : Type 0} → Read T → Read T → Type 0
Gives answer read = MatchResult answer (λ x. read ≡ Ok x) (λ fault. fault ≢ Memory → read ≡ Err fault)
