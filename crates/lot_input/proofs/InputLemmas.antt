-- What a reader gives, and what is told where it gives no commands.
use Rattle.std.proofs.Common.{◌≡◌, ℕ, List, IfSome, length, subst, sym}
use Rattle.std.specs.Prelude.{◌≤◌, IfErr, IfOk, Result, Ok, Err}
use Rattle.std.specs.Io.KnownBytes.{IsAtEnd}
use Rattle.lot_stream.specs.Input.{EndsWell, longest_input}
use Rattle.lot_stream.specs.declared.input.SlurpFault.{SlurpFault}
use Rattle.lot_input.specs.Input.{Gives, GivesNone, IsAllOf, Reading}
use Rattle.lot_input.specs.declared.fault.InputFault.{InputFault}
use Rattle.lot_input.specs.declared.fault.InputFault.TheVariants.{Unasked, Unread, Text, Rows, Cash, Export, Statement, Memory}

-- the input is had, and read as a text or a file
module _ (reading : Reading) (input read : List ℕ) (count : ℕ) (is : read ≡ input) (all : IfSome reading.bytes (λ bytes. input ≡ bytes))
    (short : length read ≤ longest_input) (at_end : IsAtEnd reading.left) (counted : count ≡ length read) (ends : EndsWell reading.calls count) where
  had_as : IsAllOf reading read
  had_as = (subst (λ (i : List ℕ). IfSome reading.bytes (λ bytes. i ≡ bytes)) (sym is) all, short, at_end, subst (EndsWell reading.calls) counted ends)

  -- it gives the commands that it means
  pub gives_of : {A B : Type 0} (Means : List ℕ → B → Type 0) (items : A → B) (result : Result A InputFault)
      → IfOk result (λ given. Means read (items given)) → IfOk result (λ given. Gives Means reading (items given))
  gives_of Means items (Ok given) means = (read, had_as, means)
  gives_of Means items (Err fault) means = tt

  -- it has a fault, which isn't one of the reader
  pub none_of : {A : Type 0} (IsFaulty : List ℕ → InputFault → Type 0) → ((fault : SlurpFault) → IsFaulty read (Unread fault) → ⊥)
      → (IsFaulty read Unasked → ⊥) → (result : Result A InputFault) → IfErr result (IsFaulty read) → IfErr result (GivesNone IsFaulty reading)
  none_of IsFaulty had asked (Ok given) faulty = tt
  none_of IsFaulty had asked (Err Unasked) faulty = absurd (asked faulty)
  none_of IsFaulty had asked (Err (Unread fault)) faulty = absurd (had fault faulty)
  none_of IsFaulty had asked (Err (Text fault)) faulty = (read, had_as, faulty)
  none_of IsFaulty had asked (Err (Rows fault)) faulty = (read, had_as, faulty)
  none_of IsFaulty had asked (Err (Cash fault)) faulty = (read, had_as, faulty)
  none_of IsFaulty had asked (Err (Export fault)) faulty = (read, had_as, faulty)
  none_of IsFaulty had asked (Err (Statement fault)) faulty = (read, had_as, faulty)
  none_of IsFaulty had asked (Err Memory) faulty = (read, had_as, faulty)
