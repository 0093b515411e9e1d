-- Lines of faults that aren't written whole.
use Rattle.std.proofs.Common.{◌≡◌, ℕ, List, [], ◌∷◌, ◌++◌, refl}
use Rattle.std.specs.Prelude.{Option, Err, codes, decimal}
use Rattle.lot_stream.specs.declared.fault.Fault.{Fault}
use Rattle.lot_report.specs.declared.line.PrintFault.{PrintFault}
use Rattle.lot_report.specs.Printed.{line}
use Rattle.lot_report.specs.Written.{AppendsPrefix, IsProperPrefixOf, WritesLine}
use Rattle.lot_stream.specs.FaultLine.{fault_line}
use Rattle.lot_check.specs.Way.{Concludes}

-- a line has a first byte
line_begins : (text : List ℕ) → IsProperPrefixOf [] (line text)
line_begins [] = (10, [], refl)
line_begins (first ∷ text) = (first, text ++ 10 ∷ [], refl)

-- nothing has no proper prefix
no_part : (old new : Option (List ℕ)) → AppendsPrefix old new [] → ⊥
no_part old new ([], (next, rest, is), written) = nothing next rest is
  where
    nothing : (next : ℕ) (rest : List ℕ) → [] ≡ next ∷ rest → ⊥
    nothing next rest e = cc
no_part old new (first ∷ prefix, (next, rest, is), written) = nothing first (prefix ++ next ∷ rest) is
  where
    nothing : (next : ℕ) (rest : List ℕ) → [] ≡ next ∷ rest → ⊥
    nothing next rest e = cc

-- less than the line is written of it
less_than : (old new : Option (List ℕ)) (fault : Fault) (e : PrintFault) → IsProperPrefixOf [] (fault_line fault)
    → WritesLine old new (Err e) (fault_line fault) → AppendsPrefix old new (fault_line fault)
less_than old new fault PrintFault.Write begins part = part
less_than old new fault PrintFault.Memory begins nothing = ([], begins, nothing)

pub unreported : (old new : Option (List ℕ)) (fault : Fault) (e : PrintFault) → WritesLine old new (Err e) (fault_line fault)
    → Concludes old new (Err fault) (Err e)
unreported old new Fault.Write PrintFault.Write part = absurd (no_part old new part)
unreported old new Fault.Write PrintFault.Memory nothing = nothing
unreported old new Fault.Read e part = less_than old new Fault.Read e (_, _, refl) part
unreported old new Fault.TooLong e part = less_than old new Fault.TooLong e (_, _, refl) part
unreported old new (Fault.Text number fault) e part = less_than old new (Fault.Text number fault) e (_, _, refl) part
unreported old new Fault.Range e part = less_than old new Fault.Range e (_, _, refl) part
unreported old new Fault.Memory e part = less_than old new Fault.Memory e (_, _, refl) part
unreported old new (Fault.MemoryAt number) e part =
    less_than old new (Fault.MemoryAt number) e (line_begins (decimal number ++ codes " fault Memory")) part
