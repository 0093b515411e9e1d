-- Why the parts of a line give nothing; for the code alone.
use Rattle.std.specs.Prelude.{List}
use Rattle.lot_read.specs.declared.fault.MeaningFault.{MeaningFault}
use Rattle.lot_read.specs.declared.fault.MeaningFault.TheVariants.{Outside, Memory}
use Rattle.lot_read.specs.Meaning.{Item, AreInside, FirstOutside}

-- a part is outside its rule, and that is the fault of the first such part; or there is none, and memory ran out
abbrev pub IsRefusal : List Item → MeaningFault → Type 0
IsRefusal items (Outside fault) = FirstOutside items fault
IsRefusal items Memory = AreInside items
