-- What it comes to that an export is shown, and what the words of the program come to.
use Rattle.std.specs.Prelude.{ℕ, List, Option}
use Rattle.lot_cli.specs.Says.{told}
use Rattle.lot_cli.specs.Shows.{ShowsExport}
use Rattle.lot_cli.specs.declared.halt.Halt.{Halt}
use Rattle.lot_input.specs.Input.{reading_between}
use Rattle.lot_io.specs.Reads.{ReadCalls}
use Rattle.lot_io.specs.Writes.{WriteCalls}
use Rattle.lot_profile.specs.declared.profile.Profile.{Profile}
use Rattle.lotbook.specs.Answered.{IsHandedOn, reads_from_none, writes_from_none}

-- An export is read, from the first byte of an input on, and what it comes to by a profile is shown. The writer then holds that, or
-- the program is stopped.
pub record ShowsTo (profile : Profile) (input before written : Option (List ℕ)) (status : ℕ) : Type 0 where
  pub rest : Option (List ℕ)
  pub read : ReadCalls
  pub text : Option (List ℕ)
  pub wrote : WriteCalls
  pub end : ℕ
  pub halt : Option Halt
  pub shows : ShowsExport profile (reading_between input rest (reads_from_none read)) before text (writes_from_none wrote) (told end halt)
  pub handed_on : IsHandedOn end text status written

-- the same of some input and some writer: those of the system
pub record IsExportShown (profile : Profile) (status : ℕ) : Type 0 where
  pub input : Option (List ℕ)
  pub before : Option (List ℕ)
  pub written : Option (List ℕ)
  pub shows : ShowsTo profile input before written status
