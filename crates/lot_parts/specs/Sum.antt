-- What is found of a dump beside what it says (docs/FORMATS.md, Dump).
use Rattle.std.specs.Prelude.{◌≡◌, ◌≢◌, length}
use Rattle.sha2.specs.Sha256.{sha256}
use Rattle.lot_io.specs.Reads.{counted}
use Rattle.lot_parts.specs.Dump.{Dump, text_above_end}
use Rattle.lot_parts.specs.declared.compare.SumFault.{SumFault}
use Rattle.lot_parts.specs.declared.compare.SumFault.TheVariants.{WrongCount, WrongDigest}
use Rattle.lot_parts.specs.declared.step.Sum.{Sum}

-- the end of the dump, the digest of what stands above it, and how many headings stand there
abbrev pub IsSumOf : Sum → Dump → Type 0
IsSumOf sum dump =
    (sum.end ≡ dump.end) × (sum.digest ≡ sha256 (text_above_end dump)) × (sum.headings ≡ counted (length dump.parts))

-- what was found of the dump isn't what it says, by that fault: its digest is another, or a number of entries is
abbrev pub SaysOtherwise : Dump → Sum → SumFault → Type 0
SaysOtherwise dump sum WrongDigest = sum.end.digest ≢ sum.digest
SaysOtherwise dump sum WrongCount = (dump.head.entries ≡ sum.headings) × (sum.end.entries ≡ sum.headings) → ⊥
