-- The lines that restoring writes (docs/FORMATS.md, Dump).
use Rattle.std.specs.Prelude.{ℕ, List, [], ◌∷◌, ◌++◌, codes, decimal, flat_map}
use Rattle.lot_command.specs.declared.key.Key.{Key}
use Rattle.lot_book.specs.declared.refusal.Refusal.TheVariants.{KeyReused}
use Rattle.lot_book.specs.declared.verdict.Verdict.{Verdict}
use Rattle.lot_book.specs.declared.verdict.Verdict.TheVariants.{Accepted, Repeated, Refused}
use Rattle.lot_parts.specs.declared.dumped.Dumped.{Dumped}
use Rattle.lot_report.specs.Printed.{line, refusal_text}
use Rattle.lot_without.specs.Without.{without_text}
use Rattle.lot_without.specs.declared.without.Without.{Without}

-- an entry is named as in its heading
abbrev pub entry_text : ℕ → Key → List ℕ
entry_text number key = codes "entry " ++ (decimal number ++ (codes " key " ++ (key.source ++ (codes " " ++ key.name))))

-- what is said of a command: nothing where it was accepted; a key that comes again is refused
abbrev pub verdict_line : Dumped → Verdict → List ℕ
verdict_line dumped Accepted = []
verdict_line dumped Repeated = entry_text dumped.number dumped.key ++ line (refusal_text KeyReused)
verdict_line dumped (Refused refusal) = entry_text dumped.number dumped.key ++ line (refusal_text refusal)

abbrev pub verdict_lines : List Dumped → List Verdict → List ℕ
verdict_lines [] verdicts = []
verdict_lines (dumped ∷ more) [] = []
verdict_lines (dumped ∷ more) (verdict ∷ verdicts) = verdict_line dumped verdict ++ verdict_lines more verdicts

-- what is said of an option that leaves out no entry
abbrev pub unmet_line : Without → List ℕ
unmet_line it = line (without_text it ++ codes " met nothing")

abbrev pub unmet_lines : List Without → List ℕ
unmet_lines = flat_map unmet_line
