-- Commands judged in their order: the verdict on each, and the book after all.
use Rattle.std.specs.Prelude.{◌≡◌, ℕ, suc, List, [], ◌∷◌, ◌++◌}
use Rattle.lot_command.specs.declared.command.Command.{Command}
use Rattle.lot_command.specs.declared.key.Key.{Key}
use Rattle.lot_book.specs.declared.leg.Leg.{Leg}
use Rattle.lot_book.specs.declared.verdict.Verdict.{Verdict}
use Rattle.lot_book.specs.declared.verdict.Verdict.TheVariants.{Accepted, Repeated, Refused}
use Rattle.lot_book.specs.Book.{entry_of}
use Rattle.lot_book.specs.Edition.{Edition, Migration, Second, edition_on}
use Rattle.lot_book.specs.Facts.{Entry}
use Rattle.lot_book.specs.Step.{Accept, Refuse, Repeat, StepIn}

-- a command judged on a book by an edition: the verdict, and the book after it
abbrev pub JudgesBy : Edition → List Entry → Key → Command → Verdict → List Entry → Type 0
JudgesBy edition before key command Accepted after =
    (legs : List Leg) × StepIn edition before key command (Accept legs)
    × (after ≡ before ++ entry_of key command legs ∷ [])
JudgesBy edition before key command Repeated after = StepIn edition before key command Repeat × (after ≡ before)
JudgesBy edition before key command (Refused refusal) after =
    StepIn edition before key command (Refuse refusal) × (after ≡ before)

-- the same by the edition of a book
abbrev pub JudgesOnIn : Migration → List Entry → Key → Command → Verdict → List Entry → Type 0
JudgesOnIn migration before key command verdict after =
    JudgesBy (edition_on migration before) before key command verdict after

-- the same by edition 2
abbrev pub JudgesOn : List Entry → Key → Command → Verdict → List Entry → Type 0
JudgesOn before key command verdict after = JudgesBy Second before key command verdict after

-- commands with their keys, judged one after another, each so: the verdict on each, and the book after all
abbrev pub JudgesEach : (List Entry → Key → Command → Verdict → List Entry → Type 0) → List Entry → List (Key × Command)
    → List Verdict → List Entry → Type 0
JudgesEach Judges before [] [] after = after ≡ before
JudgesEach Judges before (keyed ∷ more) (verdict ∷ verdicts) after =
    (mid : List Entry) × Judges before keyed.0 keyed.1 verdict mid × JudgesEach Judges mid more verdicts after
JudgesEach Judges before [] (verdict ∷ verdicts) after = ⊥
JudgesEach Judges before (keyed ∷ more) [] after = ⊥

abbrev pub JudgesAllIn : Migration → List Entry → List (Key × Command) → List Verdict → List Entry → Type 0
JudgesAllIn migration before commands verdicts after = JudgesEach (JudgesOnIn migration) before commands verdicts after

abbrev pub JudgesAll : List Entry → List (Key × Command) → List Verdict → List Entry → Type 0
JudgesAll before commands verdicts after = JudgesEach JudgesOn before commands verdicts after

-- ---- keys by number

-- commands under the keys of their numbers, of which the first has that number
abbrev pub numbered : (ℕ → Key) → ℕ → List Command → List (Key × Command)
numbered key_of number [] = []
numbered key_of number (command ∷ commands) = (key_of number, command) ∷ numbered key_of (suc number) commands
