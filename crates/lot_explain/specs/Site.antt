-- On which line of a ledger text a command begins, or one of its postings stands (docs/FORMATS.md, Forms).
use Rattle.std.specs.Prelude.{ℕ, ◌+◌, ◌-◌, ◌^◌, min, ◌==◌, ◌&&◌, Bool, true, false, if◌then◌else◌, List, [], ◌∷◌, Option, None, Some}
use Rattle.std.specs.Option.{unwrap_or}
use Rattle.std.specs.Str.{is_utf8}
use Rattle.lot_syntax.specs.Token.{Lexeme}
use Rattle.lot_syntax.specs.Cutting.{cut_of}
use Rattle.lot_read.specs.Line.{is_heading, is_indented}
use Rattle.lot_explain.specs.declared.site.Kind.{Kind}
use Rattle.lot_explain.specs.declared.site.Kind.TheVariants.{Begins, Posts, Other}
use Rattle.lot_explain.specs.declared.site.Passed.{Passed}
use Rattle.lot_explain.specs.declared.site.Site.{Site}

-- ---- One line.

abbrev pub are_some : Option (List Lexeme) → Bool
are_some None = false
are_some (Some []) = false
are_some (Some (token ∷ tokens)) = true

-- it is UTF-8, and is cut into tokens, of which there are some
abbrev pub has_tokens : List ℕ → Bool
has_tokens line = is_utf8 line && are_some (cut_of line)

-- a heading and a line without tokens are skipped; of the others, postings are indented
abbrev pub kind_of : List ℕ → Kind
kind_of line =
    if is_heading line then Other
    else (if has_tokens line then (if is_indented line then Posts else Begins) else Other)

-- ---- Lines one after another.

-- one more, as far as a number of 64 bits goes
abbrev pub one_more : ℕ → ℕ
one_more n = min (n + 1) (2 ^ 64 - 1)

-- before the first line
abbrev pub none_passed : Passed
none_passed = record { lines = 0; begun = 0; posted = 0 }

-- the lines that were passed, the commands that began on them, and the postings of the last of these,
-- with one line more
abbrev pub with_line : Kind → Passed → Passed
with_line Begins passed = record { lines = one_more passed.lines; begun = one_more passed.begun; posted = 0 }
with_line Posts passed = record { lines = one_more passed.lines; begun = passed.begun; posted = one_more passed.posted }
with_line Other passed = record { lines = one_more passed.lines; begun = passed.begun; posted = passed.posted }

-- the same with all lines
abbrev pub with_lines : List (List ℕ) → Passed → Passed
with_lines [] passed = passed
with_lines (line ∷ lines) passed = with_lines lines (with_line (kind_of line) passed)

-- on the last of these lines the command of that number begins, or its posting of that number stands;
-- both count from 1
abbrev pub ends_at : ℕ → Option ℕ → Kind → Passed → Bool
ends_at command posting Other passed = false
ends_at command posting Begins passed = (passed.begun == command) && (passed.posted == unwrap_or posting 0)
ends_at command posting Posts passed = (passed.begun == command) && (passed.posted == unwrap_or posting 0)

-- ---- The line of a command or a posting.

-- what is found among lines: the number of a line and the line, what was passed with it, and the
-- lines behind it
pub record Found : Type 0 where
  pub site : Option (ℕ × List ℕ)
  pub passed : Passed
  pub behind : List (List ℕ)

abbrev pub found_at : Passed → List (List ℕ) → Option (ℕ × List ℕ) → Found
found_at passed behind site = record { site = site; passed = passed; behind = behind }

-- a line with its number
abbrev pub seen : Site → ℕ × List ℕ
seen site = (site.number, site.line.now)

-- the first of the lines at which the command or posting is, behind those that were passed
unfoldable pub first_at : ℕ → Option ℕ → Passed → List (List ℕ) → Found
first_at command posting passed [] = record { site = None; passed = passed; behind = [] }
first_at command posting passed (line ∷ lines) =
    let next = with_line (kind_of line) passed in
    if ends_at command posting (kind_of line) next
    then record { site = Some (next.lines, line); passed = next; behind = lines }
    else first_at command posting next lines
