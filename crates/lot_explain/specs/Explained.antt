-- What is written of a code, and of a cause of a faulty row (`lotbook explain`), and of all codes (`lotbook explain` without one).
use Rattle.std.specs.Prelude.{◌≡◌, ℕ, Bool, not, ◌+◌, ◌==◌, ◌&&◌, ◌||◌, if◌then◌else◌, nat_lt, List, [], ◌∷◌, ◌++◌, length, Option, codes}
use Rattle.std.specs.Io.KnownBytes.{Appends}
use Rattle.std.specs.List.{flat_map, list_any, slice_split}
use Rattle.std.specs.Str.{bytes_eq}
use denote.Ref.{Bor}
use Rattle.lot_explain.specs.Codes.{is_cause, is_named, some_named}
use Rattle.lot_explain.specs.declared.causes.Cause.{Cause}
use Rattle.lot_explain.specs.declared.codes.Code.{Code}
use Rattle.lot_explain.specs.declared.codes.Examples.{Examples}
use Rattle.lot_explain.specs.declared.codes.Examples.TheVariants.{Absent, Calls, Ledger, Rows}

-- ---- prose

-- a word, and a space before it, find room behind so many columns of a line of 80
abbrev pub fits : ℕ → List ℕ → Bool
fits column word = nat_lt (column + length word) 80

-- what stands before a word: nothing at the beginning, a space, or a line break where the line would get too long
abbrev pub gap : ℕ → List ℕ → List ℕ
gap column word = if column == 0 then [] else (if fits column word then 32 ∷ [] else 10 ∷ [])

-- how many columns of the line the words up to this one take
abbrev pub column_behind : ℕ → List ℕ → ℕ
column_behind column word = if not (column == 0) && fits column word then column + 1 + length word else length word

-- words behind so many columns of a line, and a line end
abbrev pub wrapped_behind : ℕ → List (List ℕ) → List ℕ
wrapped_behind column [] = 10 ∷ []
wrapped_behind column (word ∷ words) = gap column word ++ (word ++ wrapped_behind (column_behind column word) words)

-- a text in lines of at most 80 columns, where its words are no longer
abbrev pub wrapped : List ℕ → List ℕ
wrapped text = wrapped_behind 0 (slice_split (λ byte. byte == 32) text)

-- ---- examples

-- a line of an example behind four columns, if there is something on it
abbrev pub indented_line : List ℕ → List ℕ
indented_line line = if length line == 0 then [] else codes "    " ++ (line ++ 10 ∷ [])

-- the lines of an example, and an empty line
abbrev pub indented : List ℕ → List ℕ
indented text = flat_map indented_line (slice_split (λ byte. byte == 10) text) ++ 10 ∷ []

-- what gets a code, and what gets none
abbrev pub both_examples : List ℕ → List ℕ → List ℕ → List ℕ
both_examples what refused accepted =
    codes "Refused, " ++ (what ++ (codes ":\n\n" ++ (indented refused ++ (codes "Accepted:\n\n" ++ indented accepted))))

abbrev pub examples_text : Examples → List ℕ
examples_text (Ledger refused accepted) = both_examples (codes "ledger text") refused.now accepted.now
examples_text (Rows refused accepted) = both_examples (codes "a broker file") refused.now accepted.now
examples_text (Calls refused accepted) = both_examples (codes "calls") refused.now accepted.now
examples_text Absent = []

-- ---- a code, and a cause

-- the code and its name; of a fault without a code it is the name
abbrev pub code_start : Code → List ℕ
code_start code = if bytes_eq code.code.now code.name.now then code.code.now else code.code.now ++ (codes " " ++ code.name.now)

-- the code and its name, its brief, its rule, the examples, what helps, and where to read on
abbrev pub code_text : Code → List ℕ
code_text code =
    code_start code ++ (codes ": " ++ (code.brief.now ++ (codes "\n\n" ++ (wrapped code.rule.now ++ (codes "\n"
    ++ (examples_text code.examples ++ (codes "What helps:\n\n" ++ (wrapped code.help.now
    ++ (codes "\nRead on: " ++ (code.page.now ++ codes "\n\n"))))))))))

-- the code of a faulty row and the name of the cause
abbrev pub cause_start : Cause → List ℕ
cause_start cause = codes "C2 BadRow " ++ cause.name.now

-- its code and name, its brief, what helps, and where to read on
abbrev pub cause_text : Cause → List ℕ
cause_text cause =
    cause_start cause ++ (codes ": " ++ (cause.brief.now ++ (codes "\n\nWhat helps:\n\n"
    ++ (wrapped cause.help.now ++ codes "\nRead on: docs/FORMATS.md, Faults\n\n"))))

-- ---- what a word names

-- what is written of a code, if the word names it
abbrev pub text_if_named : List ℕ → Code → List ℕ
text_if_named word code = if is_named word code then code_text code else []

-- that of each code of a table that the word names, one behind another
abbrev pub texts_of : List ℕ → List Code → List ℕ
texts_of word table = flat_map (text_if_named word) table

-- what is written of a cause, if the word names it
abbrev pub text_if_cause : List ℕ → Cause → List ℕ
text_if_cause word cause = if is_cause word cause then cause_text cause else []

-- that of each cause that the word names, one behind another
abbrev pub cause_texts_of : List ℕ → List Cause → List ℕ
cause_texts_of word causes = flat_map (text_if_cause word) causes

-- the word names a code of the tables, or one of the causes
abbrev pub names_one : List ℕ → List (Bor (List Code)) → List Cause → Bool
names_one word tables causes = some_named word tables || list_any (is_cause word) causes

-- what is written of the codes of the tables that the word names, one table behind another
abbrev pub texts_among : List ℕ → List (Bor (List Code)) → List ℕ
texts_among word tables = flat_map (λ (table : Bor (List Code)). texts_of word table.now) tables

-- what is written of the codes and then of the causes that the word names
abbrev pub explanation_of : List ℕ → List (Bor (List Code)) → List Cause → List ℕ
explanation_of word tables causes = texts_among word tables ++ cause_texts_of word causes

-- some tables and causes are explained: what the word names of them is written behind what was there, and told is whether it names one
abbrev pub Explains : List ℕ → Option (List ℕ) → Option (List ℕ) → Bool → Type 0
Explains word old new told =
    (tables : List (Bor (List Code))) × (causes : List Cause)
    × (told ≡ names_one word tables causes) × Appends old new (explanation_of word tables causes)

-- ---- all codes

-- the line of a code: the code and its name, and its brief
abbrev pub code_line : Code → List ℕ
code_line code = code_start code ++ (codes ": " ++ (code.brief.now ++ 10 ∷ []))

-- a line for each code of the tables
abbrev pub lines_among : List (Bor (List Code)) → List ℕ
lines_among tables = flat_map (λ (table : Bor (List Code)). flat_map code_line table.now) tables

-- the codes of some tables are written, a line each, behind what was there
abbrev pub Lists : Option (List ℕ) → Option (List ℕ) → Type 0
Lists old new = (tables : List (Bor (List Code))) × Appends old new (lines_among tables)
