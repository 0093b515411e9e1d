-- What is returned of a text, by the lines so far.
use Rattle.std.proofs.Common.{◌≡◌, inl, inr, ℕ, ◌+◌, ◌≤◌, List, [], ◌∷◌, ◌++◌, length, refl, ap, ◌∙◌, sym, subst, arith, length-append}
use Rattle.std.specs.List.{flat_map}
use Rattle.std.proofs.lemmas.Bool.Decides.{nat_tests}
use Rattle.std.proofs.lemmas.List.{append-nil, append_assoc, length-map, length_push}
use Rattle.lot_command.specs.declared.command.Command.{Command}
use Rattle.lot_syntax.specs.Line.{AreEnded, AreLines, without_mark, without_return}
use Rattle.lot_read.specs.declared.fault.LineFault.{LineFault}
use Rattle.lot_read.specs.declared.statement.StatementFault.{StatementFault}
use Rattle.lot_read.specs.declared.statement.StatementFault.TheVariants.{Line, Memory}
use Rattle.lot_read.specs.Line.{IsFaulty}
use Rattle.lot_read.specs.Text.{IsFaultAt, IsFaultOf, LinesSay, Reads, RunsOutAt, statements_of, takes_posting}
use Rattle.lot_read.specs.Reading.{Continues, Stops, of_line}

-- ---- A text has no more lines than bytes.

ended_few : (ended : List (List ℕ)) (text : List ℕ) → AreEnded ended text → length ended ≤ length text
ended_few [] text h = omega arith
ended_few (line ∷ []) text (within, inl e) = omega (arith, ap length e, length-append line (10 ∷ []))
ended_few ([] ∷ []) text (within, inr (e, some)) = absurd (some refl)
ended_few ((b ∷ line) ∷ []) text (within, inr (e, some)) = omega (arith, ap length e)
ended_few (line ∷ next ∷ lines) text (within, rest, more, e) =
    omega (arith, ended_few (next ∷ lines) rest more, ap length e, length-append line (10 ∷ rest))

mark_few : (text : List ℕ) → length (without_mark text) ≤ length text
mark_few [] = omega arith
mark_few (a ∷ []) = omega arith
mark_few (a ∷ b ∷ []) = omega arith
mark_few (a ∷ b ∷ c ∷ text) = grind (arith, nat_tests)

pub lines_few : (lines : List (List ℕ)) (text : List ℕ) → AreLines lines text → length lines ≤ length text
lines_few lines text (ended, are, e) =
    omega (arith, ended_few ended (without_mark text) are, mark_few text, ap length e, length-map ended without_return)

-- ---- One more line.

pub no_lines : (commands : List Command) → commands ≡ [] → LinesSay [] commands
no_lines commands none = record { said = []; each = tt; all = ap (flat_map statements_of) (sym none) }

pub next_lines : (lines rest left : List (List ℕ)) (line text : List ℕ) → AreLines (lines ++ left) text → left ≡ line ∷ rest
    → AreLines (lines ++ line ∷ rest) text
next_lines lines rest left line text are e = subst (λ (xs : List (List ℕ)). AreLines (lines ++ xs) text) e are

pub pushed_lines : (lines rest : List (List ℕ)) (line text : List ℕ) → AreLines (lines ++ line ∷ rest) text
    → AreLines ((lines ++ line ∷ []) ++ rest) text
pushed_lines lines rest line text are = subst (λ (xs : List (List ℕ)). AreLines xs text) (sym (append_assoc lines (line ∷ []) rest)) are

-- ---- Errors and commands.

-- the line behind those so far
fault_at : (lines rest : List (List ℕ)) (line text : List ℕ) (number : ℕ) (commands : List Command) (fault : LineFault)
    → AreLines (lines ++ line ∷ rest) text → number ≡ length lines + 1 → LinesSay lines commands
    → IsFaulty (takes_posting commands) line fault → IsFaultAt text number fault
fault_at lines rest line text number commands fault are place says faulty = (
  lines ++ line ∷ rest,
  are,
  record {
    before = lines;
    line = line;
    after = rest;
    whole = refl;
    place = place;
    commands = commands;
    says = says;
    faulty = faulty;
  },
)

runs_out_at : (lines rest : List (List ℕ)) (line text : List ℕ) (number : ℕ) (before after : List Command)
    → AreLines (lines ++ line ∷ rest) text → number ≡ length lines + 1 → LinesSay lines before → Continues line before after
    → RunsOutAt text number
runs_out_at lines rest line text number before after are place says more = record {
  lines = lines ++ line ∷ [];
  after = rest;
  whole = pushed_lines lines rest line text are;
  place = place ∙ sym (length_push lines line);
  from_one = omega (arith, place);
  commands = after;
  says = more lines says;
}

pub fault_of : (lines rest : List (List ℕ)) (line text : List ℕ) (number : ℕ) (commands : List Command) (fault : StatementFault)
    → AreLines (lines ++ line ∷ rest) text → number ≡ length lines + 1 → LinesSay lines commands → Stops line commands fault
    → IsFaultOf text (of_line number fault)
fault_of lines rest line text number commands (Line fault) are place says faulty =
    fault_at lines rest line text number commands fault are place says faulty
fault_of lines rest line text number commands Memory are place says (after, more) =
    runs_out_at lines rest line text number commands after are place says more

pub reads_all : (lines rest : List (List ℕ)) (text : List ℕ) (commands : List Command) → AreLines (lines ++ rest) text → rest ≡ []
    → LinesSay lines commands → Reads text commands
reads_all lines rest text commands are none says =
    (lines, subst (λ (xs : List (List ℕ)). AreLines xs text) (ap (λ xs. lines ++ xs) none ∙ append-nil lines) are, says)
