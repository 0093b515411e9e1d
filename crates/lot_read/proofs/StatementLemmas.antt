-- What is returned of a line.
use Rattle.std.proofs.Common.{◌≡◌, inl, inr, ℕ, Bool, true, false, List, [], ◌∷◌, Some, Err, refl, subst}
use Rattle.std.specs.Prelude.{◌⊎◌, ◌≢◌, IsTrue, MatchOption, None, Option}
use Rattle.std.specs.Option.{is_some}
use Rattle.lot_syntax.specs.Token.{Lexeme}
use Rattle.lot_command.specs.declared.command.Command.{Command}
use Rattle.lot_command.specs.declared.transaction.Posting.{Posting}
use Rattle.lot_syntax.specs.Form.{Directive, IsHeader, IsPosting, IsUnknown, WrittenPosting}
use Rattle.lot_syntax.specs.declared.fault.FormFault.{FormFault}
use Rattle.lot_syntax.specs.declared.fault.FormFault.TheVariants.{Syntax, UnknownDirective}
use Rattle.lot_read.specs.declared.fault.MeaningFault.{MeaningFault}
use Rattle.lot_read.specs.declared.fault.MeaningFault.TheVariants.{Outside, Memory}
use Rattle.lot_read.specs.declared.fault.ValueFault.{ValueFault}
use Rattle.lot_read.specs.Meaning.{AreInside, FirstOutside, MeansHeader, MeansPosting, header_items, posting_items}
use Rattle.lot_read.specs.declared.statement.Statement.{Statement}
use Rattle.lot_read.specs.declared.statement.Statement.TheVariants.{Begins, Posts}
use Rattle.lot_read.specs.declared.statement.StatementFault.{StatementFault}
use Rattle.lot_read.specs.declared.statement.StatementFault.TheVariants.{Line, Memory as NoMemory}
use Rattle.lot_read.specs.Line.{IsFaulty}
use Rattle.lot_read.specs.Text.{takes_posting}
use Rattle.lot_read.specs.Reading.{GivesStatement, IsLineOf, SaysAt, Stops, of_form, of_meaning}
use Rattle.lot_read.proofs.SaidLemmas.{continues_some}
use Rattle.lot_read.proofs.FaultLemmas.{bad_directive, bad_header, bad_header_value, bad_posting_value}
use Rattle.lot_read.proofs.HeaderLemmas.{some_command}
use Rattle.lot_read.proofs.PostingLemmas.{some_posting}

pub says_command : (may_post : Bool) (line : List ℕ) (tokens : List Lexeme) (day : List ℕ) (directive : Directive) (command : Command)
    → IsLineOf false tokens line → IsHeader tokens day directive → MeansHeader day directive command → SaysAt may_post line (Some (Begins command))
says_command may_post line tokens day directive command of is means = (
  (
    of.readable,
    record { unindented = of.indent; tokens = tokens; cuts = of.has.cuts; day = day; directive = directive; form = is; means = means },
  ),
  tt,
)

pub says_posting : (may_post : Bool) (line : List ℕ) (tokens : List Lexeme) (written : WrittenPosting) (posting : Posting)
    → IsTrue may_post → IsLineOf true tokens line → IsPosting tokens written → MeansPosting written posting
    → SaysAt may_post line (Some (Posts posting))
says_posting may_post line tokens written posting may of is means = (
  (
    of.readable,
    record { indented = of.indent; tokens = tokens; cuts = of.has.cuts; written = written; form = is; means = means },
  ),
  may,
)

-- parts within their rules say something
pub some_says_command : (may_post : Bool) (line : List ℕ) (tokens : List Lexeme) (day : List ℕ) (directive : Directive)
    → IsLineOf false tokens line → IsHeader tokens day directive → AreInside (header_items day directive)
    → (said : Option Statement) × SaysAt may_post line said
some_says_command may_post line tokens day directive of is inside =
    let meant = some_command day directive inside in
    (Some (Begins meant.0), says_command may_post line tokens day directive meant.0 of is meant.1)

pub some_says_posting : (may_post : Bool) (line : List ℕ) (tokens : List Lexeme) (written : WrittenPosting)
    → IsTrue may_post → IsLineOf true tokens line → IsPosting tokens written → AreInside (posting_items written)
    → (said : Option Statement) × SaysAt may_post line said
some_says_posting may_post line tokens written may of is inside =
    let meant = some_posting written is.0 inside in
    (Some (Posts meant.0), says_posting may_post line tokens written meant.0 may of is meant.1)

-- ---- Faults.

pub gives_header_fault : (may_post : Bool) (line : List ℕ) (tokens : List Lexeme) (fault : FormFault) → IsLineOf false tokens line
    → (fault ≡ UnknownDirective → (tokens ≡ []) ⊎ IsUnknown tokens) → (fault ≡ Syntax → IsUnknown tokens → ⊥)
    → ((day : List ℕ) (directive : Directive) → IsHeader tokens day directive → ⊥) → GivesStatement may_post line (Err (of_form fault))
gives_header_fault may_post line tokens UnknownDirective of unknown known none = elim (unknown refl) [
  | inl empty ↦ absurd (of.has.some empty)
  | inr is ↦ bad_directive may_post line tokens of is
]
gives_header_fault may_post line tokens Syntax of unknown known none = bad_header may_post line tokens of (known refl) none

pub gives_command_fault : (may_post : Bool) (line : List ℕ) (tokens : List Lexeme) (day : List ℕ) (directive : Directive) (fault : MeaningFault)
    → IsLineOf false tokens line → IsHeader tokens day directive
    → ((value : ValueFault) → fault ≡ Outside value → FirstOutside (header_items day directive) value)
    → (fault ≡ Memory → AreInside (header_items day directive)) → GivesStatement may_post line (Err (of_meaning fault))
gives_command_fault may_post line tokens day directive (Outside value) of is first inside =
    bad_header_value may_post line tokens day directive value of is (first value refl)
gives_command_fault may_post line tokens day directive Memory of is first inside =
    some_says_command may_post line tokens day directive of is (inside refl)

pub gives_posting_fault : (may_post : Bool) (line : List ℕ) (tokens : List Lexeme) (written : WrittenPosting) (fault : MeaningFault)
    → IsTrue may_post → IsLineOf true tokens line → IsPosting tokens written
    → ((value : ValueFault) → fault ≡ Outside value → FirstOutside (posting_items written) value)
    → (fault ≡ Memory → AreInside (posting_items written)) → GivesStatement may_post line (Err (of_meaning fault))
gives_posting_fault may_post line tokens written (Outside value) may of is first inside =
    bad_posting_value may_post line tokens written value may of is (first value refl)
gives_posting_fault may_post line tokens written Memory may of is first inside =
    some_says_posting may_post line tokens written may of is (inside refl)

-- ---- A line with tokens.

pub some_tokens : {A : Type 0} (tokens : List Lexeme) (o : Option A) (first : A → Lexeme) (rest : A → List Lexeme)
    → MatchOption o (tokens ≡ []) (λ next. tokens ≡ first next ∷ rest next) → is_some o ≡ true → tokens ≢ []
some_tokens tokens None first rest e some = cc
some_tokens tokens (Some next) first rest e some = λ empty. absurd cc

-- ---- One line behind others.

pub stops_memory : (may_post : Bool) (line : List ℕ) (said : Option Statement) (before : List Command) → may_post ≡ takes_posting before
    → SaysAt may_post line said → Stops line before NoMemory
stops_memory may_post line said before e says = continues_some line said before (subst (λ (b : Bool). SaysAt b line said) e says)

pub stops_line : (may_post : Bool) (line : List ℕ) (before : List Command) (fault : StatementFault) → may_post ≡ takes_posting before
    → GivesStatement may_post line (Err fault) → Stops line before fault
stops_line may_post line before (Line fault) e faulty = subst (λ (b : Bool). IsFaulty b line fault) e faulty
stops_line may_post line before NoMemory e (said, says) = stops_memory may_post line said before e says
