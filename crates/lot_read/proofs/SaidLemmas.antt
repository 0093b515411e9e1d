-- Lines that say commands, and one more line behind them.
use Rattle.std.proofs.Common.{◌≡◌, ℕ, List, [], ◌∷◌, ◌++◌, map, Some, None, refl, ap, ◌∙◌, sym}
use Rattle.std.specs.Prelude.{Option, flat_map}
use Rattle.std.proofs.lemmas.List.{append-nil, append_assoc, map_push}
use Rattle.std.proofs.lemmas.Grind.{flat_map-append}
use Rattle.std.proofs.lemmas.Slice.Zip.{all_zipped_more}
use Rattle.lot_command.specs.declared.command.Command.{Command}
use Rattle.lot_command.specs.declared.command.Command.TheVariants.{Opening, Closing, Declaring, Quoting, Transaction}
use Rattle.lot_command.specs.declared.transaction.Posting.{Posting}
use Rattle.lot_command.specs.declared.transaction.Transaction.{Transaction as TransactionOf}
use Rattle.lot_syntax.specs.Form.{Directive, opening, closing, declaring, quoting, transaction}
use Rattle.lot_read.specs.Meaning.{MeansHeader}
use Rattle.lot_read.specs.declared.statement.Statement.{Statement}
use Rattle.lot_read.specs.declared.statement.Statement.TheVariants.{Begins, Posts}
use Rattle.lot_read.specs.Line.{SaysStatement}
use Rattle.lot_read.specs.Text.{present, statements_of, takes_posting, without_postings}
use Rattle.lot_read.specs.Reading.{Continues, Posted, SaysAt, with_posting}
use Rattle.lot_read.proofs.LastLemmas.{ends_with}

-- ---- Statements.

pub present_append : (xs ys : List (Option Statement)) → present (xs ++ ys) ≡ present xs ++ present ys
present_append [] ys = refl
present_append (None ∷ xs) ys = present_append xs ys
present_append (Some s ∷ xs) ys = ap (λ zs. s ∷ zs) (present_append xs ys)

without : (t : TransactionOf) → t.postings ≡ [] → statements_of (Transaction t) ≡ Begins (Transaction t) ∷ []
without t e =
    ap (λ ps. Begins (Transaction (without_postings t)) ∷ map Posts ps) e
    ∙ ap (λ ps. Begins (Transaction (record { day = t.day; flag = t.flag; narration = t.narration; postings = ps })) ∷ []) (sym e)

-- a command that begins on a line has no posting yet
pub begun : (day : List ℕ) (directive : Directive) (command : Command) → MeansHeader day directive command
    → statements_of command ≡ Begins command ∷ []
begun day (transaction flag notes) (Transaction t) (on, flagged, noted, none) = without t none
begun day (opening a cs m) (Transaction t) means = absurd means
begun day (closing a) (Transaction t) means = absurd means
begun day (declaring c) (Transaction t) means = absurd means
begun day (quoting b r q) (Transaction t) means = absurd means
begun day directive (Opening o) means = refl
begun day directive (Closing c) means = refl
begun day directive (Declaring d) means = refl
begun day directive (Quoting q) means = refl

more_postings : (t : TransactionOf) (p : Posting) → statements_of (Transaction t) ++ Posts p ∷ [] ≡ statements_of (Transaction (with_posting t p))
more_postings t p = ap (λ xs. Begins (Transaction (without_postings t)) ∷ xs) (sym (map_push Posts t.postings p))

all_of : (front : List Command) (last : Command) → flat_map statements_of (front ++ last ∷ []) ≡ flat_map statements_of front ++ statements_of last
all_of front last = flat_map-append statements_of front (last ∷ []) ∙ ap (λ xs. flat_map statements_of front ++ xs) (append-nil (statements_of last))

-- ---- One more line.

one_more : (line : List ℕ) (said : Option Statement) (before after : List Command) → SaysStatement line said
    → flat_map statements_of before ++ present (said ∷ []) ≡ flat_map statements_of after → Continues line before after
one_more line said before after says e = λ lines all. record {
  said = all.said ++ said ∷ [];
  each = all_zipped_more SaysStatement lines all.said line said all.each says;
  all = present_append all.said (said ∷ []) ∙ ap (λ xs. xs ++ present (said ∷ [])) all.all ∙ e;
}

pub continues_none : (line : List ℕ) (commands : List Command) → SaysStatement line None → Continues line commands commands
continues_none line commands says = one_more line None commands commands says (append-nil (flat_map statements_of commands))

pub continues_command : (line : List ℕ) (command : Command) (before after : List Command) → SaysStatement line (Some (Begins command))
    → after ≡ before ++ command ∷ [] → Continues line before after
continues_command line command before after says e =
    one_more line (Some (Begins command)) before after says
    (ap (λ xs. flat_map statements_of before ++ xs) (sym (begun says.1.day says.1.directive command says.1.means))
    ∙ sym (all_of before command) ∙ ap (λ xs. flat_map statements_of xs) (sym e))

pub continues_posting : (line : List ℕ) (posting : Posting) (before after : List Command) → SaysStatement line (Some (Posts posting))
    → Posted posting before after → Continues line before after
continues_posting line posting before after says p =
    one_more line (Some (Posts posting)) before after says
    (ap (λ xs. flat_map statements_of xs ++ Posts posting ∷ []) p.old
    ∙ ap (λ xs. xs ++ Posts posting ∷ []) (all_of p.front (Transaction p.last))
    ∙ append_assoc (flat_map statements_of p.front) (statements_of (Transaction p.last)) (Posts posting ∷ [])
    ∙ ap (λ xs. flat_map statements_of p.front ++ xs) (more_postings p.last posting)
    ∙ sym (all_of p.front (Transaction (with_posting p.last posting))) ∙ ap (λ xs. flat_map statements_of xs) (sym p.new))

-- a line that says something where it stands adds to the commands before it
pub continues_some : (line : List ℕ) (said : Option Statement) (before : List Command) → SaysAt (takes_posting before) line said
    → (after : List Command) × Continues line before after
continues_some line None before (says, fits) = (before, continues_none line before says)
continues_some line (Some (Begins command)) before (says, fits) =
    (before ++ command ∷ [], continues_command line command before (before ++ command ∷ []) says refl)
continues_some line (Some (Posts posting)) before (says, fits) =
    let ends = ends_with before fits in (
      ends.front ++ Transaction (with_posting ends.last posting) ∷ [],
      continues_posting line posting before _ says (record { front = ends.front; last = ends.last; old = ends.whole; new = refl }),
    )
