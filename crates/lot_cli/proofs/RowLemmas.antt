-- A row that comes again, and another one with its reference.
use Rattle.std.proofs.Common.{◌≡◌, ◌≢◌, ◌∙◌, ap, subst, sym, ℕ, List, Option, Some}
use Rattle.lot_book.specs.Edition.{Second}
use Rattle.lot_book.specs.Facts.{Entry, text_under}
use Rattle.lot_book.specs.Judged.{JudgesOn}
use Rattle.lot_book.specs.declared.refusal.Refusal.TheVariants.{KeyReused}
use Rattle.lot_book.specs.declared.verdict.Verdict.{Verdict}
use Rattle.lot_book.specs.declared.verdict.Verdict.TheVariants.{Accepted, Refused, Repeated}
use Rattle.lot_command.specs.Canonical.{canonical}
use Rattle.lot_command.specs.declared.command.Command.{Command}
use Rattle.lot_command.specs.declared.key.Key.{Key}
use Rattle.lot_import.proofs.DealLaws.{one_command, one_row_of}
use Rattle.lot_import.specs.Deal.{IsCommandOf}
use Rattle.lot_import.specs.Keyed.{IsKeyed}
use Rattle.lot_import.specs.declared.accounts.Accounts.{Accounts}
use Rattle.lot_import.specs.declared.row.Row.{Row}
use Rattle.lot_input.specs.Keyed.{import_source, row_key}
use Rattle.lot_laws.proofs.KeyLaws.{accepted_stands, is_refused, is_repeat}
use Rattle.lot_rounding.specs.declared.asked.Asked.{Asked}
use Rattle.lot_print.proofs.ReadLemmas.{same_command}
use Rattle.lot_command.specs.Sayable.{IsSayable}

pub row_stands : (book after : List Entry) (source : List ℕ) (accounts : Accounts) (decimals : Option ℕ) (row : Row) (keyed : Key × Asked)
    → IsKeyed source accounts decimals row keyed → JudgesOn book keyed.0 keyed.1.command Accepted after → text_under after keyed.0 ≡ Some (canonical keyed.1.command)
row_stands book after source accounts decimals row keyed is judged =
    accepted_stands Second book after keyed.0 keyed.1.command judged

pub row_repeats : (book after : List Entry) (source : List ℕ) (accounts : Accounts) (decimals : Option ℕ) (row : Row) (keyed again : Key × Asked) (verdict : Verdict)
    → IsKeyed source accounts decimals row keyed → IsKeyed source accounts decimals row again → text_under book keyed.0 ≡ Some (canonical keyed.1.command)
    → JudgesOn book again.0 again.1.command verdict after → (verdict ≡ Repeated) × (after ≡ book)
row_repeats book after source accounts decimals row keyed again verdict is more known judged =
    is_repeat Second book after again.0 again.1.command verdict
    (ap (text_under book) (more.0 ∙ sym is.0) ∙ known
    ∙ ap (λ (c : Command). Some (canonical c)) (one_command accounts decimals row keyed.1.command again.1.command is.1.command more.1.command)) judged

pub row_refused : (book after : List Entry) (source : List ℕ) (accounts : Accounts) (decimals others : Option ℕ) (row other : Row) (keyed next : Key × Asked) (verdict : Verdict)
    → IsKeyed source accounts decimals row keyed → IsKeyed source accounts others other next → other.name ≡ row.name → other ≢ row
    → IsSayable keyed.1.command → IsSayable next.1.command → text_under book keyed.0 ≡ Some (canonical keyed.1.command)
    → JudgesOn book next.0 next.1.command verdict after → (verdict ≡ Refused KeyReused) × (after ≡ book)
row_refused book after source accounts decimals others row other keyed next verdict is more named apart said said_next known judged =
    is_refused Second book after next.0 next.1.command (canonical keyed.1.command) verdict
    (ap (text_under book) (more.0 ∙ ap (λ (name : List ℕ). record { source = source; name = name }) named ∙ sym is.0) ∙ known)
    (λ same. apart (one_row_of accounts others decimals other row next.1.command more.1.command
    (subst (λ (c : Command). IsCommandOf accounts decimals row c) (same_command keyed.1.command next.1.command said said_next same) is.1.command)))
    judged

-- a row in whose place a command stands
pub in_place : (book after : List Entry) (batch : List ℕ) (accounts : Accounts) (decimals : Option ℕ) (row : Row) (posted : Key × Command) (keyed : Key × Asked) (verdict : Verdict)
    → posted.0 ≡ row_key batch row.name → text_under book posted.0 ≡ Some (canonical posted.1)
    → IsKeyed (import_source batch) accounts decimals row keyed → IsSayable posted.1 → IsSayable keyed.1.command → JudgesOn book keyed.0 keyed.1.command verdict after
    → ((posted.1 ≢ keyed.1.command) → (verdict ≡ Refused KeyReused) × (after ≡ book))
    × ((posted.1 ≡ keyed.1.command) → (verdict ≡ Repeated) × (after ≡ book))
in_place book after batch accounts decimals row posted keyed verdict key stands is said said_row judged =
    let known : text_under book keyed.0 ≡ Some (canonical posted.1) = ap (text_under book) (is.0 ∙ sym key) ∙ stands in (
      (λ apart. is_refused Second book after keyed.0 keyed.1.command (canonical posted.1) verdict known
          (λ same. apart (same_command posted.1 keyed.1.command said said_row same)) judged),
      (λ same. is_repeat Second book after keyed.0 keyed.1.command verdict (known ∙ ap (λ (c : Command). Some (canonical c)) same) judged),
    )
