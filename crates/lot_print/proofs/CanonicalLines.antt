-- The lines of the canonical text of a command, without their LF.
use Rattle.std.proofs.Common.{◌≡◌, ℕ, List, [], ◌∷◌, ◌++◌, map, refl, ap, ◌∙◌, append_assoc}
use Rattle.std.specs.Prelude.{codes}
use Rattle.std.specs.List.{flat_map}
use Rattle.std.proofs.lemmas.List.{append-nil}
use Rattle.lot_base.specs.Day.{day_text}
use Rattle.lot_command.specs.Canonical.{amount_part, canonical, currencies_part, flag_text, method_part, narration_text, part, posting_text, rate_text, row, transaction_text}
use Rattle.lot_command.specs.declared.command.Closing.{Closing}
use Rattle.lot_command.specs.declared.command.Command.{Command}
use Rattle.lot_command.specs.declared.command.Command.TheVariants as Commands
use Rattle.lot_command.specs.declared.command.Declaring.{Declaring}
use Rattle.lot_command.specs.declared.command.Opening.{Opening}
use Rattle.lot_command.specs.declared.command.Quoting.{Quoting}
use Rattle.lot_command.specs.declared.transaction.Posting.{Posting}
use Rattle.lot_command.specs.declared.transaction.Transaction.{Transaction}

abbrev pub opening_line : Opening → List ℕ
opening_line o = row (day_text o.day ∷ codes " open " ∷ o.account ∷ currencies_part o.currencies ∷ method_part o.method ∷ [])

abbrev pub closing_line : Closing → List ℕ
closing_line c = row (day_text c.day ∷ codes " close " ∷ c.account ∷ [])

abbrev pub declaring_line : Declaring → List ℕ
declaring_line d = row (day_text d.day ∷ codes " commodity " ∷ d.commodity ∷ [])

abbrev pub quoting_line : Quoting → List ℕ
quoting_line q = row (day_text q.day ∷ codes " price " ∷ q.base ∷ codes " " ∷ rate_text q.rate ∷ codes " " ∷ q.quote ∷ [])

abbrev pub transaction_line : Transaction → List ℕ
transaction_line t = row (day_text t.day ∷ codes " " ∷ flag_text t.flag ∷ part narration_text t.narration ∷ [])

abbrev pub posting_line : Posting → List ℕ
posting_line p = row (codes "  " ∷ p.account ∷ part amount_part p.amount ∷ [])

abbrev pub canonical_lines : Command → List (List ℕ)
canonical_lines (Commands.Opening o) = opening_line o ∷ []
canonical_lines (Commands.Closing c) = closing_line c ∷ []
canonical_lines (Commands.Declaring d) = declaring_line d ∷ []
canonical_lines (Commands.Quoting q) = quoting_line q ∷ []
canonical_lines (Commands.Transaction t) = transaction_line t ∷ map posting_line t.postings

-- lines, each with its LF
abbrev pub with_ends : List (List ℕ) → List ℕ
with_ends lines = flat_map (λ line. line ++ 10 ∷ []) lines

-- ---- The text is these lines.

postings_are : (postings : List Posting) → flat_map posting_text postings ≡ with_ends (map posting_line postings)
postings_are [] = refl
postings_are (p ∷ postings) =
    let line : posting_text p ≡ posting_line p ++ 10 ∷ [] = simp append_assoc in
    ap (λ bytes. bytes ++ flat_map posting_text postings) line ∙ ap (λ rest. (posting_line p ++ 10 ∷ []) ++ rest)
    (postings_are postings)

pub canonical_is : (command : Command) → canonical command ≡ with_ends (canonical_lines command)
canonical_is (Commands.Opening o) = simp (append_assoc, append-nil)
canonical_is (Commands.Closing c) = simp (append_assoc, append-nil)
canonical_is (Commands.Declaring d) = simp (append_assoc, append-nil)
canonical_is (Commands.Quoting q) = simp (append_assoc, append-nil)
canonical_is (Commands.Transaction t) =
    let whole : transaction_text t ≡ (transaction_line t ++ 10 ∷ []) ++ flat_map posting_text t.postings = simp append_assoc in
    whole ∙ ap (λ rest. (transaction_line t ++ 10 ∷ []) ++ rest) (postings_are t.postings)
