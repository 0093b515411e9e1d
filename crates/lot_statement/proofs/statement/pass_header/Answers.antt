use Rattle.std.proofs.Common.{◌∙◌, ◌∷◌, ap, get_or, sym, List, ℕ, []}
use Rattle.csv.specs.Records.{fields_of}
use Rattle.lot_import.specs.Reading.{records_left}
use Rattle.lot_statement.proofs.HeaderLemmas.{header_is, no_header}
use Rattle.lot_statement.proofs.statement.pass_header.Goals as goal

pub returns-clause-passed : goal.returns-clause-passed
returns-clause-passed c =
    c.in_ok-next.ensures.some c.if-not-branch.false
    ∙ ap (λ (header : List (List ℕ)). header ∷ records_left c.next.new.reader)
    (header_is (fields_of c.next.new.written) (sym c.is_header.ensures ∙ c.if-not-is_header.false))

pub returns-then-not-is_header-clause-fault : goal.returns-then-not-is_header-clause-fault
returns-then-not-is_header-clause-fault c = λ written file.
    no_header (fields_of c.next.new.written) (sym c.is_header.ensures ∙ c.if-not-is_header.true)
    (ap (λ (xs : List (List (List ℕ))). get_or xs 0 []) (sym (c.in_ok-next.ensures.some c.if-not-branch.false) ∙ file))
