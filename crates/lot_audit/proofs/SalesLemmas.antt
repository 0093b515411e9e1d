-- The rows of the sales of an entry, one after another.
use Rattle.std.specs.Prelude.{◌≡◌, ◌≢◌, List, [], ◌∷◌, ◌++◌, Option, None, Some, Ok, Err, Result, IsTrue, Bool, true, false}
use Rattle.std.specs.Result.{IsErrAnd}
use Rattle.std.proofs.Common.{sym, ap, subst, ◌∙◌, append_assoc}
use Rattle.std.proofs.lemmas.Bool.{true≢false}
use Rattle.std.proofs.lemmas.List.{append-nil, append_cancel_left}
use Rattle.sqlite.specs.State.{State}
use Rattle.sqlite_keyed.proofs.ListLemmas.{all-append}
use Rattle.lot_page.specs.Cursor.{Gives, IsBehind, Place, Steps}
use Rattle.lot_page.proofs.BehindLemmas.{all_rows, behind_rows}
use Rattle.lot_rows.specs.Sale.{IsSaleRow, sale_cells}
use Rattle.lot_rows.specs.Tables.{Tables}
use Rattle.lot_rows.specs.declared.sale.SaleRow.{SaleRow}
use Rattle.lot_table.specs.declared.fault.Fault.{Fault}
use Rattle.lot_walk.proofs.SaleRowLemmas.{one_sale_row}
use Rattle.lot_audit.specs.Checks.{ChecksWhere}
use Rattle.lot_audit.specs.Pass.{GoesOnBy, HasOthersNext, IsAmongSales}
use Rattle.lot_audit.proofs.SeenLemmas.{Seen, passed_on, seen_as, seen_done, seen_none, step_fails, step_gives}

abbrev sales_in : Tables → List SaleRow
sales_in tables = tables.sale

-- whether these rows come next
abbrev pub Follow : Place → Place → List SaleRow → Bool → Tables → Type 0
Follow before after rows follow tables =
    (IsTrue follow → GoesOnBy before after rows tables) × (follow ≡ false → HasOthersNext before rows tables)

module _ (before : Place) (old : State) where
  abbrev pub Among : Tables → Type 0
  Among tables = IsAmongSales before tables

  -- these rows came next
  abbrev pub Came : Place → List SaleRow → State → Type 0
  Came now rows s = Seen Among (λ tables. Among tables × GoesOnBy before now rows tables) old s

  pub came_none : Came before [] old
  came_none =
      seen_as Among Among (λ tables. Among tables × GoesOnBy before before [] tables) old old (seen_none Among old)
      (λ tables has among. (
        among,
        (
          tt,
          λ given behind.
              subst (λ (rows : List SaleRow). IsBehind sale_cells rows tables.sale before) (sym (append-nil given)) behind,
        ),
      ))

  module _ (now : Place) (done : List SaleRow) (mid : State) (came : Came now done mid) (after : Place) (new : State) where
    abbrev Reads : Result (Option SaleRow) Fault → Type 0
    Reads = Steps sale_cells IsSaleRow sales_in now after mid new

    -- one more
    pub came_next : (row : SaleRow) → Reads (Ok (Some row)) → Came after (done ++ row ∷ []) new
    came_next row reads =
        step_gives Among sale_cells IsSaleRow sales_in now after old mid new
        (λ tables. Among tables × GoesOnBy before now done tables) came
        (λ tables. Among tables × GoesOnBy before after (done ++ row ∷ []) tables) (Some row) reads
        (λ tables has was gives good. (
          was.0,
          (
            all-append IsSaleRow done (row ∷ []) was.1.0 (good, tt),
            λ given behind.
                subst (λ (rows : List SaleRow). IsBehind sale_cells rows tables.sale after) (append_assoc given done (row ∷ []))
                (gives (given ++ done) (was.1.1 given behind)),
          ),
        ))

    -- another row comes next
    other_row : (tables : Tables) (found : Option SaleRow) (row : SaleRow) (later : List SaleRow) → found ≢ Some row
        → GoesOnBy before now done tables
        → ((given : List SaleRow) → IsBehind sale_cells given tables.sale now → Gives sale_cells given tables.sale after found)
        → HasOthersNext before (done ++ row ∷ later) tables
    other_row tables None row later apart goes_on gives given rest behind is =
        let all : given ++ done ≡ tables.sale =
        all_rows sale_cells one_sale_row (given ++ done) tables.sale (gives (given ++ done) (goes_on.1 given behind)) in
        let same : (given ++ done) ++ [] ≡ (given ++ done) ++ (row ∷ (later ++ rest)) =
        append-nil (given ++ done) ∙ all ∙ is ∙ ap (λ (l : List SaleRow). given ++ l) (append_assoc done (row ∷ later) rest)
        ∙ sym (append_assoc given done (row ∷ (later ++ rest))) in
        let none : [] ≡ row ∷ (later ++ rest) = append_cancel_left (given ++ done) [] (row ∷ (later ++ rest)) same in
        absurd (let gone : row ∷ (later ++ rest) ≡ [] = sym none in cc)
    other_row tables (Some found) row later apart goes_on gives given rest behind is =
        let it = behind_rows sale_cells one_sale_row ((given ++ done) ++ found ∷ []) tables.sale after
        (gives (given ++ done) (goes_on.1 given behind)) in
        let same : (given ++ done) ++ (found ∷ it.0) ≡ (given ++ done) ++ (row ∷ (later ++ rest)) =
        sym (append_assoc (given ++ done) (found ∷ []) it.0) ∙ it.1 ∙ is
        ∙ ap (λ (l : List SaleRow). given ++ l) (append_assoc done (row ∷ later) rest)
        ∙ sym (append_assoc given done (row ∷ (later ++ rest))) in
        let tails : found ∷ it.0 ≡ row ∷ (later ++ rest) =
        append_cancel_left (given ++ done) (found ∷ it.0) (row ∷ (later ++ rest)) same in
        let one : found ≡ row = cc in
        apart (ap Some one)

    pub comes_not : (found : Option SaleRow) (row : SaleRow) (later rows : List SaleRow) → done ++ row ∷ later ≡ rows
        → found ≢ Some row → Reads (Ok found) → ChecksWhere Among (Follow before after rows) old new (Ok false)
    comes_not found row later rows split apart reads =
        seen_done Among (Follow before after rows) old new false
        (step_gives Among sale_cells IsSaleRow sales_in now after old mid new
        (λ tables. Among tables × GoesOnBy before now done tables) came
        (Follow before after rows false) found reads
        (λ tables has was gives good. (
          (λ yes. absurd (true≢false (sym yes))),
          (λ _. subst (λ (all : List SaleRow). HasOthersNext before all tables) split
              (other_row tables found row later apart was.1 gives)),
        )))

    -- it isn't read
    pub comes_none : (rows : List SaleRow) (last : Place) (fault : Fault) (result : Result Bool Fault) → IsErrAnd result (λ e. e ≡ fault)
        → Reads (Err fault) → ChecksWhere Among (Follow before last rows) old new result
    comes_none rows last fault result is reads =
        passed_on Among (Follow before last rows) old new fault result is
        (step_fails Among sale_cells IsSaleRow sales_in now after old mid new
        (λ tables. Among tables × GoesOnBy before now done tables) came (Follow before last rows) fault reads
        (λ tables has was. (was.0.0 ++ done, was.1.1 was.0.0 was.0.1))
        (λ tables of. of.2.good.sale))

  -- all of them came
  pub came_all : (now : Place) (rows : List SaleRow) (s : State) → Came now rows s → ChecksWhere Among (Follow before now rows) old s (Ok true)
  came_all now rows s came =
      seen_done Among (Follow before now rows) old s true
      (seen_as Among (λ tables. Among tables × GoesOnBy before now rows tables) (Follow before now rows true) old s came
      (λ tables has was. ((λ yes. was.1), (λ no_. absurd (true≢false no_)))))
