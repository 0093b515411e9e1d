-- The lines of a table, from their pieces.
use Rattle.std.specs.Prelude.{◌≡◌, ◌≢◌, ℕ, ℤ, Bool, true, false, nat_lt, if◌then◌else◌, List, [], ◌∷◌, ◌++◌, length, flat_map, map, Option, Result, Ok, Err, String, codes}
use Rattle.std.specs.Io.KnownBytes.{Appends}
use Rattle.std.proofs.Common.{rules, refl, sym, ap, subst, ◌∙◌, append_assoc, append-nil, arith}
use Rattle.std.proofs.lemmas.Bool.{true≢false}
use Rattle.lot_report.specs.Printed.{line, total_of}
use Rattle.lot_report.specs.Written.{WritesEach, WritesLine}
use Rattle.lot_report.specs.declared.line.PrintFault.{PrintFault}
use Rattle.lot_report.proofs.FedLemmas.{lines_follow, lines_of_items, lines_stop, one_line}
use Rattle.lot_tally.specs.Lots.{RowKey}
use Rattle.lot_tally.specs.Table.{header, row_text, shown, text_lines}
use Rattle.lot_tally.specs.declared.key.GainKey.{GainKey}
use Rattle.lot_tally.specs.declared.key.TableForm.{TableForm}
use Rattle.lot_tally.specs.declared.key.TableForm.TheVariants.{Text, Csv}
use Rattle.lot_tally.specs.declared.sums.RowSums.{RowSums}

abbrev total_line : List ℕ × ℤ → List ℕ
total_line total = total_of (codes "gain") total.0 total.1

fused : {X Y Z : Type 0} (f : Y → Z) (g : X → Y) (xs : List X) → map (λ x. f (g x)) xs ≡ map f (map g xs)
fused f g [] = refl
fused f g (x ∷ xs) = ap (λ rest. f (g x) ∷ rest) (fused f g xs)

-- rows as lines
pub row_lines : {A : Type 0} (form : TableForm) (rows : List ((String A × List ℕ) × RowSums)) (old new : Option (List ℕ)) (result : Result (Unit {0}) PrintFault)
    → WritesEach (λ (row : _). row_text form (shown row)) rows old new result
    → WritesEach (λ (t : List ℕ). t) (map (row_text form) (map shown rows)) old new result
row_lines form rows old new result wrote =
    subst (λ ls. WritesEach (λ (t : List ℕ). t) ls old new result) (fused (row_text form) shown rows)
    (lines_of_items (λ (row : _). row_text form (shown row)) rows old new result wrote)

-- no row
pub no_rows : {A : Type 0} (rows : List ((String A × List ℕ) × RowSums)) (totals : List (List ℕ × ℤ)) (old new : Option (List ℕ))
    (result : Result (Unit {0}) PrintFault) → length rows ≡ 0 → WritesLine old new result (line (codes "no gains"))
    → WritesEach (λ (t : List ℕ). t) (text_lines (map shown rows) totals) old new result
no_rows [] totals old new result none wrote = one_line (line (codes "no gains")) old new result wrote
no_rows (row ∷ rows) totals old new result none wrote = absurd (omega (arith, none))

some_rows : {A : Type 0} (rows : List ((String A × List ℕ) × RowSums)) (totals : List (List ℕ × ℤ)) → length rows ≢ 0
    → map (row_text Text) (map shown rows) ++ map total_line totals ≡ text_lines (map shown rows) totals
some_rows [] totals some = absurd (some refl)
some_rows (row ∷ rows) totals some = refl

-- rows, and the totals behind them
pub rows_and_totals : {A : Type 0} (rows : List ((String A × List ℕ) × RowSums)) (totals : List (List ℕ × ℤ)) (old mid new : Option (List ℕ))
    (result : Result (Unit {0}) PrintFault) → length rows ≢ 0
    → WritesEach (λ (row : _). row_text Text (shown row)) rows old mid (Ok tt)
    → WritesEach total_line totals mid new result
    → WritesEach (λ (t : List ℕ). t) (text_lines (map shown rows) totals) old new result
rows_and_totals rows totals old mid new result some wrote behind =
    subst (λ ls. WritesEach (λ (t : List ℕ). t) ls old new result) (some_rows rows totals some)
    (lines_follow (map (row_text Text) (map shown rows)) (map total_line totals) old mid new result
    (row_lines Text rows old mid (Ok tt) wrote) (lines_of_items total_line totals mid new result behind))

-- rows that aren't all written
pub rows_stop : {A : Type 0} (rows : List ((String A × List ℕ) × RowSums)) (totals : List (List ℕ × ℤ)) (old new : Option (List ℕ))
    (fault : PrintFault) → length rows ≢ 0
    → WritesEach (λ (row : _). row_text Text (shown row)) rows old new (Err fault)
    → WritesEach (λ (t : List ℕ). t) (text_lines (map shown rows) totals) old new (Err fault)
rows_stop rows totals old new fault some wrote =
    subst (λ ls. WritesEach (λ (t : List ℕ). t) ls old new (Err fault)) (some_rows rows totals some)
    (lines_stop (map (row_text Text) (map shown rows)) (map total_line totals) old new fault (row_lines Text rows old new (Err fault) wrote))

-- the names of the columns, and the rows below them
pub header_and_rows : {A : Type 0} (by : List GainKey) (rows : List ((String A × List ℕ) × RowSums)) (old mid new : Option (List ℕ))
    (result : Result (Unit {0}) PrintFault) → WritesLine old mid (Ok tt) (header by)
    → WritesEach (λ (row : _). row_text Csv (shown row)) rows mid new result
    → WritesEach (λ (t : List ℕ). t) (header by ∷ map (row_text Csv) (map shown rows)) old new result
header_and_rows by rows old mid new result wrote below =
    lines_follow (header by ∷ []) (map (row_text Csv) (map shown rows)) old mid new result
    (one_line (header by) old mid (Ok tt) wrote) (row_lines Csv rows mid new result below)

pub header_stops : {A : Type 0} (by : List GainKey) (rows : List ((String A × List ℕ) × RowSums)) (old new : Option (List ℕ)) (fault : PrintFault)
    → WritesLine old new (Err fault) (header by)
    → WritesEach (λ (t : List ℕ). t) (header by ∷ map (row_text Csv) (map shown rows)) old new (Err fault)
header_stops by rows old new fault wrote =
    lines_stop (header by ∷ []) (map (row_text Csv) (map shown rows)) old new fault (one_line (header by) old new (Err fault) wrote)

-- ---- lines of some lots

pub some_lots : (lots : ℕ) (text old new : List ℕ) → lots ≢ 0 → new ≡ old ++ text → new ≡ old ++ (if nat_lt 0 lots then text else [])
some_lots lots text old new some is = is ∙ ap (λ b. old ++ (if b then text else [])) (sym (above lots some))
  where
    above : (n : ℕ) → n ≢ 0 → nat_lt 0 n ≡ true
    above n some = search (rules)

pub no_lots : (lots : ℕ) (text old : List ℕ) → lots ≡ 0 → old ≡ old ++ (if nat_lt 0 lots then text else [])
no_lots lots text old none = sym (ap (λ n. old ++ (if nat_lt 0 n then text else [])) none ∙ append-nil old)
