-- Reports that are fed row by row.
use Rattle.std.proofs.Common.{◌≡◌, ℕ, List, [], ◌∷◌, ◌++◌, refl, sym, ap, ◌∙◌, subst, append_assoc, append-nil, map}
use Rattle.std.specs.Prelude.{Bool, IsTrue, IsErrAnd, IfSome, Option, Some, Result, Ok, Err, flat_map}
use Rattle.std.specs.Io.KnownBytes.{Appends}
use Rattle.std.proofs.KnownBytes.{Appends-nil, Appends-trans}
use Rattle.std.proofs.lemmas.Grind.{flat_map-append}
use Rattle.lot_report.specs.declared.fault.RowFault.{RowFault}
use Rattle.lot_report.specs.declared.fault.RowFault.TheVariants.{Report}
use Rattle.lot_report.specs.declared.fault.ReportFault.{ReportFault}
use Rattle.lot_report.specs.declared.fault.ReportFault.TheVariants.{Range, Write, Memory}
use Rattle.lot_report.specs.declared.line.PrintFault.{PrintFault}
use Rattle.lot_report.specs.Fed.{CountsRow, EndsReport, GrowsByRow, IsFed, TakesRow, joined, text_of}
use Rattle.lot_report.specs.Report.{EachFits, report_fault}
use Rattle.lot_report.specs.Written.{AppendsPrefix, WritesEach, WritesLine}
use Rattle.lot_report.proofs.EachLemmas.{text_more}
use Rattle.lot_report.proofs.PrintLemmas.{prefix_behind}

-- ---- Lines.

joined_map : {X : Type 0} (text : X → List ℕ) (items : List X) → joined (map text items) ≡ flat_map text items
joined_map text [] = refl
joined_map text (item ∷ items) = ap (λ rest. text item ++ rest) (joined_map text items)

map_split : {X : Type 0} (text : X → List ℕ) (before : List X) (next : X) (after : List X)
    → map text (before ++ next ∷ after) ≡ map text before ++ text next ∷ map text after
map_split text [] next after = refl
map_split text (item ∷ before) next after = ap (λ rest. text item ∷ rest) (map_split text before next after)

-- the texts of items are lines
pub lines_of_items : {X : Type 0} (text : X → List ℕ) (items : List X) (old new : Option (List ℕ)) (result : Result (Unit {0}) PrintFault)
    → WritesEach text items old new result → WritesEach (λ (t : List ℕ). t) (map text items) old new result
lines_of_items text items old new (Ok done) wrote = subst (Appends old new) (sym (joined_map text items)) wrote
lines_of_items text items old new (Err PrintFault.Write) wrote = subst (AppendsPrefix old new) (sym (joined_map text items)) wrote
lines_of_items text items old new (Err PrintFault.Memory) (before, next, after, split, wrote) = (
  map text before,
  text next,
  map text after,
  ap (map text) split ∙ map_split text before next after,
  subst (Appends old new) (sym (joined_map text before)) wrote,
)

both_joined : (first more : List (List ℕ)) → joined (first ++ more) ≡ joined first ++ joined more
both_joined first more = flat_map-append (λ (t : List ℕ). t) first more

-- further lines, behind some that are written
pub lines_follow : (first more : List (List ℕ)) (old mid new : Option (List ℕ)) (result : Result (Unit {0}) PrintFault)
    → Appends old mid (joined first) → WritesEach (λ (t : List ℕ). t) more mid new result → WritesEach (λ (t : List ℕ). t) (first ++ more) old new result
lines_follow first more old mid new (Ok done) wrote rest =
    subst (Appends old new) (sym (both_joined first more)) (Appends-trans old mid new _ _ wrote rest)
lines_follow first more old mid new (Err PrintFault.Write) wrote rest =
    subst (AppendsPrefix old new) (sym (both_joined first more)) (prefix_behind old mid new (joined first) (joined more) wrote rest)
lines_follow first more old mid new (Err PrintFault.Memory) wrote (before, next, after, split, rest) = (
  first ++ before,
  next,
  after,
  ap (λ ls. first ++ ls) split ∙ sym (append_assoc first before (next ∷ after)),
  subst (Appends old new) (sym (both_joined first before)) (Appends-trans old mid new _ _ wrote rest),
)

-- lines that aren't written whole, before further ones
pub lines_stop : (first more : List (List ℕ)) (old new : Option (List ℕ)) (fault : PrintFault)
    → WritesEach (λ (t : List ℕ). t) first old new (Err fault) → WritesEach (λ (t : List ℕ). t) (first ++ more) old new (Err fault)
lines_stop first more old new PrintFault.Write (part, (next, rest, split), wrote) = (
  part,
  (
    next,
    rest ++ joined more,
    both_joined first more ∙ ap (λ t. t ++ joined more) split ∙ append_assoc part (next ∷ rest) (joined more),
  ),
  wrote,
)
lines_stop first more old new PrintFault.Memory (before, next, after, split, wrote) =
    (before, next, after ++ more, ap (λ ls. ls ++ more) split ∙ append_assoc before (next ∷ after) more, wrote)

-- one line alone
pub one_line : (text : List ℕ) (old new : Option (List ℕ)) (result : Result (Unit {0}) PrintFault)
    → WritesLine old new result text → WritesEach (λ (t : List ℕ). t) (text ∷ []) old new result
one_line text old new (Ok done) wrote = subst (Appends old new) (sym (append-nil text)) wrote
one_line text old new (Err PrintFault.Write) wrote = subst (AppendsPrefix old new) (sym (append-nil text)) wrote
one_line text old new (Err PrintFault.Memory) nothing = ([], text, [], refl, nothing)

-- ---- Rows.

pub fit_more : {X : Type 0} (fits : List X → X → Bool) (earlier before : List X) (row : X)
    → EachFits fits earlier before → IsTrue (fits (earlier ++ before) row) → EachFits fits earlier (before ++ row ∷ [])
fit_more fits earlier [] row all fit = (subst (λ rows. IsTrue (fits rows row)) (append-nil earlier) fit, tt)
fit_more fits earlier (first ∷ before) row all fit =
    (all.0, fit_more fits (earlier ++ first ∷ []) before row all.1 (subst (λ rows. IsTrue (fits rows row)) (sym (append_assoc earlier (first ∷ []) before)) fit))

-- a row that wasn't counted, of which nothing is written
pub row_uncounted : {Row Kept : Type 0} (lines : Row → List (List ℕ)) (fits : List Row → Row → Bool) (HasTaken : List Row → Kept → Type 0)
    (rows : List Row) (row : Row) (kept : Kept) (held : Option (List ℕ)) (first : List ℕ) (rest : List (List ℕ)) (fault : ReportFault)
    (result : Result (Unit {0}) ReportFault)
    → lines row ≡ first ∷ rest → CountsRow fits HasTaken rows row kept (Err fault)
    → IsErrAnd result (λ e. e ≡ fault) → TakesRow lines fits HasTaken rows row kept held held result
row_uncounted lines fits HasTaken rows row kept held first rest fault (Ok done) is counts fails = absurd fails
row_uncounted lines fits HasTaken rows row kept held first rest Range (Err e) is breaks fails = rw (fails) (breaks, Appends-nil held)
row_uncounted lines fits HasTaken rows row kept held first rest Write (Err e) is none fails = absurd none
row_uncounted lines fits HasTaken rows row kept held first rest Memory (Err e) is fit fails =
    rw (fails) (fit, [], ([], first, rest, is, refl), Appends-nil held)

-- a row that was taken, and isn't written whole
pub row_cut : {Row Kept : Type 0} (lines : Row → List (List ℕ)) (fits : List Row → Row → Bool) (HasTaken : List Row → Kept → Type 0)
    (rows : List Row) (row : Row) (kept : Kept) (old new : Option (List ℕ)) (fault : PrintFault) (result : Result (Unit {0}) ReportFault)
    → IsTrue (fits rows row) → WritesEach (λ (t : List ℕ). t) (lines row) old new (Err fault)
    → IsErrAnd result (λ e. e ≡ report_fault fault) → TakesRow lines fits HasTaken rows row kept old new result
row_cut lines fits HasTaken rows row kept old new fault (Ok done) fit stops fails = absurd fails
row_cut lines fits HasTaken rows row kept old new PrintFault.Write (Err e) fit stops fails = rw (fails) (fit, stops)
row_cut lines fits HasTaken rows row kept old new PrintFault.Memory (Err e) fit (before, next, after, split, wrote) fails =
    rw (fails) (fit, joined before, (before, next, after, split, refl), wrote)

-- what a report keeps that no fault has ended
pub fed_with : {Row Kept : Type 0} (fits : List Row → Row → Bool) (HasTaken : List Row → Kept → Type 0) (rows : List Row)
    (kept : Option Kept) (some : Kept) → IsFed fits HasTaken rows kept → kept ≡ Some some → HasTaken rows some
fed_with fits HasTaken rows kept some fed is = subst (λ o. IfSome o (λ (k : _). HasTaken rows k)) is fed.1

-- a row that was taken, behind those before it
pub row_grows : {Row Kept : Type 0} (lines : Row → List (List ℕ)) (fits : List Row → Row → Bool) (HasTaken : List Row → Kept → Type 0)
    (rows : List Row) (row : Row) (kept : Kept) (start old new : Option (List ℕ)) (done : Unit {0})
    → EachFits fits [] rows → Appends start old (text_of lines rows) → TakesRow lines fits HasTaken rows row kept old new (Ok done)
    → GrowsByRow lines fits HasTaken rows row (Some kept) start new (Ok done)
row_grows lines fits HasTaken rows row kept start old new done all before (fit, taken, more) = (
  fit,
  (fit_more fits [] rows row all fit, taken),
  subst (Appends start new) (sym (text_more (λ r. joined (lines r)) rows row)) (Appends-trans start old new _ _ before more),
)

-- a row at which the report ends, behind those before it
pub row_ends : {Row Kept : Type 0} (lines : Row → List (List ℕ)) (fits : List Row → Row → Bool) (HasTaken : List Row → Kept → Type 0)
    (rows : List Row) (row : Row) (kept : Kept) (left : Option Kept) (start old new : Option (List ℕ)) (fault : ReportFault) (result : Result (Unit {0}) RowFault)
    → Appends start old (text_of lines rows) → TakesRow lines fits HasTaken rows row kept old new (Err fault)
    → IsErrAnd result (λ e. e ≡ Report fault) → GrowsByRow lines fits HasTaken rows row left start new result
row_ends lines fits HasTaken rows row kept left start old new fault (Ok done) before stops fails = absurd fails
row_ends lines fits HasTaken rows row kept left start old new Range (Err e) before (breaks, nothing) fails =
    rw (fails) (breaks, subst (Appends start new) (append-nil (text_of lines rows)) (Appends-trans start old new _ _ before nothing))
row_ends lines fits HasTaken rows row kept left start old new Write (Err e) before (fit, (part, proper, more)) fails =
    rw (fails) (fit, part, proper, Appends-trans start old new _ _ before more)
row_ends lines fits HasTaken rows row kept left start old new Memory (Err e) before (fit, part, first, more) fails =
    rw (fails) (fit, part, first, Appends-trans start old new _ _ before more)

-- ---- The end.

pub report_ends : {Row : Type 0} (lines : Row → List (List ℕ)) (fits : List Row → Row → Bool) (IsEnd : List Row → List (List ℕ) → Type 0)
    (rows : List Row) (end : List (List ℕ)) (start old new : Option (List ℕ)) (done : Unit {0})
    → EachFits fits [] rows → IsEnd rows end → Appends start old (text_of lines rows) → Appends old new (joined end)
    → EndsReport lines fits IsEnd rows start new (Ok done)
report_ends lines fits IsEnd rows end start old new done all is before more =
    (text_of lines rows ++ joined end, (all, end, is, refl), Appends-trans start old new _ _ before more)

pub report_cut : {Row : Type 0} (lines : Row → List (List ℕ)) (fits : List Row → Row → Bool) (IsEnd : List Row → List (List ℕ) → Type 0)
    (rows : List Row) (end : List (List ℕ)) (start old new : Option (List ℕ)) (fault : PrintFault)
    → IsEnd rows end → Appends start old (text_of lines rows) → WritesEach (λ (t : List ℕ). t) end old new (Err fault)
    → EndsReport lines fits IsEnd rows start new (Err (Report (report_fault fault)))
report_cut lines fits IsEnd rows end start old new PrintFault.Write is before (part, proper, more) =
    (end, is, part, proper, Appends-trans start old new _ _ before more)
report_cut lines fits IsEnd rows end start old new PrintFault.Memory is before (first, next, after, split, more) =
    (end, is, joined first, (first, next, after, split, refl), Appends-trans start old new _ _ before more)
