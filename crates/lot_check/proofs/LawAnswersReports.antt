-- Rows have one report: the whole one where all of them fit, and the one up to the first that doesn't.
use Rattle.std.specs.Prelude.{◌≡◌, ℕ, Bool, not, IsTrue, List, [], ◌∷◌, ◌++◌, ℤ}
use Rattle.lot_base.specs.Text.{text_cmp}
use Rattle.std.proofs.Common.{refl, sym, ap, subst, ◌∙◌, append_assoc, inl, inr}
use Rattle.std.proofs.lemmas.Bool.{true≢false}
use Rattle.std.proofs.lemmas.Cmp.{nat_list_cmp_total}
use Rattle.std.proofs.lemmas.Grind.{flat_map-append}
use Rattle.std.proofs.lemmas.List.{append-nil}
use Rattle.std.proofs.lemmas.Map.Lookups.{exact_bytes}
use Rattle.lot_report.specs.declared.holdings.ValuedHolding.{ValuedHolding}
use Rattle.lot_report.specs.Fed.{joined}
use Rattle.lot_report.specs.Holdings.{AllFit, AreKeptLines, AreFirstLines, IsEnd, IsReport, IsReportToFault, costs_of, end_lines, fits, row_lines, rows_text, values_of}
use Rattle.lot_report.specs.Report.{AreSums, is_nil}
use Rattle.lot_report.specs.Written.{IsPrefixOf}
use Rattle.lot_base.proofs.MapLemmas.{one_map}

-- ---- Costs have one list of sums.

one_sums : (costs sums others : List (List ℕ × ℤ)) → AreSums costs sums → AreSums costs others → sums ≡ others
one_sums costs sums others h k =
    one_map text_cmp nat_list_cmp_total exact_bytes sums others h.in_order k.in_order (λ name. h.each name ∙ sym (k.each name))

-- ---- Lists.

first_alike : {X : Type 0} (x y : X) (xs ys : List X) → x ∷ xs ≡ y ∷ ys → x ≡ y
first_alike x y xs ys e = cc

rest_alike : {X : Type 0} (x y : X) (xs ys : List X) → x ∷ xs ≡ y ∷ ys → xs ≡ ys
rest_alike x y xs ys e = cc

-- a list that goes on behind itself goes on with nothing
nothing_more : {X : Type 0} (xs more last : List X) → xs ≡ (xs ++ more) ++ last → more ≡ []
nothing_more [] [] last e = refl
nothing_more [] (y ∷ more) last e = cc
nothing_more (x ∷ xs) more last e = nothing_more xs more last (rest_alike x x xs ((xs ++ more) ++ last) e)

-- ---- Rows that fit.

holds_or_not : (b : Bool) → IsTrue b → IsTrue (not b) → ⊥
holds_or_not b h k = true≢false (sym k ∙ ap not h)

-- where all fit, each does so behind those before it
fits_behind : (start before : List ValuedHolding) (row : ValuedHolding) (after : List ValuedHolding)
    → AllFit start (before ++ row ∷ after) → IsTrue (fits (start ++ before) row)
fits_behind start [] row after h = subst (λ rows. IsTrue (fits rows row)) (sym (append-nil start)) h.0
fits_behind start (first ∷ before) row after h =
    subst (λ rows. IsTrue (fits rows row)) (append_assoc start (first ∷ []) before) (fits_behind (start ++ first ∷ []) before row after h.1)

-- of one list of rows, first ones that all fit are no more than those before a row that doesn't
fitting_come_first : (start fitting more before : List ValuedHolding) (row : ValuedHolding) (after : List ValuedHolding)
    → AllFit start fitting → IsTrue (not (fits (start ++ before) row)) → fitting ++ more ≡ before ++ row ∷ after
    → (between : List ValuedHolding) × (before ≡ fitting ++ between)
fitting_come_first start [] more before row after h fault e = (before, refl)
fitting_come_first start (first ∷ fitting) more [] row after h fault e =
    absurd (holds_or_not (fits start row)
    (subst (λ other. IsTrue (fits start other)) (first_alike first row (fitting ++ more) after e) h.0)
    (subst (λ rows. IsTrue (not (fits rows row))) (append-nil start) fault))
fitting_come_first start (first ∷ fitting) more (other ∷ before) row after h fault e =
    let one = first_alike first other (fitting ++ more) (before ++ row ∷ after) e in
    let rest = fitting_come_first (start ++ first ∷ []) fitting more before row after h.1
    (subst (λ rows. IsTrue (not (fits rows row))) (ap (λ x. start ++ x ∷ before) (sym one) ∙ sym (append_assoc start (first ∷ []) before)) fault)
    (rest_alike first other (fitting ++ more) (before ++ row ∷ after) e) in
    (rest.0, ap (λ x. x ∷ before) (sym one) ∙ ap (λ rows. first ∷ rows) rest.1)

-- ---- Reports.

one_end : (rows : List ValuedHolding) (end other : List (List ℕ)) → IsEnd rows end → IsEnd rows other → end ≡ other
one_end rows end other h k =
    h.4 ∙ ap (λ costs. end_lines (is_nil rows) costs h.2) (one_sums (costs_of rows) h.0 k.0 h.1 k.1)
    ∙ ap (λ values. end_lines (is_nil rows) k.0 values) (one_sums (values_of rows) h.2 k.2 h.3 k.3) ∙ sym k.4

pub one_report : (rows : List ValuedHolding) (text other : List ℕ) → IsReport rows text → IsReport rows other → text ≡ other
one_report rows text other h k =
    h.3 ∙ ap (λ end. rows_text rows ++ joined end) (one_end rows h.1 k.1 h.2 k.2) ∙ sym k.3

pub one_report_to_fault : (rows : List ValuedHolding) (text other : List ℕ) → IsReportToFault rows text → IsReportToFault rows other → text ≡ other
one_report_to_fault rows text other h k =
    let more = fitting_come_first [] h.0 (h.1 ∷ h.2) k.0 k.1 k.2 h.3 k.4 (sym h.5 ∙ k.5) in
    let back = fitting_come_first [] k.0 (k.1 ∷ k.2) h.0 h.1 h.2 k.3 h.4 (sym k.5 ∙ h.5) in
    let none = nothing_more h.0 more.0 back.0 (back.1 ∙ ap (λ rows. rows ++ back.0) more.1) in
    h.6 ∙ ap rows_text (sym (append-nil h.0) ∙ ap (λ rows. h.0 ++ rows) (sym none) ∙ sym more.1) ∙ sym k.6

fit_or_fault : (rows : List ValuedHolding) (other : List ℕ) → AllFit [] rows → IsReportToFault rows other → ⊥
fit_or_fault rows other fitting k = holds_or_not (fits k.0 k.1) (fits_behind [] k.0 k.1 k.2 (subst (AllFit []) k.5 fitting)) k.4

pub whole_or_to_fault : (rows : List ValuedHolding) (text other : List ℕ) → IsReport rows text → IsReportToFault rows other → ⊥
whole_or_to_fault rows text other h k = fit_or_fault rows other h.0 k

-- ---- First lines of a report.

rows_behind : (before after : List ValuedHolding) → rows_text (before ++ after) ≡ rows_text before ++ rows_text after
rows_behind before after = flat_map-append (λ (row : ValuedHolding). joined (row_lines row)) before after

rows_of_report : (before after : List ValuedHolding) (text : List ℕ) → IsReport (before ++ after) text → IsPrefixOf (rows_text before) text
rows_of_report before after text h =
    (rows_text after ++ joined h.1, h.3 ∙ ap (λ rows. rows ++ joined h.1) (rows_behind before after) ∙ append_assoc (rows_text before) (rows_text after) (joined h.1))

rows_of_report_to_fault : (before after : List ValuedHolding) (text : List ℕ) → AllFit [] before → IsReportToFault (before ++ after) text → IsPrefixOf (rows_text before) text
rows_of_report_to_fault before after text fitting h =
    let between = fitting_come_first [] before after h.0 h.1 h.2 fitting h.4 h.5 in
    (rows_text between.0, h.6 ∙ ap rows_text between.1 ∙ rows_behind before between.0)

pub lines_of_report : (rows : List ValuedHolding) (lines text : List ℕ) → AreFirstLines rows lines → IsReport rows text → IsPrefixOf lines text
lines_of_report rows lines text (inl h) k =
    subst (λ start. IsPrefixOf start text) (sym h.4) (rows_of_report h.0 h.1 text (subst (λ all. IsReport all text) h.3 k))
lines_of_report rows lines text (inr h) k = (
  joined h.4,
  k.3 ∙ ap (λ end. rows_text rows ++ joined end) (one_end rows k.1 h.1 k.2 h.2 ∙ h.5)
      ∙ ap (λ last. rows_text rows ++ last) (flat_map-append (λ (line : List ℕ). line) h.3 h.4)
      ∙ sym (append_assoc (rows_text rows) (joined h.3) (joined h.4))
      ∙ ap (λ start. start ++ joined h.4) (sym h.6),
)

pub lines_of_report_to_fault : (rows : List ValuedHolding) (lines text : List ℕ) → AreFirstLines rows lines → IsReportToFault rows text → IsPrefixOf lines text
lines_of_report_to_fault rows lines text (inl h) k =
    subst (λ start. IsPrefixOf start text) (sym h.4) (rows_of_report_to_fault h.0 h.1 text h.2 (subst (λ all. IsReportToFault all text) h.3 k))
lines_of_report_to_fault rows lines text (inr h) k = absurd (fit_or_fault rows text h.0 k)

-- the lines that are kept where memory ends are first lines
pub kept_are_first : (rows : List ValuedHolding) (lines : List ℕ) → AreKeptLines rows lines → AreFirstLines rows lines
kept_are_first rows lines (inl h) = inl (h.0, h.1 ∷ h.2, h.3, h.5, h.6)
kept_are_first rows lines (inr h) = inr h
