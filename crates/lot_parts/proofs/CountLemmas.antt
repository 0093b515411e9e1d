-- How many lines a text has.
use Rattle.std.proofs.Common.{◌≡◌, inl, inr, ℕ, ◌+◌, List, [], ◌∷◌, ◌++◌, length, length-append, refl, ap, ◌∙◌, append-nil, append_assoc, sym}
use Rattle.std.specs.Prelude.{◌==◌, if◌then◌else◌, filter, flat_map}
use Rattle.std.proofs.lemmas.Bool.{and_parts, not-true}
use Rattle.std.proofs.lemmas.List.Elements.{filter-append}
use Rattle.lot_syntax.specs.Line.{IsLine}
use Rattle.lot_report.specs.Printed.{line}
use Rattle.lot_parts.specs.Dump.{AreTextLines, IsLedger}
use Rattle.lot_parts.specs.Reading.{AreWhole, is_line_end, lines_in}

pub lines_both : (a b : List ℕ) → lines_in (a ++ b) ≡ lines_in a + lines_in b
lines_both a b = ap length (filter-append is_line_end a b) ∙ length-append (filter is_line_end a) (filter is_line_end b)

no_line_end : (l : List ℕ) → IsLine l → filter is_line_end l ≡ []
no_line_end [] is = refl
no_line_end (b ∷ l) is =
    let parts = and_parts _ _ is in
    ap (λ t. if t then b ∷ filter is_line_end l else filter is_line_end l) (not-true (b == 10) parts.0) ∙ no_line_end l parts.1

pub one_line : (l : List ℕ) → IsLine l → lines_in (line l) ≡ 1
one_line l is = ap length (filter-append is_line_end l (10 ∷ []) ∙ ap (λ t. t ++ 10 ∷ []) (no_line_end l is))

-- ---- each line has its line end

pub whole_behind : (l x : List ℕ) → AreWhole x → AreWhole (line l ++ x)
whole_behind l x (inl none) = inr (l, ap (λ t. line l ++ t) none ∙ append-nil (line l))
whole_behind l x (inr (body, is)) = inr (line l ++ body, ap (λ t. line l ++ t) is ∙ sym (append_assoc (line l) body (10 ∷ [])))

whole_lines : (ls : List (List ℕ)) → AreWhole (flat_map line ls)
whole_lines [] = inl refl
whole_lines (l ∷ ls) = whole_behind l (flat_map line ls) (whole_lines ls)

pub whole_ledger : (text : List ℕ) → IsLedger text → AreWhole text
whole_ledger text (ls, are, is) = by (whole_lines ls)
  where
    by : AreWhole (flat_map line ls) → AreWhole text
    by (inl none) = inl (is ∙ none)
    by (inr (body, whole)) = inr (body, is ∙ whole)
