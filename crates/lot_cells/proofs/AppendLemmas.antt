-- Texts that grow cell by cell.
use Rattle.std.proofs.Common.{◌≡◌, ℕ, List, [], ◌∷◌, ◌++◌, ap, sym, ◌∙◌, append-nil, append_assoc}
use Rattle.std.specs.Prelude.{OnOk, Result, Ok, Err, cond, is_ok}
use Rattle.std.proofs.lemmas.Result.{on_ok_weaker}
use Rattle.lot_plot.proofs.PieceLemmas.{Grows}
use Rattle.lot_cells.specs.Cell.{cells}

all_grown : (text : List ℕ) (pieces : List (List ℕ)) (last before : List ℕ) → Grows text pieces before
    → before ++ last ≡ text ++ cells (pieces ++ last ∷ [])
all_grown text [] last before is = ap (λ (t : List ℕ). t ++ last) is ∙ ap (λ (t : List ℕ). text ++ t) (sym (append-nil last))
all_grown text (piece ∷ pieces) last before (next, is, more) =
    all_grown next pieces last before more
    ∙ ap (λ (t : List ℕ). t ++ cells (pieces ++ last ∷ [])) is
    ∙ append_assoc text piece (cells (pieces ++ last ∷ []))

-- a text that has grown by some pieces, and maybe by a last one
pub appended : {T E : Type 0} (result : Result T E) (text : List ℕ) (pieces : List (List ℕ)) (last before new : List ℕ)
    → Grows text pieces before → OnOk result (new ≡ before ++ last) → OnOk result (new ≡ text ++ cells (pieces ++ last ∷ []))
appended result text pieces last before new grows was =
    on_ok_weaker {P = new ≡ before ++ last} result (λ is. is ∙ all_grown text pieces last before grows) was

-- what `push_str` says, as our own functions say it
pub pushed : {T E : Type 0} (result : Result T E) (before piece new : List ℕ) → new ≡ cond (is_ok result) (before ++ piece) before
    → OnOk result (new ≡ before ++ piece)
pushed (Ok done) before piece new is = is
pushed (Err fault) before piece new is = tt
