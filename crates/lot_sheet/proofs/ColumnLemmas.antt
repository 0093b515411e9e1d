-- What is asked of a line, under equal headers.
use Rattle.std.proofs.Common.{◌≡◌, ◌↔◌, ℕ, List, Option, subst}
use Rattle.lot_profile.specs.declared.file.Condition.{Condition}
use Rattle.lot_profile.specs.declared.file.FileForm.{FileForm}
use Rattle.lot_sheet.specs.Column.{Meets}

pub meets_same : (A : Type 0) (form : FileForm) (header other : Option (List (List ℕ))) (fields more : List (List ℕ)) (asked : List Condition)
    → header ≡ other → fields ≡ more → A ↔ Meets form header fields asked → A ↔ Meets form other more asked
meets_same A form header other fields more asked e f h =
    subst (λ (x : Option (List (List ℕ))). A ↔ Meets form x more asked) e
    (subst (λ (x : List (List ℕ)). A ↔ Meets form header x asked) f h)
