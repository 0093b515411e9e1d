-- Laws of what rows take back.
use Rattle.std.specs.Prelude.{◌≡◌, ℕ, List, length, Option, Some}
use Rattle.lot_sequence.specs.Cancel.{IsMatching, partner_at}
use Rattle.lot_sequence.specs.declared.cancel.Trade.{Trade}

-- rows take back what they should in one way
abbrev pub ThereIsOneMatching : Type 0
ThereIsOneMatching =
    (rows : List Trade) (partners others : List (Option ℕ)) → IsMatching rows (length rows) partners → IsMatching rows (length rows) others
    → partners ≡ others

-- no purchase is taken back twice
abbrev pub EachIsTakenOnce : Type 0
EachIsTakenOnce =
    (rows : List Trade) (partners : List (Option ℕ)) → IsMatching rows (length rows) partners → (first second purchase : ℕ)
    → partner_at partners first ≡ Some purchase → partner_at partners second ≡ Some purchase → first ≡ second
