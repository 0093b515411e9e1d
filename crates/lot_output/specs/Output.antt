-- What is left of an output that has ended.
use Rattle.std.specs.Prelude.{◌≡◌, ◌≢◌, [], List, ℕ, Option}
use Rattle.std.specs.Io.KnownBytes.{append_known}

-- behind what was handed on, something of what was told is missing
abbrev pub IsCutOff : Option (List ℕ) → Option (List ℕ) → Type 0
IsCutOff told written = (rest : List ℕ) × (rest ≢ []) × (told ≡ append_known written rest)
