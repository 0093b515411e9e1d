-- Bytes that are kept of what a call read or wrote.
use Rattle.std.specs.Prelude.{◌≡◌, ◌++◌, IfSome, List, ℕ, Option, Some, option_map}
use Rattle.lot_output.specs.declared.record.Record.{Record}

-- the bytes, where they are kept and memory was enough for all of them
abbrev pub held : Record → Option (List ℕ)
held kept = option_map (λ bytes. bytes.items) kept.bytes

-- more bytes stand behind those that were kept, unless all were let go
abbrev pub Keeps : List ℕ → Record → Record → Type 0
Keeps more before after =
    IfSome (held after) (λ all. option_map (λ bytes. bytes ++ more) (held before) ≡ Some all)
