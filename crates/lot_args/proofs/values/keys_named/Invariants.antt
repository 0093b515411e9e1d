-- The keys so far, and those of the names that are left, are all.
use Rattle.std.proofs.Common.{◌≡◌, ◌++◌, drop, map}
use Rattle.std.specs.Prelude.{filter_map}
use Rattle.lot_args.specs.Keys.{key_named}
use Rattle.lot_args.proofs.values.keys_named.Given as goal

abbrev pub invariant-loop-name : goal.invariant-loop-name
invariant-loop-name l =
    l.keys.items ++ filter_map key_named (map (λ name. name.now) (drop l.name-index l.names))
    ≡ filter_map key_named (map (λ name. name.now) l.names)
