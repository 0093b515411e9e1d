-- Sets to which items are added.
use Rattle.std.specs.Prelude.{List, ◌++◌}
use Rattle.std.specs.declared.cmp.Ordering.{Ordering}
use Rattle.std.specs.BTreeSet.{BTreeSet, IsFromIterResult}

-- a set of some keys is, with these items, the other set
abbrev pub Adds : {K : Type 0} → (K → K → Ordering) → BTreeSet K → List K → BTreeSet K → Type 0
Adds {K} cmp before items after =
    (keys : List K) → IsFromIterResult cmp keys before → IsFromIterResult cmp (keys ++ items) after
