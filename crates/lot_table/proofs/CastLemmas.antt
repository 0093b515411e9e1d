-- A value that is of its column's kind is stored as it is.
use Rattle.std.proofs.Common.{◌≡◌, ℕ, ℤ, Option, Some, None, List, [], ◌∷◌, refl, ap, ap₂}
use Rattle.sqlite.specs.Cast.{cast, cast_all, cast_row}
use Rattle.sqlite.specs.Kind.TheVariants.{Integer, Text as Words}
use Rattle.sqlite.specs.Order.{Row}
use Rattle.sqlite.specs.Table.{Table}
use Rattle.sqlite.specs.Values.{bound_value, or_null}
use Rattle.sqlite.specs.declared.types.Value.TheVariants.{Int, Text}
use Rattle.sqlite.specs.declared.types.Value.{Value}
use Rattle.sqlite_schema.specs.declared.schema.Column.{Column}
use Rattle.lot_table.proofs.WriteLemmas.{cast_int, cast_null}

abbrev pub AreStored : List Column → Row → Type 0
AreStored [] values = Unit {0}
AreStored (c ∷ cs) [] = Unit {0}
AreStored (c ∷ cs) (v ∷ vs) = (cast c.kind v ≡ v) × AreStored cs vs

stored_same : (cs : List Column) (vs : Row) → AreStored cs vs → cast_all cs vs ≡ vs
stored_same [] vs all = refl
stored_same (c ∷ cs) [] all = refl
stored_same (c ∷ cs) (v ∷ vs) all = ap₂ (λ a b. a ∷ b) all.0 (stored_same cs vs all.1)

pub row_stored : (table : Table) (row : Row) → AreStored table.columns row → (v : Value) → cast_row table (v ∷ row) ≡ cast Integer v ∷ row
row_stored table row all v = ap (λ vs. cast Integer v ∷ vs) (stored_same table.columns row all)

-- the same where it may be null
pub cast_maybe_int : {X : Type 0} (f : X → ℤ) (o : Option X) → cast Integer (or_null (λ x. Int (f x)) o) ≡ or_null (λ x. Int (f x)) o
cast_maybe_int f None = cast_null
cast_maybe_int f (Some x) = cast_int (f x)

pub cast_maybe_text : {X : Type 0} (f : X → List ℕ) (o : Option X) → cast Words (or_null (λ x. Text (f x)) o) ≡ or_null (λ x. Text (f x)) o
cast_maybe_text f None = refl
cast_maybe_text f (Some x) = refl

-- ---- a value that is bound is the parameter

pub bound_maybe_int : {X : Type 0} (f : X → ℤ) (o : Option X) → bound_value (or_null (λ x. Int (f x)) o) ≡ or_null (λ x. Int (f x)) o
bound_maybe_int f None = refl
bound_maybe_int f (Some x) = refl

pub bound_maybe_text : {X : Type 0} (f : X → List ℕ) (o : Option X) → bound_value (or_null (λ x. Text (f x)) o) ≡ or_null (λ x. Text (f x)) o
bound_maybe_text f None = refl
bound_maybe_text f (Some x) = refl
