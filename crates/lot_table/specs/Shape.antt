-- The tables of a book, from the shape of each: their schema, as SQLite makes it of their texts.
use Rattle.std.specs.Prelude.{ℕ, ◌+◌, Bool, true, false, None, List, [], ◌∷◌, ◌++◌, length, map, codes, suc}
use Rattle.std.specs.Fmt.{decimal}
use Rattle.sqlite.specs.Collation.TheVariants.{Binary}
use Rattle.sqlite.specs.Kind.TheVariants.{Integer, Text}
use Rattle.sqlite.specs.Kind.{Kind}
use Rattle.sqlite.specs.Schema.{Schema}
use Rattle.sqlite.specs.Table.{Table}
use Rattle.sqlite.specs.declared.types.Value.TheVariants.{Null}
use Rattle.sqlite_schema.specs.declared.schema.Column.{Column}
use Rattle.sqlite_schema.specs.declared.schema.Index.{Index}
use Rattle.sqlite_value.specs.Keys.{plain as ascending}

-- ---- columns

abbrev pub column : Kind → Bool → List ℕ → Column
column kind not_null name = record { name = name; kind = kind; is_strict = true; not_null = not_null; default = Null; collation = Binary }

abbrev pub text : List ℕ → Column
text = column Text true

abbrev pub number : List ℕ → Column
number = column Integer true

-- the same where it may be null
abbrev pub maybe_text : List ℕ → Column
maybe_text = column Text false

abbrev pub maybe_number : List ℕ → Column
maybe_number = column Integer false

-- ---- tables

-- a table: its columns, and the places of each unique key, of which the first is that of its rows; places count from 1
pub record Shape : Type 0 where
  pub name : List ℕ
  pub columns : List Column
  pub keys : List (List ℕ)

abbrev pub table : ℕ → Shape → Table
table tree shape = record {
  name = shape.name;
  tree = tree;
  columns = shape.columns;
  key = None;
  primary = [];
  uniques = shape.keys;
  orders = map (λ _. ascending) shape.keys;
  checks = [];
  references = [];
  computed = [];
  stamps = record { places = []; terms = []; formats = [] };
  is_counted = false;
}

-- each key has an index, in the trees after that of the table, numbered from 1
abbrev pub indexes : ℕ → List ℕ → ℕ → List (List ℕ) → List Index
indexes tree name n [] = []
indexes tree name n (key ∷ keys) =
    record { name = codes "sqlite_autoindex_" ++ name ++ codes "_" ++ decimal n; tree = tree + n; table = tree; columns = key; order = ascending; is_unique = true }
    ∷ indexes tree name (suc n) keys

-- how many trees a table takes, with its indexes
abbrev pub trees_of : Shape → ℕ
trees_of shape = suc (length shape.keys)

-- the tables and their indexes, in trees from this one on
abbrev pub tables : ℕ → List Shape → List Table
tables tree [] = []
tables tree (shape ∷ shapes) = table tree shape ∷ tables (trees_of shape + tree) shapes

abbrev pub all_indexes : ℕ → List Shape → List Index
all_indexes tree [] = []
all_indexes tree (shape ∷ shapes) = indexes tree shape.name 1 shape.keys ++ all_indexes (trees_of shape + tree) shapes

-- a database with these tables alone
abbrev pub schema_of : List Shape → Schema
schema_of shapes = record { tables = tables 0 shapes; indexes = all_indexes 0 shapes; views = [] }
