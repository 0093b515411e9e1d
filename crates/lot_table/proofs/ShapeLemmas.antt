-- No foreign key has to do with the tables that are made of shapes, and each has a tree of its own.
use Rattle.std.proofs.Common.{◌≡◌, ◌<◌, ◌+◌, ℕ, true, [], ◌∷◌, List, refl, arith}
use Rattle.std.specs.List.{AllByRecursion, flat_map, filter_map, list_all}
use Rattle.sqlite.specs.Order.{Row}
use Rattle.sqlite.specs.Schema.{Schema}
use Rattle.sqlite.specs.Table as declared
use Rattle.sqlite.specs.Tree.{IsAscending, Trees}
use Rattle.sqlite_rules.proofs.ListLemmas.{all_from}
use Rattle.sqlite_rules.specs.Action.{work_for}
use Rattle.sqlite_rules.specs.Lists.{Has}
use Rattle.sqlite_schema.specs.Rules.{has_parent, is_among, is_key_if_to}
use Rattle.sqlite_schema.specs.declared.schema.Among.{Among}
use Rattle.sqlite_schema.specs.declared.schema.Keys.TheVariants.{Enforced}
use Rattle.std.specs.Prelude.{not, ◌||◌}
use Rattle.lot_table.specs.Shape.{Shape, schema_of, tables, trees_of}
use Rattle.lot_table.proofs.EditLemmas.{IsFree}

above : (n m : ℕ) (shapes : List Shape) → n < m → AllByRecursion (λ (t : declared.Table). n ≡ t.tree → ⊥) (tables m shapes)
above n m [] low = tt
above n m (shape ∷ shapes) low = (λ same. omega (arith, low, same), above n (trees_of shape + m) shapes (omega (arith, low)))

apart : (n : ℕ) (shapes : List Shape) → IsAscending (λ (a b : declared.Table). a.tree ≡ b.tree → ⊥) (tables n shapes)
apart n [] = tt
apart n (shape ∷ shapes) = (above n (trees_of shape + n) shapes (omega arith), apart (trees_of shape + n) shapes)

module _ (schema : Schema) where
  pointed : (table : declared.Table) (n : ℕ) (shapes : List Shape) → list_all (λ (t : declared.Table). list_all (is_key_if_to schema table) t.references) (tables n shapes) ≡ true
  pointed table n [] = refl
  pointed table n (shape ∷ shapes) = pointed table (trees_of shape + n) shapes

  refers : (among : Among) (db : Trees) (n : ℕ) (shapes : List Shape)
      → AllByRecursion (λ (t : declared.Table). AllByRecursion (λ row. list_all (λ ref. not (is_among among ref) || has_parent schema.tables db row ref) t.references ≡ true) (db t.tree)) (tables n shapes)
  refers among db n [] = tt
  refers among db n (shape ∷ shapes) = (all_from _ (db n) (λ _ _. refl), refers among db (trees_of shape + n) shapes)

  unreferred : (tree : ℕ) (olds news : List Row) (n : ℕ) (shapes : List Shape)
      → flat_map (λ (child : declared.Table). filter_map (work_for schema Enforced 0 tree olds news child) child.references) (tables n shapes) ≡ []
  unreferred tree olds news n [] = refl
  unreferred tree olds news n (shape ∷ shapes) = unreferred tree olds news (trees_of shape + n) shapes

pub free : (shapes : List Shape) (table : declared.Table) → Has (schema_of shapes).tables table → table.references ≡ [] → IsFree (schema_of shapes) table
free shapes table listed none = record {
  listed = listed;
  apart = apart 0 shapes;
  points = rw none refl;
  pointed = pointed (schema_of shapes) table 0 shapes;
  refers = λ among db. refers (schema_of shapes) among db 0 shapes;
  unreferred = λ olds news. unreferred (schema_of shapes) table.tree olds news 0 shapes;
}
