-- Which paths can be those of a book.
use Rattle.std.specs.Prelude.{◌==◌, ◌||◌, ◌++◌, Bool, false, List, ℕ, Option, None, Some, Result, Ok, Err, codes, if◌then◌else◌, length, nat_eq, nat_lt}
use Rattle.std.specs.List.{ends_with, starts_with}
use Rattle.std.specs.Path.{path_file_name, path_parent}
use Rattle.std.specs.Str.{bytes_eq}
use Rattle.lot_files.specs.declared.cause.Cause.{Cause}
use Rattle.lot_files.specs.declared.cause.Cause.TheVariants.{Folder, NoFile}

-- the name of a file is longer than that of a book may be
abbrev pub is_long_name : Option (List ℕ) → Bool
is_long_name None = false
is_long_name (Some name) = nat_lt 247 (length name)

-- the same of the name in a path
abbrev pub has_long_name : List ℕ → Bool
has_long_name path = is_long_name (path_file_name path)

-- the folder that stands in front of the name in a path, where one does
abbrev pub named_folder : Option (List ℕ) → Option (List ℕ)
named_folder None = None
named_folder (Some folder) = if length folder == 0 then None else Some folder

abbrev pub folder_of : List ℕ → Option (List ℕ)
folder_of path = named_folder (path_parent path)

-- the library of the database takes the path for a database in memory, or for a URI
abbrev pub names_no_file : List ℕ → Bool
names_no_file path = bytes_eq path (codes ":memory:") || starts_with nat_eq path (codes "file:")

-- the path by which the library opens the file of that path
abbrev pub library_path : List ℕ → List ℕ
library_path path = if names_no_file path then codes "./" ++ path else path

-- whether a file that isn't there yet can have the path: none is made under a path that ends in a
-- point behind a slash, nor under one that ends in a slash, which is that of a folder
abbrev pub names_file : List ℕ → Result Unit Cause
names_file path =
    if ends_with nat_eq path (codes "/.") || ends_with nat_eq path (codes "/./") then Err NoFile
    else if ends_with nat_eq path (codes "/") then Err Folder
    else Ok tt
