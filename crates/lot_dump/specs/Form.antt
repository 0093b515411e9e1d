-- The lines of a dump that aren't ledger text, each without its line end (docs/FORMATS.md, Dump).
use Rattle.std.specs.Prelude.{◌≡◌, ◌⊎◌, ◌<◌, ◌^◌, ℕ, ◌==◌, not, IsTrue, List, ◌∷◌, ◌++◌, length, codes, decimal}
use Rattle.std.specs.List.{list_all}
use Rattle.lot_base.specs.Name.{IsName, is_label}
use Rattle.hex.specs.Hex.{IsBytes, encode_lower}
use Rattle.lot_dump.specs.declared.head.AnyHead.{AnyHead}
use Rattle.lot_dump.specs.declared.head.Head.{Head}
use Rattle.lot_dump.specs.declared.heading.Heading.{Heading}
use Rattle.lot_dump.specs.declared.end.End.{End}

-- ---- What the lines begin with.

abbrev pub head_front : List ℕ
head_front = codes "; lotbook dump "

abbrev pub heading_front : List ℕ
heading_front = codes "; entry "

abbrev pub end_front : List ℕ
end_front = codes "; end "

-- ---- The head.

-- the head of a dump of any format and edition
abbrev pub any_head_text : AnyHead → List ℕ
any_head_text head =
    head_front ++ (decimal head.format ++ (codes " edition " ++ (decimal head.edition ++ (codes " migrated "
    ++ (decimal head.place ++ (codes " entries " ++ decimal head.entries))))))

-- the format that this crate reads, and the edition of the rules by which the entries of a dump were judged
abbrev pub this_format : ℕ
this_format = 1

abbrev pub this_edition : ℕ
this_edition = 2

-- the place of the migration, and the number of entries, in this format
abbrev pub of_this_format : Head → AnyHead
of_this_format head =
    record { format = this_format; edition = this_edition; place = head.place; entries = head.entries }

abbrev pub head_text : Head → List ℕ
head_text head = any_head_text (of_this_format head)

-- the numbers of a head fit 32 bits
abbrev pub IsAnyHead : AnyHead → Type 0
IsAnyHead head =
    (head.format < 2 ^ 32) × (head.edition < 2 ^ 32) × (head.place < 2 ^ 32) × (head.entries < 2 ^ 32)

abbrev pub IsHead : Head → Type 0
IsHead head = (head.place < 2 ^ 32) × (head.entries < 2 ^ 32)

-- the line is the head of a dump of a later format, or of a book of a later edition
abbrev pub IsNewer : List ℕ → Type 0
IsNewer line =
    (head : AnyHead) × IsAnyHead head × (line ≡ any_head_text head)
    × ((this_format < head.format) ⊎ (this_edition < head.edition))

-- ---- The heading of an entry.

-- the number of the entry, and its key
abbrev pub heading_text : Heading → List ℕ
heading_text heading =
    heading_front ++ (decimal heading.number ++ (codes " key " ++ (heading.key.source ++ 32 ∷ heading.key.name)))

-- no blank stands there
abbrev pub HasNoBlank : List ℕ → Type 0
HasNoBlank text = IsTrue (list_all (λ b. not (b == 32)) text)

-- a number of 32 bits, and two labels, the first of them without a blank
pub record IsHeading (heading : Heading) : Type 0 where
  pub number : heading.number < 2 ^ 32
  pub source : IsName is_label heading.key.source
  pub no_blank : HasNoBlank heading.key.source
  pub name : IsName is_label heading.key.name

-- ---- The end.

-- how many entries stand above it, and the SHA-256 of all lines above it with their line ends
abbrev pub end_text : End → List ℕ
end_text end = end_front ++ (decimal end.entries ++ (codes " sha256 " ++ encode_lower end.digest))

-- a number of 32 bits, and the 32 bytes of a digest
abbrev pub IsEnd : End → Type 0
IsEnd end = (end.entries < 2 ^ 32) × (length end.digest ≡ 32) × IsBytes end.digest
