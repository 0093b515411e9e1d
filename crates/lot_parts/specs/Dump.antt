-- A dump: its head, the ledger text above the first entry, its entries and its end (docs/FORMATS.md, Dump).
use Rattle.std.specs.Prelude.{◌≡◌, ◌≤◌, ℕ, List, [], ◌∷◌, ◌++◌, flat_map, length, ⊤}
use Rattle.sha2.specs.Sha256.{sha256}
use Rattle.lot_syntax.specs.Line.{IsLine}
use Rattle.lot_report.specs.Printed.{line}
use Rattle.lot_report.specs.Written.{IsPrefixOf}
use Rattle.lot_dump.specs.Form.{IsEnd, IsHead, IsHeading, end_front, end_text, head_front, head_text, heading_front, heading_text}
use Rattle.lot_dump.specs.declared.end.End.{End}
use Rattle.lot_dump.specs.declared.head.Head.{Head}
use Rattle.lot_dump.specs.declared.heading.Heading.{Heading}

-- ---- Ledger text.

-- the line isn't meant as a head, a heading or an end
abbrev pub IsText : List ℕ → Type 0
IsText text =
    (IsPrefixOf head_front text → ⊥) × (IsPrefixOf heading_front text → ⊥) × (IsPrefixOf end_front text → ⊥)

abbrev pub IsTextLine : List ℕ → Type 0
IsTextLine text = IsLine text × IsText text

abbrev pub AreTextLines : List (List ℕ) → Type 0
AreTextLines [] = ⊤
AreTextLines (text ∷ texts) = IsTextLine text × AreTextLines texts

-- lines of ledger text, each with its line end
abbrev pub IsLedger : List ℕ → Type 0
IsLedger text = (lines : List (List ℕ)) × AreTextLines lines × (text ≡ flat_map line lines)

-- ---- The parts of a dump.

-- an entry: its heading, and the ledger text under it
pub record Part : Type 0 where
  pub heading : Heading
  pub text : List ℕ

abbrev pub part_text : Part → List ℕ
part_text part = line (heading_text part.heading) ++ part.text

-- a number never falls
abbrev pub AreParts : ℕ → List Part → Type 0
AreParts last [] = ⊤
AreParts last (part ∷ parts) =
    (last ≤ part.heading.number) × IsHeading part.heading × IsLedger part.text × AreParts part.heading.number parts

-- what stands from an entry on, or from the end on
abbrev pub rest_text : List Part → End → List ℕ
rest_text parts end = flat_map part_text parts ++ line (end_text end)

-- the text is the rest of a dump behind an entry of that number, or behind the text above the first entry
abbrev pub IsRest : ℕ → List Part → End → List ℕ → Type 0
IsRest last parts end text = AreParts last parts × IsEnd end × (text ≡ rest_text parts end)

-- ---- A dump.

pub record Dump : Type 0 where
  pub head : Head
  pub above : List ℕ
  pub parts : List Part
  pub end : End

-- all lines but the last one
abbrev pub text_above_end : Dump → List ℕ
text_above_end dump = line (head_text dump.head) ++ (dump.above ++ flat_map part_text dump.parts)

abbrev pub dump_text : Dump → List ℕ
dump_text dump = line (head_text dump.head) ++ (dump.above ++ rest_text dump.parts dump.end)

-- the text is that dump
abbrev pub IsDump : List ℕ → Dump → Type 0
IsDump text dump =
    IsHead dump.head × IsLedger dump.above × AreParts 0 dump.parts × IsEnd dump.end × (text ≡ dump_text dump)

-- nothing of it was changed: its end has the digest of all that stands above it, and head and end say how many entries there are
abbrev pub IsUnchanged : Dump → Type 0
IsUnchanged dump =
    (dump.end.digest ≡ sha256 (text_above_end dump)) × (dump.head.entries ≡ length dump.parts)
    × (dump.end.entries ≡ length dump.parts)

-- ---- A dump that is read part by part.

-- the number of the last entry, or the number before them where there is none
abbrev pub last_number : ℕ → List Part → ℕ
last_number last [] = last
last_number last (part ∷ parts) = last_number part.heading.number parts

-- a dump up to some entry
pub record Front : Type 0 where
  pub head : Head
  pub above : List ℕ
  pub parts : List Part

abbrev pub IsFront : List ℕ → Front → Type 0
IsFront text front =
    IsHead front.head × IsLedger front.above × AreParts 0 front.parts
    × (text ≡ line (head_text front.head) ++ (front.above ++ flat_map part_text front.parts))

-- with the next entry
abbrev pub with_part : Front → Part → Front
with_part front part = record { head = front.head; above = front.above; parts = front.parts ++ part ∷ [] }

-- with the end
abbrev pub with_end : Front → End → Dump
with_end front end = record { head = front.head; above = front.above; parts = front.parts; end = end }
