-- How a line is cut from its beginning on: for private contracts alone.
use denote.Ref.{Bor}
use Rattle.std.specs.Prelude.{ℕ, ◌==◌, ◌&&◌, ◌||◌, ◌^◌, nat_lt, bytes_eq, if◌then◌else◌, List, [], ◌∷◌, Option, None, Some, option_map, option_and_then, Result, Ok, Err, length, take, drop, codes, decimal}
use Rattle.std.specs.Str.Parse.{digits_value}
use Rattle.std.specs.Str.{is_utf8}
use Rattle.lot_base.specs.Name.{is_label}
use Rattle.hex.specs.Hex.{decode_sized, encode_lower}
use Rattle.hex.specs.declared.error.FromHexError.{FromHexError}
use Rattle.lot_dump.specs.Form.{end_front, head_front, heading_front, this_edition, this_format}
use Rattle.lot_dump.specs.declared.head.AnyHead.{AnyHead}
use Rattle.lot_dump.specs.declared.head.Head.{Head}
use Rattle.lot_dump.specs.declared.head.HeadFault.{HeadFault}
use Rattle.lot_dump.specs.declared.head.HeadFault.TheVariants.{NotADump, NewerFormat}
use Rattle.lot_dump.specs.declared.heading.Heading.{Heading}
use Rattle.lot_dump.specs.declared.end.End.{End}

-- what stands before the first such byte, and behind it
unfoldable pub cut_of : ℕ → List ℕ → Option (List ℕ × List ℕ)
cut_of byte [] = None
cut_of byte (b ∷ rest) =
    if b == byte then Some ([], rest) else option_map (λ p. (b ∷ p.0, p.1)) (cut_of byte rest)

-- what stands behind that front
unfoldable pub behind : List ℕ → List ℕ → Option (List ℕ)
behind front text = if bytes_eq (take (length front) text) front then Some (drop (length front) text) else None

-- the number of 32 bits whose text this is
unfoldable pub number_of : List ℕ → Option ℕ
number_of text =
    if bytes_eq text (decimal (digits_value 10 text)) && nat_lt (digits_value 10 text) (2 ^ 32)
    then Some (digits_value 10 text) else None

-- the number before the first blank, and what stands behind that blank and this word
unfoldable pub number_before : List ℕ → List ℕ → Option (ℕ × List ℕ)
number_before word text =
    option_and_then (λ cut. option_and_then (λ n. option_map (λ rest. (n, rest)) (behind word cut.1)) (number_of cut.0))
    (cut_of 32 text)

-- the bytes whose text this is
abbrev pub bytes_by : List ℕ → Result (List ℕ) FromHexError → Option (List ℕ)
bytes_by text (Ok bytes) = if bytes_eq text (encode_lower bytes) then Some bytes else None
bytes_by text (Err fault) = None

unfoldable pub digest_of : List ℕ → Option (List ℕ)
digest_of text = bytes_by text (decode_sized text 32)

-- ---- Whole lines.

unfoldable pub any_head_of : List ℕ → Option AnyHead
any_head_of line =
    option_and_then (λ first.
    option_and_then (λ (format : ℕ × List ℕ).
    option_and_then (λ (edition : ℕ × List ℕ).
    option_and_then (λ (place : ℕ × List ℕ).
    option_map (λ entries. record { format = format.0; edition = edition.0; place = place.0; entries = entries })
    (number_of place.1))
    (number_before (codes "entries ") edition.1))
    (number_before (codes "migrated ") format.1))
    (number_before (codes "edition ") first))
    (behind head_front line)

-- a label
unfoldable pub label_of : List ℕ → Option (List ℕ)
label_of text = if is_utf8 text && is_label text then Some text else None

unfoldable pub heading_of : List ℕ → Option Heading
heading_of line =
    option_and_then (λ first.
    option_and_then (λ (number : ℕ × List ℕ).
    option_and_then (λ (cut : List ℕ × List ℕ).
    option_and_then (λ source.
    option_map (λ name. record { number = number.0; key = record { source = source; name = name } })
    (label_of cut.1))
    (label_of cut.0))
    (cut_of 32 number.1))
    (number_before (codes "key ") first))
    (behind heading_front line)

-- what a head says that is of this format
abbrev pub this_format_of : AnyHead → Result Head HeadFault
this_format_of head =
    if nat_lt this_format head.format || nat_lt this_edition head.edition then Err NewerFormat
    else if (head.format == this_format) && (head.edition == this_edition)
    then Ok (record { place = head.place; entries = head.entries })
    else Err NotADump

abbrev pub head_by : Option AnyHead → Result Head HeadFault
head_by None = Err NotADump
head_by (Some head) = this_format_of head

unfoldable pub end_of : List ℕ → Option End
end_of line =
    option_and_then (λ first.
    option_and_then (λ (entries : ℕ × List ℕ).
    option_map (λ digest. record { entries = entries.0; digest = digest })
    (digest_of entries.1))
    (number_before (codes "sha256 ") first))
    (behind end_front line)

-- ---- What is known of borrowed parts.

abbrev pub parts : Bor (List ℕ) × Bor (List ℕ) → List ℕ × List ℕ
parts p = (p.0.now, p.1.now)

abbrev pub keyed : ℕ × Bor (List ℕ) × Bor (List ℕ) → Heading
keyed p = record { number = p.0; key = record { source = p.1.now; name = p.2.now } }

abbrev pub numbered : ℕ × Bor (List ℕ) → ℕ × List ℕ
numbered p = (p.0, p.1.now)
