-- Pieces of a line: UTF-8, with no control byte but the tab, and with at most so many bytes.
use Rattle.std.proofs.Common.{◌≡◌, ℕ, zero, suc, ◌+◌, ◌*◌, ◌<◌, ◌≤◌, Bool, true, ◌&&◌, List, [], ◌∷◌, ◌++◌, length, get_or, refl, arith, length-append}
use Rattle.std.specs.Prelude.{nat_le, nat_lt, IsUtf8}
use Rattle.std.specs.List.{AllByRecursion, flat_map, list_all}
use Rattle.std.proofs.lemmas.Bool.{and_parts, ltb-true}
use Rattle.std.proofs.lemmas.Bool.Decides.{nat_tests}
use Rattle.std.proofs.lemmas.Str.{IsUtf8-append, IsUtf8-from_ascii}
use Rattle.std.proofs.Math.Nat.{suc-mul}
use Rattle.lot_base.specs.Name.{is_note_byte}
use Rattle.lot_command.specs.Canonical.{joined}
use Rattle.lot_print.proofs.ListLemmas.{all_pass, both_pass, first_passes}

pub record IsPiece (most : ℕ) (bytes : List ℕ) : Type 0 where
  pub plain : list_all is_note_byte bytes ≡ true
  pub utf8 : IsUtf8 bytes
  pub short : length bytes ≤ most

-- ASCII, and no control byte
abbrev pub is_printed : ℕ → Bool
is_printed b = nat_le 32 b && nat_lt b 127

pub both_pieces : {m n : ℕ} {xs ys : List ℕ} → IsPiece m xs → IsPiece n ys → IsPiece (m + n) (xs ++ ys)
both_pieces {m} {n} {xs} {ys} x y = record {
  plain = both_pass is_note_byte xs ys x.plain y.plain;
  utf8 = IsUtf8-append xs ys x.utf8 y.utf8;
  short = omega (arith, length-append xs ys, x.short, y.short);
}

pub wider : {m : ℕ} {xs : List ℕ} (n : ℕ) → m ≤ n → IsPiece m xs → IsPiece n xs
wider {m} {xs} n le x = record { plain = x.plain; utf8 = x.utf8; short = omega (arith, x.short) }

printed_plain : (b : ℕ) → is_printed b ≡ true → is_note_byte b ≡ true
printed_plain b e = grind (arith, nat_tests)

printed_at : (bytes : List ℕ) → list_all is_printed bytes ≡ true → (i : ℕ) → get_or bytes i 0 < 128
printed_at [] all i = omega arith
printed_at (b ∷ bytes) all zero =
    omega (arith, ltb-true b 127 (and_parts _ _ (first_passes is_printed b bytes all).0).1)
printed_at (b ∷ bytes) all (suc i) = printed_at bytes (first_passes is_printed b bytes all).1 i

pub printed : (most : ℕ) (bytes : List ℕ) → list_all is_printed bytes ≡ true → length bytes ≤ most → IsPiece most bytes
printed most bytes all short = record {
  plain = all_pass is_printed is_note_byte printed_plain bytes all;
  utf8 = IsUtf8-from_ascii bytes (printed_at bytes all);
  short = short;
}

-- ---- Pieces in a row, with a separator between each two.

separated : (most between : ℕ) (separator : List ℕ) (texts : List (List ℕ)) → IsPiece between separator
    → AllByRecursion (IsPiece most) texts → IsPiece (length texts * (between + most)) (flat_map (λ text. separator ++ text) texts)
separated most between separator [] s all = printed _ [] refl (omega arith)
separated most between separator (text ∷ texts) s (piece, all) =
    wider (length (text ∷ texts) * (between + most)) (omega (arith, suc-mul (length texts) (between + most)))
    (both_pieces (both_pieces s piece) (separated most between separator texts s all))

pub joined_piece : (most between : ℕ) (separator : List ℕ) (texts : List (List ℕ)) → IsPiece between separator
    → AllByRecursion (IsPiece most) texts → IsPiece (length texts * (between + most)) (joined separator texts)
joined_piece most between separator [] s all = printed _ [] refl (omega arith)
joined_piece most between separator (text ∷ texts) s (piece, all) =
    wider (length (text ∷ texts) * (between + most)) (omega (arith, suc-mul (length texts) (between + most)))
    (both_pieces piece (separated most between separator texts s all))
