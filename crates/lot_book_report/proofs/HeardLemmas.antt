-- Texts that are heard one after another, and the digits of a digest.
use Rattle.std.proofs.Common.{◌≡◌, ◌∙◌, ℕ, List, [], ◌∷◌, ◌++◌, Result, Ok, Err, append_assoc, refl, sym, ap, subst, arith, flat_map}
use Rattle.std.specs.Prelude.{IsOk, OnOk}
use Rattle.std.proofs.lemmas.List.{append-nil}
use Rattle.std.proofs.lemmas.Str.{IsUtf8-from_ascii}
use Rattle.std.specs.Str.{IsAscii, IsUtf8}
use Rattle.hex.proofs.HexLemmas.{IsAscii-encode_with}
use Rattle.hex.specs.Hex.{encode_lower, lower_digits}
use Rattle.lot_report.proofs.EachLemmas.{text_more}

-- the texts before those that are left are heard
abbrev pub HasHeard : {X : Type 0} → (X → List ℕ) → (List ℕ → Type 0) → (List ℕ → Type 0) → List X → List X → Type 0
HasHeard text Was Is items left =
    (before : List _) × (items ≡ before ++ left) × ((message : List ℕ) → Was message → Is (message ++ flat_map text before))

module _ {X : Type 0} (text : X → List ℕ) (Was Is : List ℕ → Type 0) where
  pub heard_none : ((message : List ℕ) → Was message → Is message) → (items : List X) → HasHeard text Was Is items items
  heard_none same items = ([], refl, λ message was. subst Is (sym (append-nil message)) (same message was))

  pub heard_more : (Then : List ℕ → Type 0) (items left rest : List X) (item : X) → HasHeard text Was Is items left → left ≡ item ∷ rest
      → ((message : List ℕ) → Is message → Then (message ++ text item)) → HasHeard text Was Then items rest
  heard_more Then items left rest item (before, split, heard) is more = (
    before ++ item ∷ [],
    split ∙ ap (λ (xs : List X). before ++ xs) is ∙ sym (append_assoc before (item ∷ []) rest),
    λ message was.
        subst Then (append_assoc message (flat_map text before) (text item) ∙ ap (λ (t : List ℕ). message ++ t) (sym (text_more text before item)))
        (more (message ++ flat_map text before) (heard message was)),
  )

  pub heard_all : (items left : List X) → HasHeard text Was Is items left → left ≡ [] → (message : List ℕ) → Was message
      → Is (message ++ flat_map text items)
  heard_all items left (before, split, heard) is message was =
      subst (λ (xs : List X). Is (message ++ flat_map text xs)) (sym (split ∙ ap (λ (xs : List X). before ++ xs) is ∙ append-nil before))
      (heard message was)

-- the digits of bytes are text
digits_are_ascii : IsAscii lower_digits
digits_are_ascii i = grind arith

pub hex_is_text : (digest : List ℕ) → IsUtf8 (encode_lower digest)
hex_is_text digest = IsUtf8-from_ascii (encode_lower digest) (IsAscii-encode_with lower_digits digest digits_are_ascii)

pub written_is_text : {E : Type 0} (result : Result (Unit {0}) E) (digits digest : List ℕ) → IsOk result → OnOk result (digits ≡ encode_lower digest) → IsUtf8 digits
written_is_text (Ok done) digits digest is written = subst IsUtf8 (sym written) (hex_is_text digest)
written_is_text (Err fault) digits digest is written = cc

pub not_refused : {A E : Type 0} (result : Result A E) (fault : E) → result ≡ Err fault → ¬ IsOk result
not_refused (Ok made) fault is ok = cc
not_refused (Err other) fault is ok = cc
