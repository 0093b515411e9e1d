-- The parts of a text, found one by one from its start.
use Rattle.std.proofs.Common.{◌≡◌, ℕ, zero, suc, ◌<◌, ◌≤◌, List, [], ◌∷◌, ◌++◌, append_assoc, length, Option, Some, None, refl, ap, sym, ◌∙◌, arith}
use Rattle.std.specs.Prelude.{option_map}
use Rattle.std.proofs.lemmas.List.{append-nil}
use Rattle.lot_profile_text.specs.Spelling.{parts_within}

-- the parts of a text, behind those that were read before
abbrev pub behind : {T : Type 0} → List T → Option (List T) → Option (List T)
behind before (Some parts) = Some (before ++ parts)
behind before None = None

-- the parts of a text are those read, and those of the rest
pub record IsReadTo {T : Type 0} (first : List ℕ → Option (T × List ℕ)) (text : List ℕ) (read : List T) (rest : List ℕ) : Type 0 where
  pub room : ℕ
  pub fits : length rest ≤ room
  pub same : parts_within first (length text) text ≡ behind read (parts_within first room rest)

behind-none : {T : Type 0} (parts : Option (List T)) → parts ≡ behind [] parts
behind-none (Some parts) = refl
behind-none None = refl

behind-one : {T : Type 0} (read : List T) (part : T) (parts : Option (List T))
    → behind read (option_map (λ ps. part ∷ ps) parts) ≡ behind (read ++ part ∷ []) parts
behind-one read part (Some parts) = ap (λ ps. Some ps) (sym (append_assoc read (part ∷ []) parts))
behind-one read part None = refl

-- nothing has been read
pub read-none : {T : Type 0} (first : List ℕ → Option (T × List ℕ)) (text : List ℕ) → IsReadTo first text [] text
read-none first text = record { room = length text; fits = omega arith; same = behind-none (parts_within first (length text) text) }

-- one more part has been read
pub read-more : {T : Type 0} (first : List ℕ → Option (T × List ℕ)) (text : List ℕ) (read : List T) (rest : List ℕ) (part : T) (more : List ℕ)
    → IsReadTo first text read rest → 0 < length rest → first rest ≡ Some (part, more) → length more < length rest
    → IsReadTo first text (read ++ part ∷ []) more
read-more first text read [] part more h some found shorter = absurd (omega arith)
read-more first text read (b ∷ rest) part more h some found shorter = go h.room h.fits h.same
  where
    go : (room : ℕ) → length (b ∷ rest) ≤ room → parts_within first (length text) text ≡ behind read (parts_within first room (b ∷ rest))
        → IsReadTo first text (read ++ part ∷ []) more
    go zero fits same = absurd (omega arith)
    go (suc room) fits same = record {
      room = room;
      fits = omega arith;
      same = same ∙ rw found (behind-one read part (parts_within first room more));
    }

-- the rest begins with no part
pub read-stop : {T : Type 0} (first : List ℕ → Option (T × List ℕ)) (text : List ℕ) (read : List T) (rest : List ℕ)
    → IsReadTo first text read rest → 0 < length rest → first rest ≡ None → parts_within first (length text) text ≡ None
read-stop first text read [] h some none = absurd (omega arith)
read-stop first text read (b ∷ rest) h some none = go h.room h.same
  where
    go : (room : ℕ) → parts_within first (length text) text ≡ behind read (parts_within first room (b ∷ rest))
        → parts_within first (length text) text ≡ None
    go zero same = same
    go (suc room) same = same ∙ rw none refl

-- all has been read
pub read-all : {T : Type 0} (first : List ℕ → Option (T × List ℕ)) (text : List ℕ) (read : List T) (rest : List ℕ)
    → IsReadTo first text read rest → length rest ≡ 0 → parts_within first (length text) text ≡ Some read
read-all first text read (b ∷ rest) h none = absurd (omega arith)
read-all first text read [] h none = go h.room h.same
  where
    go : (room : ℕ) → parts_within first (length text) text ≡ behind read (parts_within first room [])
        → parts_within first (length text) text ≡ Some read
    go zero same = same ∙ ap (λ ps. Some ps) (append-nil read)
    go (suc room) same = same ∙ ap (λ ps. Some ps) (append-nil read)
