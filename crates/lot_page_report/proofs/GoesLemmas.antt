-- A text that grows part by part: whatever is written of what is left, it goes on with that to all of it.
use Rattle.std.proofs.Common.{◌≡◌, ℕ, List, [], ◌++◌, ap, refl, sym, ◌∙◌, append-nil, append_assoc}

module _ {L : Type 0} (Are : L → List ℕ → Type 0) where
  abbrev pub Goes : L → L → List ℕ → List ℕ → Type 0
  Goes all left start now = (rest : List ℕ) → Are left rest → (inner : List ℕ) × Are all inner × (start ++ inner ≡ now ++ rest)

  pub goes_begin : (all : L) (start : List ℕ) → Goes all all start start
  goes_begin all start = λ rest are. (rest, are, refl)

  pub goes_more : (all left next : L) (start now later first : List ℕ) → ((rest : List ℕ) → Are next rest → Are left (first ++ rest))
      → later ≡ now ++ first → Goes all left start now → Goes all next start later
  goes_more all left next start now later first more written goes = λ rest are.
      let (inner, is, same) = goes (first ++ rest) (more rest are) in
      (inner, is, same ∙ sym (append_assoc now first rest) ∙ ap (λ (t : List ℕ). t ++ rest) (sym written))

  pub goes_end : (all left : L) (start now : List ℕ) → Are left [] → Goes all left start now
      → (inner : List ℕ) × Are all inner × (now ≡ start ++ inner)
  goes_end all left start now none goes =
      let (inner, is, same) = goes [] none in (inner, is, sym (append-nil now) ∙ sym same)
