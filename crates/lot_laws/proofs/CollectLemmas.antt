-- What is collected of the entries of a book: what holds of it, that it is one list, and that of one entry more.
use Rattle.std.specs.Prelude.{◌≡◌, List, [], ◌∷◌, ◌++◌}
use Rattle.std.proofs.Common.{refl, sym, ap, ap₂, subst, ◌∙◌, append_assoc}
use Rattle.std.proofs.lemmas.List.{append-nil}
use Rattle.lot_book.specs.Facts.{Entry}
use Rattle.lot_laws.specs.Collects.{Collects}

module _ {X : Type 0} (Gives : List Entry → Entry → List X → Type 0) where
  -- what holds of no entries, and of an entry before others of which it holds, holds of all
  pub over_collected : (P : List Entry → List Entry → List X → Type 0)
      → ((before : List Entry) → P before [] [])
      → ((before : List Entry) (entry : Entry) (entries : List Entry) (first more : List X)
      → Gives before entry first → P (before ++ entry ∷ []) entries more → P before (entry ∷ entries) (first ++ more))
      → (before entries : List Entry) (all : List X) → Collects Gives before entries all → P before entries all
  over_collected P none one before [] all h = subst (P before []) (sym h) (none before)
  over_collected P none one before (entry ∷ entries) all h =
      subst (P before (entry ∷ entries)) (sym h.4)
      (one before entry entries h.0 h.1 h.2 (over_collected P none one (before ++ entry ∷ []) entries h.1 h.3))

  -- where each entry gives one list, so do all
  pub one_collected : ((before : List Entry) (entry : Entry) (a b : List X) → Gives before entry a → Gives before entry b → a ≡ b)
      → (before entries : List Entry) (a b : List X) → Collects Gives before entries a → Collects Gives before entries b → a ≡ b
  one_collected one before [] a b is other = is ∙ sym other
  one_collected one before (entry ∷ entries) a b is other =
      is.4
      ∙ ap₂ (λ (first more : List X). first ++ more) (one before entry is.0 other.0 is.2 other.2)
      (one_collected one (before ++ entry ∷ []) entries is.1 other.1 is.3 other.3)
      ∙ sym other.4

  -- one entry more
  pub collected_next : (before entries : List Entry) (entry : Entry) (all own : List X) → Collects Gives before entries all
      → Gives (before ++ entries) entry own → Collects Gives before (entries ++ entry ∷ []) (all ++ own)
  collected_next before [] entry all own h gives = (
    own,
    [],
    subst (λ (book : List Entry). Gives book entry own) (append-nil before) gives,
    refl,
    ap (λ (xs : List X). xs ++ own) h ∙ sym (append-nil own),
  )
  collected_next before (next ∷ entries) entry all own h gives = (
    h.0,
    h.1 ++ own,
    h.2,
    collected_next (before ++ next ∷ []) entries entry h.1 own h.3
        (subst (λ (book : List Entry). Gives book entry own) (sym (append_assoc before (next ∷ []) entries)) gives),
    ap (λ (xs : List X). xs ++ own) h.4 ∙ append_assoc h.0 h.1 own,
  )
