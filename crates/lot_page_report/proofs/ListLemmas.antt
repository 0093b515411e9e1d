-- Texts that are made and written row by row.
use Rattle.std.specs.Prelude.{Ok, Err}
use Rattle.std.specs.Io.KnownBytes.{Appends}
use Rattle.std.proofs.Common.{◌≡◌, ℕ, List, [], ◌∷◌, ◌++◌, Option, ap, map, refl, sym, subst, ◌∙◌, append-nil, append_assoc}
use Rattle.std.proofs.KnownBytes.{Appends-trans}
use Rattle.std.proofs.lemmas.List.{map-append}
use Rattle.lot_book_report.specs.declared.fault.ShowFault.{ShowFault}
use Rattle.lot_book_report.specs.declared.fault.ShowFault.TheVariants.{Row as AtRow, Walk as AtWalk}
use Rattle.lot_report.specs.Written.{WritesLine}
use Rattle.lot_report.specs.declared.fault.RowFault.{RowFault}
use Rattle.lot_report.specs.declared.line.PrintFault.{PrintFault}
use Rattle.lot_report.specs.declared.line.PrintFault.TheVariants.{Memory, Write}
use Rattle.lot_sums.specs.Gather.{AreToldAs}
use Rattle.lot_page_report.specs.List.{Lists, ListsRows, list_text}
use Rattle.lot_page_report.specs.Sections.{pieces_behind}

pub pieces_more : {Row : Type 0} (piece : List Row → Row → List ℕ) (before rows : List Row) (row : Row)
    → pieces_behind piece before (rows ++ row ∷ []) ≡ pieces_behind piece before rows ++ piece (before ++ rows) row
pieces_more {Row} piece before [] row =
    append-nil (piece before row) ∙ ap (λ (all : List Row). piece all row) (sym (append-nil before))
pieces_more {Row} piece before (first ∷ rows) row =
    ap (λ (t : List ℕ). piece before first ++ t)
    (pieces_more piece (before ++ first ∷ []) rows row
    ∙ ap (λ (all : List Row). pieces_behind piece (before ++ first ∷ []) rows ++ piece all row) (append_assoc before (first ∷ []) rows))
    ∙ sym (append_assoc (piece before first) (pieces_behind piece (before ++ first ∷ []) rows) (piece (before ++ first ∷ rows) row))

pub pieces_then : {Row : Type 0} (piece : List Row → Row → List ℕ) (before rows more : List Row)
    → pieces_behind piece before (rows ++ more) ≡ pieces_behind piece before rows ++ pieces_behind piece (before ++ rows) more
pieces_then {Row} piece before [] more = ap (λ (all : List Row). pieces_behind piece all more) (sym (append-nil before))
pieces_then {Row} piece before (first ∷ rows) more =
    ap (λ (t : List ℕ). piece before first ++ t)
    (pieces_then piece (before ++ first ∷ []) rows more
    ∙ ap (λ (all : List Row). pieces_behind piece (before ++ first ∷ []) rows ++ pieces_behind piece all more) (append_assoc before (first ∷ []) rows))
    ∙ sym (append_assoc (piece before first) (pieces_behind piece (before ++ first ∷ []) rows) (pieces_behind piece (before ++ first ∷ rows) more))

-- the text of a list, that of some first rows apart
pub list_split : {Row : Type 0} (piece : List Row → Row → List ℕ) (end_of : List Row → List ℕ) (rows given left : List Row) → rows ≡ given ++ left
    → list_text piece end_of rows ≡ pieces_behind piece [] given ++ (pieces_behind piece given left ++ end_of rows)
list_split {Row} piece end_of rows given left is =
    ap (λ (t : List ℕ). t ++ end_of rows) (ap (λ (all : List Row). pieces_behind piece [] all) is ∙ pieces_then piece [] given left)
    ∙ append_assoc (pieces_behind piece [] given) (pieces_behind piece given left) (end_of rows)

-- what a list is told of values is told of what is shown of them
module _ {Value Shown Told : Type 0} (shown : Value → Shown) (told : Value → Told) (tell : Shown → Told) (same : AreToldAs shown told tell) where
  pub told_as : (values : List Value) → map told values ≡ map tell (map shown values)
  told_as [] = refl
  told_as (value ∷ values) =
      ap (λ (one : Told). one ∷ map told values) (same value) ∙ ap (λ (more : List Told). tell (shown value) ∷ more) (told_as values)

  -- so are those with others behind them
  pub told_then : (values : List Value) (rest : List Shown) → map told values ++ map tell rest ≡ map tell (map shown values ++ rest)
  told_then values rest =
      ap (λ (all : List Told). all ++ map tell rest) (told_as values) ∙ sym (map-append tell (map shown values) rest)

  -- and those with one more, and others behind it
  pub told_row : (values : List Value) (value : Value) (rest : List Shown)
      → map told values ++ told value ∷ map tell rest ≡ map tell ((map shown values ++ shown value ∷ []) ++ rest)
  told_row values value rest =
      ap (λ (one : Told). map told values ++ one ∷ map tell rest) (same value)
      ∙ told_then values (shown value ∷ rest)
      ∙ ap (map tell) (sym (append_assoc (map shown values) (shown value ∷ []) rest))

  -- so what holds of the rows that are told holds of all rows of a book that begins with them
  module _ (AreAll : List Shown → Type 0) (Holds : List Told → Type 0) (values : List Value) where
    pub holds_then : (rest : List Shown) → AreAll (map shown values ++ rest) → Holds (map told values ++ map tell rest)
        → (all : List Shown) × AreAll all × Holds (map tell all)
    holds_then rest are holds = (map shown values ++ rest, are, subst Holds (told_then values rest) holds)

    pub holds_at_row : (value : Value) (rest : List Shown) → AreAll ((map shown values ++ shown value ∷ []) ++ rest)
        → Holds (map told values ++ told value ∷ map tell rest) → (all : List Shown) × AreAll all × Holds (map tell all)
    holds_at_row value rest are holds =
        ((map shown values ++ shown value ∷ []) ++ rest, are, subst Holds (told_row values value rest) holds)

    pub holds_of_all : AreAll (map shown values) → Holds (map told values) → (all : List Shown) × AreAll all × Holds (map tell all)
    holds_of_all are holds = (map shown values, are, subst Holds (told_as values) holds)

-- what a list has made so far, and what is written of it
module _ {Terms Told Made : Type 0} (piece : Terms → List Told → Told → List ℕ) (end_of : Terms → List Told → List ℕ)
    (HasListed : Terms → List Told → Made → Type 0) (start : Option (List ℕ)) where
  abbrev pub HasWritten : Terms → List Told → Made × Option (List ℕ) → Type 0
  HasWritten terms rows kept = HasListed terms rows kept.0 × Appends start kept.1 (pieces_behind (piece terms) [] rows)

  module _ (terms : Terms) (rows : List Told) (kept : Made × Option (List ℕ)) (has : HasWritten terms rows kept) where
    -- nothing more is written, whatever stands behind
    pub begins_here : (more : List Told) (fault : ShowFault) → ListsRows (piece terms) (end_of terms) (rows ++ more) start kept.1 (Err fault)
    begins_here more (AtWalk fault) = (rows, more, refl, has.1)
    begins_here more (AtRow fault) = (
      pieces_behind (piece terms) [] rows,
      pieces_behind (piece terms) rows more ++ end_of terms (rows ++ more),
      list_split (piece terms) (end_of terms) (rows ++ more) rows more refl,
      has.1,
    )

    pub cut_here : (fault : ShowFault) → Lists (piece terms) (end_of terms) start kept.1 (Err fault)
    cut_here fault = (rows ++ [], begins_here [] fault)

    -- a text is written behind them, or a prefix of it
    written : (now : Option (List ℕ)) (text : List ℕ) (done : Unit {0}) → WritesLine kept.1 now (Ok done) text
        → Appends start now (pieces_behind (piece terms) [] rows ++ text)
    written now text done writes = Appends-trans start kept.1 now (pieces_behind (piece terms) [] rows) text has.1 writes

    part_written : (now : Option (List ℕ)) (text : List ℕ) (fault : PrintFault) → WritesLine kept.1 now (Err fault) text
        → (part : List ℕ) × (rest : List ℕ) × (text ≡ part ++ rest) × Appends start now (pieces_behind (piece terms) [] rows ++ part)
    part_written now text Memory writes =
        ([], text, refl, Appends-trans start kept.1 now (pieces_behind (piece terms) [] rows) [] has.1 writes)
    part_written now text Write (part, (next, rest, is), writes) = (
      part,
      next ∷ rest,
      is,
      Appends-trans start kept.1 now (pieces_behind (piece terms) [] rows) part has.1 writes,
    )

    -- one more row is
    pub written_more : (row : Told) (made : Made) (now : Option (List ℕ)) (text : List ℕ) (done : Unit {0}) → HasListed terms (rows ++ row ∷ []) made
        → text ≡ piece terms rows row → WritesLine kept.1 now (Ok done) text → HasWritten terms (rows ++ row ∷ []) (made, now)
    written_more row made now text done listed is writes = (
      listed,
      subst (Appends start now)
          (ap (λ (t : List ℕ). pieces_behind (piece terms) [] rows ++ t) is ∙ sym (pieces_more (piece terms) [] rows row))
          (written now text done writes),
    )

    pub begins_at_row : (row : Told) (more : List Told) (now : Option (List ℕ)) (text : List ℕ) (print : PrintFault) (fault : RowFault)
        → text ≡ piece terms rows row → WritesLine kept.1 now (Err print) text
        → ListsRows (piece terms) (end_of terms) (rows ++ row ∷ more) start now (Err (AtRow fault))
    begins_at_row row more now text print fault is writes =
        let (part, rest, split, appends) = part_written now text print writes in
        let before = pieces_behind (piece terms) [] rows in
        let behind = pieces_behind (piece terms) (rows ++ row ∷ []) more in
        let end = end_of terms (rows ++ row ∷ more) in (
          before ++ part,
          (rest ++ behind) ++ end,
          ap (λ (t : List ℕ). t ++ end)
              (pieces_then (piece terms) [] rows (row ∷ more)
              ∙ ap (λ (t : List ℕ). before ++ (t ++ behind)) (sym is ∙ split)
              ∙ ap (λ (t : List ℕ). before ++ t) (append_assoc part rest behind)
              ∙ sym (append_assoc before part (rest ++ behind)))
              ∙ append_assoc (before ++ part) (rest ++ behind) end,
          appends,
        )

    pub cut_at_row : (row : Told) (now : Option (List ℕ)) (text : List ℕ) (print : PrintFault) (fault : RowFault) → text ≡ piece terms rows row
        → WritesLine kept.1 now (Err print) text → Lists (piece terms) (end_of terms) start now (Err (AtRow fault))
    cut_at_row row now text print fault is writes = (rows ++ row ∷ [], begins_at_row row [] now text print fault is writes)

    -- the end is
    pub written_whole : (now : Option (List ℕ)) (text : List ℕ) (done : Unit {0}) → text ≡ end_of terms rows
        → WritesLine kept.1 now (Ok done) (text ++ []) → Appends start now (list_text (piece terms) (end_of terms) rows)
    written_whole now text done is writes =
        subst (Appends start now) (ap (λ (t : List ℕ). pieces_behind (piece terms) [] rows ++ t) (append-nil text ∙ is))
        (written now (text ++ []) done writes)

    pub begins_at_end : (now : Option (List ℕ)) (text : List ℕ) (print : PrintFault) (fault : RowFault) → text ≡ end_of terms rows
        → WritesLine kept.1 now (Err print) (text ++ []) → ListsRows (piece terms) (end_of terms) rows start now (Err (AtRow fault))
    begins_at_end now text print fault is writes =
        let (part, rest, split, appends) = part_written now (text ++ []) print writes in
        let before = pieces_behind (piece terms) [] rows in (
          before ++ part,
          rest,
          ap (λ (t : List ℕ). before ++ t) (sym is ∙ sym (append-nil text) ∙ split) ∙ sym (append_assoc before part rest),
          appends,
        )

    pub cut_at_end : (now : Option (List ℕ)) (text : List ℕ) (print : PrintFault) (fault : RowFault) → text ≡ end_of terms rows
        → WritesLine kept.1 now (Err print) (text ++ []) → Lists (piece terms) (end_of terms) start now (Err (AtRow fault))
    cut_at_end now text print fault is writes = (rows, begins_at_end now text print fault is writes)
