-- A text under a key that is the canonical text of no command is that of no book.
use Rattle.std.specs.Prelude.{◌≡◌, Bool, true, false, cond, List, ℕ, [], ◌∷◌, find, Option, None, Some, option_map, slice_get}
use Rattle.std.specs.List.{AllByRecursion}
use Rattle.std.proofs.Common.{sym, ap, subst, ◌∙◌}
use Rattle.lot_command.specs.Canonical.{canonical}
use Rattle.lot_command.specs.Sayable.{IsSayable}
use Rattle.lot_command.specs.declared.key.Key.{Key}
use Rattle.lot_book.specs.Facts.{Entry, same_key, text_under}
use Rattle.lot_load.specs.Damage.{HasDamagedText, HasText}
use Rattle.lot_print.specs.Canonical.{IsCanonical}
use Rattle.lot_rows.specs.Entry.{named}
use Rattle.lot_rows.specs.Tables.{Tables}
use Rattle.lot_rows.specs.declared.entry.EntryRow.{EntryRow}

-- ---- the text of a book

-- what stands under a key of a book is the canonical text of a command
pub said_text : (entries : List Entry) (key : Key) (text : List ℕ) → AllByRecursion (λ (entry : Entry). IsSayable entry.command) entries
    → Some text ≡ text_under entries key → IsCanonical text
said_text [] key text said is = absurd cc
said_text (entry ∷ entries) key text said is = by (same_key key entry.key) is (said_text entries key text said.1)
  where
    by : (b : Bool) → Some text ≡ option_map (λ (e : Entry). canonical e.command) (cond b (Some entry) (find (λ (e : Entry). same_key key e.key) entries))
        → (Some text ≡ text_under entries key → IsCanonical text) → IsCanonical text
    by true it more =
        let same : text ≡ canonical entry.command = cc in
        (entry.command, said.0, same)
    by false it more = more it

-- ---- what the tables have under a key

module _ (tables : Tables) (key : Key) (found : Option EntryRow) (is : found ≡ slice_get (named key.source key.name tables.entry) 0) where
  -- a canonical text is no damage
  pub row_is_sound : (row : EntryRow) → found ≡ Some row → IsCanonical row.body → ¬ HasDamagedText tables key
  row_is_sound row some canonically (text, there, none) =
      let both : Some row.body ≡ Some text = ap (option_map (λ (r : EntryRow). r.body)) (sym some ∙ is) ∙ there in
      let same : row.body ≡ text = cc in
      none (subst IsCanonical same canonically)

  -- nor is no text
  pub no_row_is_sound : found ≡ None → ¬ HasDamagedText tables key
  no_row_is_sound absent (text, there, none) =
      let both : None ≡ Some text = ap (option_map (λ (r : EntryRow). r.body)) (sym absent ∙ is) ∙ there in
      absurd cc

  -- the text of the row is had
  pub row_has_text : (row : EntryRow) (text : List ℕ) → found ≡ Some row → text ≡ row.body → IsCanonical row.body → HasText tables key (Some text)
  row_has_text row text some same canonically = (
    ap (option_map (λ (r : EntryRow). r.body)) (sym is ∙ some) ∙ ap Some (sym same),
    subst IsCanonical (sym same) canonically,
  )

  -- where there is no row no text is had
  pub no_row_has_none : found ≡ None → HasText tables key None
  no_row_has_none absent = (ap (option_map (λ (r : EntryRow). r.body)) (sym is ∙ absent), tt)
