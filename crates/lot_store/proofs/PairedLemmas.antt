-- Lots and their opening numbers on any tables: what looks find of them, and what commands leave of them one after another.
use Rattle.std.specs.Prelude.{◌≡◌, ◌⊎◌, ◌&&◌, true, false, List, [], ◌∷◌, map, IfOk, Option, None, Some, Result, Ok, Err}
use Rattle.std.specs.List.{AllByRecursion}
use Rattle.std.specs.Result.{result_ok}
use Rattle.std.proofs.Common.{sym, ap, subst, ◌∙◌, inl, inr}
use Rattle.std.proofs.lemmas.Bool.{and_parts, cases_Bool}
use Rattle.sqlite_keyed.proofs.ListLemmas.{all_weaker}
use Rattle.sqlite_rules.specs.Lists.{Has as IsAmong}
use Rattle.sqlite_rules.proofs.ListLemmas.{all_from, all_has}
use Rattle.lot_base.specs.Text.{same_text}
use Rattle.lot_base.proofs.TextLemmas.{one_text}
use Rattle.lot_command.specs.declared.command.Command.{Command}
use Rattle.lot_command.specs.declared.key.Key.{Key}
use Rattle.lot_book.specs.Touched.{pairs_in}
use Rattle.lot_book.specs.declared.change.Pair.{Pair}
use Rattle.lot_book.specs.declared.verdict.Verdict.{Verdict}
use Rattle.lot_book.specs.declared.verdict.Verdict.TheVariants.{Accepted, Refused, Repeated}
use Rattle.lot_load.specs.Paired.{AreWholeOrPaired, HaveAllPaired, HavePaired, HavePairedFor, whole_pairs}
use Rattle.lot_load.specs.declared.kept.Kept.{Kept}
use Rattle.lot_rows.specs.LotKey.{lot_key}
use Rattle.lot_rows.specs.Tables.{Tables}
use Rattle.lot_rows.specs.declared.lot.LotRow.{LotRow}
use Rattle.lot_rows.specs.declared.opening.OpeningRow.{OpeningRow}
use Rattle.lot_store.specs.ByText.{TurnAllByText, TurnsByText}
use Rattle.lot_store.proofs.ApartLemmas.{IsOther, is_of, rows_of, rows_stay}

-- ---- what looks find

-- a pair of which all was known, or which is paired
abbrev IsWholeOrPaired : Option Kept → Tables → Pair → Type 0
IsWholeOrPaired kept tables pair = IsAmong (whole_pairs kept) pair ⊎ HavePaired pair tables

-- of no further pair all is known
pub whole_still : (kept : Option Kept) (tables : Tables) → AreWholeOrPaired kept tables (whole_pairs kept)
whole_still kept tables = all_from (IsWholeOrPaired kept tables) (whole_pairs kept) (λ pair among. inl among)

-- one look after another on the same tables
pub whole_then : (kept looked : Option Kept) (tables : Tables) (pairs : List Pair) → AreWholeOrPaired kept tables (whole_pairs looked)
    → AreWholeOrPaired looked tables pairs → AreWholeOrPaired kept tables pairs
whole_then kept looked tables pairs first found =
    all_weaker (IsWholeOrPaired looked tables) (IsWholeOrPaired kept tables)
    (λ pair is. elim (is) [
      | inl among ↦ all_has (IsWholeOrPaired kept tables) (whole_pairs looked) pair first among
      | inr paired ↦ inr paired
    ]) pairs found

-- where nothing is kept
pub none_whole : (kept : Option Kept) (tables : Tables) (after : Option Kept) → after ≡ None
    → AreWholeOrPaired kept tables (whole_pairs after)
none_whole kept tables after none =
    subst (λ (k : Option Kept). AreWholeOrPaired kept tables (whole_pairs k)) (sym none) tt

-- once a command is recorded
pub whole_recorded : {E : Type 0} (kept : Option Kept) (looked : Kept) (tables : Tables) (recorded : Result Kept E)
    → IfOk recorded (λ (after : Kept). whole_pairs (Some after) ≡ whole_pairs (Some looked))
    → AreWholeOrPaired kept tables (whole_pairs (Some looked)) → AreWholeOrPaired kept tables (whole_pairs (result_ok recorded))
whole_recorded kept looked tables (Ok after) same found = subst (AreWholeOrPaired kept tables) (sym same) found
whole_recorded kept looked tables (Err out) same found = tt

-- ---- pairs that a command posts to, or doesn't

module _ (pair : Pair) where
  one_pair : (other : Pair) → is_of pair other.account other.commodity ≡ true → pair ≡ other
  one_pair other e =
      let same = and_parts (same_text pair.account other.account) (same_text pair.commodity other.commodity) e in
      let account = one_text pair.account other.account same.0 in
      let commodity = one_text pair.commodity other.commodity same.1 in
      λ i. record { account = account i; commodity = commodity i }

  -- what is so of each of these is so of a pair, or it is none of them
  so_or_other : (P : Pair → Type 0) (pairs : List Pair) → AllByRecursion P pairs → P pair ⊎ AllByRecursion (IsOther pair) pairs
  so_or_other P [] all = inr tt
  so_or_other P (other ∷ pairs) all =
      elim (cases_Bool (is_of pair other.account other.commodity)) [
        | inl same ↦ inl (subst P (sym (one_pair other same)) all.0)
        | inr apart ↦
            elim (so_or_other P pairs all.1) [
              | inl so ↦ inl so
              | inr more ↦ inr (apart, more)
            ]
      ]

  abbrev ArePostedElsewhere : List (Key × Command) → Type 0
  ArePostedElsewhere done = AllByRecursion (λ (keyed : Key × Command). AllByRecursion (IsOther pair) (pairs_in keyed.1)) done

  paired_or_other : (tables : Tables) (done : List (Key × Command))
      → AllByRecursion (λ (keyed : Key × Command). HavePairedFor keyed.1 tables) done → HavePaired pair tables ⊎ ArePostedElsewhere done
  paired_or_other tables [] all = inr tt
  paired_or_other tables (keyed ∷ done) all =
      elim (so_or_other (λ (p : Pair). HavePaired p tables) (pairs_in keyed.1) all.0) [
        | inl paired ↦ inl paired
        | inr apart ↦
            elim (paired_or_other tables done all.1) [
              | inl paired ↦ inl paired
              | inr more ↦ inr (apart, more)
            ]
      ]

  -- ---- what commands leave of a pair that they don't post to

  one_leaves : (tables : Tables) (key : Key) (command : Command) (verdict : Verdict) (after : Tables)
      → TurnsByText tables key command verdict after → AllByRecursion (IsOther pair) (pairs_in command)
      → rows_of pair after ≡ rows_of pair tables
  one_leaves tables key command Accepted after (known, text, (change, accepted, is, there)) others =
      ap (rows_of pair) is ∙ rows_stay pair known key command change tables accepted others
  one_leaves tables key command Repeated after (known, text, (decides, is)) others = ap (rows_of pair) is
  one_leaves tables key command (Refused refusal) after (known, text, (decides, is)) others = ap (rows_of pair) is

  all_leave : (tables : Tables) (done : List (Key × Command)) (verdicts : List Verdict) (after : Tables)
      → TurnAllByText tables done verdicts after → ArePostedElsewhere done → rows_of pair after ≡ rows_of pair tables
  all_leave tables [] [] after is others = ap (rows_of pair) is
  all_leave tables [] (verdict ∷ verdicts) after is others = absurd is
  all_leave tables (keyed ∷ done) [] after is others = absurd is
  all_leave tables (keyed ∷ done) (verdict ∷ verdicts) after (mid, one, more) others =
      all_leave mid done verdicts after more others.1 ∙ one_leaves tables keyed.0 keyed.1 verdict mid one others.0

  -- its rows are of the same lots
  abbrev AreAlike : List LotRow × List OpeningRow → Type 0
  AreAlike rows =
      map (λ (row : LotRow). lot_key pair.account pair.commodity row.lot) rows.0
      ≡ map (λ (row : OpeningRow). lot_key pair.account pair.commodity row.lot) rows.1

-- A pair that is paired behind commands was so before them, where each that they post to was.
pub paired_before : (tables : Tables) (done : List (Key × Command)) (verdicts : List Verdict) (after : Tables)
    → TurnAllByText tables done verdicts after → AllByRecursion (λ (keyed : Key × Command). HavePairedFor keyed.1 tables) done
    → (pair : Pair) → HavePaired pair after → HavePaired pair tables
paired_before tables done verdicts after turns paired pair found =
    elim (paired_or_other pair tables done paired) [
      | inl before ↦ before
      | inr others ↦ subst (AreAlike pair) (all_leave pair tables done verdicts after turns others) found
    ]

-- ---- pairs that are paired before commands

-- So are all that are found behind them.
pub all_before : (kept : Option Kept) (tables after : Tables) (pairs : List Pair)
    → ((pair : Pair) → HavePaired pair after → HavePaired pair tables) → HaveAllPaired (whole_pairs kept) tables
    → AreWholeOrPaired kept after pairs → HaveAllPaired pairs tables
all_before kept tables after pairs back whole found =
    all_weaker (IsWholeOrPaired kept after) (λ (pair : Pair). HavePaired pair tables)
    (λ pair is. elim (is) [
      | inl among ↦ all_has (λ (p : Pair). HavePaired p tables) (whole_pairs kept) pair whole among
      | inr paired ↦ back pair paired
    ]) pairs found

module _ (tables after : Tables) (back : (pair : Pair) → HavePaired pair after → HavePaired pair tables) where
  -- so are those that a command posts to
  pub command_before : (command : Command) → HavePairedFor command after → HavePairedFor command tables
  command_before command found =
      all_weaker (λ (pair : Pair). HavePaired pair after) (λ (pair : Pair). HavePaired pair tables) back (pairs_in command) found

  -- or several
  pub commands_before : (done : List (Key × Command)) → AllByRecursion (λ (keyed : Key × Command). HavePairedFor keyed.1 after) done
      → AllByRecursion (λ (keyed : Key × Command). HavePairedFor keyed.1 tables) done
  commands_before done found =
      all_weaker (λ (keyed : Key × Command). HavePairedFor keyed.1 after) (λ (keyed : Key × Command). HavePairedFor keyed.1 tables)
      (λ keyed paired. command_before keyed.1 paired) done found
