-- Looking legs up: they are those that were read last, or those of a posting.
use Rattle.std.specs.Prelude.{◌≡◌, ◌≤◌, ℕ, pos, ◌==◌, ◌&&◌, Bool, true, false, All, List, [], ◌∷◌, find, map, Option, None, Some, Ok, Err, Result, Vec, is_some, option_copied}
use Rattle.std.specs.List.{AllByRecursion, list_any}
use Rattle.std.specs.Borrow.{Bor}
use Rattle.std.specs.declared.alloc.Global.{Global}
use Rattle.std.proofs.Common.{◌⊎◌, inl, inr, refl, sym, ap, subst, ◌∙◌, arith}
use Rattle.std.proofs.lemmas.Bool.{and_parts}
use Rattle.std.proofs.lemmas.Bool.Decides.{Decides-eqb}
use Rattle.std.proofs.lemmas.List.Elements.{All-from_recursion, recursion_from_All}
use Rattle.sqlite.specs.State.{HasCleanDisk, State}
use Rattle.sqlite.specs.declared.types.Value.TheVariants.{Int}
use Rattle.sqlite_keyed.proofs.ListLemmas.{all_both, all_weaker}
use Rattle.sqlite_rules.proofs.ListLemmas.{all_from, all_has, has_filtered}
use Rattle.sqlite_rules.specs.Lists.{Has as HasRow}
use Rattle.lot_book.proofs.CaseLemmas.{by_bool}
use Rattle.lot_noted.specs.declared.key.LegKey.{LegKey}
use Rattle.lot_page.specs.Cursor.{Stays}
use Rattle.lot_register.specs.declared.leg.NotedLeg.{NotedLeg}
use Rattle.lot_rows.specs.Leg.{IsLegRow, leg_cells}
use Rattle.lot_rows.specs.Tables.{Has, Tables, layout}
use Rattle.lot_rows.specs.declared.leg.LegRow.{LegRow}
use Rattle.lot_rows.proofs.StateLemmas.{early, survives_both, survives_same}
use Rattle.lot_stored.specs.Rows.{posting_key}
use Rattle.lot_table.specs.Call.{ListsColumns}
use Rattle.lot_table.specs.Rows.{has_key, with_key}
use Rattle.lot_table.specs.declared.fault.Fault.{Fault}
use Rattle.lot_table.specs.declared.fault.Fault.TheVariants.{Damaged, Device, Memory}
use Rattle.lot_walk.proofs.PlaceLemmas.{failed_after, has_still, stays_itself, stays_then, unchanged_stays}
use Rattle.lot_walk.proofs.StepLemmas.{left_then, stays_left, undone_by}
use Rattle.lot_recall.specs.Recall.{LooksUpLegs, ReadsLegs, Recalls, few_legs, is_leg_at, recalled}
use Rattle.lot_recall.proofs.FewLemmas.{few_are}
use Rattle.lot_recall.proofs.FindLemmas.{all_passed, found_any}

abbrev unread : Fault → Result (Vec LegRow Global) Fault
unread fault = Err fault

-- a row that is lent is there
pub copied_some : {X : Type 0} (lent : Option (Bor X)) → is_some (option_copied lent) ≡ is_some lent
copied_some None = refl
copied_some (Some x) = refl

module _ (key : LegKey) where
  abbrev pub Looks : List LegRow → List LegRow → State → State → Result (Unit {0}) Fault → Type 0
  Looks = LooksUpLegs key

  -- the leg is among those that were read last
  pub looks_kept : (kept : List LegRow) (s : State) → is_some (find (is_leg_at key) kept) ≡ true → Looks kept kept s s (Ok tt)
  looks_kept kept s some = record {
    kept = λ clean tables has are. are;
    found = λ clean tables has. inl (sym (found_any (is_leg_at key) kept) ∙ some);
    same = λ clean. stays_itself s;
    damaged = λ clean is. cc;
    failed = λ clean is. cc;
    left = λ clean. tt;
    crash = survives_same s _;
  }

  -- no row has a number of 0
  other_leg : ((1 ≤ key.entry) × (1 ≤ key.posting) → ⊥) → (row : LegRow) → IsLegRow row → is_leg_at key row ≡ false
  other_leg none row good = by_bool (is_leg_at key row) (λ at. absurd (never at)) (λ apart. apart)
    where
      never : is_leg_at key row ≡ true → ⊥
      never at =
          let first = and_parts (row.entry == key.entry) ((row.posting == key.posting) && (row.place == key.place)) at in
          let rest = and_parts (row.posting == key.posting) (row.place == key.place) first.1 in
          none
          (subst (λ n. 1 ≤ n) ((Decides-eqb row.entry key.entry).0 first.0) good.entry.0, subst (λ n. 1 ≤ n) ((Decides-eqb row.posting key.posting).0 rest.0) good.posting.0)

  pub looks_never : (kept : List LegRow) (s : State) → ((1 ≤ key.entry) × (1 ≤ key.posting) → ⊥) → Looks kept kept s s (Err Damaged)
  looks_never kept s none = record {
    kept = λ clean tables has are. are;
    found = λ clean. tt;
    same = λ clean. tt;
    damaged = λ clean is limit tables has good.
        all_weaker IsLegRow (λ row. is_leg_at key row ≡ false) (other_leg none) tables.leg (recursion_from_All IsLegRow tables.leg good);
    failed = λ clean is. cc;
    left = λ clean. stays_left s s (stays_itself s);
    crash = survives_same s _;
  }

  -- the legs of its entry are read, and some behind them
  pub few_kept : (kept : List LegRow) (few : Vec LegRow Global) (old new : State) → ReadsLegs key.entry old new (Ok few)
      → is_some (find (is_leg_at key) few.items) ≡ true → Looks kept few.items old new (Ok tt)
  few_kept kept few old new reads some = record {
    kept = λ clean tables has are. few_are leg_cells IsLegRow (λ (b : Tables). b.leg) few_legs key.entry tables.leg few.items (reads.says clean tables has) reads.good;
    found = λ clean tables has. inl (sym (found_any (is_leg_at key) few.items) ∙ some);
    same = λ clean. unchanged_stays old new (reads.same clean);
    damaged = λ clean is. cc;
    failed = λ clean is. cc;
    left = λ clean. tt;
    crash = reads.crash;
  }

  pub few_lost : (kept : List LegRow) (old new : State) (fault : Fault) → ReadsLegs key.entry old new (Err fault) → Looks kept kept old new (Err fault)
  few_lost kept old new fault reads = record {
    kept = λ clean tables has are. are;
    found = λ clean. tt;
    same = λ clean. tt;
    damaged = λ clean is limit tables has good.
        let of : unread fault ≡ Err Damaged = cc in
        absurd (reads.damaged clean of limit tables has good);
    failed = λ clean is. let of : unread fault ≡ Err Device = cc in reads.device clean of;
    left = λ clean. undone_by old new (reads.undone clean);
    crash = reads.crash;
  }

  -- the legs of the posting are read
  abbrev those : List LegRow → List LegRow
  those rows = with_key leg_cells 2 (posting_key key.entry key.posting) rows

  abbrev pub ReadsPosting : State → State → Result (Vec LegRow Global) Fault → Type 0
  ReadsPosting = ListsColumns layout leg_cells IsLegRow (λ (b : Tables). those b.leg)

  those_good : (rows : List LegRow) → All IsLegRow rows → All IsLegRow (those rows)
  those_good rows good =
      All-from_recursion IsLegRow (those rows)
      (all_from IsLegRow (those rows)
      (λ x has. all_has IsLegRow rows x (recursion_from_All IsLegRow rows good)
      (has_filtered (λ (y : LegRow). has_key 2 (posting_key key.entry key.posting) (leg_cells y)) rows x has).0))

  -- the numbers of a key
  pub of_number : (entry posting : ℕ) (old new : State) (result : Result (Vec LegRow Global) Fault) → ◌≡◌ {A = ℕ × ℕ} (entry, posting) (key.entry, key.posting)
      → ReadsLegs entry old new result → ReadsLegs key.entry old new result
  of_number entry posting old new result same reads = subst (λ (n : ℕ × ℕ). ReadsLegs n.0 old new result) same reads

  pub of_numbers : (entry posting : ℕ) (old new : State) (result : Result (Vec LegRow Global) Fault) → ◌≡◌ {A = ℕ × ℕ} (entry, posting) (key.entry, key.posting)
      → ListsColumns layout leg_cells IsLegRow (λ (b : Tables). with_key leg_cells 2 (Int (pos entry) ∷ Int (pos posting) ∷ []) b.leg) old new result
      → ReadsPosting old new result
  of_numbers entry posting old new result same reads =
      subst (λ (n : ℕ × ℕ). ListsColumns layout leg_cells IsLegRow (λ (b : Tables). with_key leg_cells 2 (Int (pos n.0) ∷ Int (pos n.1) ∷ []) b.leg) old new result) same reads

  module _ (kept : List LegRow) (few : Vec LegRow Global) (old mid new : State) (first : ReadsLegs key.entry old mid (Ok few)) where
    stayed : HasCleanDisk mid → Stays old mid
    stayed was = unchanged_stays old mid (first.same was)

    still : HasCleanDisk mid → (tables : Tables) → Has old tables → Has mid tables
    still was tables has = has_still old mid tables (stayed was) has

    pub looks_read : (found : Vec LegRow Global) → ReadsPosting mid new (Ok found) → Looks kept found.items old new (Ok tt)
    looks_read found reads = record {
      kept = λ clean tables has are.
          let says = reads.says clean tables (still (early mid new reads.crash clean) tables has) in
          all_both (λ x. HasRow (map leg_cells tables.leg) (leg_cells x)) IsLegRow (λ x. HasRow (map leg_cells tables.leg) (leg_cells x) × IsLegRow x)
          (λ x among good. (among, good)) found.items
          (all_passed leg_cells (λ (y : LegRow). has_key 2 (posting_key key.entry key.posting) (leg_cells y)) tables.leg found.items says)
          (recursion_from_All IsLegRow found.items reads.good);
      found = λ clean tables has. inr (reads.says clean tables (still (early mid new reads.crash clean) tables has));
      same = λ clean. stays_then old mid new (stayed (early mid new reads.crash clean)) (unchanged_stays mid new (reads.same clean));
      damaged = λ clean is. cc;
      failed = λ clean is. cc;
      left = λ clean. tt;
      crash = survives_both old mid new first.crash reads.crash;
    }

    pub looks_unread : (fault : Fault) → ReadsPosting mid new (Err fault) → Looks kept few.items old new (Err fault)
    looks_unread fault reads = record {
      kept = λ clean tables has are.
          few_are leg_cells IsLegRow (λ (b : Tables). b.leg) few_legs key.entry tables.leg few.items
          (first.says (early mid new reads.crash clean) tables has) first.good;
      found = λ clean. tt;
      same = λ clean. tt;
      damaged = λ clean is limit tables has good.
          let of : unread fault ≡ Err Damaged = cc in
          absurd (reads.damaged clean of (first.crash.limit ∙ limit) tables (still (early mid new reads.crash clean) tables has) (those_good tables.leg good));
      failed = λ clean is.
          let of : unread fault ≡ Err Device = cc in
          failed_after old mid new (stayed (early mid new reads.crash clean)) first.crash (reads.device clean of);
      left = λ clean. left_then old mid new (stayed (early mid new reads.crash clean)) (undone_by mid new (reads.undone clean));
      crash = survives_both old mid new first.crash reads.crash;
    }

  -- the leg at the key
  pub was_recalled : (rows : List LegRow) (row : LegRow) (narration : Option (List ℕ)) (leg : NotedLeg) → find (is_leg_at key) rows ≡ Some row
      → leg ≡ recalled row key.day narration → Recalls key rows narration (Ok leg)
  was_recalled rows row narration leg found is = record { gives = record { row = row; found = found; is = is }; damaged = λ at. cc; lacking = λ at. cc }

  pub not_recalled : (rows : List LegRow) (narration : Option (List ℕ)) → find (is_leg_at key) rows ≡ None → Recalls key rows narration (Err Damaged)
  not_recalled rows narration none = record { gives = tt; damaged = λ at. none; lacking = λ at. cc }

  pub out_of_memory : (rows : List LegRow) (row : LegRow) (narration : Option (List ℕ)) → find (is_leg_at key) rows ≡ Some row
      → Recalls key rows narration (Err Memory)
  out_of_memory rows row narration found = record { gives = tt; damaged = λ at. cc; lacking = λ at. ap is_some found }
