-- The legs of a table are folded, a page at a time.
use Rattle.std.proofs.Common.{◌≡◌, ◌≢◌, ◌∙◌, ◌++◌, List, [], ◌∷◌, None, Ok, Err, Option, Result, Some, Vec, filter, map, option_map, refl, sym, ap, subst}
use Rattle.std.proofs.lemmas.List.{append_assoc, map-append}
use Rattle.std.specs.declared.alloc.Global.{Global}
use Rattle.sqlite.specs.Order.{Row}
use Rattle.sqlite.specs.State.{HasCleanDisk, State, Survives}
use Rattle.lot_book.specs.declared.leg.Leg.{Leg}
use Rattle.lot_migrate.specs.LotOpenings.{Keeps}
use Rattle.lot_migrate.specs.declared.opening_numbers.OpenLots.{OpenLots}
use Rattle.lot_table.proofs.MakeLemmas.{keeps_then, keeps_undone}
use Rattle.lot_table.specs.declared.fault.Fault.{Fault}
use Rattle.lot_table.specs.declared.fault.Fault.TheVariants.{Damaged, Device, Memory}
use Rattle.lot_rows.proofs.StateLemmas.{early, survives_both, survives_same}
use Rattle.lot_rows.specs.Leg.{leg_cells}
use Rattle.lot_rows.specs.Tables.{Has, Tables}
use Rattle.lot_rows.specs.declared.leg.LegRow.{LegRow}
use Rattle.lot_page.specs.Cursor.{Follows, Place, Rises, Stays}
use Rattle.lot_page.specs.Page.{IsPageOf, Pages, behind, is_past, page_rows}
use Rattle.lot_page.specs.Rise.{legs_rise}
use Rattle.lot_page.proofs.PlaceLemmas.{behind_row, page_ends}
use Rattle.lot_migrate.specs.Read.{AreLegs, CanFold, IsLastOf, KeepsTable, LotsStayInRange, Reads}
use Rattle.lot_migrate.specs.Rows.{leg_of}
use Rattle.lot_migrate.proofs.ReadLemmas.{failed_on, has_on, kept_on, reads_stops, same_fault, stays_none, stays_same, stays_then}
use Rattle.lot_migrate.proofs.RowLemmas.{first_legs, last_legs, legs_both, no_legs, parts_of, same_legs}

-- ---- where the pages stand

-- behind the last row given
abbrev pub place_of : Option Row → Place
place_of last = record { width = 3; ahead = []; last = last }

starts : (rows : List Row) → Follows [] rows (place_of None)
starts rows = record { others = rows; whole = refl; unread = rows; read = refl; last = λ _. refl }

-- a page is given whole
page_given : (given rows page before : List Row) (row : Row) (last : Option Row) → Follows given rows (place_of last)
    → IsPageOf page_rows (behind 3 last rows) page → page ≡ before ++ row ∷ [] → Rises 3 rows
    → Follows (given ++ page) rows (place_of (Some row))
page_given given rows page before row last f p is up =
    let whole : (given ++ page) ++ p.unread ≡ rows =
    append_assoc given page p.unread ∙ ap (λ l. given ++ l) (p.read ∙ sym (f.last refl)) ∙ f.whole in
    let split : (given ++ before) ++ row ∷ p.unread ≡ rows =
    append_assoc given before (row ∷ p.unread)
    ∙ ap (λ l. given ++ l) (sym (append_assoc before (row ∷ []) p.unread))
    ∙ sym (append_assoc given (before ++ row ∷ []) p.unread)
    ∙ ap (λ l. (given ++ l) ++ p.unread) (sym is)
    ∙ whole in
    record {
      others = p.unread;
      whole = whole;
      unread = p.unread;
      read = refl;
      last = λ _.
          sym (behind_row 3 (given ++ before) row p.unread (subst (Rises 3) (sym split) up))
          ∙ ap (filter (is_past 3 row)) split;
    }

-- ---- the legs so far

abbrev pub LegPages : Option LegRow → State → State → Result (Vec Row Global) Fault → Type 0
LegPages last = Pages leg_cells (λ b. b.leg) 3 page_rows (option_map leg_cells last)

-- some legs are folded, which are the first of the table
pub record Folds (old now : State) (last : Option LegRow) (lots : OpenLots) : Type 0 where
  pub crash : Survives old now (λ _. ⊥)
  pub rows : List LegRow
  pub legs : AreLegs rows
  pub keeps : Keeps (map leg_of rows) lots
  pub same : HasCleanDisk now → Stays old now
  pub behind : HasCleanDisk now → (tables : Tables) → Has old tables
      → Follows (map leg_cells rows) (map leg_cells tables.leg) (place_of (option_map leg_cells last))

pub folds_none : (s : State) (lots : OpenLots) → Keeps [] lots → Folds s s None lots
folds_none s lots keeps = record {
  crash = survives_same s (λ _. ⊥);
  rows = [];
  legs = no_legs;
  keeps = keeps;
  same = λ _. stays_none s;
  behind = λ _ tables _. starts (map leg_cells tables.leg);
}

-- the legs of a page are posted
abbrev pub Posts : List Row → OpenLots → OpenLots → Type 0
Posts page lots after =
    (rows : List LegRow) × (page ≡ map leg_cells rows) × AreLegs rows
    × ((before : List Leg) → Keeps before lots → Keeps (before ++ map leg_of rows) after)

module _ (old now new : State) (last : Option LegRow) (lots : OpenLots) (f : Folds old now last lots) where
  -- the legs of one more page
  pub folds_more : (after : OpenLots) (page : Vec Row Global) (row : LegRow) → LegPages last now new (Ok page)
      → IsLastOf page.items (Some row) → Posts page.items lots after → Folds old new (Some row) after
  folds_more after page row pages is posts = record {
    crash = survives_both old now new f.crash pages.crash;
    rows = f.rows ++ posts.0;
    legs = legs_both f.rows posts.0 f.legs posts.2;
    keeps =
        subst (λ (legs : List Leg). Keeps legs after) (sym (map-append leg_of f.rows posts.0)) (posts.3 (map leg_of f.rows) f.keeps);
    same = λ clean. stays_then old now new (f.same (before clean)) (stays_same now new (pages.same clean));
    behind = λ clean tables has.
        let given = page_given (map leg_cells f.rows) (map leg_cells tables.leg) page.items is.0 (leg_cells row)
        (option_map leg_cells last) (f.behind (before clean) tables has)
        (pages.says clean tables (has_on old now tables (f.same (before clean)) has)) is.1 (legs_rise old.now.trees tables has.1) in
        subst (λ (l : List Row). Follows l (map leg_cells tables.leg) (place_of (Some (leg_cells row))))
        (ap (λ l. map leg_cells f.rows ++ l) posts.1 ∙ sym (map-append leg_cells f.rows posts.0)) given;
  }
    where
      before : HasCleanDisk new → HasCleanDisk now
      before clean = early now new pages.crash clean

  -- no page is left
  pub folds_all : (page : Vec Row Global) → LegPages last now new (Ok page) → page.items ≡ []
      → Reads KeepsTable CanFold old new (Ok lots)
  folds_all page pages none = record {
    says = λ clean tables has.
        let was = early now new pages.crash clean in (
          f.rows,
          record {
            legs = f.legs;
            same = page_ends (map leg_cells f.rows) (map leg_cells tables.leg) page.items (place_of (option_map leg_cells last))
                page_rows (f.behind was tables has) refl
                (pages.says clean tables (has_on old now tables (f.same was) has)) none;
          },
          f.keeps,
        );
    same = λ clean. stays_then old now new (f.same (early now new pages.crash clean)) (stays_same now new (pages.same clean));
    damaged = λ clean is. absurd cc;
    device = λ clean is. absurd cc;
    kept = λ clean. kept_on old new (stays_then old now new (f.same (early now new pages.crash clean)) (stays_same now new (pages.same clean)));
    crash = survives_both old now new f.crash pages.crash;
  }

  -- there is no page
  pub folds_unread : (fault : Fault) → LegPages last now new (Err fault) → Reads KeepsTable CanFold old new (Err fault)
  folds_unread fault pages = record {
    says = λ clean. tt;
    same = λ clean. tt;
    damaged = λ clean is unlimited tables has can.
        pages.damaged clean (same_fault is) (f.crash.limit ∙ unlimited) tables
        (has_on old now tables (f.same (early now new pages.crash clean)) has) tt;
    device = λ clean is.
        failed_on old now new (f.same (early now new pages.crash clean)) f.crash (pages.device clean (same_fault is));
    kept = λ clean.
        keeps_then old now new (kept_on old now (f.same (early now new pages.crash clean))) (keeps_undone now new (pages.undone clean));
    crash = survives_both old now new f.crash pages.crash;
  }

  -- a leg of a page can't be posted
  pub folds_stops : (page : Vec Row Global) → LegPages last now new (Ok page) → (fault : Fault) → fault ≢ Device
      → (fault ≡ Damaged → (more : List LegRow) → AreLegs more → page.items ≡ map leg_cells more
      → ¬ LotsStayInRange (map leg_of f.rows ++ map leg_of more))
      → Reads KeepsTable CanFold old new (Err fault)
  folds_stops page pages fault no_device damaged =
      reads_stops KeepsTable CanFold old new fault (survives_both old now new f.crash pages.crash)
      (λ clean. stays_then old now new (f.same (early now new pages.crash clean)) (stays_same now new (pages.same clean)))
      (λ clean is tables has can.
      let was = early now new pages.crash clean in
      let b = f.behind was tables has in
      let p = pages.says clean tables (has_on old now tables (f.same was) has) in
      let whole : map leg_cells f.rows ++ (page.items ++ p.unread) ≡ map leg_cells tables.leg =
      ap (λ l. map leg_cells f.rows ++ l) (p.read ∙ sym (b.last refl)) ∙ b.whole in
      let one = parts_of (map leg_cells f.rows) (page.items ++ p.unread) tables.leg whole in
      let two = parts_of page.items p.unread one.rest one.of_others in
      let all = subst AreLegs one.split can.legs in
      let first : f.rows ≡ one.first = same_legs f.rows one.first f.legs (first_legs one.first one.rest all) one.of_given in
      let rest = subst AreLegs two.split (last_legs one.first one.rest all) in
      damaged (fault_is is) two.first (first_legs two.first two.rest rest) two.of_given
      (in_range tables can f.rows two.first two.rest
      (one.split ∙ ap (λ l. l ++ one.rest) (sym first) ∙ ap (λ l. f.rows ++ l) two.split)))
      (λ is. no_device (fault_is is))
    where
      fault_is : {R : Type 0} {which : Fault} → ◌≡◌ {A = Result R Fault} (Err fault) (Err which) → fault ≡ which
      fault_is is = cc

      in_range : (tables : Tables) → CanFold tables → (a b c : List LegRow) → tables.leg ≡ a ++ (b ++ c)
          → LotsStayInRange (map leg_of a ++ map leg_of b)
      in_range tables can a b c is done more split =
          can.in_range done (more ++ map leg_of c)
          (ap (map leg_of) is
          ∙ map-append leg_of a (b ++ c)
          ∙ ap (λ l. map leg_of a ++ l) (map-append leg_of b c)
          ∙ sym (append_assoc (map leg_of a) (map leg_of b) (map leg_of c))
          ∙ ap (λ l. l ++ map leg_of c) split
          ∙ append_assoc done more (map leg_of c))

-- too many pages
pub folds_out : (old now : State) (last : Option LegRow) (lots : OpenLots) → Folds old now last lots
    → Reads KeepsTable CanFold old now (Err Memory)
folds_out old now last lots f =
    reads_stops KeepsTable CanFold old now Memory f.crash f.same (λ clean is. absurd cc) (λ is. absurd cc)
