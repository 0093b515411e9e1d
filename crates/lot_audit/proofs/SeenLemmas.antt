-- Questions one after another, none of which changes what the connection shows, tell together what each of them told.
use Rattle.std.specs.Prelude.{◌≡◌, ◌≢◌, ◌↔◌, Bool, true, false, is_some, IsTrue, filter, List, Option, None, Some, Ok, Err, Result, All, IfSome}
use Rattle.std.specs.Result.{IsErrAnd}
use Rattle.std.proofs.Common.{refl, sym, ap, subst, ◌∙◌, inl, inr, arith}
use Rattle.std.proofs.lemmas.Bool.{true≢false}
use Rattle.std.proofs.lemmas.List.Elements.{All-from_recursion, recursion_from_All}
use Rattle.sqlite.specs.Effect.{Database}
use Rattle.sqlite.specs.Order.{Row}
use Rattle.sqlite.specs.State.{HasCleanDisk, IsUnchanged, State, Survives}
use Rattle.sqlite_keyed.proofs.ListLemmas.{all-filter}
use Rattle.lot_page.specs.Cursor.{Gives, IsBehind, Place, Stays, Steps}
use Rattle.lot_rows.specs.Tables.{Has, Tables, layout}
use Rattle.lot_rows.proofs.StateLemmas.{early, survives_both, survives_same}
use Rattle.lot_stored.specs.StandFor.{AreOfBook}
use Rattle.lot_table.specs.Book.{Holds}
use Rattle.lot_table.specs.Call.{Answers}
use Rattle.lot_table.specs.Statement.{DiskFailed}
use Rattle.lot_table.specs.declared.fault.Fault.{Fault}
use Rattle.lot_table.specs.declared.fault.Fault.TheVariants.{Damaged, Device, Memory}
use Rattle.lot_walk.proofs.StepLemmas.{left_then, stays_left, undone_by, undone_left}
use Rattle.lot_audit.specs.Checks.{Checks, ChecksWhere, always}

-- ---- what a connection shows

stays_none : (s : State) → Stays s s
stays_none s = record { now = refl; committed = refl; mode = refl; is_open = refl }

pub stays_then : (a b c : State) → Stays a b → Stays b c → Stays a c
stays_then a b c one two = record {
  now = two.now ∙ one.now;
  committed = two.committed ∙ one.committed;
  mode = two.mode ∙ one.mode;
  is_open = two.is_open ∙ one.is_open;
}

pub stays_same : (a b : State) → IsUnchanged a b → Stays a b
stays_same a b same = record {
  now = same.0.now_is;
  committed = same.0.committed_is;
  mode = same.0.mode;
  is_open = same.0.is_open ∙ sym same.0.was_open;
}

pub has_on : (a b : State) (tables : Tables) → Stays a b → Has a tables → Has b tables
has_on a b tables same has =
    subst (λ (db : Database). (db.schema ≡ layout.schema) × Holds layout db.trees tables) (sym same.now) has

pub failed_on : (a b c : State) → Stays a b → Survives a b (λ _. ⊥) → DiskFailed b c → DiskFailed a c
failed_on a b c same one (inl more) = inl (omega (arith, one.counts, more))
failed_on a b c same one (inr shut) = inr (sym same.is_open ∙ shut)

same_fault : {A B : Type 0} (a b : Fault) → ◌≡◌ {A = Result A Fault} (Err a) (Err b) → ◌≡◌ {A = Result B Fault} (Err a) (Err b)
same_fault a b is = let one : a ≡ b = cc in ap Err one

-- ---- what was seen

-- the tables were asked, nothing changed, and this is so of those where `Where` is
pub record Seen (Where says : Tables → Type 0) (old now : State) : Type 0 where
  pub told : HasCleanDisk now → (tables : Tables) → Has old tables → Where tables → says tables
  pub same : HasCleanDisk now → Stays old now
  pub survives : Survives old now (λ _. ⊥)

module _ (Where : Tables → Type 0) where
  pub seen_none : (s : State) → Seen Where Where s s
  seen_none s = record {
    told = λ clean tables has is. is;
    same = λ clean. stays_none s;
    survives = survives_same s _;
  }

  pub seen_as : (was says : Tables → Type 0) (old now : State) → Seen Where was old now
      → ((tables : Tables) → Has old tables → was tables → says tables) → Seen Where says old now
  seen_as was says old now seen more = record {
    told = λ clean tables has is. more tables has (seen.told clean tables has is);
    same = seen.same;
    survives = seen.survives;
  }

  -- a question whose answer goes on; what was seen says where it is asked
  pub seen_next : {T : Type 0} (Inner : Tables → Type 0) (Asks : T → Tables → Type 0) (was says : Tables → Type 0)
      (old mid new : State) (answer : T) → Seen Where was old mid → ChecksWhere Inner Asks mid new (Ok answer)
      → ((tables : Tables) → Has old tables → was tables → Inner tables × (Asks answer tables → says tables))
      → Seen Where says old new
  seen_next Inner Asks was says old mid new answer seen c law = record {
    told = λ clean tables has is.
        let before = early mid new c.crash clean in
        let here = law tables has (seen.told before tables has is) in
        here.1 (c.says clean tables (has_on old mid tables (seen.same before) has) here.0);
    same = λ clean. stays_then old mid new (seen.same (early mid new c.crash clean)) (c.same clean);
    survives = survives_both old mid new seen.survives c.crash;
  }

  module _ {R : Type 0} (Says : R → Tables → Type 0) where
    pub seen_done : (old now : State) (answer : R) → Seen Where (Says answer) old now
        → ChecksWhere Where Says old now (Ok answer)
    seen_done old now answer seen = record {
      says = seen.told;
      same = seen.same;
      damaged = λ clean is. absurd cc;
      device = λ clean is. absurd cc;
      left = λ clean. tt;
      crash = seen.survives;
    }

    -- a question fails behind others
    pub fails_next : {T : Type 0} (Inner : Tables → Type 0) (Asks : T → Tables → Type 0) (was : Tables → Type 0)
        (old mid new : State) (fault : Fault) → Seen Where was old mid → ChecksWhere Inner Asks mid new (Err fault)
        → ((tables : Tables) → Has old tables → was tables → Inner tables) → ChecksWhere Where Says old new (Err fault)
    fails_next {T} Inner Asks was old mid new fault seen c inner = record {
      says = λ clean. tt;
      same = λ clean. tt;
      damaged = λ clean is limit tables has here.
          let before = early mid new c.crash clean in
          c.damaged clean (same_fault fault Damaged is) (seen.survives.limit ∙ limit) tables
          (has_on old mid tables (seen.same before) has)
          (inner tables has (seen.told before tables has here));
      device = λ clean is.
          failed_on old mid new (seen.same (early mid new c.crash clean)) seen.survives
          (c.device clean (same_fault fault Device is));
      left = λ clean. left_then old mid new (seen.same (early mid new c.crash clean)) (c.left clean);
      crash = survives_both old mid new seen.survives c.crash;
    }

    -- a question that is asked last, and answered or not
    pub seen_last : (Inner : Tables → Type 0) (Asks : R → Tables → Type 0) (was : Tables → Type 0)
        (old mid new : State) (result : Result R Fault) → Seen Where was old mid → ChecksWhere Inner Asks mid new result
        → ((tables : Tables) → Has old tables → was tables → Inner tables × ((answer : R) → Asks answer tables → Says answer tables))
        → ChecksWhere Where Says old new result
    seen_last Inner Asks was old mid new (Ok answer) seen c law =
        seen_done old new answer
        (seen_next Inner Asks was (Says answer) old mid new answer seen c
        (λ tables has is. let here = law tables has is in (here.0, here.1 answer)))
    seen_last Inner Asks was old mid new (Err fault) seen c law =
        fails_next Inner Asks was old mid new fault seen c (λ tables has is. (law tables has is).0)

    -- what was seen isn't so of tables that stand for a book
    pub refuted : (was : Tables → Type 0) (old now : State) → Seen Where was old now
        → ((tables : Tables) → Has old tables → was tables → ¬ AreOfBook tables) → ChecksWhere Where Says old now (Err Damaged)
    refuted was old now seen law = record {
      says = λ clean. tt;
      same = λ clean. tt;
      damaged = λ clean is limit tables has here. law tables has (seen.told clean tables has here);
      device = λ clean is. absurd cc;
      left = λ clean. stays_left old now (seen.same clean);
      crash = seen.survives;
    }

    -- out of memory
    pub stopped : (was : Tables → Type 0) (old now : State) → Seen Where was old now → ChecksWhere Where Says old now (Err Memory)
    stopped was old now seen = record {
      says = λ clean. tt;
      same = λ clean. tt;
      damaged = λ clean is. absurd cc;
      device = λ clean is. absurd cc;
      left = λ clean. stays_left old now (seen.same clean);
      crash = seen.survives;
    }

    -- a fault that is passed on
    pub passed_on : (old new : State) (fault : Fault) (result : Result R Fault) → IsErrAnd result (λ e. e ≡ fault)
        → ChecksWhere Where Says old new (Err fault) → ChecksWhere Where Says old new result
    passed_on old new fault (Ok answer) is c = absurd is
    passed_on old new fault (Err e) is c = subst (λ (f : Fault). ChecksWhere Where Says old new (Err f)) (sym is) c

  -- a step of a cursor
  module _ {X : Type 0} (encode : X → Row) (IsGood : X → Type 0) (rows : Tables → List X) (before after : Place)
      (old mid new : State) (was : Tables → Type 0) (seen : Seen Where was old mid) where
    pub step_fails : {R : Type 0} (Says : R → Tables → Type 0) (fault : Fault)
        → Steps encode IsGood rows before after mid new (Err fault)
        → ((tables : Tables) → Has old tables → was tables → (given : List X) × IsBehind encode given (rows tables) before)
        → ((tables : Tables) → AreOfBook tables → All IsGood (rows tables)) → ChecksWhere Where Says old new (Err fault)
    step_fails {R} Says fault s behind sound = record {
      says = λ clean. tt;
      same = λ clean. tt;
      damaged = λ clean is limit tables has here of.
          let was_clean = early mid new s.crash clean in
          let given = behind tables has (seen.told was_clean tables has here) in
          s.damaged clean (same_fault fault Damaged is) (seen.survives.limit ∙ limit) tables
          (has_on old mid tables (seen.same was_clean) has) given.0 given.1 (sound tables of);
      device = λ clean is.
          failed_on old mid new (seen.same (early mid new s.crash clean)) seen.survives
          (s.device clean (same_fault fault Device is));
      left = λ clean. left_then old mid new (seen.same (early mid new s.crash clean)) (undone_left mid new (s.undone clean));
      crash = survives_both old mid new seen.survives s.crash;
    }

    pub step_gives : (says : Tables → Type 0) (found : Option X) → Steps encode IsGood rows before after mid new (Ok found)
        → ((tables : Tables) → Has old tables → was tables
        → ((given : List X) → IsBehind encode given (rows tables) before → Gives encode given (rows tables) after found)
        → IfSome found IsGood → says tables)
        → Seen Where says old new
    step_gives says found s law = record {
      told = λ clean tables has here.
          let was_clean = early mid new s.crash clean in
          law tables has (seen.told was_clean tables has here)
          (s.gives clean tables (has_on old mid tables (seen.same was_clean) has)) s.good;
      same = λ clean. stays_then old mid new (seen.same (early mid new s.crash clean)) (s.same clean);
      survives = survives_both old mid new seen.survives s.crash;
    }

-- ---- statements

-- a statement on one table
pub answers_check : {R : Type 0} (Says : R → Tables → Type 0) (Good : R → Type 0) (IsSound : Tables → Type 0)
    (old new : State) (result : Result R Fault) → Answers layout Says Good IsSound old new result
    → ((tables : Tables) → AreOfBook tables → IsSound tables)
    → Checks (λ (answer : R) tables. Good answer × Says answer tables) old new result
answers_check {R} Says Good IsSound old new (Ok answer) a sound = record {
  says = λ clean tables has here. (a.good, a.says clean tables has);
  same = λ clean. stays_same old new (a.same clean);
  damaged = λ clean is. absurd cc;
  device = λ clean is. absurd cc;
  left = λ clean. tt;
  crash = a.crash;
}
answers_check {R} Says Good IsSound old new (Err fault) a sound = record {
  says = λ clean. tt;
  same = λ clean. tt;
  damaged = λ clean is limit tables has here of. a.damaged clean is limit tables has (sound tables of);
  device = λ clean is. a.device clean is;
  left = λ clean. undone_by old new (a.undone clean);
  crash = a.crash;
}

-- an answer of a statement tells whether something is so
pub tells_whether : {R : Type 0} (Says : R → Tables → Type 0) (Good : R → Type 0) (IsSound : Tables → Type 0) (P : Tables → Type 0)
    (old new : State) (answer : R) (is : Bool) → Answers layout Says Good IsSound old new (Ok answer)
    → ((tables : Tables) → Has old tables → Good answer → Says answer tables → IsTrue is ↔ P tables)
    → Checks (λ (b : Bool) tables. IsTrue b ↔ P tables) old new (Ok is)
tells_whether Says Good IsSound P old new answer is a law = record {
  says = λ clean tables has here. law tables has a.good (a.says clean tables has);
  same = λ clean. stays_same old new (a.same clean);
  damaged = λ clean none. absurd cc;
  device = λ clean none. absurd cc;
  left = λ clean. tt;
  crash = a.crash;
}

-- there is no answer
pub tells_not : {R T : Type 0} (Says : R → Tables → Type 0) (Good : R → Type 0) (IsSound : Tables → Type 0) (Asks : T → Tables → Type 0)
    (old new : State) (fault : Fault) (result : Result T Fault) → IsErrAnd result (λ e. e ≡ fault)
    → Answers layout Says Good IsSound old new (Err fault) → ((tables : Tables) → AreOfBook tables → IsSound tables)
    → Checks Asks old new result
tells_not {R} {T} Says Good IsSound Asks old new fault result is a sound =
    passed_on always Asks old new fault result is
    (fails_next always Asks always (λ (answer : R) tables. Good answer × Says answer tables) always old old new fault
    (seen_none always old) (answers_check Says Good IsSound old new (Err fault) a sound) (λ tables has here. here))

-- what is found is there
pub is_there : {X : Type 0} (found at : Option X) (is : Bool) → is ≡ is_some found → found ≡ at → IsTrue is ↔ (at ≢ None)
is_there None at is tells same = (λ yes. absurd (true≢false (sym yes ∙ tells)), λ some. absurd (some (sym same)))
is_there (Some x) at is tells same = (λ yes none. let no : Some x ≡ None = same ∙ none in cc, λ some. tells)

-- good rows, of which some are kept
pub good_filtered : {X : Type 0} (IsGood : X → Type 0) (p : X → Bool) (xs : List X) → All IsGood xs → All IsGood (filter p xs)
good_filtered IsGood p xs all =
    All-from_recursion IsGood (filter p xs) (all-filter IsGood p xs (recursion_from_All IsGood xs all))

-- ---- answers of yes or no

abbrev pub Tells : (Tables → Type 0) → Bool → Tables → Type 0
Tells P is tables = IsTrue is ↔ P tables

module _ (Where so_far P : Tables → Type 0) (old mid new : State) (seen : Seen Where so_far old mid) where
  -- it is so
  pub told_yes : (is : Bool) → is ≡ true → Checks (Tells P) mid new (Ok is) → Seen Where (λ tables. so_far tables × P tables) old new
  told_yes is so_it_is c =
      seen_next Where always (Tells P) so_far (λ tables. so_far tables × P tables) old mid new is seen c
      (λ tables has so. (tt, λ tells. (so, tells.0 so_it_is)))

  -- it isn't
  pub told_no : (is : Bool) → is ≡ false → Checks (Tells P) mid new (Ok is) → Seen Where (λ tables. so_far tables × (¬ P tables)) old new
  told_no is not_so c =
      seen_next Where always (Tells P) so_far (λ tables. so_far tables × (¬ P tables)) old mid new is seen c
      (λ tables has so. (tt, λ tells. (so, λ p. absurd (true≢false (sym (tells.1 p) ∙ not_so)))))

  -- it isn't answered
  pub not_told : {R T : Type 0} (Says : R → Tables → Type 0) (Asks : T → Tables → Type 0) (fault : Fault) (result : Result R Fault)
      → IsErrAnd result (λ e. e ≡ fault) → Checks Asks mid new (Err fault) → ChecksWhere Where Says old new result
  not_told Says Asks fault result is c =
      passed_on Where Says old new fault result is
      (fails_next Where Says always Asks so_far old mid new fault seen c (λ tables has so. tt))

-- all of several are to be so
module _ (so_far P Whole : Tables → Type 0) (old mid new : State) (seen : Seen always so_far old mid) where
  -- one isn't
  pub chain_no : (is : Bool) → is ≡ false → Checks (Tells P) mid new (Ok is)
      → ((tables : Tables) → Whole tables → P tables) → Checks (Tells Whole) old new (Ok false)
  chain_no is not_so c part =
      seen_done always (Tells Whole) old new false
      (seen_as always (λ tables. so_far tables × (¬ P tables)) (Tells Whole false) old new
      (told_no always so_far P old mid new seen is not_so c)
      (λ tables has both. ((λ yes. absurd (true≢false (sym yes))), (λ whole. absurd (both.1 (part tables whole))))))

  -- this is the last of them
  pub chain_last : (result : Result Bool Fault) → Checks (Tells P) mid new result
      → ((tables : Tables) → so_far tables → P tables → Whole tables) → ((tables : Tables) → Whole tables → P tables)
      → Checks (Tells Whole) old new result
  chain_last result c all part =
      seen_last always (Tells Whole) always (Tells P) so_far old mid new result seen c
      (λ tables has so. (tt, λ is tells. ((λ yes. all tables so (tells.0 yes)), (λ whole. tells.1 (part tables whole)))))
