-- Calls one after another, each of which leaves the connection as it was, tell together what each of them told.
use Rattle.std.specs.Prelude.{◌≡◌, ◌≢◌, List, Ok, Err, Result, IfErr, IsTrue, OnOk}
use Rattle.std.specs.Result.{IsErrAnd}
use Rattle.std.proofs.Common.{refl, sym, ap, subst, ◌∙◌, inl}
use Rattle.sqlite.specs.State.{HasCleanDisk, IsUnchanged, State, Survives}
use Rattle.sqlite.proofs.StateLemmas.{unchanged}
use Rattle.lot_book.specs.Book.{IsBook}
use Rattle.lot_book.specs.Facts.{Entry}
use Rattle.lot_stored.specs.StandFor.{AreOfBook, StandFor}
use Rattle.lot_load.specs.Tells.{OfBook, Tells}
use Rattle.lot_rows.proofs.StateLemmas.{early, failed_then, has_still, same_then, survives_both, survives_same, undone_then}
use Rattle.lot_rows.specs.Tables.{Tables, layout}
use Rattle.lot_table.specs.Book.{Has, always}
use Rattle.lot_table.specs.Call.{Answers}
use Rattle.lot_table.specs.declared.fault.Fault.{Fault}
use Rattle.lot_table.specs.declared.fault.Fault.TheVariants.{Damaged, Device, Memory}

-- the tables were read, nothing changed, and this is so of each book that they stand for
pub record HasRead (says : List Entry → Type 0) (old now : State) : Type 0 where
  pub told : HasCleanDisk now → (tables : Tables) → Has layout old tables → OfBook says tables
  pub same : HasCleanDisk now → IsUnchanged old now
  pub survives : Survives old now (λ _. ⊥)

-- ---- from one call to the next

pub reads_none : (says : List Entry → Type 0) (s : State) → (HasCleanDisk s → IsTrue s.is_open) → ((entries : List Entry) → says entries)
    → HasRead says s s
reads_none says s is_open all = record {
  told = λ clean tables has entries book stand. all entries;
  same = λ clean. unchanged s (is_open clean);
  survives = survives_same s _;
}

pub is_open_still : (says : List Entry → Type 0) (old now : State) → HasRead says old now → HasCleanDisk now → IsTrue now.is_open
is_open_still says old now read clean = (read.same clean).0.is_open

pub reads_as : (says others : List Entry → Type 0) (old now : State) → HasRead says old now
    → ((tables : Tables) (entries : List Entry) → IsBook entries → StandFor tables entries → says entries → others entries) → HasRead others old now
reads_as says others old now read more = record {
  told = λ clean tables has entries book stand. more tables entries book stand (read.told clean tables has entries book stand);
  same = read.same;
  survives = read.survives;
}

module _ {R : Type 0} (Says : R → Tables → Type 0) (Good : R → Type 0) (IsSound : Tables → Type 0) where
  pub reads_first : (says : List Entry → Type 0) (old new : State) (answer : R) → Answers layout Says Good IsSound old new (Ok answer)
      → ((tables : Tables) (entries : List Entry) → IsBook entries → StandFor tables entries → Good answer → Says answer tables → says entries)
      → HasRead says old new
  reads_first says old new answer a law = record {
    told = λ clean tables has entries book stand. law tables entries book stand a.good (a.says clean tables has);
    same = a.same;
    survives = a.crash;
  }

  pub reads_next : (was says : List Entry → Type 0) (old mid new : State) (answer : R) → HasRead was old mid
      → Answers layout Says Good IsSound mid new (Ok answer)
      → ((tables : Tables) (entries : List Entry) → IsBook entries → StandFor tables entries → was entries → Good answer → Says answer tables → says entries)
      → HasRead says old new
  reads_next was says old mid new answer read a law = record {
    told = λ clean tables has entries book stand.
        let before : HasCleanDisk mid = early mid new a.crash clean in
        law tables entries book stand (read.told before tables has entries book stand) a.good
        (a.says clean tables (has_still old mid tables (read.same before) has));
    same = λ clean. same_then old mid new (read.same (early mid new a.crash clean)) (a.same clean);
    survives = survives_both old mid new read.survives a.crash;
  }

  -- a call that fails
  pub fails_next : {T : Type 0} (was : List Entry → Type 0) (says : T → List Entry → Type 0) (old mid new : State) (fault : Fault) → HasRead was old mid
      → Answers layout Says Good IsSound mid new (Err fault)
      → ((tables : Tables) (entries : List Entry) → IsBook entries → StandFor tables entries → IsSound tables)
      → Tells says old new (Err fault)
  fails_next {T} was says old mid new fault read a sound = record {
    says = λ clean. tt;
    good = tt;
    same = λ clean. tt;
    damaged = λ clean e limit tables has of_book.
        let before : HasCleanDisk mid = early mid new a.crash clean in
        let is : fault ≡ Damaged = cc in
        a.damaged clean (ap Err is) (read.survives.limit ∙ limit) tables (has_still old mid tables (read.same before) has)
        (sound tables of_book.0 of_book.1 of_book.2);
    device = λ clean e.
        let is : fault ≡ Device = cc in
        failed_then old mid new (read.same (early mid new a.crash clean)) read.survives (a.device clean (ap Err is));
    undone = λ clean. undone_then old mid new (read.same (early mid new a.crash clean)) (a.undone clean);
    crash = survives_both old mid new read.survives a.crash;
  }

  pub fails_first : {T : Type 0} (says : T → List Entry → Type 0) (old new : State) (fault : Fault)
      → Answers layout Says Good IsSound old new (Err fault)
      → ((tables : Tables) (entries : List Entry) → IsBook entries → StandFor tables entries → IsSound tables)
      → Tells says old new (Err fault)
  fails_first says old new fault a sound = record {
    says = λ clean. tt;
    good = tt;
    same = λ clean. tt;
    damaged = λ clean e limit tables has of_book.
        let is : fault ≡ Damaged = cc in
        a.damaged clean (ap Err is) limit tables has (sound tables of_book.0 of_book.1 of_book.2);
    device = λ clean e. let is : fault ≡ Device = cc in a.device clean (ap Err is);
    undone = a.undone;
    crash = a.crash;
  }

-- two calls one after the other, which tell of the same tables
pub reads_two : {R T : Type 0} (SaysOne : R → Tables → Type 0) (GoodOne : R → Type 0) (IsSoundOne : Tables → Type 0)
    (SaysTwo : T → Tables → Type 0) (GoodTwo : T → Type 0) (IsSoundTwo : Tables → Type 0)
    (says : List Entry → Type 0) (old mid new : State) (one : R) (two : T)
    → Answers layout SaysOne GoodOne IsSoundOne old mid (Ok one) → Answers layout SaysTwo GoodTwo IsSoundTwo mid new (Ok two)
    → ((tables : Tables) (entries : List Entry) → IsBook entries → StandFor tables entries → GoodOne one → SaysOne one tables
    → GoodTwo two → SaysTwo two tables → says entries)
    → HasRead says old new
reads_two SaysOne GoodOne IsSoundOne SaysTwo GoodTwo IsSoundTwo says old mid new one two a b law = record {
  told = λ clean tables has entries book stand.
      let before : HasCleanDisk mid = early mid new b.crash clean in
      law tables entries book stand a.good (a.says before tables has) b.good
      (b.says clean tables (has_still old mid tables (a.same before) has));
  same = λ clean. same_then old mid new (a.same (early mid new b.crash clean)) (b.same clean);
  survives = survives_both old mid new a.crash b.crash;
}

-- what follows of an answer
pub on_ok : {T : Type 0} {One Other : Type 0} (result : Result T Fault) → (One → Other) → OnOk result One → OnOk result Other
on_ok (Ok answer) more one = more one
on_ok (Err fault) more one = tt

-- what is so, whatever the answer
pub if_ok : {T : Type 0} {Other : Type 0} (result : Result T Fault) → Other → OnOk result Other
if_ok (Ok answer) so = so
if_ok (Err fault) so = tt

-- ---- the answer

pub tells : {T : Type 0} (says : T → List Entry → Type 0) (old new : State) (answer : T) → HasRead (says answer) old new
    → Tells says old new (Ok answer)
tells says old new answer read = record {
  says = read.told;
  good = tt;
  same = read.same;
  damaged = λ clean e. cc;
  device = λ clean e. cc;
  undone = λ clean. tt;
  crash = read.survives;
}

-- out of memory
pub stops : {T : Type 0} (was : List Entry → Type 0) (says : T → List Entry → Type 0) (old new : State) (fault : Fault) → fault ≡ Memory
    → HasRead was old new → Tells says old new (Err fault)
stops was says old new fault is read = record {
  says = λ clean. tt;
  good = tt;
  same = λ clean. tt;
  damaged = λ clean e. cc;
  device = λ clean e. cc;
  undone = λ clean. inl (read.same clean);
  crash = read.survives;
}

-- there is no such book
pub denies : {T : Type 0} (says : T → List Entry → Type 0) (old new : State) → HasRead (λ entries. ⊥) old new → Tells says old new (Err Damaged)
denies says old new read = record {
  says = λ clean. tt;
  good = tt;
  same = λ clean. tt;
  damaged = λ clean e limit tables has of_book. read.told clean tables has of_book.0 of_book.1 of_book.2;
  device = λ clean e. cc;
  undone = λ clean. inl (read.same clean);
  crash = read.survives;
}

-- a fault is out of memory, or damage where this isn't so
pub refuses : {T : Type 0} (Is : Type 0) (says : T → List Entry → Type 0) (old new : State) (fault : Fault) → fault ≢ Device
    → (fault ≡ Damaged → ¬ Is) → HasRead (λ entries. Is) old new → Tells says old new (Err fault)
refuses Is says old new Device apart isnt read = absurd (apart refl)
refuses Is says old new Damaged apart isnt read =
    denies says old new (reads_as (λ entries. Is) (λ entries. ⊥) old new read (λ tables entries book stand before. isnt refl before))
refuses Is says old new Memory apart isnt read = stops (λ entries. Is) says old new Memory refl read

-- a fault that is passed on
pub passes : {T : Type 0} (says : T → List Entry → Type 0) (old new : State) (fault : Fault) (result : Result T Fault) → IsErrAnd result (λ e. e ≡ fault)
    → Tells says old new (Err fault) → Tells says old new result
passes says old new fault (Ok answer) is t = absurd is
passes says old new fault (Err e) is t = subst (λ (f : Fault). Tells says old new (Err f)) (sym is) t

-- the last call of several, whose answer is passed on
pub tells_last : {T : Type 0} (was : List Entry → Type 0) (own says : T → List Entry → Type 0) (old mid new : State) (result : Result T Fault)
    → HasRead was old mid → Tells own mid new result
    → ((entries : List Entry) (answer : T) → was entries → own answer entries → says answer entries) → Tells says old new result
tells_last {T} was own says old mid new (Ok answer) read a law =
    tells says old new answer (reads_next (λ (x : T) tables. OfBook (own x) tables) always AreOfBook was (says answer) old mid new answer read a
    (λ tables entries book stand before good told. law entries answer before (told entries book stand)))
tells_last {T} was own says old mid new (Err fault) read a law =
    fails_next (λ (x : T) tables. OfBook (own x) tables) always AreOfBook was says old mid new fault read a (λ tables entries book stand. (entries, book, stand))

-- what is done without the connection, which can only run out of memory
pub tells_done : {T : Type 0} (Done : Type 0) (was : List Entry → Type 0) (says : T → List Entry → Type 0) (old new : State) (result : Result T Fault)
    → HasRead was old new → OnOk result Done → IfErr result (λ fault. fault ≡ Memory)
    → (Done → (entries : List Entry) (answer : T) → was entries → says answer entries) → Tells says old new result
tells_done Done was says old new (Ok answer) read done memory law =
    tells says old new answer (reads_as was (says answer) old new read (λ tables entries book stand before. law done entries answer before))
tells_done Done was says old new (Err fault) read done memory law = stops was says old new fault memory read

-- what is done without the connection, which can run out of memory, and finds damage only where this isn't so
pub tells_checked : {T : Type 0} (Done Is : Type 0) (was : List Entry → Type 0) (says : T → List Entry → Type 0) (old new : State)
    (result : Result T Fault) → HasRead (λ entries. Is × was entries) old new → OnOk result Done → result ≢ Err Device
    → (result ≡ Err Damaged → ¬ Is) → (Done → (entries : List Entry) (answer : T) → was entries → says answer entries)
    → Tells says old new result
tells_checked Done Is was says old new (Ok answer) read done apart isnt law =
    tells says old new answer
    (reads_as (λ entries. Is × was entries) (says answer) old new read (λ tables entries book stand before. law done entries answer before.1))
tells_checked Done Is was says old new (Err fault) read done apart isnt law =
    refuses Is says old new fault (λ e. apart (ap Err e)) (λ e. isnt (ap Err e))
    (reads_as (λ entries. Is × was entries) (λ entries. Is) old new read (λ tables entries book stand before. before.0))
