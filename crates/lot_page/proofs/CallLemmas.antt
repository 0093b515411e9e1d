-- One query after another, of which the first changed nothing.
use Rattle.std.proofs.Common.{inl, OnErr, Ok, Err, Result, ◌∙◌}
use Rattle.sqlite.specs.State.{State}
use Rattle.lot_rows.proofs.StateLemmas.{early, failed_then, has_still, same_then, survives_both, undone_then}
use Rattle.lot_rows.specs.Tables.{Has, Tables, layout}
use Rattle.lot_table.proofs.BookLemmas.{if_ok, on_ok}
use Rattle.lot_table.specs.Book.{always}
use Rattle.lot_table.specs.Call.{Answers}
use Rattle.lot_table.specs.declared.fault.Fault.TheVariants.{Memory}
use Rattle.lot_table.specs.declared.fault.Fault.{Fault}

on_err : {R : Type 0} (result : Result R Fault) (P Q : Type 0) → (P → Q) → OnErr result P → OnErr result Q
on_err (Ok found) P Q f p = tt
on_err (Err fault) P Q f p = f p

module _ {R : Type 0} (Says So : R → Tables → Type 0) where
  -- an answer says all that follows from it
  pub answers_so : (old new : State) (result : Result R Fault) → ((found : R) (b : Tables) → Has old b → Says found b → So found b)
      → Answers layout Says always always old new result → Answers layout So always always old new result
  answers_so old new result so a = record {
    says = λ clean. if_ok result _ _ (λ found told b has. so found b has (told b has)) (a.says clean);
    good = a.good;
    same = a.same;
    damaged = a.damaged;
    device = a.device;
    undone = a.undone;
    crash = a.crash;
  }

  pub answers_ok : (old new : State) (found : R) → ((b : Tables) → Has old b → Says found b → So found b) → Answers layout Says always always old new (Ok found) → Answers layout So always always old new (Ok found)
  answers_ok old new found so a = record {
    says = λ clean b has. so b has (a.says clean b has);
    good = tt;
    same = a.same;
    damaged = a.damaged;
    device = a.device;
    undone = a.undone;
    crash = a.crash;
  }

  -- a failure says nothing of the book
  pub fails_so : (old new : State) (fault : Fault) → Answers layout Says always always old new (Err fault) → Answers layout So always always old new (Err fault)
  fails_so old new fault a = record {
    says = λ clean. tt;
    good = tt;
    same = a.same;
    damaged = a.damaged;
    device = a.device;
    undone = a.undone;
    crash = a.crash;
  }

  module _ (old mid : State) (first : R) (a : Answers layout Says always always old mid (Ok first)) where
    -- there is no memory for what comes next
    pub ends_so : Answers layout So always always old mid (Err Memory)
    ends_so = record {
      says = λ clean. tt;
      good = tt;
      same = λ clean. tt;
      damaged = λ clean is. absurd cc;
      device = λ clean is. absurd cc;
      undone = λ clean. inl (a.same clean);
      crash = a.crash;
    }

    -- what the second says follows from both
    pub answers_then : (Then : R → Tables → Type 0) (new : State) (result : Result R Fault) → ((last : R) (b : Tables) → Has old b → Says first b → Then last b → So last b)
        → Answers layout Then always always mid new result → Answers layout So always always old new result
    answers_then Then new result so n = record {
      says = λ clean.
          let was = early mid new n.crash clean in
          if_ok result _ _ (λ last told b has. so last b has (a.says was b has) (told b (has_still old mid b (a.same was) has))) (n.says clean);
      good = n.good;
      same = λ clean. on_ok result _ _ (same_then old mid new (a.same (early mid new n.crash clean))) (n.same clean);
      damaged = λ clean is unlimited b has. n.damaged clean is (a.crash.limit ∙ unlimited) b (has_still old mid b (a.same (early mid new n.crash clean)) has);
      device = λ clean is. failed_then old mid new (a.same (early mid new n.crash clean)) a.crash (n.device clean is);
      undone = λ clean. on_err result _ _ (undone_then old mid new (a.same (early mid new n.crash clean))) (n.undone clean);
      crash = survives_both old mid new a.crash n.crash;
    }
