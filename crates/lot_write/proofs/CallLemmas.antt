-- Writes one after another.
use Rattle.std.proofs.Common.{◌≡◌, inl, inr, ◌<◌, ◌≤◌, ◌+◌, ℕ, IsTrue, add-one, drop, get_or, length, Err, Result, List, [], ◌∷◌, ◌++◌, refl, sym, ap, subst, take, ◌∙◌, arith}
use Rattle.std.proofs.Math.Seq.{take-suc}
use Rattle.std.proofs.lemmas.Bool.{both_ways, cases_Bool}
use Rattle.std.proofs.lemmas.List.{append_assoc, length-take-le, take-append-drop}
use Rattle.sqlite.specs.Effect.{Database}
use Rattle.sqlite.specs.State.{HasCleanDisk, KeepsCommit, State, Survives}
use Rattle.sqlite.proofs.StateLemmas.{survives_then}
use Rattle.lot_table.proofs.BookLemmas.{turns_then}
use Rattle.lot_table.proofs.MakeLemmas.{keeps_then, keeps_undone}
use Rattle.lot_table.specs.Book.{Holds, IsUndone, Turns, always}
use Rattle.lot_table.proofs.RowidLemmas.{each_in_reach, each_then}
use Rattle.lot_table.specs.Rowids.{EachStaysInReach}
use Rattle.lot_table.specs.Statement.{DiskFailed}
use Rattle.lot_table.specs.declared.fault.Fault.{Fault}
use Rattle.lot_rows.specs.Tables.{Tables, layout}
use Rattle.lot_write.specs.Call.{GivesRowids, WritesAll, WritesOne}
use Rattle.lot_write.specs.Write.{AreFit, Fits, written, written_all}
use Rattle.lot_write.specs.declared.write.Write.{Write}

written_push : (writes : List Write) (write : Write) (tables : Tables) → written write (written_all writes tables) ≡ written_all (writes ++ write ∷ []) tables
written_push [] write tables = refl
written_push (first ∷ more) write tables = written_push more write (written first tables)

fit_push : (writes : List Write) (write : Write) (tables : Tables) → AreFit (writes ++ write ∷ []) tables → AreFit writes tables × Fits write (written_all writes tables)
fit_push [] write tables fit = (tt, fit.0)
fit_push (first ∷ more) write tables fit = let rest = fit_push more write (written first tables) fit.1 in ((fit.0, rest.0), rest.1)

pub turns_push : (writes : List Write) (write : Write) (a b c : State) → Turns layout always (written_all writes) a b
    → Turns layout always (written write) b c → Turns layout always (written_all (writes ++ write ∷ [])) a c
turns_push writes write a b c first second =
    let both = turns_then layout always always (written_all writes) (written write) a b c first second in
    record {
      book = both.book;
      lists = λ is tables holds _. subst (λ t. Holds layout c.now.trees t) (written_push writes write tables) (both.lists is tables holds (tt, tt));
    }

-- the first n and the next one
pub taken : {X : Type 0} (xs : List X) (n : ℕ) (x d : X) → n < length xs → x ≡ get_or xs n d → take (n + 1) xs ≡ take n xs ++ x ∷ []
taken xs n x d low is = rw add-one (take-suc xs n d low ∙ ap (λ y. take n xs ++ y ∷ []) (sym is))

-- each of the first n is one change
pub rowids_start : (s : State) → GivesRowids 0 s s
rowids_start s tables has = each_in_reach s.now.trees layout.schema.tables

pub rowids_push : (n : ℕ) (a b c : State) (f : Tables → Tables) → Turns layout always f a b → GivesRowids n a b → GivesRowids 1 b c
    → GivesRowids (n + 1) a c
rowids_push n a b c f turns first next tables has =
    subst (λ k. EachStaysInReach k layout.schema a.now.trees c.now.trees) (omega arith)
    (each_then n 1 a.now.trees b.now.trees c.now.trees layout.schema.tables (first tables has)
    (next (f tables) (turns.book has.0, turns.lists has.0 tables has.1 tt)))

fit_first : (first second : List Write) (tables : Tables) → AreFit (first ++ second) tables → AreFit first tables
fit_first [] second tables fit = tt
fit_first (one ∷ more) second tables fit = (fit.0, fit_first more second (written one tables) fit.1)

-- ---- a failure of the device

-- where the disk fails later it failed
failed_later : (a b c : State) → Survives a b (λ _. ⊥) → HasCleanDisk b → b.faults ≤ c.faults → DiskFailed b c → DiskFailed a c
failed_later a b c first clean up (inl fault) = inl (omega (arith, first.counts, fault))
failed_later a b c first clean up (inr shut) = elim (cases_Bool a.is_open) [
  | inl live ↦ elim (first.closes clean live) [ inl still ↦ absurd (both_ways _ shut still) | inr fault ↦ inl (omega (arith, up, fault)) ]
  | inr dead ↦ inr dead
]

-- what a write that failed found stands, unless the transaction is undone
stood : (a b : State) → IsUndone a b → IsTrue b.in_transaction → b.now.trees ≡ a.now.trees
stood a b (inl same) live = ap (λ (d : Database). d.trees) same.0.now_is
stood a b (inr undone) live = absurd (both_ways _ undone.autocommit live)

-- a write after others failed
pub failed_next : {A : Type 0} (writes : List Write) (n : ℕ) (write : Write) (old now new : State) (fault : Fault) (result : Result A Fault)
    → take (n + 1) writes ≡ take n writes ++ write ∷ [] → n < length writes → Survives old now (λ _. ⊥)
    → (HasCleanDisk now → KeepsCommit old now × Turns layout always (written_all (take n writes)) old now × GivesRowids n old now)
    → WritesOne {A = A} write now new (Err fault) → result ≡ Err fault → WritesAll writes old new result
failed_next writes n write old now new fault result next low before made failed is =
    let early : HasCleanDisk new → HasCleanDisk now = λ clean. omega (arith, failed.crash.clean, clean) in
    subst (WritesAll writes old new) (sym is) (record {
      inside = λ clean. tt;
      turns = λ clean. tt;
      rowids = λ clean. tt;
      damaged = λ clean damaged free tables fit has.
          let all = fit_push (take n writes) write tables (subst (λ l. AreFit l tables) next (fit_first (take (n + 1) writes) (drop (n + 1) writes) tables (subst (λ l. AreFit l tables) (sym (take-append-drop (n + 1) writes)) fit))) in
          let turns = (made (early clean)).1 in
          failed.damaged clean damaged (before.limit ∙ free) (written_all (take n writes) tables) all.1 (turns.book has.0, turns.lists has.0 tables has.1 tt);
      device = λ clean device tables fit has.
          let all = fit_push (take n writes) write tables (subst (λ l. AreFit l tables) next (fit_first (take (n + 1) writes) (drop (n + 1) writes) tables (subst (λ l. AreFit l tables) (sym (take-append-drop (n + 1) writes)) fit))) in
          let turns = (made (early clean)).1 in
          let holds = turns.lists has.0 tables has.1 tt in
          elim (failed.device clean device (written_all (take n writes) tables) all.1 (turns.book has.0, holds)) [
            | inl disk ↦ inl (failed_later old now new before (early clean) failed.crash.counts disk)
            | inr lacks ↦ inr (record {
              made = take n writes;
              next = write;
              left = drop (n + 1) writes;
              trees = now.now.trees;
              split = sym (take-append-drop (n + 1) writes) ∙ ap (λ l. l ++ drop (n + 1) writes) next ∙ append_assoc (take n writes) (write ∷ []) (drop (n + 1) writes);
              holds = holds;
              reach = subst (λ k. EachStaysInReach k layout.schema old.now.trees now.now.trees) (sym (length-take-le n writes (omega (arith, low)))) ((made (early clean)).2 tables has);
              lacks = lacks;
              stands = stood now new (failed.undone clean);
            })
          ];
      kept = λ clean. keeps_then old now new (made (early clean)).0 (keeps_undone now new (failed.undone clean));
      crash = survives_then old now new (λ _. ⊥) (λ _. ⊥) (λ _. ⊥) (λ _ db none. none) (λ _ db none. none) before failed.crash;
    })
