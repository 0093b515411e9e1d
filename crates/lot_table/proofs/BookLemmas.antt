-- What a write to one table makes of a book, and writes one after another.
use Rattle.std.proofs.Common.{◌≡◌, ◌≢◌, inl, inr, ℕ, true, true≢false, Result, Ok, Err, IfOk, OnOk, List, [], ◌∷◌, map, sym, subst, ◌∙◌, eqb, eq-eqb}
use Rattle.std.specs.List.{AllByRecursion}
use Rattle.std.proofs.lemmas.Bool.{cases_Bool}
use Rattle.sqlite.specs.Held.{Held, state}
use Rattle.sqlite.specs.Order.{Row}
use Rattle.sqlite.specs.State.{State}
use Rattle.sqlite.specs.Store.{Ghosts}
use Rattle.sqlite.specs.Table as declared
use Rattle.sqlite.specs.Tree.{Trees}
use Rattle.lot_table.specs.Rows.{HasRows}
use Rattle.lot_table.specs.Book.{Slot, IsHeld, AreHeld, with_rows, Layout, Turns, always}

all_mapped : {A B : Type 0} (f : A → B) (P : B → Type 0) (xs : List A) → AllByRecursion (λ a. P (f a)) xs → AllByRecursion P (map f xs)
all_mapped f P [] all = tt
all_mapped f P (x ∷ xs) all = (all.0, all_mapped f P xs all.1)

all_unmapped : {A B : Type 0} (f : A → B) (P : B → Type 0) (xs : List A) → AllByRecursion P (map f xs) → AllByRecursion (λ a. P (f a)) xs
all_unmapped f P [] all = tt
all_unmapped f P (x ∷ xs) all = (all.0, all_unmapped f P xs all.1)

-- ---- the table of this tree has these rows now, and the others are as they were

module _ (tree width : ℕ) (rows : List Row) (old new : Trees) (put : HasRows width (new tree) rows) where
  held_one : (slot : Slot) → (slot.tree ≢ tree → new slot.tree ≡ old slot.tree) → IsHeld old slot → IsHeld new (with_rows tree width rows slot)
  held_one slot apart had = elim (cases_Bool (eqb slot.tree tree)) [
    | inl here ↦ rw here put
    | inr other ↦ rw other (subst (λ stored. HasRows slot.width stored slot.rows) (sym (apart (λ e. true≢false (sym (eq-eqb slot.tree tree e) ∙ other)))) had)
  ]

  held_each : (slots : List Slot) → AllByRecursion (λ slot. slot.tree ≢ tree → new slot.tree ≡ old slot.tree) slots → AreHeld old slots → AreHeld new (map (with_rows tree width rows) slots)
  held_each [] apart all = tt
  held_each (slot ∷ slots) apart all = (held_one slot apart.0 all.0, held_each slots apart.1 all.1)

  -- the slots have the trees of the tables, in their order
  pub held_all : (slots : List Slot) (tables : List declared.Table) → map (λ (slot : Slot). slot.tree) slots ≡ map (λ (t : declared.Table). t.tree) tables
      → AllByRecursion (λ (t : declared.Table). t.tree ≢ tree → new t.tree ≡ old t.tree) tables → AreHeld old slots → AreHeld new (map (with_rows tree width rows) slots)
  held_all slots tables aligned frame =
      let Apart : ℕ → Type 0 = λ n. n ≢ tree → new n ≡ old n in
      held_each slots (all_unmapped (λ (slot : Slot). slot.tree) Apart slots (subst (AllByRecursion Apart) (sym aligned) (all_mapped (λ (t : declared.Table). t.tree) Apart tables frame)))

-- ---- writes, one after another

module _ {B : Type 0} (layout : Layout B) where
  pub turns_then : (p q : B → Type 0) (f g : B → B) (a b c : State) → Turns layout p f a b → Turns layout q g b c → Turns layout (λ x. p x × q (f x)) (λ x. g (f x)) a c
  turns_then p q f g a b c first second = record {
    book = λ is. second.book (first.book is);
    lists = λ is x holds fits. second.lists (first.book is) (f x) (first.lists is x holds fits.0) fits.1;
  }

  pub turns_none : (a : State) → Turns layout always (λ x. x) a a
  turns_none a = record { book = λ is. is; lists = λ is x holds fits. holds }

  -- the transaction began before it
  pub turns_begun : {S : Type 0} (g : Ghosts S) (old begun : Held S) (p : B → Type 0) (f : B → B) (new : State) → begun ≡ record old { in_transaction = true }
      → Turns layout p f (state g begun) new → Turns layout p f (state g old) new
  turns_begun g old begun p f new is turns =
      let t = subst (λ h. Turns layout p f (state g h) new) is turns in record { book = t.book; lists = t.lists }

-- ---- what a call says in every case

pub on_ok : {A E : Type 0} (result : Result A E) (P Q : Type 0) → (P → Q) → OnOk result P → OnOk result Q
on_ok (Ok a) P Q f h = f h
on_ok (Err e) P Q f h = h

pub if_ok : {A E : Type 0} (result : Result A E) (P Q : A → Type 0) → ((a : A) → P a → Q a) → IfOk result P → IfOk result Q
if_ok (Ok a) P Q f h = f a h
if_ok (Err e) P Q f h = h
