-- The last of a list of commands.
use Rattle.std.proofs.Common.{◌≡◌, ℕ, ◌+◌, ◌-◌, ◌<◌, true, false, List, [], ◌∷◌, ◌++◌, length, take, get_or, suc, refl, ap, ◌∙◌, sym, arith}
use Rattle.std.proofs.Math.ListN.{set}
use Rattle.std.proofs.lemmas.List.{drop_all, drop_more, set_split, set-get_or, take-append-drop}
use Rattle.lot_command.specs.declared.command.Command.{Command}
use Rattle.lot_command.specs.declared.command.Command.TheVariants.{Transaction}
use Rattle.lot_command.specs.declared.transaction.Posting.{Posting}
use Rattle.lot_command.specs.declared.transaction.Transaction.{Transaction as TransactionOf}
use Rattle.lot_read.specs.Text.{is_transaction, takes_posting}
use Rattle.lot_read.specs.Reading.{Posted}

-- the last command stands at a place
pub record IsLast (commands : List Command) (at : ℕ) (last : Command) : Type 0 where
  pub some : 0 < length commands
  pub place : at ≡ length commands - 1
  pub is : last ≡ get_or commands at last

last_is : (commands : List Command) (at : ℕ) (last : Command) → IsLast commands at last → commands ≡ take at commands ++ last ∷ []
last_is commands at last h =
    let some : 0 < length commands = h.some in
    let place : at ≡ length commands - 1 = h.place in
    sym (take-append-drop at commands)
    ∙ ap (λ xs. take at commands ++ xs)
    (drop_more commands at last (omega arith) ∙ ap (λ xs. get_or commands at last ∷ xs) (drop_all (at + 1) commands (omega arith))
    ∙ ap (λ x. x ∷ []) (sym h.is))

set_last : (commands : List Command) (at : ℕ) (last next : Command) → IsLast commands at last → set commands at next ≡ take at commands ++ next ∷ []
set_last commands at last next h =
    let some : 0 < length commands = h.some in
    let place : at ≡ length commands - 1 = h.place in
    set_split commands at next (omega arith) ∙ ap (λ xs. take at commands ++ next ∷ xs) (drop_all (suc at) commands (omega arith))

-- a posting may follow a transaction alone
takes_last : (front : List Command) (last : Command) → takes_posting (front ++ last ∷ []) ≡ is_transaction last
takes_last [] last = refl
takes_last (command ∷ []) last = refl
takes_last (command ∷ next ∷ front) last = takes_last (next ∷ front) last

pub takes_by_last : (commands : List Command) (at : ℕ) (last : Command) → IsLast commands at last → takes_posting commands ≡ is_transaction last
takes_by_last commands at last h = ap takes_posting (last_is commands at last h) ∙ takes_last (take at commands) last

other_last : (last : Command) → ((t : TransactionOf) → last ≡ Transaction t → ⊥) → is_transaction last ≡ false
other_last (Transaction t) other = absurd (other t refl)
other_last _ other = refl

pub takes_other : (commands : List Command) (at : ℕ) (last : Command) → IsLast commands at last
    → ((t : TransactionOf) → last ≡ Transaction t → ⊥) → takes_posting commands ≡ false
takes_other commands at last h other = takes_by_last commands at last h ∙ other_last last other

-- the posting is the last of the last transaction
pub posted : (commands : List Command) (at : ℕ) (last : Command) (t : TransactionOf) (posting : Posting) (postings : List Posting)
    → IsLast commands at last → last ≡ Transaction t → postings ≡ t.postings ++ posting ∷ []
    → Posted posting commands
    (set commands at (Transaction (record { day = t.day; flag = t.flag; narration = t.narration; postings = postings })))
posted commands at last t posting postings h is more = record {
  front = take at commands;
  last = t;
  old = last_is commands at last h ∙ ap (λ x. take at commands ++ x ∷ []) is;
  new = set_last commands at last _ h
      ∙ ap (λ ps. take at commands ++ Transaction (record { day = t.day; flag = t.flag; narration = t.narration; postings = ps }) ∷ []) more;
}

-- the last transaction, with the same postings
pub left_alone : (commands : List Command) (at : ℕ) (last : Command) (t : TransactionOf) (postings : List Posting)
    → IsLast commands at last → last ≡ Transaction t → postings ≡ t.postings
    → set commands at (Transaction (record { day = t.day; flag = t.flag; narration = t.narration; postings = postings })) ≡ commands
left_alone commands at last t postings h is same =
    ap (λ ps. set commands at (Transaction (record { day = t.day; flag = t.flag; narration = t.narration; postings = ps }))) same
    ∙ ap (set commands at) (sym is ∙ h.is) ∙ set-get_or commands at last

-- commands that a posting may follow end with a transaction
pub record EndsWithTransaction (commands : List Command) : Type 0 where
  pub front : List Command
  pub last : TransactionOf
  pub whole : commands ≡ front ++ Transaction last ∷ []

pub ends_with : (commands : List Command) → takes_posting commands ≡ true → EndsWithTransaction commands
ends_with [] e = cc
ends_with (Transaction t ∷ []) e = record { front = []; last = t; whole = refl }
ends_with (command ∷ []) e = cc
ends_with (command ∷ next ∷ commands) e =
    let more = ends_with (next ∷ commands) e in
    record { front = command ∷ more.front; last = more.last; whole = ap (λ xs. command ∷ xs) more.whole }
