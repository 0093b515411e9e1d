-- What is kept of lines, with one line more.
use Rattle.std.specs.Prelude.{◌≡◌, ◌+◌, ℕ, ℤ, Bool, true, false, is_some, cond, List, [], ◌∷◌, ◌++◌, length, Option, None, Some, Result, Ok, Err, IfErr, OnOk}
use Rattle.std.specs.BTreeMap.{BTreeMap, insert_entry}
use Rattle.std.specs.Cmp.{Equal-is}
use Rattle.std.specs.Map.{lookup}
use Rattle.std.specs.Ordering.{is_eq, match_ordering}
use Rattle.std.specs.declared.cmp.Ordering.TheVariants.{Less, Equal, Greater}
use Rattle.std.proofs.Common.{refl, sym, ap, subst, ◌∙◌, arith}
use Rattle.std.proofs.lemmas.Bool.{true≢false}
use Rattle.std.proofs.lemmas.Cmp.{nat_list_cmp_total, tied_itself}
use Rattle.std.proofs.lemmas.List.{append_assoc}
use Rattle.std.proofs.lemmas.Map.Lookups.{exact_bytes}
use Rattle.lot_base.specs.Text.{text_cmp}
use Rattle.lot_tally.proofs.InsertLemmas.{lookup_with}
use Rattle.lot_statement.specs.Line.{GivesLine, IsLine, Line, said_of}
use Rattle.lot_statement.specs.Reading.{Keeps, Takes, TakesRow, fault_at}
use Rattle.lot_statement.specs.Statement.{AreApart, HasSaid}
use Rattle.lot_statement.specs.declared.fault.LineCause.TheVariants.{Length, Commodity, Units, Repeated}
use Rattle.lot_statement.specs.declared.fault.LineFault.{LineFault}
use Rattle.lot_statement.specs.declared.fault.LineFault.TheVariants.{Bad, Memory}

abbrev is_named : List ℕ → List ℕ → Bool
is_named commodity other = is_eq (text_cmp commodity other)

named_is : (a b : List ℕ) → is_named a b ≡ true → a ≡ b
named_is a b e = exact_bytes a b ((Equal-is (text_cmp a b)).0 e)

own : (a : List ℕ) → is_named a a ≡ true
own a = ap is_eq (tied_itself nat_list_cmp_total a)

-- ---- names that don't stand above

never_some : {X : Type 0} (x : X) (rest : Option X) → cond true (Some x) rest ≡ None → ⊥
never_some x rest e = cc e

pub not_some : (o : Option ℤ) → is_some o ≡ false → o ≡ None
not_some None e = refl
not_some (Some x) e = absurd (true≢false e)

-- none of the first line, and none of the others
apart_here : (k : List ℕ) (line : Line) (lines : List Line) → said_of (line ∷ lines) k ≡ None → (is_named k line.0 ≡ false) × (said_of lines k ≡ None)
apart_here k line lines none = by (is_named k line.0) refl
  where
    by : (b : Bool) → is_named k line.0 ≡ b → (is_named k line.0 ≡ false) × (said_of lines k ≡ None)
    by true here = absurd (never_some line.1 (said_of lines k) (ap (λ (c : Bool). cond c (Some line.1) (said_of lines k)) (sym here) ∙ none))
    by false here = (here, ap (λ (c : Bool). cond c (Some line.1) (said_of lines k)) (sym here) ∙ none)

pub said_push : (lines : List Line) (k : List ℕ) (v : ℤ) (q : List ℕ) → said_of lines k ≡ None
    → said_of (lines ++ (k, v) ∷ []) q ≡ cond (is_named q k) (Some v) (said_of lines q)
said_push [] k v q none = refl
said_push (line ∷ lines) k v q none =
    let (other, rest) = apart_here k line lines none in
    ap (cond (is_named q line.0) (Some line.1)) (said_push lines k v q rest)
    ∙ by (is_named q line.0) (is_named q k) refl refl other
  where
    by : (a b : Bool) → is_named q line.0 ≡ a → is_named q k ≡ b → is_named k line.0 ≡ false
        → cond a (Some line.1) (cond b (Some v) (said_of lines q)) ≡ cond b (Some v) (cond a (Some line.1) (said_of lines q))
    by true true first second other =
        absurd (true≢false (sym (own k) ∙ ap (is_named k) (sym (named_is q k second) ∙ named_is q line.0 first) ∙ other))
    by true false first second other = refl
    by false b first second other = refl

pub apart_more : (above lines : List Line) (line : Line) → AreApart above lines → said_of (above ++ lines) line.0 ≡ None
    → AreApart above (lines ++ line ∷ [])
apart_more above [] line apart none = (subst (λ (ls : List Line). said_of ls line.0 ≡ None) (at_end above) none, tt)
  where
    at_end : (ls : List Line) → ls ++ [] ≡ ls
    at_end [] = refl
    at_end (l ∷ ls) = ap (λ (rest : List Line). l ∷ rest) (at_end ls)
apart_more above (first ∷ lines) line apart none = (
  apart.0,
  apart_more (above ++ first ∷ []) lines line apart.1
      (subst (λ (ls : List Line). said_of ls line.0 ≡ None) (sym (append_assoc above (first ∷ []) lines)) none),
)

-- ---- what is kept

-- a new name makes it one longer
longer : (es : List Line) (k : List ℕ) (v : ℤ) → said_of es k ≡ None → length (insert_entry text_cmp es k v) ≡ length es + 1
longer [] k v none = refl
longer (e ∷ es) k v none =
    let (other, rest) = apart_here k e es none in
    let more : length (insert_entry text_cmp es k v) ≡ length es + 1 = longer es k v rest in
    elim (text_cmp k e.0) as (λ r. text_cmp k e.0 ≡ r
    → length (match_ordering {X = List Line} r ((k, v) ∷ e ∷ es) ((e.0, v) ∷ es) (e ∷ insert_entry text_cmp es k v)) ≡ length (e ∷ es) + 1) [
      | Less ↦ λ r. omega arith
      | Equal ↦ λ r. absurd (true≢false (ap is_eq (sym r) ∙ other))
      | Greater ↦ λ r. omega (arith, more)
    ] refl

pub none_said : (said : BTreeMap (List ℕ) ℤ) → said.entries ≡ [] → HasSaid [] said
none_said said none = record { each = λ commodity. ap (λ (es : List Line). said_of es commodity) none; count = ap length none }

line_set : (lines : List Line) (line : Line) (old new : BTreeMap (List ℕ) ℤ) → HasSaid lines old → said_of lines line.0 ≡ None
    → new.entries ≡ insert_entry text_cmp old.entries line.0 line.1 → HasSaid (lines ++ line ∷ []) new
line_set lines line old new has none set = record {
  each = λ q.
      ap (λ (es : List Line). said_of es q) set
      ∙ lookup_with nat_list_cmp_total line.0 line.1 q old.entries
      ∙ ap (cond (is_named q line.0) (Some line.1)) (has.each q)
      ∙ sym (said_push lines line.0 line.1 q none);
  count = ap length set ∙ longer old.entries line.0 line.1 (has.each line.0 ∙ none) ∙ ap (λ (n : ℕ). n + 1) has.count ∙ sym (pushed lines line);
}
  where
    pushed : (ls : List Line) (l : Line) → length (ls ++ l ∷ []) ≡ length ls + 1
    pushed [] l = refl
    pushed (first ∷ ls) l = let more : length (ls ++ l ∷ []) ≡ length ls + 1 = pushed ls l in omega (arith, more)

pub kept : (lines : List Line) (line : Line) (old new : BTreeMap (List ℕ) ℤ) (result : Result (Unit {0}) LineFault)
    → HasSaid lines old → said_of lines line.0 ≡ None
    → OnOk result (new.entries ≡ insert_entry text_cmp old.entries line.0 line.1) → IfErr result (λ fault. fault ≡ Memory)
    → Keeps lines line new result
kept lines line old new (Ok done) has none set cause = (none, line_set lines line old new has none set)
kept lines line old new (Err fault) has none set cause = rw (cause) none

-- ---- a record

pub taken : (lines : List Line) (written : List (List ℕ)) (line : Line) (new : BTreeMap (List ℕ) ℤ) (result : Result (Unit {0}) LineFault)
    → IsLine written line → Keeps lines line new result → Takes lines written new result
taken lines written line new (Ok done) is (none, has) = (line, is, none, has)
taken lines written line new (Err (Bad Repeated)) is some = (line, is, some)
taken lines written line new (Err (Bad Length)) is never = absurd never
taken lines written line new (Err (Bad Commodity)) is never = absurd never
taken lines written line new (Err (Bad Units)) is never = absurd never
taken lines written line new (Err Memory) is says = (line, is)

pub no_line : (lines : List Line) (written : List (List ℕ)) (new : BTreeMap (List ℕ) ℤ) (fault : LineFault)
    → GivesLine written (Err fault) → Takes lines written new (Err fault)
no_line lines written new (Bad Length) says = says
no_line lines written new (Bad Commodity) says = says
no_line lines written new (Bad Units) says = says
no_line lines written new (Bad Repeated) says = absurd says
no_line lines written new Memory says = says

pub faulty_row : (lines : List Line) (written : List (List ℕ)) (new : BTreeMap (List ℕ) ℤ) (row : ℕ) (fault : LineFault)
    → row ≡ length lines + 1 → Takes lines written new (Err fault) → TakesRow lines written new (Err (fault_at row fault))
faulty_row lines written new row (Bad cause) place takes = (place, takes)
faulty_row lines written new row Memory place takes = takes
