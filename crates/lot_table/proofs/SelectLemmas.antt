-- What kind of statement a text is, under any schema.
use Rattle.std.proofs.Common.{◌≡◌, ◌⊎◌, inl, inr, ℕ, ◌+◌, Option, true, None, Some, Ok, Err, List, refl, sym, ap, subst, ◌∙◌, true≢false}
use Rattle.std.proofs.lemmas.Bool.{cases_Bool}
use Rattle.sqlite.specs.Schema.{Schema}
use Rattle.sqlite.specs.Command.{Command}
use Rattle.sqlite.specs.Compile.{compiled, first, planned, meaning, command, returning, timed, small}
use Rattle.sqlite_resolve.specs.Scope.{Name}
use Rattle.sqlite_schema.specs.declared.command.Returning.{Returning}
use Rattle.sqlite.specs.Order.{Row}
use Rattle.sqlite.specs.State.{State, IsUnchanged, IsRolledBack, Survives, Shown, ShowsRows, FailsToQuery, FailsToShow, IsNotRun, CommitsShowing}
use Rattle.sqlite.specs.Clock.{timed as times}
use Rattle.sqlite.specs.declared.error.Error.{Error}
use Rattle.sqlite.proofs.StateLemmas.{survives_weaker}
use Rattle.sqlite.specs.Listing.{understood, reads_listing, listing_schema, if_select, is_select as is_select_command}
use Rattle.lot_table.specs.Statement.{IsSelect, is_select}
use Rattle.sqlite_ast.specs.declared.Statement.{Statement}
use Rattle.sqlite_ast.specs.declared.Statement.TheVariants as written
use Rattle.sqlite_syntax.specs.declared.statement.Parsed.{Parsed}
use Rattle.sqlite_resolve.specs.declared.compiled.Compiled.{Compiled}
use Rattle.sqlite_resolve.specs.Lowering.{Checked, and_then}

and_then_ok : {A B : Type 0} (r : Checked A) (f : A → Checked B) (b : B) → and_then r f ≡ Ok b → (a : A) × (r ≡ Ok a) × (f a ≡ Ok b)
and_then_ok (Ok a) f b h = (a, refl, h)
and_then_ok (Err e) f b h = absurd (cc)

silent_statement : (s : Schema) (base : ℕ) (it : Statement) → is_select it ≡ true → returning s base it ≡ Ok None
unfolding returning
silent_statement s base (written.Select q) h = refl
silent_statement s base _ h = absurd (true≢false (sym h))

same_ok : {A : Type 0} {a b : A} → ◌≡◌ {A = Checked A} (Ok a) (Ok b) → a ≡ b
same_ok e = cc

module _ (text : List ℕ) (p : Parsed) (parsed : first text ≡ Ok p) (selects : is_select p.statement ≡ true) where
  silent : (s : Schema) (c : Compiled) → compiled s text ≡ Ok c → c.returning ≡ None
  unfolding compiled planned meaning
  silent s c h =
      let a = and_then_ok (first text) _ c h in
      let same : a.0 ≡ p = same_ok (sym a.1 ∙ parsed) in
      let b = and_then_ok (planned s a.0) _ c a.2 in
      let formats = timed s a.0.formats a.0.statement in
      let base = small a.0.names + small formats in
      let m = and_then_ok (meaning s a.0 base) (λ (found : Command × Option Returning). Ok (formats, found)) b.0 b.1 in
      let r = and_then_ok (returning s base a.0.statement) (λ shown. and_then (command s a.0.formats base a.0.statement) (λ k. Ok (k, shown))) m.0 m.1 in
      let k = and_then_ok (command s a.0.formats base a.0.statement) (λ (it : Command). Ok (it, r.0)) m.0 r.2 in
      let none : r.0 ≡ None = same_ok (sym r.1 ∙ ap (λ (q : Parsed). returning s base q.statement) same ∙ silent_statement s base p.statement selects) in
      ap (λ (x : Compiled). x.returning) (sym (same_ok b.2)) ∙ ap (λ (x : List Name × (Command × Option Returning)). x.1.1) (sym (same_ok m.2)) ∙ ap (λ (x : Command × Option Returning). x.1) (sym (same_ok k.2)) ∙ none

  if_selected : (r : Checked Compiled) (c : Compiled) → if_select r ≡ Ok c → r ≡ Ok c
  if_selected (Ok d) c h = elim (cases_Bool (is_select_command d.command)) [
    | inl yes' ↦ rw yes' at h
    | inr no' ↦ absurd (let e = rw no' at h in cc)
  ]
  if_selected (Err e) c h = absurd cc

  pub silent_text : (s : Schema) (c : Compiled) → understood s text ≡ Ok c → c.returning ≡ None
  unfolding understood
  silent_text s c h = elim (cases_Bool (reads_listing s text)) [
    | inl lists ↦ silent listing_schema c (if_selected (compiled listing_schema text) c (rw lists at h))
    | inr reads ↦ silent s c (rw reads at h)
  ]

-- ---- what a query leaves

pub fails_undone : (sql : List ℕ) (params : Row) (old new : State) (e : Error) → FailsToQuery sql params old new e → IsUnchanged old new ⊎ IsRolledBack old new
unfolding FailsToQuery IsNotRun
fails_undone sql params old new e (inl (inl refused)) = inl refused.1
fails_undone sql params old new e (inl (inr fails)) = inr fails.3
fails_undone sql params old new e (inr (c, it, h)) = go c.returning h
  where
    go : (what : Option Returning) → FailsToShow old new sql c (times params c.formats it.now) e what → IsUnchanged old new ⊎ IsRolledBack old new
    go None h = inl h.3
    go (Some what) (inl h) = inl h.1
    go (Some what) (inr fails) = inr fails.3

module _ (text : List ℕ) (it : IsSelect text) where
  pub commits_nothing : (params : Row) (old new : State) → Survives old new (CommitsShowing text params old) → Survives old new (λ _. ⊥)
  unfolding CommitsShowing
  commits_nothing params old new = survives_weaker old new _ _ (λ _ db h. true≢false (sym (rw (silent_text text it.0 it.1 it.2 old.now.schema h.0 h.1.is) at h.2)))

  pub shown_same : (params : Row) (old new : State) (rows : List Row) → Shown text params old new rows → IsUnchanged old new
  unfolding Shown
  shown_same params old new rows h =
      let none = silent_text text it.0 it.1 it.2 old.now.schema h.0 h.1.is in
      (subst (ShowsRows old new text h.0 (times params h.0.formats h.1.now) rows) none h.2).3
