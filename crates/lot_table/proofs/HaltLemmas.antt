-- Why a change that a text asks for is refused: the store failed, or what the command does is refused.
use Rattle.std.proofs.Common.{◌≡◌, ◌⊎◌, inl, inr, ℕ, Bool, true, false, ◌||◌, Option, None, Some, Result, Ok, Err, List, length, append-nil, refl, sym, ap, subst, subst₂, ◌∙◌, true≢false}
use Rattle.sqlite.specs.Command.TheVariants.{CreateTable, Delete, Insert, InsertOr, Update}
use Rattle.sqlite.specs.Command.{Command}
use Rattle.sqlite.specs.Clock.{timed}
use Rattle.sqlite.specs.Does.{Does, Tally}
use Rattle.sqlite.specs.Effect.{Database, is_query}
use Rattle.sqlite.specs.Listing.{understood}
use Rattle.sqlite.specs.Order.{Row}
use Rattle.sqlite.specs.Schema.{Schema}
use Rattle.sqlite.specs.State.{EndsScope, Escapes, Executes, ExecutesIn, ExecutesInside, Fails, HasCause, IsMisplaced, IsNotRun, IsStatement, RunsAlone, State, is_pragma, mode_of, shows_rows, text_of}
use Rattle.sqlite.specs.declared.error.Error.{Error}
use Rattle.sqlite_resolve.specs.declared.compiled.Compiled.{Compiled}
use Rattle.sqlite_trees.specs.declared.error.StoreError.TheVariants as store
use Rattle.sqlite_trees.specs.declared.error.StoreError.{StoreError}
use Rattle.sqlite.proofs.Callers.{IsPlain, command_of, statement_of}
use Rattle.lot_table.proofs.RefusalLemmas.{IsWhole, is_statement}

-- a command that changes a table, and is no part of a transaction's frame
abbrev pub is_change : Command → Bool
is_change (Insert at from) = true
is_change (InsertOr at way from clauses) = true
is_change (Update at q) = true
is_change (Delete at q) = true
is_change CreateTable = true
is_change _ = false

cause_weaker : (old new : State) (P Q : Type 0) → (P → Q) → (cause : StoreError) → HasCause old new P cause → HasCause old new Q cause
cause_weaker old new P Q f store.OutOfMemory h = h
cause_weaker old new P Q f store.Io h = h
cause_weaker old new P Q f store.Corrupt h = h
cause_weaker old new P Q f store.Full h = h
cause_weaker old new P Q f store.Broken h = h
cause_weaker old new P Q f store.Unstorable h = f h

fails_weaker : (old new : State) (P Q : Type 0) (e : Error) → (P → Q) → Fails old new P e → Fails old new Q e
fails_weaker old new P Q e f fails = (fails.0, fails.1, cause_weaker old new P Q f fails.0 fails.2, fails.3, fails.4)

shown_not : (command : Command) → is_change command ≡ true → (is_query command || (is_pragma command || false)) ≡ false
shown_not (Insert at from) change = refl
shown_not (InsertOr at way from clauses) change = refl
shown_not (Update at q) change = refl
shown_not (Delete at q) change = refl
shown_not CreateTable change = refl
shown_not _ change = absurd (true≢false (sym change))

module _ (command : Command) (change : is_change command ≡ true) where
  other : (framing : Command) → is_change framing ≡ false → command ≡ framing → ⊥
  other framing apart same = true≢false (sym change ∙ ap is_change same ∙ apart)

  placed : (s : State) (e : Error) → IsMisplaced s command e → ⊥
  placed s e (inl (named, inl begins)) = other _ refl begins.0
  placed s e (inl (named, inr (inl commits, outside))) = other _ refl commits
  placed s e (inl (named, inr (inr rolls, outside))) = other _ refl rolls
  placed s e (inr (named, name, inl releases, unnamed)) = other _ refl releases
  placed s e (inr (named, name, inr back, unnamed)) = other _ refl back

  module _ (text : List ℕ) (params : Row) (old new : State) (schema : Schema) (has : old.now.schema ≡ schema) (bare : IsPlain (understood schema text)) (whole : IsWhole text (length params) (understood schema text))
      (means : command_of (understood schema text) ≡ command) where
    -- what the command does, so that the store fails or it is refused
    abbrev pub Doing : Result (Tally × Database) (Option Error) → Type 0
    Doing = Does old.step_limit (mode_of old) params old.now (statement_of text (understood schema text)) None command

    abbrev pub Halted : Error → Type 0
    Halted e = Fails old new (Doing (Err None)) e ⊎ Doing (Err (Some e))

    halted_run : (e : Error) (c : Compiled) (it : IsStatement old text params c) → RunsAlone false old new text c (timed params c.formats it.now) (Err e) → Halted e
    halted_run e c it ran =
        let known : understood schema text ≡ Ok c = ap (λ s. understood s text) (sym has) ∙ it.is in
        let plain = subst IsPlain known bare in
        let same : c.command ≡ command = ap command_of (sym known) ∙ means in
        let doing : (out : Result (Tally × Database) (Option Error)) → Does old.step_limit (mode_of old) (timed params c.formats it.now) old.now (text_of text c) c.returning c.command out → Doing out =
        λ out does. subst₂ (λ k t. Does old.step_limit (mode_of old) params old.now t None k out) same (ap (statement_of text) (sym known)) (rw (plain.0, plain.1, append-nil params) at does) in
        let quiet : shows_rows false c ≡ false = rw (same, plain.0) (shown_not command change) in
        elim (rw quiet at ran) [
          | inl (why, unchanged) ↦ elim why [
            | inl misplaced ↦ absurd (placed old e (subst (λ k. IsMisplaced old k e) same misplaced))
            | inr refused ↦ inr (doing (Err (Some e)) refused.1)
          ]
          | inr fails ↦ inl (fails_weaker old new _ _ e (doing (Err None)) fails)
        ]

    halted_in : (e : Error) → Executes text params old new (Err e) → Halted e
    unfolding ExecutesIn IsNotRun
    halted_in e (inl (inl (none, same))) = absurd (is_statement text params old new schema has bare whole e none)
    halted_in e (inl (inr fails)) = inl (fails_weaker old new _ _ e absurd fails)
    halted_in e (inr (c, it, ran)) = halted_run e c it ran

    escapes_not : (k : Command) → k ≡ command → Escapes 0 old k → ⊥
    escapes_not k same (inl (inl commits)) = other _ refl (sym same ∙ commits)
    escapes_not k same (inl (inr rolls)) = other _ refl (sym same ∙ rolls)
    escapes_not k same (inr (name, inl releases, held)) = other _ refl (sym same ∙ releases)
    escapes_not k same (inr (name, inr back, held)) = other _ refl (sym same ∙ back)

    pub halted : (e : Error) → ExecutesInside 0 text params old new (Err e) → Halted e
    unfolding EndsScope
    halted e (inl (ran, left)) = halted_in e ran
    halted e (inr ((c, it, escapes), named, left)) =
        absurd (escapes_not c.command (ap command_of (sym (ap (λ s. understood s text) (sym has) ∙ it.is)) ∙ means) escapes)
