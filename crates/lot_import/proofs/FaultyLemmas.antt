-- Which of the causes fail.
use Rattle.std.specs.Prelude.{Bool, IsTrue, Result, Ok, Err, is_ok}
use Rattle.std.proofs.Common.{◌≡◌, ◌+◌, ◌<◌, ℕ, List, [], ◌∷◌, ◌++◌, length, get_or, take, refl, sym, ◌∙◌, ap, subst, inl, inr}
use Rattle.std.proofs.lemmas.Bool.{false≢true}
use Rattle.std.proofs.lemmas.List.{take_more}
use Rattle.lot_import.specs.Column.{GivesField}
use Rattle.lot_import.specs.Row.{AreFailing, FirstFailing, HasCauses, IsFaulty, Passes, PassesAlone, causes}
use Rattle.lot_import.specs.declared.fault.Cause.{Cause}
use Rattle.lot_import.specs.declared.fault.Cause.TheVariants as Causes
use Rattle.lot_import.specs.declared.version.Version.{Version}

-- ---- One column.

-- a column says something exactly where it was read
pub column_read : {A : Type 0} (Says : List ℕ → A → Type 0) (cause : Cause) (f g : List ℕ) (read : Result A Cause) (ok : Bool)
    → f ≡ g → GivesField (Says f) cause read → ok ≡ is_ok read
    → (IsTrue ok → (value : A) × Says g value) × ((value : A) × Says g value → IsTrue ok)
column_read {A} Says cause f g (Ok value) ok e h o = ((λ is. (value, subst (λ (x : List ℕ). Says x value) e h)), (λ says. o))
column_read {A} Says cause f g (Err told) ok e h o =
    ((λ is. absurd (false≢true (sym o ∙ is))), (λ says. absurd (h.1 says.0 (subst (λ (x : List ℕ). Says x says.0) (sym e) says.1))))

-- ---- One more cause.

module _ (Passing : Cause → Type 0) where
  more_passing : (cs failing : List Cause) (c : Cause) → AreFailing Passing cs failing → Passing c → AreFailing Passing (cs ++ c ∷ []) failing
  more_passing [] failing c h p = inl (p, h)
  more_passing (x ∷ cs) failing c (inl (passes, others)) p = inl (passes, more_passing cs failing c others p)
  more_passing (x ∷ cs) failing c (inr (fails, rest, is, others)) p = inr (fails, rest, is, more_passing cs rest c others p)

  more_failing : (cs failing : List Cause) (c : Cause) → AreFailing Passing cs failing → (Passing c → ⊥)
      → AreFailing Passing (cs ++ c ∷ []) (failing ++ c ∷ [])
  more_failing [] failing c h f = inr (f, [], ap (λ (xs : List Cause). xs ++ c ∷ []) h, refl)
  more_failing (x ∷ cs) failing c (inl (passes, others)) f = inl (passes, more_failing cs failing c others f)
  more_failing (x ∷ cs) failing c (inr (fails, rest, is, others)) f =
      inr (fails, rest ++ c ∷ [], ap (λ (xs : List Cause). xs ++ c ∷ []) is, more_failing cs rest c others f)

  -- with the cause at the next place
  module _ (cs failing : List Cause) (i : ℕ) (d : Cause) (within : i < length cs) (so : AreFailing Passing (take i cs) failing) where
    pub next_passing : Passing (get_or cs i d) → AreFailing Passing (take (i + 1) cs) failing
    next_passing p =
        subst (λ (taken : List Cause). AreFailing Passing taken failing) (sym (take_more cs i d within))
        (more_passing (take i cs) failing (get_or cs i d) so p)

    pub next_failing : (Passing (get_or cs i d) → ⊥) → AreFailing Passing (take (i + 1) cs) (failing ++ get_or cs i d ∷ [])
    next_failing f =
        subst (λ (taken : List Cause). AreFailing Passing taken (failing ++ get_or cs i d ∷ [])) (sym (take_more cs i d within))
        (more_failing (take i cs) failing (get_or cs i d) so f)

-- ---- All causes, and the first.

-- where the causes before pass by either rule, a cause passes by one where it does by the other
abbrev Agree : (P Q : Cause → Type 0) → List Cause → Type 0
Agree P Q [] = Unit {0}
Agree P Q (c ∷ cs) = (P c → Q c) × (Q c → P c) × (P c → Agree P Q cs)

first_of : (P Q : Cause → Type 0) (cs : List Cause) (cause : Cause) (failing : List Cause) → Agree P Q cs
    → FirstFailing P cs cause → AreFailing Q cs failing → (others : List Cause) × (failing ≡ cause ∷ others)
first_of P Q [] cause failing agree first all = absurd first
first_of P Q (c ∷ cs) cause failing agree (inl (is, fails)) (inl (passes, more)) = absurd (fails (agree.1 passes))
first_of P Q (c ∷ cs) cause failing agree (inl (is, fails)) (inr (not, others, e, more)) = (others, rw is e)
first_of P Q (c ∷ cs) cause failing agree (inr (passes, first)) (inl (same, more)) = first_of P Q cs cause failing (agree.2 passes) first more
first_of P Q (c ∷ cs) cause failing agree (inr (passes, first)) (inr (fails, others, e, more)) = absurd (fails (agree.0 passes))

lot_alone : (version : Version) (written : List (List ℕ)) → Passes version written Causes.Lot → PassesAlone version written Causes.Lot
lot_alone version written (action, says, lot, has) = (action, inl says, lot, has)

lot_beside : (version : Version) (written : List (List ℕ)) → Passes version written Causes.Action → PassesAlone version written Causes.Lot
    → Passes version written Causes.Lot
lot_beside version written said (action, inl says, lot, has) = (action, says, lot, has)
lot_beside version written said (action, inr (none, is), lot, has) = absurd (none said.0 said.1)

agreed : (version : Version) (written : List (List ℕ)) → Agree (Passes version written) (PassesAlone version written) causes
agreed version written = (
  (λ p. p),
  (λ p. p),
  λ length. (
    (λ p. p),
    (λ p. p),
    λ name. (
      (λ p. p),
      (λ p. p),
      λ day. (
        (λ p. p),
        (λ p. p),
        λ action. (
          (λ p. p),
          (λ p. p),
          λ symbol. (
            (λ p. p),
            (λ p. p),
            λ units. (
              (λ p. p),
              (λ p. p),
              λ price. (
                (λ p. p),
                (λ p. p),
                λ currency. (
                  (λ p. p),
                  (λ p. p),
                  λ fee.
                      (lot_alone version written, lot_beside version written action, λ lot. tt),
                ),
              ),
            ),
          ),
        ),
      ),
    ),
  ),
)

-- the first of all causes is the one that is reported
pub first_told : (version : Version) (written : List (List ℕ)) (failing : List Cause) → HasCauses version written failing
    → (cause : Cause) → IsFaulty version written cause → (others : List Cause) × (failing ≡ cause ∷ others)
first_told version written failing (inl (whole, all)) cause first =
    first_of (Passes version written) (PassesAlone version written) causes cause failing (agreed version written) first all
first_told version written failing (inr (fails, e)) cause (inl (is, not)) = ([], rw is e)
first_told version written failing (inr (fails, e)) cause (inr (passes, first)) = absurd (fails passes)
