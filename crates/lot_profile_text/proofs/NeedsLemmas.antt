-- In a profile that lacks nothing each kind has what it needs.
use Rattle.std.proofs.Common.{◌≡◌, ℕ, suc, Bool, true, false, List, [], ◌∷◌, Option, Some, None, Ok, Err, refl, arith}
use Rattle.std.specs.Prelude.{All, find, not, if◌then◌else◌, IfSome, IsTrue}
use Rattle.std.specs.List.{list_all}
use Rattle.std.specs.Option.{option_or}
use Rattle.std.proofs.lemmas.Bool.{and_from}
use Rattle.std.proofs.lemmas.List.Elements.{All-cons}
use Rattle.lot_profile.specs.declared.account.AccountOf.{AccountOf}
use Rattle.lot_profile.specs.declared.account.AccountRole.{AccountRole}
use Rattle.lot_profile.specs.declared.kind.KindRule.{KindRule}
use Rattle.lot_profile.specs.declared.profile.Profile.{Profile}
use Rattle.lot_profile.specs.declared.role.Role.{Role}
use Rattle.lot_profile.specs.declared.table.Table.{Table}
use Rattle.lot_profile_text.specs.Complete.{all_needs_of, has_header, if_account, if_role, needs_of, numbered_table, table_complete, table_place, tables_complete}
use Rattle.lot_profile_text.specs.Needs.{HasNeeds, account_beside, accounts_needed, has_account, has_role, missing_account, missing_role, role_beside, roles_needed, unless_account, unless_role}
use Rattle.lot_profile_text.specs.Reading.{Read, ◌>>=◌}
use Rattle.lot_profile_text.specs.declared.complete.Shape.{Shape}

both-ok : (first second : Read (Unit {0})) → (first >>= λ _. second) ≡ Ok tt → (first ≡ Ok tt) × (second ≡ Ok tt)
both-ok (Ok x) second e = (refl, e)
both-ok (Err fault) second e = cc e

neither : {X : Type 0} (one other : Option X) → option_or one other ≡ None → (one ≡ None) × (other ≡ None)
neither None other e = (refl, e)
neither (Some x) other e = cc e

none-lacks : {X : Type 0} (has : X → Bool) (xs : List X) → find (λ x. not (has x)) xs ≡ None → IsTrue (list_all has xs)
none-lacks has [] e = refl
none-lacks {X = X} has (x ∷ xs) e = go (none-lacks has xs) (has x) refl
  where
    go : (find (λ y. not (has y)) xs ≡ None → IsTrue (list_all has xs)) → (here : Bool) → has x ≡ here → IsTrue (list_all has (x ∷ xs))
    go more true h = and_from (has x) (list_all has xs) h (more (rw h at e))
    go more false h = let never : ◌≡◌ {A = Option X} (Some x) None = rw h at e in cc never

-- ---- A kind.

role-there : (table : Table) (rule : KindRule) (beside : Option Role) → unless_role table rule beside ≡ None
    → IfSome beside (λ role. IsTrue (has_role table rule role))
role-there table rule None e = tt
role-there table rule (Some role) e = go (has_role table rule role) refl
  where
    go : (here : Bool) → has_role table rule role ≡ here → IsTrue (has_role table rule role)
    go true h = h
    go false h = let never : ◌≡◌ {A = Option Role} (Some role) None = rw h at e in cc never

account-there : (accounts : List AccountOf) (rule : KindRule) (beside : Option AccountRole) → unless_account accounts rule beside ≡ None
    → IfSome beside (λ role. IsTrue (has_account accounts rule role))
account-there accounts rule None e = tt
account-there accounts rule (Some role) e = go (has_account accounts rule role) refl
  where
    go : (here : Bool) → has_account accounts rule role ≡ here → IsTrue (has_account accounts rule role)
    go true h = h
    go false h = let never : ◌≡◌ {A = Option AccountRole} (Some role) None = rw h at e in cc never

no-role : (place : List ℕ) (missing : Option Role) → if_role place missing ≡ Ok tt → missing ≡ None
no-role place None e = refl
no-role place (Some role) e = cc e

no-account : (missing : Option AccountRole) → if_account missing ≡ Ok tt → missing ≡ None
no-account None e = refl
no-account (Some role) e = cc e

roles-of : (profile : Profile) (table : Table) (rule : KindRule) → missing_role profile.basis table rule ≡ None
    → IsTrue (list_all (has_role table rule) (roles_needed rule.kind))
    × IfSome (role_beside profile.basis table rule) (λ role. IsTrue (has_role table rule role))
unfolding missing_role
roles-of profile table rule e =
    let parts = neither (find (λ role. not (has_role table rule role)) (roles_needed rule.kind)) (unless_role table rule (role_beside profile.basis table rule)) e in
    (none-lacks (has_role table rule) (roles_needed rule.kind) parts.0, role-there table rule (role_beside profile.basis table rule) parts.1)

accounts-of : (profile : Profile) (table : Table) (rule : KindRule) → missing_account profile table rule ≡ None
    → IsTrue (list_all (has_account profile.accounts rule) (accounts_needed rule.kind))
    × IfSome (account_beside profile.basis table rule) (λ role. IsTrue (has_account profile.accounts rule role))
unfolding missing_account
accounts-of profile table rule e =
    let parts = neither (find (λ role. not (has_account profile.accounts rule role)) (accounts_needed rule.kind))
    (unless_account profile.accounts rule (account_beside profile.basis table rule)) e in (
      none-lacks (has_account profile.accounts rule) (accounts_needed rule.kind) parts.0,
      account-there profile.accounts rule (account_beside profile.basis table rule) parts.1,
    )

kind-has : (place : List ℕ) (profile : Profile) (table : Table) (rule : KindRule) → needs_of place profile table rule ≡ Ok tt
    → HasNeeds profile table rule
unfolding needs_of
kind-has place profile table rule e =
    let parts = both-ok (if_role place (missing_role profile.basis table rule)) (if_account (missing_account profile table rule)) e in
    let roles = roles-of profile table rule (no-role place (missing_role profile.basis table rule) parts.0) in
    let accounts = accounts-of profile table rule (no-account (missing_account profile table rule) parts.1) in
    record { roles = roles.0; role_beside = roles.1; accounts = accounts.0; account_beside = accounts.1 }

-- ---- A table, and all.

kinds-have : (place : List ℕ) (profile : Profile) (table : Table) (kinds : List KindRule) → all_needs_of place profile table kinds ≡ Ok tt
    → All (HasNeeds profile table) kinds
kinds-have place profile table [] e = λ k d less. absurd (omega (arith, less))
kinds-have place profile table (rule ∷ more) e =
    let parts = both-ok (needs_of place profile table rule) (all_needs_of place profile table more) e in
    All-cons (HasNeeds profile table) rule more (kind-has place profile table rule parts.0) (kinds-have place profile table more parts.1)

table-has : (place : List ℕ) (profile : Profile) (table : Table) → table_complete place profile table ≡ Ok tt
    → All (HasNeeds profile table) table.kinds
unfolding table_complete
table-has place profile table e =
    let parts =
    both-ok (all_needs_of place profile table table.kinds) (if has_header table.header then Ok tt else numbered_table place table) e in
    kinds-have place profile table table.kinds parts.0

pub tables-have : (shape : Shape) (profile : Profile) (n : ℕ) (tables : List Table) → tables_complete shape profile n tables ≡ Ok tt
    → All (λ table. All (HasNeeds profile table) table.kinds) tables
tables-have shape profile n [] e = λ k d less. absurd (omega (arith, less))
tables-have shape profile n (table ∷ more) e =
    let parts = both-ok (table_complete (table_place shape n) profile table) (tables_complete shape profile (suc n) more) e in
    All-cons (λ (t : Table). All (HasNeeds profile t) t.kinds) table more (table-has (table_place shape n) profile table parts.0)
    (tables-have shape profile (suc n) more parts.1)
