-- A report of an account that the book doesn't have, and what it is warned of with (docs/RULES.md, Notes on standard error).
use Rattle.std.specs.Prelude.{if◌then◌else◌, ◌==◌, ◌++◌, ℕ, Bool, List, Option, None, Some, codes, option_and_then, option_map}
use Rattle.std.specs.List.{ends_with, list_any, starts_with}
use Rattle.std.specs.String.{string_bytes}
use Rattle.lot_base.specs.Text.{same_text}
use Rattle.lot_args.specs.declared.action.Action.{Action}
use Rattle.lot_args.specs.declared.action.Action.TheVariants.{Reconcile, Report}
use Rattle.lot_args.specs.declared.action.Report.{Report as ReportOf}
use Rattle.lot_args.specs.declared.action.Report.TheVariants.{Activity, Register}

-- the account that a report is of, if it is of one
abbrev pub account_of : ReportOf → Option (List ℕ)
account_of (Register account commodity first last format) = Some (string_bytes account)
account_of (Activity account length first last format) = option_map string_bytes account
account_of _ = None

-- the one that an action asks for
abbrev pub account_asked : Action → Option (List ℕ)
account_asked (Report book report) = account_of report
account_asked (Reconcile asked) = Some (string_bytes asked.account)
account_asked _ = None

-- whether an account is meant by a name, which stands for all accounts whose names begin with it where it ends with a colon
abbrev pub is_of : List ℕ → List ℕ → Bool
is_of name account = if ends_with ◌==◌ name (codes ":") then starts_with ◌==◌ account name else same_text account name

-- the name by which an action asks for an account, where none of these is meant by it
abbrev pub misnamed : List (List ℕ) → Action → Option (List ℕ)
misnamed accounts action =
    option_and_then (λ name. if list_any (is_of name) accounts then None else Some name) (account_asked action)

-- what is said of that name
abbrev pub warning_text : List ℕ → List ℕ
warning_text name = codes "lotbook: warning: the book has no account " ++ name
