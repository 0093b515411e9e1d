-- By which rules a row is read: those of its kind go before those of its table (docs/FORMATS.md, Profiles).
use Rattle.std.specs.Prelude.{ℕ, Bool, ◌==◌, List, [], find, Option}
use Rattle.std.specs.List.{list_any}
use Rattle.std.specs.Option.{is_some, option_map, option_or, unwrap_or}
use Rattle.lot_profile.specs.declared.account.AccountOf.{AccountOf}
use Rattle.lot_profile.specs.declared.account.AccountRole.{AccountRole}
use Rattle.lot_profile.specs.declared.account.AccountRole.TheVariants as account
use Rattle.lot_profile.specs.declared.account.Piece.{Piece}
use Rattle.lot_profile.specs.declared.role.Role.{Role}
use Rattle.lot_profile.specs.declared.role.Role.TheVariants as role
use Rattle.lot_profile.specs.declared.role.Source.{Source}
use Rattle.lot_profile.specs.declared.role.Sources.{Sources}
use Rattle.lot_roles.specs.declared.rules.Rules.{Rules}

-- ---- The same role.

-- the place of a role among all roles
abbrev pub role_place : Role → ℕ
role_place role.Account = 0
role_place role.Amount = 1
role_place role.Booked = 2
role_place role.BookedCurrency = 3
role_place role.Cost = 4
role_place role.CostDay = 5
role_place role.Currency = 6
role_place role.Day = 7
role_place role.Fee = 8
role_place role.FeeCurrency = 9
role_place role.Note = 10
role_place role.Other = 11
role_place role.OtherCurrency = 12
role_place role.Price = 13
role_place role.PriceCurrency = 14
role_place role.Rate = 15
role_place role.Ratio = 16
role_place role.Ref = 17
role_place role.Symbol = 18
role_place role.Tax = 19
role_place role.TaxCurrency = 20
role_place role.Time = 21
role_place role.Units = 22

-- whether two roles are the same
abbrev pub same_role : Role → Role → Bool
same_role a b = role_place a == role_place b

-- the place of an account's role among all
abbrev pub account_place : AccountRole → ℕ
account_place account.Invest = 0
account_place account.Cash = 1
account_place account.Fees = 2
account_place account.Gains = 3
account_place account.Dividends = 4
account_place account.Interest = 5
account_place account.Rewards = 6
account_place account.Tax = 7
account_place account.Transfers = 8
account_place account.Rounding = 9

-- whether two accounts are for the same
abbrev pub same_account_role : AccountRole → AccountRole → Bool
same_account_role a b = account_place a == account_place b

-- ---- The sources of a role.

-- those that a kind or a table names
abbrev pub sources_in : Role → List Sources → Option (List Source)
sources_in role all = option_map (λ (s : Sources). s.from) (find (λ (s : Sources). same_role s.role role) all)

-- those of the kind, or else those of the table
abbrev pub named_sources : Rules → Role → Option (List Source)
named_sources rules role = option_or (sources_in role rules.kind.now.columns) (sources_in role rules.table.now.columns)

-- whether one of the two names any
abbrev pub has_sources : Rules → Role → Bool
has_sources rules role = is_some (named_sources rules role)

-- the sources, none where neither names any
abbrev pub sources_of : Rules → Role → List Source
sources_of rules role = unwrap_or (named_sources rules role) []

-- ---- The sign.

-- whether the sign of a role is printed the other way, as the kind says, or else the table
abbrev pub is_turned : Rules → Role → Bool
is_turned rules role = list_any (λ (r : Role). same_role r role) (unwrap_or rules.kind.now.turn rules.table.now.turn)

-- ---- Accounts.

-- the pieces of the account for something that a kind or a profile names
abbrev pub pieces_in : AccountRole → List AccountOf → Option (List Piece)
pieces_in role all = option_map (λ (a : AccountOf). a.pieces) (find (λ (a : AccountOf). same_account_role a.role role) all)

-- those of the kind, or else those of the profile
abbrev pub pieces_of : Rules → AccountRole → Option (List Piece)
pieces_of rules role = option_or (pieces_in role rules.kind.now.accounts) (pieces_in role rules.profile.now.accounts)
