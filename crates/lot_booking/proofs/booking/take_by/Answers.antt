-- Each method's order in each edition is that of its ties, and goes by the day or the number by which lots are lent; the oldest
-- lots first are those that STRICT takes.
use Rattle.std.proofs.Common.{◌≡◌, Global, IfOk, List, Result, Vec, Bool, length, map, subst, refl, sym, ℕ, ℤ, unsigned_abs}
use Rattle.std.proofs.lemmas.Result.{IfOk-weaker}
use Rattle.std.specs.declared.alloc.AllocError.{AllocError}
use Rattle.lot_cost.specs.declared.lot_key.LotKey.{LotKey}
use Rattle.lot_cost.specs.declared.method.Method.{Method}
use Rattle.lot_cost.specs.declared.method.Method.TheVariants.{Strict, Fifo, Lifo, Hifo}
use Rattle.lot_inv.specs.declared.foremost.Foremost.{Foremost}
use Rattle.lot_inv.specs.declared.foremost.Foremost.TheVariants.{Oldest, Newest, Highest, OldestOpened, NewestOpened, HighestOpened}
use Rattle.lot_inv.specs.declared.lot.Lot.{Lot}
use Rattle.lot_inv.specs.Foremost.{AreLentOf, numbered}
use Rattle.lot_inv.specs.Inventory.{held_in}
use Rattle.lot_inv.specs.Lot.{AreNumberedBy, key_and_units}
use Rattle.lot_booking.specs.declared.edition.Edition.{Edition}
use Rattle.lot_booking.specs.declared.edition.Edition.TheVariants.{First, Second}
use Rattle.lot_booking.specs.Choice.{HaveDistinctKeys, InTurn, Takes}
use Rattle.lot_booking.specs.Front.{ComeFirstOf, is_earlier}
use Rattle.lot_booking.specs.OpeningOrder.{OpenedLot, by_key, by_numbers, highest_opened_first, newest_opened_first, oldest_opened_first}
use Rattle.lot_booking.specs.Order.{highest_first, newest_first, oldest_first}
use Rattle.lot_booking.specs.Way.{Suffice, TakesLent, foremost_of}
use Rattle.lot_booking.proofs.BookLemmas.{taken_strictly}
use Rattle.lot_booking.proofs.ForemostLemmas.{GoesBy, highest_by_number, highest_opened_by_rank, newest_by_day, newest_opened_by_rank, oldest_by_day, oldest_opened_by_rank, takes_of_all}
use Rattle.lot_booking.proofs.booking.take_by.Goals as goal

abbrev Legs : Type 0
Legs = Vec (LotKey × ℤ) Global

module _ (result : Result Legs AllocError) (lots : List Lot) (units : ℤ) where
  -- what is taken in an order of lots of which these come first
  abbrev TakenBy : (OpenedLot → OpenedLot → Bool) → Type 0
  TakenBy before = IfOk result (λ legs. (opening : LotKey → ℕ) (all : List Lot) → HaveDistinctKeys (map key_and_units all)
      → AreNumberedBy opening all → ComeFirstOf (is_earlier before) all lots
      → Takes (InTurn (by_numbers before opening)) (by_numbers before opening) (map key_and_units all) units legs.items)

  -- and of lots of which these are lent
  abbrev LentBy : Foremost → (OpenedLot → OpenedLot → Bool) → Legs → Type 0
  LentBy foremost before legs = (opening : LotKey → ℕ) (all : List (LotKey × ℤ)) → HaveDistinctKeys all
      → AreLentOf foremost (unsigned_abs units) (numbered opening all) lots
      → Takes (InTurn (by_numbers before opening)) (by_numbers before opening) all units legs.items

  abbrev Taken : Method → Edition → Type 0
  Taken method edition = IfOk result (λ legs. TakesLent method edition lots units legs.items)

  lent_by : (foremost : Foremost) (before : OpenedLot → OpenedLot → Bool) → GoesBy foremost before → TakenBy before → IfOk result (LentBy foremost before)
  lent_by foremost before goes taken =
      IfOk-weaker result _ (LentBy foremost before)
      (λ legs by_front opening all distinct lent. takes_of_all foremost before goes opening all lots units legs.items by_front distinct lent) taken

  taken_by : (method method' : Method) (edition edition' : Edition) → method' ≡ method → edition' ≡ edition → Taken method edition → Taken method' edition'
  taken_by method method' edition edition' m e taken =
      subst (λ (x : Method). Taken x edition') (sym m) (subst (λ (x : Edition). Taken method x) (sym e) taken)

  taken_strict : (edition : Edition) → TakenBy (by_key oldest_first) → Taken Strict edition
  taken_strict edition taken =
      IfOk-weaker result _ _
      (λ (legs : Legs) by_front (opening : LotKey → ℕ) (all : List (LotKey × ℤ)) (distinct : HaveDistinctKeys all)
      (suffice : Suffice Strict (length all) (held_in all) (unsigned_abs units)) (lent : AreLentOf (foremost_of Strict edition) (unsigned_abs units) (numbered opening all) lots).
      taken_strictly all units legs.items (suffice.exact refl) (by_front opening all distinct lent))
      (lent_by Oldest (by_key oldest_first) oldest_by_day taken)

pub returns-in-Strict-default : goal.returns-in-Strict-default
returns-in-Strict-default c =
    let result = c.take_enough.result in
    let lots = c.args.lots.items in
    let edition = c.args.selection.edition in
    subst (λ (method : Method). Taken result lots c.args.units method edition) (sym c.in-Strict-default.is-0)
    (taken_strict result lots c.args.units edition c.take_enough.ensures)

pub returns-in-Fifo-First : goal.returns-in-Fifo-First
returns-in-Fifo-First c =
    let call = c.take_enough-in-Fifo-First in
    let lots = c.args.lots.items in
    taken_by call.result lots c.args.units Fifo c.args.selection.method First c.args.selection.edition c.in-Fifo-First.is-0 c.in-Fifo-First.is-1
    (IfOk-weaker call.result _ _ (λ (legs : Legs) taken opening all distinct suffice lent. taken opening all distinct lent)
    (lent_by call.result lots c.args.units Oldest (by_key oldest_first) oldest_by_day call.ensures))

pub returns-in-Fifo-Second : goal.returns-in-Fifo-Second
returns-in-Fifo-Second c =
    let call = c.take_enough-in-Fifo-Second in
    let lots = c.args.lots.items in
    taken_by call.result lots c.args.units Fifo c.args.selection.method Second c.args.selection.edition c.in-Fifo-Second.is-0 c.in-Fifo-Second.is-1
    (IfOk-weaker call.result _ _ (λ (legs : Legs) taken opening all distinct suffice lent. taken opening all distinct lent)
    (lent_by call.result lots c.args.units OldestOpened oldest_opened_first oldest_opened_by_rank call.ensures))

pub returns-in-Lifo-First : goal.returns-in-Lifo-First
returns-in-Lifo-First c =
    let call = c.take_enough-in-Lifo-First in
    let lots = c.args.lots.items in
    taken_by call.result lots c.args.units Lifo c.args.selection.method First c.args.selection.edition c.in-Lifo-First.is-0 c.in-Lifo-First.is-1
    (IfOk-weaker call.result _ _ (λ (legs : Legs) taken opening all distinct suffice lent. taken opening all distinct lent)
    (lent_by call.result lots c.args.units Newest (by_key newest_first) newest_by_day call.ensures))

pub returns-in-Lifo-Second : goal.returns-in-Lifo-Second
returns-in-Lifo-Second c =
    let call = c.take_enough-in-Lifo-Second in
    let lots = c.args.lots.items in
    taken_by call.result lots c.args.units Lifo c.args.selection.method Second c.args.selection.edition c.in-Lifo-Second.is-0 c.in-Lifo-Second.is-1
    (IfOk-weaker call.result _ _ (λ (legs : Legs) taken opening all distinct suffice lent. taken opening all distinct lent)
    (lent_by call.result lots c.args.units NewestOpened newest_opened_first newest_opened_by_rank call.ensures))

pub returns-in-Hifo-First : goal.returns-in-Hifo-First
returns-in-Hifo-First c =
    let call = c.take_enough-in-Hifo-First in
    let lots = c.args.lots.items in
    taken_by call.result lots c.args.units Hifo c.args.selection.method First c.args.selection.edition c.in-Hifo-First.is-0 c.in-Hifo-First.is-1
    (IfOk-weaker call.result _ _ (λ (legs : Legs) taken opening all distinct suffice lent. taken opening all distinct lent)
    (lent_by call.result lots c.args.units Highest (by_key highest_first) highest_by_number call.ensures))

pub returns-in-Hifo-Second : goal.returns-in-Hifo-Second
returns-in-Hifo-Second c =
    let call = c.take_enough-in-Hifo-Second in
    let lots = c.args.lots.items in
    taken_by call.result lots c.args.units Hifo c.args.selection.method Second c.args.selection.edition c.in-Hifo-Second.is-0 c.in-Hifo-Second.is-1
    (IfOk-weaker call.result _ _ (λ (legs : Legs) taken opening all distinct suffice lent. taken opening all distinct lent)
    (lent_by call.result lots c.args.units HighestOpened highest_opened_first highest_opened_by_rank call.ensures))
