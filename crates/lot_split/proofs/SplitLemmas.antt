-- One split of lots, and no fault beside it but that memory runs out.
use Rattle.std.proofs.Common.{◌≡◌, ◌<◌, true, false, List, length, None, Some, refl, ◌∙◌, sym, subst, arith}
use Rattle.std.specs.List.{AllZip}
use Rattle.lot_cost.specs.declared.method.Method.{Method}
use Rattle.lot_command.specs.declared.transaction.Flag.TheVariants.{Complete}
use Rattle.lot_command.specs.declared.transaction.Transaction.{Transaction}
use Rattle.lot_split.specs.Lots.{Becomes, held_of}
use Rattle.lot_rounding.specs.Ratio.{IsLowest, amounts_of}
use Rattle.lot_split.specs.Split.{HasFault, IsSplit, Splits, most_postings, postings_of}
use Rattle.lot_split.specs.declared.fault.SplitFault.{SplitFault}
use Rattle.lot_split.specs.declared.fault.SplitFault.TheVariants as fault
use Rattle.lot_split.specs.declared.lot.HeldLot.{HeldLot}
use Rattle.lot_rounding.specs.declared.ratio.Ratio.{Ratio}
use Rattle.lot_split.specs.declared.transaction.Split.{Split}
use Rattle.lot_split.proofs.OneLemmas.{none_undivided, none_without, one_list, one_ratio}

same_ratio : (asked : Split) (lots : List HeldLot) (a b : Ratio) → IsLowest (amounts_of asked.change (held_of lots)) a
    → IsLowest (amounts_of asked.change (held_of lots)) b → a ≡ b
same_ratio asked lots a b first second = one_ratio (amounts_of asked.change (held_of lots)) a b first second

same_lots : (asked : Split) (method : Method) (lots a b : List HeldLot) → Splits asked method lots a → Splits asked method lots b → a ≡ b
same_lots asked method lots a b first second =
    let ratio = same_ratio asked lots second.ratio first.ratio second.can.lowest first.can.lowest in
    one_list first.ratio lots a b first.can.lowest.are.proper first.become
    (subst (λ (r : Ratio). AllZip (Becomes r) lots b) ratio second.become)

pub one_split : (asked : Split) (method : Method) (lots : List HeldLot) (t other : Transaction)
    → IsSplit asked method lots t → IsSplit asked method lots other → t ≡ other
one_split asked method lots t other first second =
    let lists = same_lots asked method lots first.split second.split first.splits second.splits in
    first.is
    ∙ (λ i. record { day = asked.day; flag = Complete; narration = asked.narration; postings = postings_of asked method lots (lists i) })
    ∙ sym second.is

pub no_fault : (asked : Split) (method : Method) (lots : List HeldLot) (t : Transaction) (found : SplitFault)
    → IsSplit asked method lots t → HasFault asked method lots found → found ≡ fault.Memory
no_fault asked method lots t fault.NotOpened is has = absurd has
no_fault asked method lots t fault.NothingHeld is has = absurd (is.splits.can.can.some has)
no_fault asked method lots t fault.TooManyLots is has =
    let few = is.splits.can.can.few in
    absurd (omega (arith, has, few))
no_fault asked method lots t fault.BothSigns is has =
    let taken : true ≡ false = sym is.splits.can.can.taken ∙ has.2 in
    absurd cc
no_fault asked method lots t fault.SumOutOfRange is has = absurd (has.3 is.splits.can.can.in_range)
no_fault asked method lots t fault.BadRatio is has = absurd (has.1 is.splits.ratio is.splits.can.lowest.are)
no_fault asked method lots t (fault.Undivided place) is has =
    let ratio = same_ratio asked lots is.splits.ratio has.0 is.splits.can.lowest has.1.lowest in
    let become = subst (λ (r : Ratio). AllZip (Becomes r) lots is.split) ratio is.splits.become in
    let none : Some place ≡ None = sym has.2 ∙ none_undivided has.0 lots is.split become in
    absurd cc
no_fault asked method lots t fault.OutOfRange is has =
    let ratio = same_ratio asked lots is.splits.ratio has.0 is.splits.can.lowest has.1.lowest in
    let become = subst (λ (r : Ratio). AllZip (Becomes r) lots is.split) ratio is.splits.become in
    absurd (none_without has.0 lots is.split become has.3)
no_fault asked method lots t fault.TooManyPostings is has =
    let lists = same_lots asked method lots has.0 is.split has.1 is.splits in
    let few = is.few in
    let more : most_postings < length (postings_of asked method lots is.split) =
    subst (λ (s : List HeldLot). most_postings < length (postings_of asked method lots s)) lists has.2 in
    absurd (omega (arith, few, more))
no_fault asked method lots t fault.Memory is has = refl
