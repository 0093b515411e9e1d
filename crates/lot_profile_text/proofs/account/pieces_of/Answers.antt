-- One more piece is read, none begins the rest, or all is read.
use Rattle.std.proofs.Common.{◌≡◌, ◌<◌, length, sym, arith}
use Rattle.std.proofs.lemmas.Bool.Decides.{nat_tests}
use Rattle.lot_profile_text.specs.Accounts.{first_piece}
use Rattle.lot_profile_text.proofs.SpellingLemmas.{read-all, read-more, read-stop}
use Rattle.lot_profile_text.proofs.account.pieces_of.Goals as goal

pub returns-in_default : goal.returns-in_default
returns-in_default c =
    let test = c.is_empty.ensures in
    let went_on = c.loop-rest-test.true in
    let some : 0 < length c.loop-rest.rest.now = grind (arith, nat_tests, test, went_on) in
    let none = rw c.in_default.is at c.in_ok-piece.ensures.value in
    sym (read-stop first_piece c.args.text.now c.loop-rest.pieces c.loop-rest.rest.now c.loop-rest.invariant.read some none)

pub loop-rest-preserved : goal.loop-rest-preserved
loop-rest-preserved c =
    let test = c.is_empty.ensures in
    let went_on = c.loop-rest-test.true in
    let some : 0 < length c.loop-rest.rest.now = grind (arith, nat_tests, test, went_on) in
    let found = rw c.in-Some.is at c.in_ok-piece.ensures.value in
    let shorter = rw c.in-Some.is at c.in_ok-piece.ensures.shorter in
    let utf8 = rw c.in-Some.is at c.in_ok-piece.ensures.utf8 in
    record {
      read = rw c.in_ok-push.ensures.ok
          (read-more first_piece c.args.text.now c.loop-rest.pieces c.loop-rest.rest.now c.in-Some.piece c.in-Some.more.now c.loop-rest.invariant.read some found shorter);
      utf8 = utf8;
    }

pub returns : goal.returns
returns c =
    let test = c.is_empty.ensures in
    let ended = c.loop-rest-test.false in
    let none : length c.loop-rest.rest.now ≡ 0 = grind (arith, nat_tests, test, ended) in
    sym (read-all first_piece c.args.text.now c.loop-rest.pieces c.loop-rest.rest.now c.loop-rest.invariant.read none)
