-- A line is cut at its first blank, and its first word is read.
use Rattle.std.proofs.Common.{rules}
use Rattle.lot_output.proofs.NumberedLemmas.{one_word, told}
use Rattle.lot_output.proofs.course.said_in.Goals as goal

pub returns-in_default-split_once : goal.returns-in_default-split_once
returns-in_default-split_once c =
    let says = one_word c.in-Ok.text.now c.split_once.result c.split_once.ensures.cases (search rules) in
    rw c.in-Ok.ensures.cases.0 at says

pub returns-in-Ok-parse : goal.returns-in-Ok-parse
returns-in-Ok-parse c =
    let says = told _ c.in-Ok.text.now c.split_once.result c.in-Some.first c.in-Some.rest c.parse.result c.said_of.result
    c.split_once.ensures.cases c.in-Some.is c.parse.ensures.value.0 (search rules) in
    rw c.in-Ok.ensures.cases.0 at says

pub returns-in-Err : goal.returns-in-Err
returns-in-Err c =
    let says = told _ c.in-Ok.text.now c.split_once.result c.in-Some.first c.in-Some.rest c.parse.result c.said_by.result
    c.split_once.ensures.cases c.in-Some.is c.parse.ensures.value.0 (rw c.in-Err.is c.said_by.ensures) in
    rw c.in-Ok.ensures.cases.0 at says
