-- Lists that found no memory.
use Rattle.std.proofs.Common.{◌≡◌, rules}
use Rattle.std.specs.Prelude.{codes}
use Rattle.dcel_commands.specs.Instructions.{Cleanup, Isolate, Legalize, Remesh, Strip, Edit}
use Rattle.dcel_commands.proofs.Spelling.{no_memory}
use Rattle.dcel_commands.proofs.reading.read_after.Goals as goal

pub returns-in-Some-Err : goal.returns-in-Some-Err
returns-in-Some-Err g c =
    let begins : c.args.word.now ≡ codes "isolate" = search rules in
    let read = rw c.in-Some-Err.field-0-is at c.in-Some-Err.ensures in
    no_memory _ _ _ _ (Edit (Isolate read.0 read.1)) begins read.2 read.3

pub returns-in-Some-Err-three_lists : goal.returns-in-Some-Err-three_lists
returns-in-Some-Err-three_lists g c =
    let begins : c.args.word.now ≡ codes "remesh" = search rules in
    let read = rw c.in-Some-Err-three_lists.field-0-is at c.in-Some-Err-three_lists.ensures in
    no_memory _ _ _ _ (Edit (Remesh read.0 read.1 read.2)) begins read.3 read.4

pub returns-in-Some-Err-one_list : goal.returns-in-Some-Err-one_list
returns-in-Some-Err-one_list g c =
    let begins : c.args.word.now ≡ codes "strip" = search rules in
    let read = rw c.in-Some-Err-one_list.field-0-is at c.in-Some-Err-one_list.ensures in
    no_memory _ _ _ _ (Edit (Strip read.0)) begins read.1 read.2

pub returns-in-Some-Err-two_lists : goal.returns-in-Some-Err-two_lists
returns-in-Some-Err-two_lists g c =
    let begins : c.args.word.now ≡ codes "cleanup" = search rules in
    let read = rw c.in-Some-Err-two_lists.field-0-is at c.in-Some-Err-two_lists.ensures in
    no_memory _ _ _ _ (Edit (Cleanup read.0 read.1)) begins read.2 read.3

pub returns-in-Some-Err-number_and_list : goal.returns-in-Some-Err-number_and_list
returns-in-Some-Err-number_and_list g c =
    let begins : c.args.word.now ≡ codes "legalize" = search rules in
    let read = rw c.in-Some-Err-number_and_list.field-0-is at c.in-Some-Err-number_and_list.ensures in
    no_memory _ _ _ _ (Edit (Legalize read.0 read.1)) begins read.2 read.3
