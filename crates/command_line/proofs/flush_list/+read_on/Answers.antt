use Rattle.std.proofs.Common.{[], ◌∷◌}
use Rattle.epochs.specs.Flushes.{places_of}
use Rattle.command_line.proofs.FlushLists.{bad_word, bad_first, go_on}
use Rattle.command_line.proofs.flush_list.+read_on.Goals as goal

pub returns-in_err-small_number_in : goal.returns-in_err-small_number_in
returns-in_err-small_number_in t c = rw c.from_residual.ensures (bad_word c.args.left c.args.text.now c.in_default.ensures c.in_err-small_number_in.ensures)

pub returns-in_default : goal.returns-in_default
returns-in_default t c = (c.in_ok-small_number_in.field-0 ∷ [], (c.in_default.ensures, c.in_ok-small_number_in.ensures), c.with.ensures.places)

pub returns-in_err-small_number_in-2 : goal.returns-in_err-small_number_in-2
returns-in_err-small_number_in-2 t c =
    rw c.from_residual-in_err-small_number_in-2.ensures
    (bad_first c.args.left c.args.text.now c.in-Some.first.now c.in-Some.beyond.now c.in-Some.ensures c.in_err-small_number_in-2.ensures)

pub returns : goal.returns
returns t c =
    go_on c.args.left c.args.text.now c.in-Some.first.now c.in-Some.beyond.now (places_of c.args.found.now) (places_of c.with-2.result) c.in_ok-small_number_in-2.field-0 c.read_on.result
    c.in-Some.ensures c.in_ok-small_number_in-2.ensures c.with-2.ensures.places c.read_on.ensures
