use Rattle.std.proofs.Common.{◌≡◌, ◌∙◌, ap, sym, position, Some, None}
use Rattle.workers.specs.Pieces.{two_pieces, no_piece, no_memory}
use Rattle.workers.specs.Table.{is_missing}
use Rattle.workers.proofs.Collected.{twice_there, none_twice, missing_there, whole_rows, lines_of_rows}
use Rattle.workers.proofs.collecting.collect.Goals as goal

pub returns-in-Err-clause-refused : goal.returns-in-Err-clause-refused
returns-in-Err-clause-refused c = rw c.of_memory.ensures no_memory

pub returns-in-Some-default-clause-refused : goal.returns-in-Some-default-clause-refused
returns-in-Some-default-clause-refused c =
    rw (c.of_work.ensures, c.from.ensures)
    (two_pieces c.in-Some-default.block (twice_there _ _ _ _ _ _ c.in-Ok.ensures c.in-Some-default.is-0))

pub returns-in-None-Some-clause-refused : goal.returns-in-None-Some-clause-refused
returns-in-None-Some-clause-refused c =
    let here : position (is_missing c.args.from c.in-Ok.table.least) c.in-Ok.table.rows.items ≡ Some c.in-None-Some.block =
    ap (position (is_missing c.args.from c.in-Ok.table.least)) (sym c.as_slice.ensures.value) ∙ sym c.first_missing.ensures ∙ c.in-None-Some.is-1 in
    rw c.of_work-in-None-Some.ensures
    (no_piece c.in-None-Some.block (missing_there _ _ _ _ _ _ (none_twice _ _ _ _ _ c.in-Ok.ensures c.in-None-Some.is-0) here))

pub returns-in-Ok-join_rows-clause-whole : goal.returns-in-Ok-join_rows-clause-whole
returns-in-Ok-join_rows-clause-whole c =
    let none : position (is_missing c.args.from c.in-Ok.table.least) c.in-Ok.table.rows.items ≡ None =
    ap (position (is_missing c.args.from c.in-Ok.table.least)) (sym c.as_slice.ensures.value) ∙ sym c.first_missing.ensures ∙ c.in-None-None.is-1 in
    whole_rows _ _ _ _ _ (none_twice _ _ _ _ _ c.in-Ok.ensures c.in-None-None.is-0) none

pub returns-in-Ok-join_rows-clause-lines : goal.returns-in-Ok-join_rows-clause-lines
returns-in-Ok-join_rows-clause-lines c =
    c.in-Ok-join_rows.ensures ∙ lines_of_rows _ _ _ _ (none_twice _ _ _ _ _ c.in-Ok.ensures c.in-None-None.is-0)

pub returns-in-Err-join_rows-clause-refused : goal.returns-in-Err-join_rows-clause-refused
returns-in-Err-join_rows-clause-refused c = rw c.of_memory-in-Err-join_rows.ensures no_memory
