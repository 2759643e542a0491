use Rattle.std.proofs.Common.{rules}
use Rattle.input_files.proofs.Counting.{all_passed, more_passed, some_passed}
use Rattle.input_files.proofs.reading.count_rest.Goals as goal

pub returns-then-is_end-clause-all : goal.returns-then-is_end-clause-all
returns-then-is_end-clause-all g c = λ h.
    let read = c.in_ok-is_end.ensures in
    all_passed _ _ _ (more_passed _ _ _ _ _ _ _ c.loop-turn.invariant.1 c.new-part.ensures.items read.read (search rules)) (read.end (search rules))

pub returns-then-is_end-clause-some : goal.returns-then-is_end-clause-some
returns-then-is_end-clause-some g c =
    let read = c.in_ok-is_end.ensures in
    some_passed _ _ _ (more_passed _ _ _ _ _ _ _ c.loop-turn.invariant.1 c.new-part.ensures.items read.read (search rules))

pub loop-turn-preserved : goal.loop-turn-preserved
loop-turn-preserved g c =
    let read = c.in_ok-is_end.ensures in
    let room = read.room in
    let none = c.new-part.ensures.len in
    let few = c.if-counted-most.false in
    (search rules, more_passed _ _ _ _ _ _ _ c.loop-turn.invariant.1 c.new-part.ensures.items read.read (search rules))
