use Rattle.std.proofs.Common.{rules, sym, subst, arith, ◌++◌}
use Rattle.std.specs.Io.KnownBytes.{Consumes}
use Rattle.base.specs.declared.limits.Limits.{Limits}
use Rattle.input_files.specs.RawLogs.{IsReach}
use Rattle.input_files.proofs.Reaching.{nothing_read, reach_of, all_read, read_to_end, read_short_file}
use Rattle.input_files.proofs.reading.read_raw.Goals as goal

pub returns-then-not-branch : goal.returns-then-not-branch
returns-then-not-branch g c =
    let read = c.in_ok-read_on.ensures in
    read_short_file c.args.limits _ _ _ (read.read _ (subst (Consumes _ _) (sym c.new-bytes.ensures.items) (nothing_read _))) (read.end (search rules)) read.room

pub loop-bytes-init : goal.loop-bytes-init
loop-bytes-init g c =
    let read = c.in_ok-read_on.ensures in
    let given = read.read _ (subst (Consumes _ _) (sym c.new-bytes.ensures.items) (nothing_read _)) in
    let reach = c.of_super-reach.result in
    (omega (arith, read.room, reach.sector, reach.header), given, reach_of _ _ _ _ reach c.as_slice.ensures.value given (λ rest. subst (λ (l : Limits). IsReach l (c.as_slice.result.now ++ rest) reach.size reach.needed reach.left) (sym c.of_super-reach.ensures.limits) (c.of_super-reach.ensures.reach rest)), c.of_super-reach.ensures.limits)

pub returns-then-not-branch-2 : goal.returns-then-not-branch-2
returns-then-not-branch-2 g c =
    let before = c.loop-bytes.invariant in
    let read = c.in_ok-read_on-2.ensures in
    read_to_end _ _ _ _ c.loop-bytes.reach before.3 c.loop-bytes.reach.most (read.read _ before.1) (read.end (search rules)) before.2 read.room

pub returns-then-reach-eq0 : goal.returns-then-reach-eq0
returns-then-reach-eq0 g c =
    let before = c.loop-bytes.invariant in
    let read = c.in_ok-read_on-2.ensures in
    all_read _ _ _ _ c.loop-bytes.reach before.3 (read.read _ before.1) before.2 (search rules) (read.there (search rules))
