-- A long log and its first bytes pass the limit alike.
use Rattle.std.proofs.Common.{ℕ, ◌≡◌, ◌+◌, ◌<◌, ◌≤◌, nat_le, true, false, List, length, Some, refl, arith}
use Rattle.std.proofs.lemmas.Bool.Decides.{nat_tests}
use Rattle.std.proofs.lemmas.List.{length-take-le, take_all}
use Rattle.base.specs.Check.{first_failing}
use Rattle.base.specs.Sizes.{byte_limit}
use Rattle.base.specs.declared.causes.LogCause.TheVariants as cause
use Rattle.base.specs.declared.limits.Limits.{Limits}
use Rattle.base.specs.declared.limits.Limits.TheVariants as limit
use Rattle.logfmt.specs.Faults.{in_super, super_checks}
use Rattle.input_files.specs.Logs.{read_log, ShortLogIsRead, LongLogIsRefusedAlike}

-- a log may have as many bytes as its super block
some_bytes : (limits : Limits) → 512 ≤ byte_limit limits
some_bytes limit.Usual = omega arith
some_bytes limit.Large = omega arith

passes_limit : (limits : Limits) (bytes : List ℕ) → byte_limit limits < length bytes → first_failing (super_checks bytes limits) ≡ Some cause.Limit
unfolding super_checks
passes_limit limits bytes more =
    let whole : nat_le 512 (length bytes) ≡ true = grind (arith, nat_tests, more, some_bytes limits) in
    let long : nat_le (length bytes) (byte_limit limits) ≡ false = grind (arith, nat_tests, more) in
    rw whole (rw long refl)

pub short : ShortLogIsRead
short limits bytes few = take_all (byte_limit limits + 1) bytes (omega (arith, few))

pub long : LongLogIsRefusedAlike
long limits bytes sectors more =
    let read : length (read_log limits bytes) ≡ byte_limit limits + 1 = length-take-le (byte_limit limits + 1) bytes (omega (arith, more)) in
    (in_super cause.Limit (passes_limit limits bytes more), in_super cause.Limit (passes_limit limits (read_log limits bytes) (omega (arith, read))))
