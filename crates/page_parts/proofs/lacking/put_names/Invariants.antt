use Rattle.std.proofs.Common.{◌≡◌, ◌++◌, drop, string_bytes}
use Rattle.page_parts.specs.Lacking.{named_from}
use Rattle.page_parts.proofs.lacking.put_names.Given as goal

abbrev pub invariant-loop-number : goal.invariant-loop-number
invariant-loop-number l =
    string_bytes l.out ++ named_from l.program l.count l.number (drop l.number l.flushes) ≡ string_bytes l.initial.out ++ named_from l.program l.count 0 l.flushes
