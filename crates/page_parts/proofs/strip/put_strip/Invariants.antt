use Rattle.std.proofs.Common.{◌≡◌, ◌++◌, drop, string_bytes}
use Rattle.page_parts.specs.Cells.{strip_from}
use Rattle.page_parts.proofs.strip.put_strip.Given as goal

abbrev pub invariant-loop-cut : goal.invariant-loop-cut
invariant-loop-cut l =
    string_bytes l.out ++ strip_from l.lacking.of l.logged.log.now.entries l.lacking.program l.lacking.flushes.now l.from (drop l.cut-index l.cuts)
    ≡ string_bytes l.initial.out ++ strip_from l.lacking.of l.logged.log.now.entries l.lacking.program l.lacking.flushes.now 0 l.cuts
