use Rattle.std.proofs.Common.{◌≡◌, ◌++◌, map, drop, string_bytes}
use Rattle.crash_page.specs.Groups.{cuts_text}
use Rattle.crash_page.proofs.program.put_cuts.Given as goal

abbrev pub invariant-loop-cut : goal.invariant-loop-cut
invariant-loop-cut l =
    string_bytes l.out ++ cuts_text l.run.starts.now (map (λ o. o.now) l.outcomes) l.program l.lines l.left (drop l.cut-index l.cuts)
    ≡ string_bytes l.initial.out ++ cuts_text l.run.starts.now (map (λ o. o.now) l.outcomes) l.program 1000 l.most l.cuts
