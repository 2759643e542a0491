use Rattle.std.proofs.Common.{◌≡◌, ◌++◌, ℕ, take, string_bytes, codes}
use Rattle.std.specs.Fmt.{decimal}
use Rattle.std.specs.List.{flat_map}
use Rattle.report.proofs.lines.text.put_codes.Given as goal

abbrev pub invariant-loop-code : goal.invariant-loop-code
invariant-loop-code l = string_bytes l.out ≡ string_bytes l.initial.out ++ flat_map (λ (n : ℕ). codes "," ++ decimal n) (take l.code-index l.rest)
