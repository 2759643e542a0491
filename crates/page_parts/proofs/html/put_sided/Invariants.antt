use Rattle.std.proofs.Common.{◌≡◌, ◌++◌, true, drop, string_bytes}
use Rattle.page_parts.specs.Html.{sided_from}
use Rattle.page_parts.proofs.html.put_sided.Given as goal

abbrev pub invariant-loop-byte : goal.invariant-loop-byte
invariant-loop-byte l = string_bytes l.out ++ sided_from l.begins (drop l.byte-index l.bytes) ≡ string_bytes l.initial.out ++ sided_from true l.bytes
