use Rattle.std.proofs.Common.{◌≡◌, ◌++◌, take, string_bytes}
use Rattle.crash_text.specs.Escaped.{escaped_text}
use Rattle.crash_text.proofs.escaped.put_escaped.Given as goal

abbrev pub invariant-loop-byte : goal.invariant-loop-byte
invariant-loop-byte l = string_bytes l.out ≡ string_bytes l.initial.out ++ escaped_text (take l.byte-index l.bytes)
