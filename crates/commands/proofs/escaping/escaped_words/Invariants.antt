use Rattle.std.proofs.Common.{◌≡◌, map, take, string_bytes}
use Rattle.crash_text.specs.Escaped.{escaped_text}
use Rattle.commands.proofs.escaping.escaped_words.Given as goal

abbrev pub invariant-loop-word : goal.invariant-loop-word
invariant-loop-word l = map string_bytes l.shown.items ≡ map (λ word. escaped_text (string_bytes word)) (take l.word-index l.words)
