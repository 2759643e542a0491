use Rattle.std.proofs.Common.{map}
use Rattle.join.specs.CaseReading.{mixed_value}
use Rattle.join.proofs.CaseLines.{case_read}
use Rattle.join.proofs.case_parts.said.case_said.Goals as goal

pub returns : goal.returns
returns c =
    case_read c.args.by c.args.line.now c.front_said.result.1.now c.halves.result.0.now c.halves.result.1.now c.known_words-words.result.lost.now c.known_words-words.result.kept.now c.known_words-words.result.mixed.now
    c.known_words-words.result.free.now c.known_words-words.result.window.now c.front_said.result.0 c.in_ok-lost.lost.items c.in_ok-kept.kept.items (map mixed_value c.in_ok-mixed.mixed.items) c.number.result c.window_said.result
    c.front_said.ensures c.halves.ensures c.known_words-words.ensures c.in_ok-lost.ensures c.in_ok-kept.ensures c.in_ok-mixed.ensures c.number.ensures c.window_said.ensures
