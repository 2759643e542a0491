use Rattle.std.proofs.Common.{sym, ◌∙◌}
use Rattle.bpf_asm.proofs.Parts.{word_more, word_ends, past_end}
use Rattle.bpf_asm.proofs.part.word_length.Goals as goal

pub returns-then-not-is_word_character-clause-end : goal.returns-then-not-is_word_character-clause-end
returns-then-not-is_word_character-clause-end c =
    word_ends c.args.line.now c.loop-i.i c.loop-i-test.true (sym c.is_word_character.ensures ∙ c.if-not-is_word_character.true)

pub loop-i-preserved : goal.loop-i-preserved
loop-i-preserved c = word_more c.args.line.now c.loop-i.i c.loop-i-test.true (sym c.is_word_character.ensures ∙ c.if-not-is_word_character.false) c.loop-i.invariant

pub returns-clause-end : goal.returns-clause-end
returns-clause-end c = past_end c.args.line.now
