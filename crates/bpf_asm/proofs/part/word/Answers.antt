use Rattle.std.proofs.Common.{rules, sym, ap, ◌∙◌, ◌≡◌, ◌<◌}
use Rattle.bpf_asm.specs.Parts.{first_word}
use Rattle.bpf_asm.proofs.Parts.{no_word, word_taken}
use Rattle.bpf_asm.proofs.part.word.Goals as goal

pub returns-then-length-eq0 : goal.returns-then-length-eq0
returns-then-length-eq0 c =
    let line = c.skip_blanks-line.result.now in
    let none : c.word_length-length.result ≡ 0 = search rules in
    let no_more = c.word_length-length.ensures.end in
    sym (no_word line c.skip_blanks-line.ensures.front (rw none at no_more)) ∙ ap first_word c.skip_blanks-line.ensures.same

pub returns : goal.returns
returns c =
    let line = c.skip_blanks-line.result.now in
    let n = c.word_length-length.result in
    let e = c.word_length-length.ensures in
    let some : 0 < n = search rules in
    rw (c.split_at.ensures.front, c.split_at.ensures.back)
    (ap first_word (sym (word_taken line n some e.within e.word e.end) ∙ c.skip_blanks-line.ensures.same))
