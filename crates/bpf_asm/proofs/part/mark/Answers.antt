use Rattle.std.proofs.Common.{rules, sym, ap, ◌∙◌, ◌≡◌, ◌<◌, length}
use Rattle.bpf_asm.specs.Parts.{first_mark}
use Rattle.bpf_asm.proofs.Parts.{empty_parts, comment_parts, no_mark, mark_parts}
use Rattle.bpf_asm.proofs.part.mark.Goals.{then-is_empty-via-then-is_empty, then-is_empty-via-else-is_empty+then-line-eq59, then-is_empty-via-else-is_empty+else-line-eq59+then-is_word_character}
use Rattle.bpf_asm.proofs.part.mark.Goals as goal

pub returns-then-is_empty : goal.returns-then-is_empty
returns-then-is_empty c =
    let line = c.skip_blanks-line.result.now in
    let same = c.skip_blanks-line.ensures.same in
    elim c.then-is_empty.branch [
      | then-is_empty-via-then-is_empty w ↦
          let none : length line ≡ 0 = search rules in
          sym (ap first_mark (empty_parts line none)) ∙ ap first_mark same
      | then-is_empty-via-else-is_empty+then-line-eq59 w ↦
          let some : 0 < length line = search rules in
          sym (ap first_mark (comment_parts line some w.if-line-eq59.true)) ∙ ap first_mark same
      | then-is_empty-via-else-is_empty+else-line-eq59+then-is_word_character w ↦
          let some : 0 < length line = search rules in
          sym (no_mark line some (sym w.is_word_character.ensures ∙ w.if-is_word_character.true)) ∙ ap first_mark same
    ]

pub returns : goal.returns
returns c =
    let line = c.skip_blanks-line.result.now in
    let some : 0 < length line = search rules in
    let other = sym c.is_word_character.ensures ∙ c.if-is_word_character.false in
    rw c.split_at.ensures.back
    (ap first_mark (sym (mark_parts line some c.skip_blanks-line.ensures.front other c.if-line-eq59.false) ∙ c.skip_blanks-line.ensures.same))
