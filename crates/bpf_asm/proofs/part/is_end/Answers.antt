use Rattle.std.proofs.Common.{rules, sym, ap, ◌∙◌, ◌≡◌, ◌<◌, length, get_or, inl, inr}
use Rattle.bpf_asm.specs.Parts.{is_none_left}
use Rattle.std.proofs.lemmas.Bool.Decides.{eqb_tells}
use Rattle.bpf_asm.proofs.Parts.{empty_parts, comment_parts, mark_is_left}
use Rattle.bpf_asm.proofs.part.is_end.Goals as goal

pub returns-then-is_empty : goal.returns-then-is_empty
returns-then-is_empty c =
    let same = c.skip_blanks-line.ensures.same in
    let none : length c.skip_blanks-line.result.now ≡ 0 = search rules in
    c.if-is_empty.true ∙ ap is_none_left (sym (empty_parts c.skip_blanks-line.result.now none) ∙ same)

pub returns-else-is_empty : goal.returns-else-is_empty
returns-else-is_empty c =
    let line = c.skip_blanks-line.result.now in
    let some : 0 < length line = search rules in
    elim (eqb_tells (get_or line 0 0) 59) [
      | inl e ↦ e.0 ∙ ap is_none_left (sym (comment_parts line some e.1) ∙ c.skip_blanks-line.ensures.same)
      | inr n ↦ n.0 ∙ sym (mark_is_left line some c.skip_blanks-line.ensures.front n.1) ∙ ap is_none_left c.skip_blanks-line.ensures.same
    ]
