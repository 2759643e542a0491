use Rattle.std.proofs.Common.{append-nil, append_assoc, refl, ◌∙◌, string_bytes}
use Rattle.std.proofs.lemmas.Result.{on_ok_weaker}
use Rattle.notes.proofs.LinesOfC.{source_some, source_none}
use Rattle.notes.proofs.sources.put_source.Goals as goal

pub returns-in-Some : goal.returns-in-Some
returns-in-Some c =
    let place = source_some c.args.lines.now c.args.slot c.as_str.result.now c.line_at.result c.in-Some.line (c.as_str.ensures.value ∙ c.in_ok-word.ensures.ok) c.line_at.ensures c.in-Some.is in
    on_ok_weaker c.write.result (λ said. said ∙ simp (append_assoc, place)) c.write.ensures.bytes

pub returns : goal.returns
returns c =
    let none = source_none c.args.lines.now c.args.slot c.as_str.result.now c.line_at.result (c.as_str.ensures.value ∙ c.in_ok-word.ensures.ok) c.line_at.ensures c.in-None.is in
    rw (none, append-nil (string_bytes c.args.out.now)) refl
