use Rattle.std.specs.Prelude.{codes, string_bytes}
use Rattle.std.proofs.lemmas.Result.{on_ok_weaker}
use Rattle.inspect.specs.TrialText.{context_text, program_text, head_text}
use Rattle.inspect.proofs.Changes.{three_parts}
use Rattle.inspect.proofs.trial.trying.put_head.Goals as goal

pub returns : goal.returns
unfolding head_text
returns c =
    on_ok_weaker c.put_program.result
    (three_parts (string_bytes c.args.out.now) (codes "crash check 1\n") (context_text c.args.context.now) (program_text c.args.checked c.args.slots (record { limit = c.args.bounds.limit; guarded = c.args.bounds.guarded }))
    (string_bytes c.write.new.self) (string_bytes c.put_context.new.out) (string_bytes c.put_program.new.out) c.in_ok-write.ensures.bytes c.in_ok-put_context.ensures)
    c.put_program.ensures
