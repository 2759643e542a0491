use Rattle.std.proofs.Common.{sym, ◌∙◌}
use Rattle.inspect.specs.TrialText.{for_size, for_limit, no_memory}
use Rattle.inspect.proofs.TrialRefused.{unlined, undecoded}
use Rattle.inspect.proofs.trial.trying.try_image.Goals as goal

pub returns-then-not-is_image-clause-refused : goal.returns-then-not-is_image-clause-refused
returns-then-not-is_image-clause-refused c = rw c.unreadable.ensures (for_size (sym c.is_image.ensures.value ∙ c.if-not-is_image.true))

pub returns-in-Err-clause-refused : goal.returns-in-Err-clause-refused
returns-in-Err-clause-refused c =
    unlined c.args.code.now c.args.image.now c.args.lines.now c.args.asked.now c.in-Err.refusal (sym c.is_image.ensures.value ∙ c.if-not-is_image.false) c.in-Err.ensures.refused

pub returns-in-Err-decode-clause-refused : goal.returns-in-Err-decode-clause-refused
returns-in-Err-decode-clause-refused c =
    rw c.bytes_refusal_of.ensures
    (undecoded c.args.code.now c.args.image.now c.args.lines.now _ c.args.asked.now c.in-Err-decode.fault (sym c.is_image.ensures.value ∙ c.if-not-is_image.false) c.in-Ok.ensures.read
    c.in-Err-decode.ensures.fault)

pub returns-in-Err-limit_of-clause-refused : goal.returns-in-Err-limit_of-clause-refused
returns-in-Err-limit_of-clause-refused c =
    for_limit _ _ c.in-Err-limit_of.refusal (sym c.is_image.ensures.value ∙ c.if-not-is_image.false) c.in-Ok.ensures.read c.in-Ok-decode.ensures.spelled c.in-Err-limit_of.ensures.refused

pub returns-clause-refused : goal.returns-clause-refused
returns-clause-refused c = rw c.of_memory.ensures (no_memory (sym c.is_image.ensures.value ∙ c.if-not-is_image.false))
