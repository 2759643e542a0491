use Rattle.std.proofs.Common.{◌∙◌, ap}
use Rattle.request.specs.FaultLine.{fault_text}
use Rattle.crashbpf.proofs.Said.{says_notes}
use Rattle.crashbpf.proofs.print_refused.Goals as goal

pub returns-then-print-clause-said : goal.returns-then-print-clause-said
returns-then-print-clause-said g c =
    says_notes _ _ _ _ _ _ _ (c.as_str.ensures.value ∙ c.refusal_line.ensures ∙ ap fault_text c.refusal-refusal.ensures) c.print.ensures.said (c.print.ensures.going c.if-print.true) c.print_notes.ensures
