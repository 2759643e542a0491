use Rattle.std.proofs.Common.{rules, inl, inr, arith}
use Rattle.input_files.proofs.Reaching.{first_unknown, first_known}
use Rattle.input_files.proofs.reach.RawReach.of_super.Goals.{else-size-ne512-via-then-size-ne512+else-size-ne4096, else-size-ne512-via-else-size-ne512, then-left-eq0, else-left-eq0}
use Rattle.input_files.proofs.reach.RawReach.of_super.Goals as goal

pub returns-then-size-ne4096-clause-reach : goal.returns-then-size-ne4096-clause-reach
returns-then-size-ne4096-clause-reach c = λ rest. first_unknown c.args.limits _ rest c.from-size.result c.requires.there (search rules) c.if-size-ne512.true c.if-size-ne4096.true

pub returns-clause-reach : goal.returns-clause-reach
returns-clause-reach c = λ rest.
    first_known c.args.limits _ rest c.from-size.result c.if-left-eq0.needed c.u64_at-left.result c.requires.there (search rules)
    (elim c.else-size-ne512.branch [
      | else-size-ne512-via-then-size-ne512+else-size-ne4096 w ↦ inr (search rules)
      | else-size-ne512-via-else-size-ne512 w ↦ inl (search rules)
    ])
    c.u64_at-left.ensures
    (λ h. elim c.if-left-eq0.branch [ then-left-eq0 w ↦ w.needed-is | else-left-eq0 w ↦ absurd (w.if-left-eq0.false h) ])
    (λ h. elim c.if-left-eq0.branch [ then-left-eq0 w ↦ absurd (omega (arith, h, w.if-left-eq0.true)) | else-left-eq0 w ↦ w.needed-is ])
