use Rattle.std.proofs.Common.{arith, ℕ, ◌≡◌, ◌++◌, sym, subst}
use Rattle.base.specs.Sizes.{raw_limit}
use Rattle.input_files.specs.RawLogs.{IsReach}
use Rattle.input_files.proofs.Reaching.{go_on}
use Rattle.input_files.proofs.reach.RawReach.beyond.Goals.{then-left-eq0, else-left-eq0}
use Rattle.input_files.proofs.reach.RawReach.beyond.Goals as goal

pub returns-then-needed-most-clause-reach : goal.returns-then-needed-most-clause-reach
returns-then-needed-most-clause-reach c = λ rest is.
    let same : c.raw_bytes-most.result ≡ raw_limit c.args.self.limits = c.raw_bytes-most.ensures.value in
    subst (λ (n : ℕ). IsReach c.args.self.limits (c.args.raw.now ++ rest) c.args.self.size n 0) (sym same)
    ((go_on _ rest c.args.self c.data_bytes-data.result c.saturating_add.result c.if-left-eq0.next c.saturating_add-needed.result c.requires.left c.args.self.sector
    c.args.self.header c.requires.there c.data_bytes-data.ensures
    (λ h. elim c.if-left-eq0.branch [ then-left-eq0 w ↦ w.next-is | else-left-eq0 w ↦ absurd (w.if-left-eq0.false h) ])
    (λ h. elim c.if-left-eq0.branch [ then-left-eq0 w ↦ absurd (omega (arith, h, w.if-left-eq0.true)) | else-left-eq0 w ↦ w.next-is ])
    c.saturating_add.ensures c.saturating_add-needed.ensures is).0 (omega (arith, same, c.if-needed-most.true)))

pub returns-clause-reach : goal.returns-clause-reach
returns-clause-reach c = λ rest is.
    let same : c.raw_bytes-most.result ≡ raw_limit c.args.self.limits = c.raw_bytes-most.ensures.value in
    (go_on _ rest c.args.self c.data_bytes-data.result c.saturating_add.result c.if-left-eq0.next c.saturating_add-needed.result c.requires.left c.args.self.sector
    c.args.self.header c.requires.there c.data_bytes-data.ensures
    (λ h. elim c.if-left-eq0.branch [ then-left-eq0 w ↦ w.next-is | else-left-eq0 w ↦ absurd (w.if-left-eq0.false h) ])
    (λ h. elim c.if-left-eq0.branch [ then-left-eq0 w ↦ absurd (omega (arith, h, w.if-left-eq0.true)) | else-left-eq0 w ↦ w.next-is ])
    c.saturating_add.ensures c.saturating_add-needed.ensures is).1 (omega (arith, same, c.if-needed-most.false))
