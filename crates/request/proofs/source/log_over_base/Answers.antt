use Rattle.std.proofs.Common.{rules, ℕ, ◌≡◌, ◌≤◌, ◌⊎◌, ◌∙◌, List, length, ap, subst, arith}
use Rattle.base.specs.Sizes.{byte_limit, unit_limit}
use Rattle.base.specs.declared.causes.LogCause.TheVariants as cause
use Rattle.base.specs.declared.limits.Limits.{Limits}
use Rattle.logfmt.specs.Bounds.{AreBytes, units_of}
use Rattle.logfmt.specs.Faults.{FirstFault}
use Rattle.request.proofs.Logs.{recorded_over}
use Rattle.request.proofs.source.log_over_base.Goals as goal

pub returns-in-Err-clause-fault : goal.returns-in-Err-clause-fault
returns-in-Err-clause-fault c =
    subst (λ (n : ℕ). (c.in-Err.fault ≡ record { code = cause.Memory; at = 0 }) ⊎ FirstFault c.args.bytes.now n c.args.options.now.limits c.in-Err.fault.code c.in-Err.fault.at)
    c.sectors.ensures.value
    (subst (λ (l : Limits). (c.in-Err.fault ≡ record { code = cause.Memory; at = 0 }) ⊎ FirstFault c.args.bytes.now c.sectors.result l c.in-Err.fault.code c.in-Err.fault.at)
    c.limits.ensures c.in-Err.ensures.fault)

pub over-requires : goal.over-requires
over-requires c =
    let long = ap (λ (xs : List ℕ). length xs) c.of.ensures in
    let device = c.in-Ok.ensures.sectors ∙ c.sectors.ensures.value in
    let fits = c.requires in
    omega (arith, long, device, fits)

pub returns-in-Ok-clause-log : goal.returns-in-Ok-clause-log
returns-in-Ok-clause-log c =
    let are : AreBytes c.args.initial.now = search rules in
    rw (c.over.ensures, c.of.ensures)
    (recorded_over (record { text = c.args.bytes.now; initial = c.args.initial.now }) c.args.options.now c.in-Ok.log c.in-Ok.ensures.found
    (c.in-Ok.ensures.sectors ∙ c.sectors.ensures.value)
    (subst (λ (l : Limits). length c.args.bytes.now ≤ byte_limit l) c.limits.ensures c.in-Ok.ensures.size)
    (subst (λ (l : Limits). units_of c.in-Ok.log.entries ≤ unit_limit l) c.limits.ensures c.in-Ok.ensures.units) c.requires are)
