use Rattle.std.proofs.Common.{inr, sym, arith}
use Rattle.logfmt.specs.Faults.{in_super}
use Rattle.logfmt.proofs.Progress.{go_on, whole_text, fault_here}
use Rattle.logfmt.proofs.reader.read.Goals as goal

pub returns-in-Some-clause-fault : goal.returns-in-Some-clause-fault
returns-in-Some-clause-fault c = inr (in_super c.in-Some.code (sym c.in-Some.ensures.exact))

pub returns-in-Err-clause-fault : goal.returns-in-Err-clause-fault
returns-in-Err-clause-fault c =
    inr (fault_here _ _ c.args.limits _ _ _ _ c.in-Err.code (sym c.in_default.ensures.exact) (omega arith) c.loop-number.invariant c.in-Err.ensures.exact)

pub loop-number-preserved : goal.loop-number-preserved
loop-number-preserved c =
    let made = c.entry_of.ensures in
    rw c.in_ok-push.ensures.items
    (go_on _ _ _ _ _ _ _ c.entry_of.result c.loop-number.invariant c.in-Ok.ensures.exact made.stands made.fits made.recorded
    c.in-Ok.header c.in-Ok.ensures.stands c.in-Ok.ensures.within c.data_sectors.result c.data_sectors.ensures)

pub returns-clause-found : goal.returns-clause-found
returns-clause-found c =
    let passed = c.in_default.ensures.passes in
    rw (c.of.ensures, c.none.ensures)
    (whole_text _ _ c.args.limits _ _ _ _ passed c.requires.some c.requires.device (omega arith) c.loop-number.invariant)

pub returns-clause-units : goal.returns-clause-units
returns-clause-units c =
    let so = c.loop-number.invariant in
    rw c.of.ensures (omega (arith, so.sum, so.within))
