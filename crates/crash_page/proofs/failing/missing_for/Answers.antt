use Rattle.std.proofs.Common.{length}
use Rattle.std.proofs.lemmas.Result.{IfOk-weaker}
use Rattle.crash_page.proofs.Owned.{inside_of, missing_of_own}
use Rattle.crash_page.proofs.failing.missing_for.Goals as goal

pub missing_of-requires : goal.missing_of-requires
missing_of-requires c =
    inside_of (length c.args.log.now.entries) c.args.program c.args.failures.now c.in_ok-own.own.items c.as_slice.result.now c.requires c.in_ok-own.ensures c.as_slice.ensures.value

pub returns : goal.returns
returns c =
    IfOk-weaker c.missing_of.result _ _
    (λ ms are. missing_of_own c.args.program c.args.failures.now c.in_ok-own.own.items c.as_slice.result.now ms.items c.in_ok-own.ensures c.as_slice.ensures.value are) c.missing_of.ensures
