use Rattle.bpf_asm.specs.Says.{Says}
use Rattle.bpf_asm.proofs.Programs.{same_again, only_memory}
use Rattle.bpf_asm.proofs.laws.round_trip.Goals as goal

pub returns-clause-same : goal.returns-clause-same
returns-clause-same c =
    let value = c.as_str.ensures.value in
    let listed = c.in_ok-text.ensures.says in
    let said : Says c.as_str.result.now c.args.program.now = rw (← value) at listed in
    same_again c.as_str.result.now c.args.program.now c.assemble.result said c.assemble.ensures.says

pub returns-clause-fault : goal.returns-clause-fault
returns-clause-fault c =
    let value = c.as_str.ensures.value in
    let listed = c.in_ok-text.ensures.says in
    let said : Says c.as_str.result.now c.args.program.now = rw (← value) at listed in
    only_memory c.as_str.result.now c.args.program.now c.assemble.result said c.assemble.ensures.fault
