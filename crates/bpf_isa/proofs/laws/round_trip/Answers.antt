use Rattle.bpf_isa.specs.Program.{IsSpelledBy}
use Rattle.bpf_isa.proofs.Unique.{same_again, only_memory}
use Rattle.bpf_isa.proofs.laws.round_trip.Goals as goal

pub returns-clause-same : goal.returns-clause-same
returns-clause-same c =
    let spelled : IsSpelledBy c.as_slice.result.now c.args.program.now = rw c.as_slice.ensures.value c.in_ok-bytes.ensures.spelled in
    same_again c.as_slice.result.now c.args.program.now c.decode.result spelled c.decode.ensures.spelled

pub returns-clause-fault : goal.returns-clause-fault
returns-clause-fault c =
    let spelled : IsSpelledBy c.as_slice.result.now c.args.program.now = rw c.as_slice.ensures.value c.in_ok-bytes.ensures.spelled in
    only_memory c.as_slice.result.now c.args.program.now c.decode.result spelled c.decode.ensures.fault
