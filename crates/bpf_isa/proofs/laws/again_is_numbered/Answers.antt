use Rattle.bpf_isa.proofs.Records.{again_below, again_apart}
use Rattle.bpf_isa.proofs.laws.again_is_numbered.Goals as goal

pub returns : goal.returns
returns c = record { below = again_below; apart = again_apart }
