use Rattle.bpf_asm.proofs.Again as again
use Rattle.bpf_asm.proofs.laws.listing_says.Goals as goal

pub returns : goal.returns
returns c = again.listing_says
