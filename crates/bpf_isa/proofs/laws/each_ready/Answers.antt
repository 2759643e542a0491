use Rattle.bpf_isa.proofs.Records.{record_at, record_at_end, records_long}
use Rattle.bpf_isa.proofs.laws.each_ready.Goals as goal

pub returns : goal.returns
returns c = record { slot = record_at; end = record_at_end; long = records_long }
