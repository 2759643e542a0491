use Rattle.bpf_shape.proofs.Searching.{start_one}
use Rattle.bpf_shape.proofs.search.reached_from.Goals as goal

pub reach_of_edges-requires-clause-within : goal.reach_of_edges-requires-clause-within
reach_of_edges-requires-clause-within c = λ t leads. rw (start_one c.args.slot t leads) at c.requires.within
