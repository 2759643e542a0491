use Rattle.crashbpf.proofs.print_cut.Goals as goal

pub returns-in-Unwritten-clause-said : goal.returns-in-Unwritten-clause-said
returns-in-Unwritten-clause-said g c = rw c.in-Unwritten.is c.print_line.ensures.said
