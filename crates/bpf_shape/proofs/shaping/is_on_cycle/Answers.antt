use Rattle.std.proofs.Common.{◌≡◌, length, arith, sym, ◌∙◌, true, false}
use Rattle.bpf_shape.specs.Again.{plain}
use Rattle.bpf_shape.specs.Paths.{Leads}
use Rattle.bpf_shape.proofs.Partial.{length_here}
use Rattle.bpf_shape.proofs.Longest.{no_cycle}
use Rattle.bpf_shape.proofs.shaping.is_on_cycle.Goals as goal

pub returns-then-is_some : goal.returns-then-is_some
returns-then-is_some c =
    let n = length c.args.program.now in
    let l = c.requires.lengths in
    let read = length_here c.args.lengths.now.items c.args.slot c.index.result.now (omega (arith, c.requires.slot, l.settled.partial.long)) c.index.ensures (sym c.is_some.ensures ∙ c.if-is_some.true) in (
      λ bad. absurd (let worse : false ≡ true = bad in cc),
      λ cycle. absurd (no_cycle (plain c.args.program.now) n l.weights c.args.lengths.now.items l.settled.partial c.args.slot read.0 read.1 cycle),
    )

pub reach_of_edges-requires-clause-within : goal.reach_of_edges-requires-clause-within
reach_of_edges-requires-clause-within c = λ t leads.
    let there : Leads (plain c.args.program.now c.args.slot) t = rw c.plain.ensures at leads in
    c.requires.edges c.args.slot t there
