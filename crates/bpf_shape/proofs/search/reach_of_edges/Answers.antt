use Rattle.std.proofs.Common.{rules, ◌≡◌, [], length, false, replicate}
use Rattle.bpf_shape.specs.Paths.{Leads}
use Rattle.bpf_shape.specs.Search.{search_edges, Met}
use Rattle.bpf_shape.proofs.Searching.{met_wait, marks_of}
use Rattle.bpf_shape.proofs.search.reach_of_edges.Goals as goal

pub spread-requires-clause-wait : goal.spread-requires-clause-wait
spread-requires-clause-wait c =
    let empty : c.resize.new.self.items ≡ replicate (length c.args.program.now) false = search rules in
    let none : c.new-waiting.result.items ≡ [] = c.new-waiting.ensures.items in
    met_wait (Leads c.args.from) (length c.args.program.now) _ _ (rw (empty, none) at c.in_ok-meet.ensures)

pub returns : goal.returns
returns c =
    let empty : c.resize.new.self.items ≡ replicate (length c.args.program.now) false = search rules in
    let none : c.new-waiting.result.items ≡ [] = c.new-waiting.ensures.items in
    let met : Met (Leads c.args.from) (replicate (length c.args.program.now) false) [] c.meet.new.marks.items c.meet.new.waiting.items =
    rw (empty, none) at c.in_ok-meet.ensures in
    marks_of (Leads c.args.from) (search_edges c.args.kind c.args.program.now) (length c.args.program.now) _ _ _ c.requires.within met c.in_ok-spread.ensures
