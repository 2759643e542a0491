use Rattle.std.proofs.Common.{rules, ◌≡◌, [], length}
use Rattle.bpf_shape.specs.Paths.{Leads}
use Rattle.bpf_shape.specs.Search.{search_edges, Met, IsMarked}
use Rattle.bpf_shape.proofs.Searching.{begin, go_on, end}
use Rattle.bpf_shape.proofs.search.spread.Goals as goal

pub loop-slot-init : goal.loop-slot-init
loop-slot-init c = begin (search_edges c.args.kind c.args.program.now) (length c.args.program.now) c.args.marks.now.items c.args.waiting.now.items c.requires.wait

pub loop-slot-preserved : goal.loop-slot-preserved
loop-slot-preserved c =
    let met : Met (Leads (search_edges c.args.kind c.args.program.now c.in-Some.slot)) c.loop-slot.marks.items c.pop.new.self.items c.meet.new.marks.items c.meet.new.waiting.items =
    rw c.edges_by.ensures at c.in_ok-meet.ensures in
    go_on (search_edges c.args.kind c.args.program.now) (length c.args.program.now) (IsMarked c.args.marks.now.items) c.loop-slot.marks.items _ c.pop.new.self.items _ c.loop-slot.waiting.items
    c.in-Some.slot c.requires.edges c.in-Some.ensures.items c.loop-slot.invariant met

pub returns : goal.returns
returns c =
    let none : c.loop-slot.waiting.items ≡ [] = search rules in
    end (search_edges c.args.kind c.args.program.now) (length c.args.program.now) (IsMarked c.args.marks.now.items) c.loop-slot.marks.items c.loop-slot.waiting.items none c.loop-slot.invariant
