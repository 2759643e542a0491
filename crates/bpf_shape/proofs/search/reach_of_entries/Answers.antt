use Rattle.std.proofs.Common.{rules, ◌≡◌, [], length, false, replicate, arith}
use Rattle.bpf_shape.specs.Search.{Met, Enters}
use Rattle.bpf_shape.specs.Edges.{control}
use Rattle.bpf_shape.proofs.Searching.{none_entered, met_entry, met_wait, marks_of, entries_inside}
use Rattle.bpf_shape.proofs.search.reach_of_entries.Goals as goal

pub loop-slot-init : goal.loop-slot-init
loop-slot-init c =
    let empty : c.resize.new.self.items ≡ replicate (length c.args.program.now) false = search rules in
    let none : c.new-waiting.result.items ≡ [] = c.new-waiting.ensures.items in
    rw (empty, none) (none_entered c.args.program.now c.args.outer.now.items (replicate (length c.args.program.now) false) [])

pub loop-slot-preserved : goal.loop-slot-preserved
loop-slot-preserved c =
    met_entry c.args.program.now c.args.outer.now.items c.loop-slot.slot _ c.loop-slot.marks.items _ [] c.loop-slot.waiting.items _ c.loop-slot.invariant c.in_ok-enter.ensures

pub spread-requires-clause-wait : goal.spread-requires-clause-wait
spread-requires-clause-wait c =
    met_wait (Enters c.args.program.now c.args.outer.now.items c.loop-slot.slot) (length c.args.program.now) c.loop-slot.marks.items c.loop-slot.waiting.items c.loop-slot.invariant

pub returns : goal.returns
returns c =
    let all : c.loop-slot.slot ≡ length c.args.program.now = omega arith in
    let met : Met (Enters c.args.program.now c.args.outer.now.items (length c.args.program.now)) (replicate (length c.args.program.now) false) [] c.loop-slot.marks.items c.loop-slot.waiting.items =
    rw all at c.loop-slot.invariant in
    marks_of (Enters c.args.program.now c.args.outer.now.items (length c.args.program.now)) (control c.args.program.now) (length c.args.program.now)
    c.loop-slot.marks.items c.spread.new.marks.items c.loop-slot.waiting.items
    (entries_inside c.args.program.now c.args.outer.now.items (length c.args.program.now) c.requires.entries) met c.in_ok-spread.ensures
