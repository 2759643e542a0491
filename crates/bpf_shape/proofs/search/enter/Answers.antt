use Rattle.std.proofs.Common.{◌≡◌, Some, ◌∙◌}
use Rattle.bpf_shape.specs.Calls.{callee}
use Rattle.bpf_shape.specs.Search.{Met}
use Rattle.bpf_shape.proofs.Meeting.{meet_one}
use Rattle.bpf_shape.proofs.Searching.{met_marked, read_mark}
use Rattle.bpf_shape.proofs.search.enter.Goals as goal

pub returns-in_ok-meet_slot : goal.returns-in_ok-meet_slot
returns-in_ok-meet_slot c =
    let m = c.args.marks.now.items in
    let w = c.args.waiting.now.items in
    let here : Met (λ t. callee c.args.program.now c.args.slot ≡ Some t) m w c.meet_slot.new.marks.items c.meet_slot.new.waiting.items =
    rw (c.in_ok-meet_slot.ensures.marks, c.in_ok-meet_slot.ensures.waiting, c.callee.ensures) (meet_one (callee c.args.program.now c.args.slot) m w) in
    let read = read_mark c.args.outer.now.items c.args.slot c.index.result.now c.requires c.index.ensures in
    met_marked c.args.program.now c.args.outer.now.items c.args.slot m _ w _ (read ∙ c.if-index.true) here
