use Rattle.std.proofs.Common.{◌≡◌, Some}
use Rattle.bpf_shape.specs.Search.{Met}
use Rattle.bpf_shape.proofs.Meeting.{meet_one, meet_both}
use Rattle.bpf_shape.proofs.search.meet.Goals as goal

pub returns : goal.returns
returns c =
    let m1 = c.meet_slot.new.marks.items in
    let w1 = c.meet_slot.new.waiting.items in
    let first : Met (λ t. c.args.edges.next ≡ Some t) c.args.marks.now.items c.args.waiting.now.items m1 w1 =
    rw (c.in_ok-meet_slot.ensures.marks, c.in_ok-meet_slot.ensures.waiting) (meet_one c.args.edges.next c.args.marks.now.items c.args.waiting.now.items) in
    let second : Met (λ t. c.args.edges.target ≡ Some t) m1 w1 c.meet_slot-2.new.marks.items c.meet_slot-2.new.waiting.items =
    rw (c.in_ok-meet_slot-2.ensures.marks, c.in_ok-meet_slot-2.ensures.waiting) (meet_one c.args.edges.target m1 w1) in
    meet_both (λ t. c.args.edges.next ≡ Some t) (λ t. c.args.edges.target ≡ Some t) _ m1 _ _ w1 _ first second
