use Rattle.std.proofs.Common.{rules, false, ◌≡◌, ◌∙◌, ◌<◌, [], ℕ, List, All, map, ap, sym, subst, arith}
use Rattle.std.proofs.lemmas.List.{length-map}
use Rattle.shares.specs.Hands.{HandValue, AreTogether, AreLeft, IsEmptyHand, some_refused}
use Rattle.workers.proofs.Back.{jobs_fresh, all_back, hands_shut, places_back, done_count}
use Rattle.workers.proofs.crew.crew_back.Goals as goal

pub jobs_of-requires-clause-hands : goal.jobs_of-requires-clause-hands
jobs_of-requires-clause-hands g c = sym (length-map c.in_ok-hands.field-0.items (λ (h : HandValue). h.place)) ∙ c.in_ok-hands.ensures.together.count ∙ sym c.in_ok-board.ensures.seats.0

pub all_done-requires-clause-fresh : goal.all_done-requires-clause-fresh
all_done-requires-clause-fresh g c =
    let name = c.in_ok-board.board.name in
    let own : All (λ j. (j.seat.board ≡ name) × (j.seat.steps ≡ []) × IsEmptyHand j.hand) c.in_ok-jobs.jobs.items =
    jobs_fresh name c.in_ok-jobs.jobs.items c.in_ok-board.seats.items c.in_ok-jobs.ensures.seats c.in_ok-board.ensures.seats.1 c.in_ok-jobs.ensures.empty in
    search rules

pub blocks_left-requires : goal.blocks_left-requires
blocks_left-requires g c =
    let places = map (λ (h : HandValue). h.place) c.in_ok-hands.field-0.items in
    let back : map (λ (h : HandValue). h.place) c.reverse.new.self.items ≡ places =
    places_back c.args.input.now c.in_ok-board.board.name _ places c.in_ok-done.done.items c.in_ok-seats.field-0.seats.items c.in_ok-seats.field-0.hands.items c.reverse.new.self.items c.in_ok-seats.field-0.pieces.items
    c.in_ok-jobs.ensures.places c.in_ok-done.ensures c.in_ok-seats.ensures c.reverse.ensures.items in
    record {
      together = subst (λ (n : ℕ). AreTogether n (map (λ (h : HandValue). h.place) c.reverse.new.self.items)) (sym c.requires.workers) (subst (AreTogether c.args.crew) (sym back) c.in_ok-hands.ensures.together);
    }

pub returns-clause-back : goal.returns-clause-back
returns-clause-back g c =
    let places = map (λ (h : HandValue). h.place) c.in_ok-hands.field-0.items in
    let many = done_count c.args.input.now c.in_ok-board.board.name _ places c.in_ok-done.done.items c.in_ok-jobs.ensures.places c.in_ok-done.ensures in
    let left = c.in_ok-left.left.items in
    all_back c.args.input.now c.in_ok-board.board _ c.in_ok-done.done.items c.in_ok-seats.field-0.seats.items c.in_ok-seats.field-0.hands.items c.in_ok-seats.field-0.pieces.items left c.in_ok-done.ensures c.in_ok-seats.ensures
    (subst (λ (hs : List HandValue). AreLeft hs left) c.reverse.ensures.items c.in_ok-left.ensures.left) (subst (λ (n : ℕ). All (λ (b : ℕ). b < n) left) c.requires.blocks c.in_ok-left.ensures.below)
    (omega (arith, c.in_ok-board.ensures.board.1, many, c.in_ok-hands.ensures.together.count))
    (omega (arith, c.requires.crew.0, many, c.in_ok-hands.ensures.together.count))
    (c.in_ok-board.ensures.board.0 ∙ c.block_count.ensures.value)
    (omega (arith, c.block_count.ensures.value, c.block_count.ensures.few))

pub returns-clause-none_left : goal.returns-clause-none_left
returns-clause-none_left g c = λ not_refused.
    let turned = c.reverse.new.self.items in
    let none : some_refused turned ≡ false = ap some_refused (sym c.as_slice.ensures.value) ∙ sym c.are_refused-refused.ensures ∙ not_refused in
    c.in_ok-left.ensures.closed
    (hands_shut c.args.input.now c.in_ok-board.board.name _ c.in_ok-done.done.items c.in_ok-seats.field-0.seats.items c.in_ok-seats.field-0.hands.items turned c.in_ok-seats.field-0.pieces.items c.in_ok-done.ensures c.in_ok-seats.ensures
    c.reverse.ensures.items none)
