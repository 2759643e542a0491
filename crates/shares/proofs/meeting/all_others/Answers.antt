use Rattle.std.proofs.Common.{rules, ◌≡◌, ◌∙◌, ◌-◌, ◌<◌, ◌++◌, length, map, take, drop, subst, sym, arith}
use Rattle.std.proofs.lemmas.List.{map-append}
use Rattle.std.specs.Vec.{vec_len}
use Rattle.shares.specs.Owned.{DequeValue}
use Rattle.shares.specs.Meeting.{empty_deque}
use Rattle.shares.proofs.Reunion.{length_names, dealing_begins, dealing_ends, can_give, dealing_next}
use Rattle.shares.proofs.meeting.all_others.Goals as goal

pub loop-hand-init : goal.loop-hand-init
loop-hand-init g c =
    let ds = c.args.deques.now.items in
    let empty = subst (λ n. ds ≡ map (empty_deque n) (map (λ (d : DequeValue). d.name) ds)) (sym (length_names ds)) c.requires.empty in
    (search rules, rw c.in_ok-others.ensures.items (dealing_begins (map (λ (d : DequeValue). d.name) ds) ds empty))

pub others_of-requires : goal.others_of-requires
others_of-requires g c =
    let at = c.loop-hand in
    let ds = c.args.deques.now.items in
    record { parts = can_give _ at._hand at.deques.items _ at.invariant.1 (omega (arith, c.loop-hand-test.true, at.invariant.0, length_names ds)) }

pub loop-hand-preserved : goal.loop-hand-preserved
loop-hand-preserved g c =
    let at = c.loop-hand in
    let ds = c.args.deques.now.items in
    let after = c.others_of.new.deques.items in
    let len : vec_len c.others_of.new.deques ≡ length after = search rules in
    let turned : c.rotate_right.new.self.items ≡ drop (length after - 1) after ++ take (length after - 1) after = c.rotate_right.ensures.items ∙ (λ i. drop (len i - 1) after ++ take (len i - 1) after) in
    let more : at._hand < length (map (λ (d : DequeValue). d.name) ds) = omega (arith, c.loop-hand-test.true, at.invariant.0, length_names ds) in (
      at.invariant.0,
      rw (c.in_ok-push.ensures.items, map-append)
          (dealing_next _ at._hand at.deques.items _ at.invariant.1 more after c.rotate_right.new.self.items c.in_ok-others_of.field-0.items c.in_ok-others_of.ensures.deques turned c.in_ok-others_of.ensures.others),
    )

pub returns-clause-deques : goal.returns-clause-deques
returns-clause-deques g c =
    let at = c.loop-hand in
    let ds = c.args.deques.now.items in
    dealing_ends _ at._hand at.deques.items _ at.invariant.1 (omega (arith, c.loop-hand-test.false, at.auto._hand-end, at.invariant.0, length_names ds))
