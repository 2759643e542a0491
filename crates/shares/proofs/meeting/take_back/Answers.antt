use Rattle.std.proofs.Common.{rules, ◌≡◌, ◌∙◌, ◌<◌, ◌∷◌, [], ◌++◌, length, map, take, drop, slice_set, slice_index_or, length-append, append_assoc, subst, sym, refl, ap, arith}
use Rattle.std.specs.Vec.Iter.{into_iter_items}
use Rattle.shares.specs.Owned.{DequeValue, OtherValue}
use Rattle.shares.specs.Meeting.{deques_with}
use Rattle.shares.proofs.Reunion.{nothing_back, length_back, length_names, back_next, back_name, no_more}
use Rattle.shares.proofs.meeting.take_back.Goals as goal

pub loop-other-init : goal.loop-other-init
loop-other-init g c = (search rules, refl, nothing_back _, search rules)

pub index_mut-requires : goal.index_mut-requires
index_mut-requires g c =
    let at = c.loop-other in
    let x = c.in-Some.other in
    let ds = c.args.deques.now.items in
    let steps : into_iter_items at.other-iterator ≡ x ∷ into_iter_items c.next.new.self = c.in-Some.ensures.steps.0 in
    let all : at.yielded ++ x ∷ into_iter_items c.next.new.self ≡ c.args.others.items = rw (← steps) (at.invariant.0 ∙ c.into_iter-other-iterator.ensures.into_iter_gives.0) in
    let many = no_more c.args.others.items (λ (o : OtherValue). o.name) (map (λ (d : DequeValue). d.name) ds) c.requires.names in
    let lt : length at.yielded < length ds = omega (arith, ap length all, length-append at.yielded (x ∷ into_iter_items c.next.new.self), many, length_names ds) in
    omega (arith, at.invariant.1, ap length at.invariant.2, length_back ds at.yielded (omega (arith, lt)), lt)

pub take_back-requires : goal.take_back-requires
take_back-requires g c =
    let at = c.loop-other in
    let x = c.in-Some.other in
    let d = c.index_mut.result.now in
    let ds = c.args.deques.now.items in
    let rest = into_iter_items c.next.new.self in
    let steps : into_iter_items at.other-iterator ≡ x ∷ rest = c.in-Some.ensures.steps.0 in
    let all : at.yielded ++ x ∷ rest ≡ c.args.others.items = rw (← steps) (at.invariant.0 ∙ c.into_iter-other-iterator.ensures.into_iter_gives.0) in
    let many = no_more c.args.others.items (λ (o : OtherValue). o.name) (map (λ (e : DequeValue). e.name) ds) c.requires.names in
    let lt : length at.yielded < length ds = omega (arith, ap length all, length-append at.yielded (x ∷ rest), many, length_names ds) in
    let names = subst (λ os. map (λ (o : OtherValue). o.name) os ≡ take (length os) (map (λ (e : DequeValue). e.name) ds)) (sym all) c.requires.names in
    let value : d ≡ slice_index_or (deques_with ds at.yielded ++ drop (length at.yielded) ds) (length at.yielded) d = c.index_mut.ensures.value ∙ (λ i. slice_index_or (at.invariant.2 i) (at.invariant.1 i) d) in
    record { name = back_name ds at.yielded x rest d lt names value }

pub loop-other-preserved : goal.loop-other-preserved
loop-other-preserved g c =
    let at = c.loop-other in
    let x = c.in-Some.other in
    let d = c.index_mut.result.now in
    let ds = c.args.deques.now.items in
    let rest = into_iter_items c.next.new.self in
    let steps : into_iter_items at.other-iterator ≡ x ∷ rest = c.in-Some.ensures.steps.0 in
    let all : at.yielded ++ x ∷ rest ≡ c.args.others.items = rw (← steps) (at.invariant.0 ∙ c.into_iter-other-iterator.ensures.into_iter_gives.0) in
    let many = no_more c.args.others.items (λ (o : OtherValue). o.name) (map (λ (e : DequeValue). e.name) ds) c.requires.names in
    let lt : length at.yielded < length ds = omega (arith, ap length all, length-append at.yielded (x ∷ rest), many, length_names ds) in
    let value : d ≡ slice_index_or (deques_with ds at.yielded ++ drop (length at.yielded) ds) (length at.yielded) d = c.index_mut.ensures.value ∙ (λ i. slice_index_or (at.invariant.2 i) (at.invariant.1 i) d) in (
      append_assoc at.yielded (x ∷ []) _ ∙ rw (← steps) at.invariant.0,
      omega (arith, at.invariant.1, length-append at.yielded (x ∷ [])),
      (λ i. slice_set (at.invariant.2 i) (at.invariant.1 i) (c.take_back.ensures i)) ∙ back_next ds at.yielded x d lt value,
      let was = at.invariant.3 in
          let gone = c.in-Some.ensures.steps.1 in
          let short = ap length steps in
          omega arith,
    )
