use Rattle.std.proofs.Common.{rules, ◌≡◌, ◌∙◌, ◌-◌, ◌++◌, ◌∷◌, [], length, map, take, drop, ap, arith}
use Rattle.std.proofs.lemmas.List.{length-map, map-append}
use Rattle.std.specs.Vec.{vec_len}
use Rattle.shares.proofs.Reunion.{reuniting_begins, own_fit, some_after, reuniting_next, reuniting_ends}
use Rattle.shares.proofs.meeting.take_all_back.Goals as goal

pub loop-own-init : goal.loop-own-init
loop-own-init g c = reuniting_begins c.args.deques.now.items _ (length-map c.args.others.items _ ∙ c.requires.count) c.requires.one_part

pub take_back-requires : goal.take_back-requires
take_back-requires g c =
    let at = c.loop-own in
    record { names = own_fit c.args.deques.now.items _ at.deques.items _ _ c.in-Some.own.items at.invariant (ap (map (λ v. v.items)) c.in-Some.ensures.items ∙ map-append _ c.pop.new.self.items (c.in-Some.own ∷ [])) c.requires.names }

pub rotate_right-requires : goal.rotate_right-requires
rotate_right-requires g c =
    let at = c.loop-own in
    let after = c.take_back.new.deques.items in
    let len : vec_len c.take_back.new.deques ≡ length after = search rules in
    let some = some_after c.args.deques.now.items _ at.deques.items _ _ c.in-Some.own.items at.invariant (ap (map (λ v. v.items)) c.in-Some.ensures.items ∙ map-append _ c.pop.new.self.items (c.in-Some.own ∷ [])) c.requires.names after c.take_back.ensures in
    omega (arith, len, some)

pub loop-own-preserved : goal.loop-own-preserved
loop-own-preserved g c =
    let at = c.loop-own in
    let after = c.take_back.new.deques.items in
    let len : vec_len c.take_back.new.deques ≡ length after = search rules in
    let turned : c.rotate_right.new.self.items ≡ drop (length after - 1) after ++ take (length after - 1) after = c.rotate_right.ensures.items ∙ (λ i. drop (len i - 1) after ++ take (len i - 1) after) in
    reuniting_next c.args.deques.now.items _ at.deques.items _ _ c.in-Some.own.items at.invariant (ap (map (λ v. v.items)) c.in-Some.ensures.items ∙ map-append _ c.pop.new.self.items (c.in-Some.own ∷ [])) c.requires.names after c.rotate_right.new.self.items
    c.take_back.ensures turned

pub returns : goal.returns
returns g c =
    let at = c.loop-own in
    let none : length at.others.items ≡ 0 = search rules in
    reuniting_ends c.args.deques.now.items _ at.deques.items _ at.invariant (length-map at.others.items _ ∙ none)
