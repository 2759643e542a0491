use Rattle.std.proofs.Common.{ℕ, ◌≡◌, List, sym, subst, arith}
use Rattle.cases.specs.Cases.{show_alike}
use Rattle.cases.specs.Sets.{pieces_in}
use Rattle.cases.proofs.Cases.{shown_kinds}
use Rattle.cases.proofs.Grouped.{Made, made_none, made_more, made_room, made_all}
use Rattle.cases.proofs.fates.groups_of.Goals as goal

pub left-init : goal.left-init
left-init c =
    let alike = show_alike c.args.part c.args.unit (pieces_in c.args.pieces) in
    subst (λ (gs : List ℕ). Made alike c.args.set c.args.set gs) (sym c.new-groups.ensures) (made_none alike c.args.set)

pub push-requires : goal.push-requires
push-requires c =
    let alike = show_alike c.args.part c.args.unit (pieces_in c.args.pieces) in
    let room = made_room alike c.args.set c.left.rest c.least.result c.left.groups.items c.left.invariant c.least.ensures.first in
    (omega arith, room)

pub left-smaller : goal.left-smaller
left-smaller c =
    let alike = show_alike c.args.part c.args.unit (pieces_in c.args.pieces) in
    (made_more alike (shown_kinds c.args.part c.args.unit (pieces_in c.args.pieces)) c.args.set c.left.rest c.without-rest.result c.least.result c.group_of-group.result
    c.left.groups.items c.left.invariant c.least.ensures.first c.group_of-group.ensures c.without-rest.ensures).less

pub left-preserved : goal.left-preserved
left-preserved c =
    let alike = show_alike c.args.part c.args.unit (pieces_in c.args.pieces) in
    let made = made_more alike (shown_kinds c.args.part c.args.unit (pieces_in c.args.pieces)) c.args.set c.left.rest c.without-rest.result c.least.result c.group_of-group.result
    c.left.groups.items c.left.invariant c.least.ensures.first c.group_of-group.ensures c.without-rest.ensures in
    subst (λ (gs : List ℕ). Made alike c.args.set c.without-rest.result gs) (sym c.push.ensures.items) made.more

pub returns : goal.returns
returns c =
    let alike = show_alike c.args.part c.args.unit (pieces_in c.args.pieces) in
    let none : c.left.rest ≡ 0 = omega (arith, c.left-test.false) in
    made_all alike c.args.set c.left.groups.items (subst (λ n. Made alike c.args.set n c.left.groups.items) none c.left.invariant)
