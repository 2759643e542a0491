use Rattle.lost_text.proofs.LostSaid.{none_by, torn_by, lost_by}
use Rattle.lost_text.proofs.lost.lost_said.Goals as goal

pub returns-in_default : goal.returns-in_default
returns-in_default c =
    none_by c.args.at.now c.args.by c.args.tears c.args.said.now _ (λ x. x.items) c.sectors-sectors.ensures.bounds c.sectors-sectors.ensures.within c.requires
    c.in_default.is c.in_ok-names.ensures.back

pub returns-then-not-are_possible : goal.returns-then-not-are_possible
returns-then-not-are_possible c =
    torn_by c.args.at.now c.args.by c.args.tears c.args.said.now _ c.in-Some.names (λ x. x.items) _ c.sectors-sectors.ensures.bounds c.sectors-sectors.ensures.within
    c.requires c.in-Some.is c.in_ok-names.ensures.back c.as_slice.ensures.value (c.are_possible.ensures.impossible c.if-not-are_possible.true)

pub returns : goal.returns
returns c =
    lost_by c.args.at.now c.args.by c.args.tears c.args.said.now _ c.in-Some.names (λ x. x.items) _ _ _ c.lost_of.result (λ y. y.sets.items) (λ y. y.departures.items)
    c.sectors-sectors.ensures.bounds c.sectors-sectors.ensures.within c.parts.ensures.apart c.requires c.parts.ensures.value c.in-Some.is c.in_ok-names.ensures.back
    c.in_ok-names.ensures.found c.as_slice.ensures.value c.as_slice-2.ensures.value (c.are_possible.ensures.possible c.if-not-are_possible.false)
    c.lost_of.ensures.left c.lost_of.ensures.sets c.lost_of.ensures.departures
