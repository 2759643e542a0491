use Rattle.std.proofs.Common.{List, ℕ, subst}
use Rattle.logfmt.specs.declared.entry.Entry.{Entry}
use Rattle.lost_text.proofs.Matching.{at_some}
use Rattle.known_text.specs.Ranges.{IsLookedOnly, NoLooked}
use Rattle.known_text.specs.Reading.{AreOfLog, AreSets, IsSaidSo, NoSets, NoneIsSaidSo, ran_said}
use Rattle.known_text.proofs.Recorded.{is_record}
use Rattle.known_text.proofs.record.record_said.Goals as goal

pub returns : goal.returns
returns c =
    is_record c.args.log.now c.args.way c.args.line.now (ran_said c.in-Some.said) c.in-Some-2.sets.items c.in-Some-3.looked.items c.entries.ensures.bounds
    (at_some _ c.in-Some.said (NoneIsSaidSo c.args.line.now) (λ x. IsSaidSo c.args.line.now (ran_said x)) c.in-Some.is c.in_ok-said.ensures)
    (subst (λ (es : List Entry). AreOfLog es (ran_said c.in-Some.said)) c.entries.ensures.value (c.are_of_log.ensures.0 c.if-not-are_of_log.false))
    (at_some _ c.in-Some-2.sets (NoSets c.args.log.now c.args.way c.in-Some.said.cut c.in-Some.said.choice.now) (λ x. AreSets c.args.log.now c.args.way c.in-Some.said.cut c.in-Some.said.choice.now x.items) c.in-Some-2.is c.in_ok-sets.ensures)
    (subst (λ (n : ℕ). IsLookedOnly n c.in-Some.said.looked.now c.in-Some-3.looked.items) c.sectors.ensures.value
    (at_some _ c.in-Some-3.looked (NoLooked c.sectors.result c.in-Some.said.looked.now) (λ x. IsLookedOnly c.sectors.result c.in-Some.said.looked.now x.items) c.in-Some-3.is c.in_ok-looked.ensures))
