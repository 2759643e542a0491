use Rattle.std.proofs.Common.{ℕ, ◌≡◌, Some, slice_get, subst}
use Rattle.std.proofs.lemmas.Option.{MatchOption-at_none}
use Rattle.epochs.specs.Cuts.{cuts_of}
use Rattle.epochs.specs.Plan.{PlanValue}
use Rattle.choices.specs.Seeking.{LacksCut}
use Rattle.lost_text.proofs.Matching.{at_some}
use Rattle.inspect.proofs.AnyTold.{no_cut}
use Rattle.inspect.proofs.looks.any_image_command.image_said.Goals as goal

pub returns-in_default : goal.returns-in_default
returns-in_default c =
    let p = c.in_ok-plan.plan in
    no_cut c.args.options.now c.args.log.now c.args.cut c.args.said.now
    (subst (λ (q : PlanValue). LacksCut (cuts_of q.kind q.log.entries) c.args.cut) c.in_ok-plan.ensures
    (MatchOption-at_none (LacksCut (cuts_of p.kind p.log.entries) c.args.cut)
    (λ (k : ℕ). (place : ℕ) × (slice_get (cuts_of p.kind p.log.entries) place ≡ Some c.args.cut)) c.in_default.is c.wanted_cut.ensures.wanted))

pub image_at-requires-clause-wanted : goal.image_at-requires-clause-wanted
image_at-requires-clause-wanted c =
    let p = c.in_ok-plan.plan in
    subst (λ (q : PlanValue). (place : ℕ) × (slice_get (cuts_of q.kind q.log.entries) place ≡ Some c.args.cut)) c.in_ok-plan.ensures
    (at_some c.wanted_cut.result c.in-Some.number (LacksCut (cuts_of p.kind p.log.entries) c.args.cut)
    (λ (k : ℕ). (place : ℕ) × (slice_get (cuts_of p.kind p.log.entries) place ≡ Some c.args.cut)) c.in-Some.is c.wanted_cut.ensures.wanted)
