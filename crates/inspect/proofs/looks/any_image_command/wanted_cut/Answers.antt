use Rattle.std.proofs.Common.{ℕ, ◌≡◌, Some, slice_get, subst}
use Rattle.std.proofs.lemmas.Option.{MatchOption-at_none}
use Rattle.choices.specs.Seeking.{LacksCut}
use Rattle.choices.proofs.Naming.{cut_found, cut_is}
use Rattle.lost_text.proofs.Matching.{at_some}
use Rattle.inspect.proofs.AnyTold.{wanted_place}
use Rattle.inspect.proofs.looks.any_image_command.wanted_cut.Goals as goal

pub returns-in-Some-clause-is : goal.returns-in-Some-clause-is
returns-in-Some-clause-is c =
    let cuts = c.cuts-cuts.result.now in
    let there = at_some c.place_of.result c.in-Some.place (LacksCut cuts c.args.cut) (λ (place : ℕ). slice_get cuts place ≡ Some c.args.cut) c.in-Some.is
    (cut_found cuts c.args.cut c.place_of.result c.place_of.ensures) in
    cut_is cuts c.in-Some.place c.args.cut 0 there

pub returns-in-Some-clause-wanted : goal.returns-in-Some-clause-wanted
returns-in-Some-clause-wanted c =
    let cuts = c.cuts-cuts.result.now in
    let there = at_some c.place_of.result c.in-Some.place (LacksCut cuts c.args.cut) (λ (place : ℕ). slice_get cuts place ≡ Some c.args.cut) c.in-Some.is
    (cut_found cuts c.args.cut c.place_of.result c.place_of.ensures) in
    wanted_place cuts _ c.args.cut c.in-Some.place there c.cuts-cuts.ensures.value

pub returns-in-None-clause-wanted : goal.returns-in-None-clause-wanted
returns-in-None-clause-wanted c =
    let cuts = c.cuts-cuts.result.now in
    subst (λ xs. LacksCut xs c.args.cut) c.cuts-cuts.ensures.value
    (MatchOption-at_none (LacksCut cuts c.args.cut) (λ (place : ℕ). slice_get cuts place ≡ Some c.args.cut) c.in-None.is (cut_found cuts c.args.cut c.place_of.result c.place_of.ensures))
