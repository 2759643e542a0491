use Rattle.std.proofs.Common.{ℕ, ◌≡◌, Bool, Some, slice_get, MatchOption, subst}
use Rattle.cases.specs.AtCut.{CutValue, parts_of, case_of, image_of}
use Rattle.cases.specs.Lent.{IsTornOver}
use Rattle.cases.proofs.known.KnownRows.lent.Goals as goal

pub returns-in-Some : goal.returns-in-Some
returns-in-Some c =
    subst (λ (at : CutValue). MatchOption c.lent_of.result ((part : ℕ) × IsTornOver at c.args.sets.now c.args.number part)
    (λ sector. (tears : Bool) → slice_get (image_of at (case_of tears (parts_of at) c.args.sets.now)) c.args.number ≡ Some sector.now)) c.self.view_is
    (subst (λ (s : ℕ). MatchOption c.lent_of.result ((part : ℕ) × IsTornOver c.self.inside.cut.now c.args.sets.now s part)
    (λ sector. (tears : Bool) → slice_get (image_of c.self.inside.cut.now (case_of tears (parts_of c.self.inside.cut.now) c.args.sets.now)) s ≡ Some sector.now)) c.in-Some.ensures.sector c.lent_of.ensures)

pub returns-in-None : goal.returns-in-None
returns-in-None c =
    subst (λ (at : CutValue). MatchOption c.lent.result ((part : ℕ) × IsTornOver at c.args.sets.now c.args.number part)
    (λ sector. (tears : Bool) → slice_get (image_of at (case_of tears (parts_of at) c.args.sets.now)) c.args.number ≡ Some sector.now)) c.self.view_is c.lent.ensures
