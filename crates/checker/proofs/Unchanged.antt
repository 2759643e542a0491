-- A program that is accepted without guards is judged alike with them.
use Rattle.std.proofs.Common.{ℕ, ◌≡◌, true, false, List, [], length, Option, None, Some, refl, ap, sym, subst, ◌∙◌, slice_get}
use Rattle.helpers.specs.declared.device.Context.{Context}
use Rattle.machine.specs.Guards.{guarded_outcome}
use Rattle.machine.specs.Outcome.{Ending, Verdict, Stopped, OutOfSteps, Stray, outcome}
use Rattle.plain.specs.Laws.{GuardsChangeNothing, EndsAlike}
use Rattle.plain.specs.Runs.{IsVerdict}
use Rattle.verifier.specs.Guards.{is_guarded_at, with_guards, AcceptedHasNoGuards, GoodNeedsNoGuards}
use Rattle.verifier.specs.Good.{IsGood}
use Rattle.verifier.specs.Verdicts.{VerifiedValue, IsVerified, IsAccepted}
use Rattle.soundness.specs.Accepted.{IsImage, IsSafeRun, AcceptedRunsSafely}
use Rattle.soundness.specs.Guards.{IsOver, GuardedRunsSafely}
use Rattle.checker.specs.Checker.{checker_of, judgement}
use Rattle.checker.specs.Guards.{IsJudgedAlike, GuardsChangeNoJudgement}

-- an end that strays at no slot is a verdict
no_stray : (v : VerifiedValue) (e : Ending) → ((slot : ℕ) → is_guarded_at v.program v.table slot ≡ false) → IsOver v.program v.table e → IsVerdict e
no_stray v (Verdict answer codes) none over = tt
no_stray v (Stopped cause slot) none over = over
no_stray v OutOfSteps none over = over
no_stray v (Stray slot) none over = absurd (let bad : true ≡ false = sym over ∙ none slot in cc)

pub guards_change_no_judgement : AcceptedRunsSafely → GuardedRunsSafely → AcceptedHasNoGuards → GoodNeedsNoGuards → GuardsChangeNothing → GuardsChangeNoJudgement
unfolding judgement
guards_change_no_judgement safe guarded without needs same v device context is kind image =
    let more : IsVerified (with_guards v) = without.same v is kind in
    let good : IsGood v.program v.sectors v.table = (rw kind at is.table).good in
    let accepted : IsAccepted v.program v.sectors v.budget = (v.table, rw (sym kind) is) in
    let run : IsSafeRun v.program device context v.budget = safe v.program v.sectors v.budget device context accepted image in
    let over : IsOver v.program v.table (guarded_outcome v.program device context v.budget) = (guarded (with_guards v) device context more refl image).ends in
    let verdict : IsVerdict (guarded_outcome v.program device context v.budget) =
    no_stray v (guarded_outcome v.program device context v.budget) (λ slot. needs.none v.program v.sectors slot v.table good) over in
    let alike : EndsAlike v.program device context v.budget =
    same v.program device context v.budget is.program (λ n sector there. (image.whole n sector there).long) (rw run.ends tt) verdict in
    record { accepted = more; ends = rw kind alike.ends; reads = alike.reads }
