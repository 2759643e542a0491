-- The failures of a run, by the marks of its failing lines.
use Rattle.std.proofs.Common.{ℕ, ◌≡◌, ◌<◌, List, length, refl, Option, None, Some, slice_get, sym, ◌∙◌, ap, subst, arith}
use Rattle.std.specs.Option.{option_map}
use Rattle.std.proofs.lemmas.List.{length-map}
use Rattle.std.proofs.lemmas.Option.{slice_get-map, slice_get_within, same_Some}
use Rattle.logfmt.specs.Bounds.{LogValue}
use Rattle.choices.specs.declared.choice.Departure.{Departure}
use Rattle.choices.specs.Choices.{ChoiceValue, ranked_choices}
use Rattle.choices.specs.Sums.{StartsValue}
use Rattle.checker.specs.Checker.{CheckerValue}
use Rattle.losses.specs.Places.{AreWindows}
use Rattle.report.specs.Line.{FailingLine}
use Rattle.report.specs.declared.lines.marks.LineMark.{LineMark}
use Rattle.report.specs.Marks.{mark_of, marks_of}
use Rattle.workers.specs.Failing.{failing_lines}
use Rattle.workers.specs.Laws.{LinesAreSet, ListsFailing}
use Rattle.losses.specs.declared.cure.failure.Failure.{Failure}
use Rattle.losses.specs.FailureWindows.{IsWindowIf, IsFailure, AreFailures, AreFailuresAt, windows_in}
use Rattle.request.specs.declared.settings.Settings.{Settings}
use Rattle.request.specs.Source.{images_of}
use Rattle.runs.specs.Explore.{subject_of}
use Rattle.runs.specs.Why.{starts_of}

-- the marks of a run's failing lines are of its images
pub marks_within : LinesAreSet → (s : Settings) (value : LogValue) (checkers : List CheckerValue) (starts : StartsValue) (ls : List FailingLine) (ms : List LineMark) (i : ℕ) (m : LineMark)
    → starts ≡ starts_of s value → ls ≡ failing_lines (subject_of s value checkers) → ms ≡ marks_of ls → slice_get ms i ≡ Some m
    → m.image < length (ranked_choices starts.plan starts.bound starts.tears)
marks_within law s value checkers starts ls ms i m is found marks there =
    let all : List FailingLine = failing_lines (subject_of s value checkers) in
    let lists : ListsFailing (subject_of s value checkers) all = law (subject_of s value checkers) in
    let here : option_map mark_of (slice_get all i) ≡ Some m =
    sym (slice_get-map mark_of all i) ∙ ap (λ (ks : List LineMark). slice_get ks i) (sym (marks ∙ ap marks_of found)) ∙ there in
    subst (λ (t : StartsValue). m.image < length (ranked_choices t.plan t.bound t.tears)) (sym is) (by_line lists (slice_get all i) refl here)
  where
    by_line : ListsFailing (subject_of s value checkers) (failing_lines (subject_of s value checkers)) → (o : Option FailingLine)
        → slice_get (failing_lines (subject_of s value checkers)) i ≡ o → option_map mark_of o ≡ Some m → m.image < length (images_of s value)
    by_line lists None at mark = absurd (let bad : None ≡ Some m = mark in cc)
    by_line lists (Some l) at mark =
        let own : mark_of l ≡ m = same_Some (mark_of l) m mark in
        let line = lists.sound i l at in
        let within = slice_get_within (images_of s value) l.image line.choice line.of_image in
        let image : l.image ≡ m.image = ap (λ (k : LineMark). k.image) own in
        omega (arith, within, image)

-- a failure, by the choice of its line's image
one_failure : (s : StartsValue) (l : FailingLine) (f : Failure) (cut : ℕ) (ds : List Departure) → f.program ≡ l.program → l.cut ≡ cut → l.departures ≡ ds
    → IsWindowIf s.plan.by s.plan.log.entries cut ds f.window → IsFailure s.plan.by s.plan.log.entries l f
one_failure s l f cut ds program at departs window =
    record {
      program = program;
      window = subst (λ (n : ℕ). IsWindowIf s.plan.by s.plan.log.entries n l.departures f.window) (sym at)
          (subst (λ (xs : List Departure). IsWindowIf s.plan.by s.plan.log.entries cut xs f.window) (sym departs) window);
    }

-- the failures of these marks are those of the failing lines
pub failures_are : LinesAreSet → (s : Settings) (value : LogValue) (checkers : List CheckerValue) (starts : StartsValue) (ls : List FailingLine) (ms : List LineMark) (fs : List Failure)
    → starts ≡ starts_of s value → ls ≡ failing_lines (subject_of s value checkers) → ms ≡ marks_of ls → AreFailuresAt starts ms fs
    → AreFailures starts.plan.by starts.plan.log.entries ls fs
failures_are law s value checkers starts ls ms fs is found marks at =
    let all : List FailingLine = failing_lines (subject_of s value checkers) in
    let lists : ListsFailing (subject_of s value checkers) all = law (subject_of s value checkers) in
    let t : StartsValue = starts_of s value in
    let own : AreFailuresAt t (marks_of all) fs =
    subst (λ (u : StartsValue). AreFailuresAt u (marks_of all) fs) is (subst (λ (ks : List LineMark). AreFailuresAt starts ks fs) (marks ∙ ap marks_of found) at) in
    let are : AreFailures t.plan.by t.plan.log.entries all fs = record {
      all = own.all ∙ length-map all mark_of;
      each = λ i l f there here.
          let one = own.each i (mark_of l) f (slice_get-map mark_of all i ∙ ap (option_map mark_of) there) here in
          let line = lists.sound i l there in
          let same : line.choice ≡ one.choice = same_Some line.choice one.choice (sym line.of_image ∙ one.there) in
          one_failure t l f one.choice.cut one.choice.departures one.program
          (line.cut ∙ ap (λ (c : ChoiceValue). c.cut) same) (line.departures ∙ ap (λ (c : ChoiceValue). c.departures) same) one.window;
    } in
    subst (λ (xs : List FailingLine). AreFailures starts.plan.by starts.plan.log.entries xs fs) (sym found)
    (subst (λ (u : StartsValue). AreFailures u.plan.by u.plan.log.entries all fs) (sym is) are)

-- and their windows lie in the log
pub windows_within : (s : Settings) (value : LogValue) (starts : StartsValue) (ms : List LineMark) (fs : List Failure) → starts ≡ starts_of s value → AreFailuresAt starts ms fs
    → AreWindows (length value.entries) (windows_in fs)
windows_within s value starts ms fs is at =
    let long : length starts.plan.log.entries ≡ length value.entries = ap (λ (t : StartsValue). length t.plan.log.entries) is in
    subst (λ (n : ℕ). AreWindows n (windows_in fs)) long at.inside
