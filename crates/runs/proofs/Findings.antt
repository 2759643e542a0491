-- A report, where failing lines after those of the first failing image may be missing.
use Rattle.std.proofs.Common.{ℕ, ◌-◌, ◌≡◌, ◌≢◌, ◌↔◌, ◌==◌, length, Bool, true, false, not, IsTrue, List, [], ◌∷◌, ◌++◌, codes, refl, sym, ap, subst, ◌∙◌}
use Rattle.std.specs.List.{flat_map, filter}
use Rattle.std.proofs.lemmas.Bool.{eq-eqb, false≢true}
use Rattle.epochs.specs.Plan.{PlanValue}
use Rattle.logfmt.specs.Bounds.{LogValue}
use Rattle.checker.specs.Checker.{CheckerValue}
use Rattle.report.specs.Line.{FailingLine, first_lines}
use Rattle.report.specs.Report.{HeadValue, options_line, options_text, program_lines, line_text, first_line, findings_text, report_bytes}
use Rattle.report.specs.Part.{span_text, span_report}
use Rattle.report.specs.declared.span.Span.{Span}
use Rattle.workers.specs.Failing.{Subject, failing_lines, image_lines, line_of, ending_at}
use Rattle.request.specs.declared.settings.Settings.{Settings}
use Rattle.request.specs.declared.extent.Extent.{Extent}
use Rattle.request.specs.declared.extent.Extent.TheVariants as extent
use Rattle.request.specs.declared.settings.Telling.{Telling}
use Rattle.request.specs.declared.settings.Telling.TheVariants as telling
use Rattle.request.specs.Source.{plan_of, images_of}
use Rattle.runs.specs.Inputs.{part_number}
use Rattle.request.specs.Extents.{first_meant, end_meant}
use Rattle.runs.specs.Judged.{IsJudged}
use Rattle.runs.specs.Explore.{subject_of, head_of, images_text, report_of}
use Rattle.runs.specs.Why.{with_first, Tells}
use Rattle.runs.specs.Found.{AreFound}
use Rattle.runs.specs.Tasks.{lines_of}
use Rattle.runs.specs.declared.task.Task.{Task}

same_findings : (first : Bool) (images : ℕ) (ls ms : List FailingLine) → (first ≡ false → ls ≡ ms) → first_lines ls ≡ first_lines ms
    → findings_text first images ls ≡ findings_text first images ms
same_findings false images ls ms whole same = ap (findings_text false images) (whole refl)
same_findings true images ls ms whole same = ap (λ (fs : List FailingLine). flat_map line_text fs ++ first_line images fs) same

pub same_report : (h : HeadValue) (ls ms : List FailingLine) → (h.first ≡ false → ls ≡ ms) → first_lines ls ≡ first_lines ms
    → report_bytes h ls ≡ report_bytes h ms
unfolding report_bytes
same_report h ls ms whole same =
    ap (λ (text : List ℕ). codes "crash report 2\n" ++ options_line h ++ program_lines 0 h.programs ++ text)
    (same_findings h.first h.images ls ms whole same)

no_lines : (ls : List FailingLine) → first_lines ls ≡ [] → ls ≡ []
no_lines [] e = refl
no_lines (l ∷ ls) e =
    absurd (let kept : l ∷ filter (λ (m : FailingLine). m.image == l.image) ls ≡ [] = rw (eq-eqb l.image l.image refl) at e in cc)

-- both or none have a line
pub still_fails : (ls ms : List FailingLine) (empty : Bool) → first_lines ls ≡ first_lines ms → IsTrue empty ↔ (ls ≡ [])
    → IsTrue (not empty) ↔ (ms ≢ [])
still_fails ls ms true same h =
    (λ t. absurd (false≢true t), λ some. absurd (some (no_lines ms (sym same ∙ ap first_lines (h.0 refl)))))
still_fails ls ms false same h =
    (λ t none. false≢true (h.1 (no_lines ls (same ∙ ap first_lines none))), λ some. refl)

-- what is judged of a log, and whether the first failing image alone is asked for
abbrev subject_with : Settings → LogValue → List CheckerValue → Bool → Subject
subject_with s value checkers first = record {
  plan = plan_of s value;
  checkers = checkers;
  bound = s.bound;
  tears = s.tears;
  from = first_meant s.extent;
  to = end_meant s.extent (length (images_of s value));
  first = first;
}

-- whether the first failing image alone is asked for changes no failing line
any_first : (s : Settings) (value : LogValue) (checkers : List CheckerValue) (first : Bool)
    → failing_lines (subject_with s value checkers first) ≡ failing_lines (subject_of s value checkers)
unfolding failing_lines image_lines line_of ending_at
any_first s value checkers first = refl

-- the failing lines of a run are those that the report tells
pub same_lines : (s : Settings) (value : LogValue) (checkers : List CheckerValue) (plan : PlanValue) (bound from to : ℕ) (tears first : Bool)
    → plan ≡ plan_of s value → bound ≡ s.bound → tears ≡ s.tears → from ≡ first_meant s.extent → to ≡ end_meant s.extent (length (images_of s value))
    → failing_lines (record { plan = plan; checkers = checkers; bound = bound; tears = tears; from = from; to = to; first = first })
    ≡ failing_lines (subject_of s value checkers)
same_lines s value checkers plan bound from to tears first e f g h k =
    let same : record { plan = plan; checkers = checkers; bound = bound; tears = tears; from = from; to = to; first = first } ≡ subject_with s value checkers first =
    λ i. record { plan = e i; checkers = checkers; bound = f i; tears = g i; from = h i; to = k i; first = first } in
    ap failing_lines same ∙ any_first s value checkers first

-- what the work found of them
pub found_of : (t : Task) (first : Bool) (input : Subject) (ls : List FailingLine)
    → input ≡ record { plan = t.plan.now; checkers = t.checkers.now; bound = t.options.now.bound; tears = t.options.now.tears; from = t.span.from; to = t.span.to; first = first }
    → (input.first ≡ false → ls ≡ failing_lines input) → first_lines ls ≡ first_lines (failing_lines input)
    → AreFound first (lines_of t) ls
found_of t first input ls path whole firsts =
    let all = same_lines t.options.now t.log.now t.checkers.now t.plan.now t.options.now.bound t.span.from t.span.to t.options.now.tears first t.plan_is refl refl t.judged.first t.judged.end in
    record {
      whole = λ none. subst (λ (x : Subject). x.first ≡ false → ls ≡ failing_lines x) path whole none ∙ all;
      firsts = subst (λ (x : Subject). first_lines ls ≡ first_lines (failing_lines x)) path firsts ∙ ap first_lines all;
    }

-- the head of what the work found
head_asked : (s : Settings) (value : LogValue) (checkers : List CheckerValue) (first : Bool) (head : HeadValue)
    → first ≡ s.first → head ≡ head_of (with_first first s) value checkers → head ≡ head_of s value checkers
unfolding head_of
head_asked s value checkers first head asked heads = heads ∙ ap (λ (b : Bool). head_of (with_first b s) value checkers) asked

-- the report of what the work found, where no part is meant
pub report_of_found : (s : Settings) (value : LogValue) (checkers : List CheckerValue) (inputs : ℕ) (first : Bool) (head : HeadValue) (ls : List FailingLine) (bytes : List ℕ)
    → first ≡ s.first → head ≡ head_of (with_first first s) value checkers → AreFound s.first (failing_lines (subject_of s value checkers)) ls
    → ((n : ℕ) (h : HeadValue) (ms : List FailingLine) → images_text s.extent n h ms ≡ report_bytes h ms)
    → bytes ≡ report_bytes head ls → bytes ≡ report_of inputs s value checkers
unfolding head_of
report_of_found s value checkers inputs first head ls bytes asked heads found whole is =
    is
    ∙ ap (λ (h : HeadValue). report_bytes h ls) (head_asked s value checkers first head asked heads)
    ∙ same_report (head_of s value checkers) ls (failing_lines (subject_of s value checkers)) found.whole found.firsts
    ∙ sym (whole inputs (head_of s value checkers) (failing_lines (subject_of s value checkers)))

-- where no part is meant, the text is the report
pub no_part : (e f : Extent) → e ≡ f → ((from to : ℕ) → e ≡ extent.Part from to → ⊥) → (n : ℕ) (h : HeadValue) (ms : List FailingLine) → images_text f n h ms ≡ report_bytes h ms
no_part e f same none = subst (λ (x : Extent). (n : ℕ) (h : HeadValue) (ms : List FailingLine) → images_text x n h ms ≡ report_bytes h ms) same (by e none)
  where
    by : (x : Extent) → ((from to : ℕ) → x ≡ extent.Part from to → ⊥) → (n : ℕ) (h : HeadValue) (ms : List FailingLine) → images_text x n h ms ≡ report_bytes h ms
    by extent.Whole other n h ms = refl
    by extent.Wide other n h ms = refl
    by (extent.Part from to) other n h ms = absurd (other from to refl)

-- the text of what the work found of a part
pub part_of_found : (s : Settings) (value : LogValue) (checkers : List CheckerValue) (first : Bool) (head : HeadValue) (ls : List FailingLine) (bytes : List ℕ) (span : Span) (from to : ℕ)
    → first ≡ s.first → head ≡ head_of (with_first first s) value checkers → AreFound s.first (failing_lines (subject_of s value checkers)) ls
    → IsJudged s.extent (length (images_of s value)) span → extent.Part from to ≡ s.extent
    → bytes ≡ span_report head span ls → bytes ≡ report_of span.inputs s value checkers
unfolding head_of
part_of_found s value checkers first head ls bytes span from to asked heads found judged part is =
    let h : HeadValue = head_of s value checkers in
    let ms : List FailingLine = failing_lines (subject_of s value checkers) in
    let low : span.from ≡ from = judged.first ∙ ap first_meant (sym part) in
    let high : span.to ≡ to = judged.end ∙ ap (λ (e : Extent). end_meant e (length (images_of s value))) (sym part) in
    let named : span ≡ record { from = from; to = to; images = h.images; inputs = span.inputs } =
    λ i. record { from = low i; to = high i; images = judged.all i; inputs = span.inputs } in
    is
    ∙ ap (λ (x : HeadValue). span_report x span ls) (head_asked s value checkers first head asked heads)
    ∙ ap (λ (text : List ℕ). span_text span ++ (options_text h ++ text)) (same_findings h.first (span.to - span.from) ls ms found.whole found.firsts)
    ∙ ap (λ (x : Span). span_report h x ms) named
    ∙ ap (λ (e : Extent). images_text e span.inputs h ms) part

-- the number of the inputs counts where a part is meant alone
pub same_text : (e : Extent) (inputs : ℕ) (h : HeadValue) (ls : List FailingLine) → images_text e (part_number e inputs) h ls ≡ images_text e inputs h ls
same_text extent.Whole inputs h ls = refl
same_text extent.Wide inputs h ls = refl
same_text (extent.Part from to) inputs h ls = refl

-- what is told with the number that is told is told with the number of the inputs
pub told_by_number : (t : Telling) (inputs told : ℕ) (s : Settings) (value : LogValue) (checkers : List CheckerValue) (bytes : List ℕ) → told ≡ part_number s.extent inputs
    → Tells t told s value checkers bytes → Tells t inputs s value checkers bytes
told_by_number telling.Report inputs told s value checkers bytes is tells =
    tells
    ∙ ap (λ (n : ℕ). report_of n s value checkers) is
    ∙ same_text s.extent inputs (head_of s value checkers) (failing_lines (subject_of s value checkers))
told_by_number telling.Causes inputs told s value checkers bytes is tells = tells
told_by_number telling.Page inputs told s value checkers bytes is tells = tells

-- whether the work found a failing line
pub fails_of_found : (s : Settings) (value : LogValue) (checkers : List CheckerValue) (first : Bool) (ls : List FailingLine) (empty : Bool)
    → AreFound first (failing_lines (subject_of s value checkers)) ls → IsTrue empty ↔ (ls ≡ [])
    → IsTrue (not empty) ↔ (failing_lines (subject_of s value checkers) ≢ [])
fails_of_found s value checkers first ls empty found h = still_fails ls (failing_lines (subject_of s value checkers)) empty found.firsts h
