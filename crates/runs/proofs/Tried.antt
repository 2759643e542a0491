-- What a run of a log finds, by the marks of its failing lines.
use Rattle.std.proofs.Common.{ℕ, ◌≡◌, ◌≢◌, ◌≤◌, ◌⊎◌, ◌↔◌, inl, inr, Bool, false, IsTrue, List, [], ◌∷◌, ◌++◌, length, Option, None, Some, refl, sym, ◌∙◌, ap, subst, arith}
use Rattle.std.proofs.lemmas.Bool.{false≢true}
use Rattle.base.specs.declared.refusal.Refusal.{Refusal}
use Rattle.base.specs.Refusals.{memory_refusal}
use Rattle.logfmt.specs.Bounds.{LogValue}
use Rattle.epochs.specs.Plan.{PlanValue}
use Rattle.choices.specs.Choices.{limit, IsFirstPast, IsFirstPastOf}
use Rattle.choices.specs.Sums.{StartsValue}
use Rattle.checker.specs.Checker.{CheckerValue}
use Rattle.report.specs.Line.{FailingLine}
use Rattle.report.specs.declared.lines.marks.LineMark.{LineMark}
use Rattle.report.specs.Marks.{marks_of}
use Rattle.report.specs.Report.{HeadValue, totals_line}
use Rattle.workers.specs.Laws.{LinesAreSet}
use Rattle.losses.specs.declared.cure.failure.Failure.{Failure}
use Rattle.losses.specs.FailureWindows.{AreFailuresAt, windows_in, HoldNoFlush}
use Rattle.losses.specs.CureText.{begin_text, uncured_text}
use Rattle.losses.specs.Places.{AreWindows}
use Rattle.losses.specs.declared.found.Losses.{Losses}
use Rattle.losses.specs.declared.found.CutFound.{CutFound}
use Rattle.losses.specs.FoundCases.{cases_in, most_cases}
use Rattle.case_runs.specs.Found.{AreFoundIn}
use Rattle.case_text.specs.Text.{are_all_cuts, totals_text}
use Rattle.case_text.specs.Why.{all_failures}
use Rattle.case_text.specs.Cured.{cure_begin}
use Rattle.request.specs.declared.any_losses.AnyLosses.{AnyLosses}
use Rattle.request.specs.declared.settings.Settings.{Settings}
use Rattle.request.specs.declared.extent.Extent.{Extent}
use Rattle.request.specs.declared.extent.Extent.TheVariants as extent
use Rattle.request.specs.Extents.{most_images, has_extent}
use Rattle.request.specs.Source.{plan_of, images_of, images_refusal, RefusesPlan, too_many, lacks_images, no_plan_memory}
use Rattle.runs.specs.declared.task.Task.{Task}
use Rattle.case_runs.specs.Cuts.{case_cuts}
use Rattle.runs.specs.CaseCuts.{losses_of, HasMore}
use Rattle.runs.specs.Explore.{head_of}
use Rattle.runs.specs.Why.{starts_of, with_first}
use Rattle.runs.specs.Cured.{run_lines, HasMoreCases, IsPast, Cures, RefusesRun}
use Rattle.runs.specs.Trials.{HasFailures, IsFound, TellsOn}
use Rattle.runs.proofs.Missed.{failures_are}

-- the table of a run, by its plan
pub starts_here : (s : Settings) (value : LogValue) (plan : PlanValue) (bound : ℕ) (tears : Bool) (starts : StartsValue) → plan ≡ plan_of s value → bound ≡ s.bound → tears ≡ s.tears
    → starts ≡ starts_of s value → starts ≡ record { plan = plan; bound = bound; tears = tears }
starts_here s value plan bound tears starts e f g is =
    let same : record { plan = plan; bound = bound; tears = tears } ≡ starts_of s value = λ i. record { plan = e i; bound = f i; tears = g i } in
    is ∙ sym same

-- the failures of these marks are those of the run
pub failures_found : LinesAreSet → (s : Settings) (value : LogValue) (checkers : List CheckerValue) (starts : StartsValue) (ls : List FailingLine) (ms : List LineMark) (fs : List Failure)
    → starts ≡ starts_of s value → ls ≡ run_lines s checkers value → ms ≡ marks_of ls → AreFailuresAt starts ms fs → HasFailures s checkers value fs
failures_found law s value checkers starts ls ms fs is found marks at =
    let own : AreFailuresAt (starts_of s value) (marks_of (run_lines s checkers value)) fs =
    subst (λ (t : StartsValue). AreFailuresAt t (marks_of (run_lines s checkers value)) fs) is
    (subst (λ (ks : List LineMark). AreFailuresAt starts ks fs) (marks ∙ ap marks_of found) at) in
    record {
      fail = failures_are law s value checkers (starts_of s value) (run_lines s checkers value) (marks_of (run_lines s checkers value)) fs refl refl refl own;
      inside = own.inside;
      calm = own.calm;
    }

-- all images are there
none_lacks : (s : Settings) (value : LogValue) → s.extent ≡ extent.Whole → has_extent s.extent (length (images_of s value)) ≡ false → ⊥
none_lacks s value whole lack =
    false≢true (sym lack ∙ ap (λ (e : Extent). has_extent e (length (images_of s value))) whole)

-- a run of all images is refused for their number, or for want of memory
plan_refused : (s : Settings) (value : LogValue) (r : Refusal) → s.extent ≡ extent.Whole → RefusesPlan s value r → (r ≡ images_refusal r.at) ⊎ (r ≡ memory_refusal)
plan_refused s value r whole (too_many cut past) = inl refl
plan_refused s value r whole (lacks_images few lack) = absurd (none_lacks s value whole lack)
plan_refused s value r whole no_plan_memory = inr refl

plan_past : (s : Settings) (value : LogValue) (r : Refusal) → s.extent ≡ extent.Whole → RefusesPlan s value r → r ≡ images_refusal r.at
    → IsFirstPast (plan_of s value) s.bound s.tears r.at
plan_past s value r whole (too_many cut past) same = subst (λ (e : Extent). IsFirstPastOf (most_images e) (plan_of s value) s.bound s.tears cut) whole past
plan_past s value r whole (lacks_images few lack) same = absurd (none_lacks s value whole lack)
plan_past s value r whole no_plan_memory same = absurd (let bad : memory_refusal.code ≡ (images_refusal 0).code = ap (λ (x : Refusal). x.code) same in cc)

-- the place of a refusal for a number is the cut
cut_of : (r : Refusal) (cut : ℕ) → r ≡ images_refusal cut → cut ≡ r.at
cut_of r cut is = sym (ap (λ (x : Refusal). x.at) is)

-- and so is one by cases
pub run_refused : (o : Option AnyLosses) (s : Settings) (checkers : List CheckerValue) (value : LogValue) (r : Refusal) → s.extent ≡ extent.Whole → RefusesRun o s checkers value r
    → (r ≡ images_refusal r.at) ⊎ (r ≡ memory_refusal)
run_refused o s checkers value r whole (inl plan) = plan_refused s value r whole plan
run_refused o s checkers value r whole (inr (cut, is, more)) = inl (is ∙ ap images_refusal (cut_of r cut is))

pub past_of : (o : Option AnyLosses) (s : Settings) (checkers : List CheckerValue) (value : LogValue) (r : Refusal) → s.extent ≡ extent.Whole → RefusesRun o s checkers value r
    → r ≡ images_refusal r.at → IsPast o s checkers value r.at
past_of None s checkers value r whole (inl plan) same = plan_past s value r whole plan same
past_of None s checkers value r whole (inr (cut, is, none)) same = absurd none
past_of (Some l) s checkers value r whole (inl plan) same = inl (plan_past s value r whole plan same)
past_of (Some l) s checkers value r whole (inr (cut, is, more)) same = inr (subst (λ n. HasMoreCases (Some l) s checkers value n) (cut_of r cut is) more)

-- by images there is no other refusal
pub images_refused : (s : Settings) (checkers : List CheckerValue) (value : LogValue) (r : Refusal) → RefusesRun None s checkers value r → RefusesPlan s value r
images_refused s checkers value r (inl plan) = plan
images_refused s checkers value r (inr (cut, is, none)) = absurd none

-- and by cases there is that of a task
pub cases_refused : (l : AnyLosses) (s : Settings) (value : LogValue) (checkers : List CheckerValue) (r : Refusal) → length (images_of s value) ≤ limit
    → (r ≡ memory_refusal) ⊎ ((cut : ℕ) × (r ≡ images_refusal cut) × HasMore l s value checkers cut) → RefusesRun (Some l) s checkers value r
cases_refused l s value checkers r few (inl memory) = inl (subst (λ (q : Refusal). RefusesPlan s value q) (sym memory) no_plan_memory)
cases_refused l s value checkers r few (inr (cut, is, more)) = inr (cut, is, (few, more))

-- all images of a whole run are few
pub few_images : (e : Extent) (count images : ℕ) → e ≡ extent.Whole → images ≡ count → images ≤ most_images e → count ≤ limit
few_images e count images whole same few =
    let short : images ≤ limit = subst (λ (x : Extent). images ≤ most_images x) whole few in
    subst (λ n. n ≤ limit) same short

-- what a run finds by its images
pub by_images : (s : Settings) (value : LogValue) (checkers : List CheckerValue) (h : HeadValue) (ls : List FailingLine) (fs : List Failure) (begin last : List ℕ) → length (images_of s value) ≤ limit
    → h ≡ head_of (with_first false s) value checkers → ls ≡ run_lines s checkers value → HasFailures s checkers value fs → begin ≡ begin_text h fs ++ uncured_text ls fs → last ≡ totals_line h.images ls
    → IsFound None s checkers value fs begin last
unfolding head_of
by_images s value checkers h ls fs begin last few head lines failures begins ends =
    let images : h.images ≡ length (images_of s value) = ap (λ (x : HeadValue). x.images) head in
    record {
      finds = record {
        few = few;
        fail = failures.fail;
        begins = begins ∙ (λ i. begin_text (head i) fs ++ uncured_text (lines i) fs);
        ends = ends ∙ (λ i. totals_line (images i) (lines i));
      };
      inside = failures.inside;
      calm = failures.calm;
    }

-- what it finds by its cases
pub by_cases : (l : AnyLosses) (t : Task) (cuts : List ℕ) (found : List CutFound) (h : HeadValue) (asked : Losses) (fs : List Failure) (begin last : List ℕ) → cuts ≡ case_cuts l.at_most t.options.now.cuts t.log.now.entries
    → AreFoundIn (losses_of l t.options.now) t.log.now t.options.now.by cuts t.checkers.now found → cases_in found ≤ most_cases → length (images_of t.options.now t.log.now) ≤ limit
    → h ≡ head_of (with_first false t.options.now) t.log.now t.checkers.now → asked ≡ losses_of l t.options.now → fs ≡ all_failures t.log.now h.by asked.tears found
    → begin ≡ cure_begin h asked t.log.now found → last ≡ totals_text (are_all_cuts h.cuts) found → AreWindows (length t.log.now.entries) (windows_in fs) → HoldNoFlush t.log.now.entries (windows_in fs)
    → IsFound (Some l) t.options.now t.checkers.now t.log.now fs begin last
unfolding head_of
by_cases l t cuts found h asked fs begin last those are few images head same failures begins ends inside calm =
    let way : h.by ≡ t.options.now.by = ap (λ (x : HeadValue). x.by) head in
    let tears : asked.tears ≡ t.options.now.tears = ap (λ (x : Losses). x.tears) same in
    let cuts_are : h.cuts ≡ t.options.now.cuts = ap (λ (x : HeadValue). x.cuts) head in
    record {
      finds = record {
        images = images;
        found = found;
        are = subst (λ (cs : List ℕ). AreFoundIn (losses_of l t.options.now) t.log.now t.options.now.by cs t.checkers.now found) those are;
        few = few;
        fail = failures ∙ (λ i. all_failures t.log.now (way i) (tears i) found);
        begins = begins ∙ (λ i. cure_begin (head i) (same i) t.log.now found);
        ends = ends ∙ (λ i. totals_text (are_all_cuts (cuts_are i)) found);
      };
      inside = inside;
      calm = calm;
    }

-- a cure that begins with a run, and goes on with its rounds
pub cured_so : (o : Option AnyLosses) (s : Settings) (value : LogValue) (checkers : List CheckerValue) (fs : List Failure) (begin last old rounds bytes : List ℕ) (failing : Bool)
    → IsFound o s checkers value fs begin last → TellsOn o s checkers value old rounds → old ≡ [] → bytes ≡ begin ++ rounds → (IsTrue failing ↔ (fs ≢ [])) → Cures o s value checkers bytes failing
cured_so o s value checkers fs begin last old rounds bytes failing found on empty text fails =
    record {
      tells = record {
        failures = fs;
        begin = begin;
        last = last;
        finds = found.finds;
        rounds = on.text;
        tells = on.tells;
        text = text ∙ ap (λ (xs : List ℕ). begin ++ xs) (on.appended ∙ ap (λ (xs : List ℕ). xs ++ on.text) empty);
      };
      fails = fails;
    }

-- a list as long as an empty one
no_more : {A B : Type 0} (xs : List A) (ys : List B) → length xs ≡ length ys → ys ≡ [] → xs ≡ []
no_more [] ys long empty = refl
no_more (x ∷ xs) [] long empty = absurd (omega (arith, long))
no_more (x ∷ xs) (y ∷ ys) long empty = absurd (let bad : y ∷ ys ≡ [] = empty in cc)

-- by images there is a failure where there is a failing line
pub failing_lines_are : (s : Settings) (value : LogValue) (checkers : List CheckerValue) (bytes : List ℕ) (failing : Bool) → Cures None s value checkers bytes failing
    → IsTrue failing ↔ (run_lines s checkers value ≢ [])
failing_lines_are s value checkers bytes failing cure =
    let fs : List Failure = cure.tells.failures in
    let long : length fs ≡ length (run_lines s checkers value) = cure.tells.finds.fail.all in (
      (λ fail empty. cure.fails.0 fail (no_more fs (run_lines s checkers value) long empty)),
      (λ some. cure.fails.1 (λ empty. some (no_more (run_lines s checkers value) fs (sym long) empty))),
    )
