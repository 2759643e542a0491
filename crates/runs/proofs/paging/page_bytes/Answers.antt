use Rattle.std.proofs.Common.{ℕ, ◌≡◌, ◌∙◌, ap, sym, subst, length, List, [], All, rules, string_bytes, Vec, Global}
use Rattle.logfmt.specs.Bounds.{LogValue}
use Rattle.choices.specs.Sums.{StartsValue}
use Rattle.losses.specs.Places.{AreWindows}
use Rattle.losses.specs.declared.cure.failure.Failure.{Failure}
use Rattle.losses.specs.FailureWindows.{AreFailures, windows_in}
use Rattle.losses.specs.ProgramOutcomes.{outcomes_failing}
use Rattle.report.specs.declared.head.ProgramHead.{ProgramHead}
use Rattle.report.specs.Report.{HeadValue}
use Rattle.crash_page.specs.declared.program.ProgramFailures.{ProgramFailures}
use Rattle.crash_page.specs.Failing.{AreFailing}
use Rattle.crash_page.specs.Page.{AreOfRun}
use Rattle.crash_page.proofs.Owned.{page_told}
use Rattle.runs.specs.Marked.{images_marked}
use Rattle.runs.specs.Paged.{IsSaid, about_run}
use Rattle.runs.proofs.Pages.{about_told}
use Rattle.runs.proofs.paging.page_bytes.Goals as goal

pub all_failures-requires-clause-inside : goal.all_failures-requires-clause-inside
all_failures-requires-clause-inside c =
    subst (λ (l : LogValue). AreWindows (length l.entries) (windows_in c.as_slice.result.now)) (sym c.numbering_of.ensures.log)
    (subst (λ (fs : List Failure). AreWindows (length c.args.findings.now.task.now.log.now.entries) (windows_in fs)) (sym c.as_slice.ensures.value) c.in_ok-failures.ensures.inside)

pub all_failures-requires-clause-images : goal.all_failures-requires-clause-images
all_failures-requires-clause-images c = c.requires.images

pub invariant_of-run : goal.invariant_of-run
invariant_of-run c =
    let found = c.args.findings.now in
    let numbering = c.numbering_of.ensures in
    record {
      history_is = found.history_is ∙ found.task.now.plan_is ∙ sym (ap (λ (t : StartsValue). t.plan) found.starts_are);
      plan_is = ap (λ (t : StartsValue). t.plan) found.starts_are ∙ sym (numbering.plan ∙ found.task.now.plan_is);
      log_is = ap (λ (t : StartsValue). t.plan.log) found.starts_are ∙ sym numbering.log;
      by_is = ap (λ (t : StartsValue). t.plan.by) found.starts_are ∙ sym numbering.by;
      bound_is = ap (λ (t : StartsValue). t.bound) found.starts_are ∙ sym numbering.bound;
      tears_are = ap (λ (t : StartsValue). t.tears) found.starts_are ∙ sym numbering.tears;
    }

pub put_page-requires : goal.put_page-requires
put_page-requires c =
    record {
      programs = subst (λ (fs : List ProgramFailures). All (AreOfRun c.args.findings.now.starts.now) fs) (sym c.as_slice-3.ensures.value) c.in_ok-programs.ensures.taken;
    }

pub returns : goal.returns
returns c =
    let none : string_bytes c.new-page.result ≡ [] = search rules in
    let blank : string_bytes c.new-text.result ≡ [] = search rules in
    let found = c.args.findings.now in
    let s = found.starts.now in
    let ls = found.lines.now in
    let fs = c.as_slice.result.now in
    let about = about_told c.args.head.now ls c.head.inside.images _ _ _ blank c.in_ok-put_options.ensures c.in_ok-put_totals.ensures (ap (λ (h : HeadValue). h.images) c.head.view_is) in
    let heads : c.as_slice-2.result.now ≡ c.args.head.now.programs = c.as_slice-2.ensures.value ∙ ap (λ (h : HeadValue). h.programs) c.head.view_is in
    let are : AreFailing s (IsSaid c.args.head.now.programs) (images_marked found.marks.now) (λ (program : ℕ). outcomes_failing program ls) fs (length c.args.head.now.programs) c.in_ok-programs.programs.items =
    subst (λ (hs : List ProgramHead). AreFailing s (IsSaid hs) (images_marked found.marks.now) (λ (program : ℕ). outcomes_failing program ls) fs (length hs) c.in_ok-programs.programs.items) heads
    c.in_ok-programs.ensures.failing in
    record {
      failures = fs;
      are_failures = subst (λ (gs : List Failure). AreFailures s.plan.by s.plan.log.entries ls gs) (sym c.as_slice.ensures.value) c.in_ok-failures.ensures.failures;
      page =
          page_told (about_run c.args.head.now ls) s (IsSaid c.args.head.now.programs) (images_marked found.marks.now) (λ (program : ℕ). outcomes_failing program ls) fs (length c.args.head.now.programs) _ _ _ _
          c.in_ok-programs.programs.items c.into_bytes.result.items none (c.as_str.ensures.value ∙ about) are c.as_slice-3.ensures.value c.in_ok-put_page.ensures
          (ap (λ (v : Vec ℕ Global). v.items) c.into_bytes.ensures.value);
    }
