use Rattle.std.proofs.Common.{ℕ, ◌≡◌, ◌∙◌, ap, sym, subst, length, map, List, [], All, rules, string_bytes, Vec, Global}
use Rattle.logfmt.specs.Bounds.{LogValue}
use Rattle.losses.specs.Places.{AreWindows}
use Rattle.losses.specs.declared.cure.failure.Failure.{Failure}
use Rattle.losses.specs.FailureWindows.{AreFailuresAt, windows_in}
use Rattle.crash_page.specs.declared.program.ProgramFailures.{ProgramFailures}
use Rattle.crash_page.specs.Page.{AreOfRun}
use Rattle.join.specs.Given.{line_told, marks_told}
use Rattle.join.specs.GivenReading.{given_told}
use Rattle.retold.proofs.Titles.{about_is, page_is}
use Rattle.retold.proofs.page.page_text.Goals as goal

pub invariant_of-run : goal.invariant_of-run
invariant_of-run c =
    let subject = c.args.subject.now in
    let numbering = c.numbering_of.ensures in
    record {
      history_is = c.in_ok-history.ensures ∙ c.plan.ensures;
      plan_is = sym numbering.plan;
      log_is = subject.log_is ∙ sym numbering.log;
      by_is = sym numbering.by;
      bound_is = sym numbering.bound;
      tears_are = sym numbering.tears;
    }

pub all_told-requires-clause-inside : goal.all_told-requires-clause-inside
all_told-requires-clause-inside c =
    let subject = c.args.subject.now in
    let log : subject.starts.now.plan.log ≡ c.numbering_of.result.log.now = subject.log_is ∙ sym c.numbering_of.ensures.log in
    subst (λ (l : LogValue). AreWindows (length l.entries) (windows_in c.as_slice.result.now)) log
    (subst (λ (fs : List Failure). AreWindows (length subject.starts.now.plan.log.entries) (windows_in fs)) (sym c.as_slice.ensures.value) c.in_ok-failures.ensures.inside)

pub put_page-requires : goal.put_page-requires
put_page-requires c =
    record { programs = subst (λ (fs : List ProgramFailures). All (AreOfRun c.args.subject.now.starts.now) fs) (sym c.as_slice-2.ensures.value) c.in_ok-programs.ensures.taken }

pub returns : goal.returns
returns c =
    let none : string_bytes c.new-page.result ≡ [] = search rules in
    let blank : string_bytes c.new-text.result ≡ [] = search rules in
    let about = about_is (given_told c.args.given.now) _ _ _ blank c.in_ok-push_str.ensures.bytes c.in_ok-push_str-2.ensures.bytes in
    let subject = c.args.subject.now in
    let s = subject.starts.now in
    page_is c.args.options.now s (given_told c.args.given.now) (map line_told subject.lines.now) c.as_slice.result.now subject.programs _ _ _ _ c.in_ok-programs.programs.items c.into_bytes.result.items
    c.requires.lines c.requires.programs
    (subst (λ (fs : List Failure). AreFailuresAt s (marks_told (map line_told subject.lines.now)) fs) (sym c.as_slice.ensures.value) c.in_ok-failures.ensures)
    c.in_ok-programs.ensures.failing none (c.as_str.ensures.value ∙ about) c.as_slice-2.ensures.value c.in_ok-put_page.ensures (ap (λ (v : Vec ℕ Global). v.items) c.into_bytes.ensures.value)
