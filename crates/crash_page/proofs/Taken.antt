-- What a page takes.
use Rattle.std.proofs.Common.{get_or, slice_get}
use Rattle.std.proofs.lemmas.Option.{slice_get-get_or}
use Rattle.choices.proofs.Plans.{wanted_within}
use Rattle.losses.specs.declared.why.cut.CutFailures.{CutFailures}
use Rattle.crash_page.specs.Laws.{FailuresAreOfRun}

pub failures_are_of_run : FailuresAreOfRun
failures_are_of_run = λ s failing outcomes lines cs of_cuts numbered k d lt.
    let c : CutFailures = get_or cs k d in
    let there = slice_get-get_or cs k d lt in
    record {
      cut = wanted_within s.plan k c.cut (of_cuts.each k c there).wanted;
      groups = λ i e less. numbered k c there i (get_or c.groups.items i e) (slice_get-get_or c.groups.items i e less);
    }
