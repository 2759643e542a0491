use Rattle.std.proofs.Common.{sym, ◌∙◌, ap, map}
use Rattle.crash_page.specs.Counts.{image_count}
use Rattle.crash_page.proofs.Rows.{counts_within}
use Rattle.crash_page.proofs.program.put_program.Goals as goal

pub put_row-requires : goal.put_row-requires
put_row-requires c = record {
  cuts =
      counts_within c.args.run.now.starts.now _ c.logged_of-logged.result.log.now _ _ (c.args.run.now.log_is ∙ sym c.logged_of-logged.ensures) c.requires.cuts
      (c.as_slice-3.ensures.value ∙ c.in_ok-counts.ensures ∙ ap (map image_count) c.as_slice.ensures.value);
}
