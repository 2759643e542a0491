use Rattle.std.proofs.Common.{ℕ, ◌≡◌, ◌≤◌, ◌∙◌, ap, subst, sym, true, false}
use Rattle.request.specs.Extents.{has_extent, is_at_once, most_images}
use Rattle.request.specs.Source.{for_log, for_plan}
use Rattle.export.proofs.Streaming.{nothing_kept}
use Rattle.inspect.specs.Export.{for_extent, for_source, for_memory}
use Rattle.inspect.proofs.looks.export_command.write_images.Goals as goal

pub returns-then-not-is_at_once-clause-stopped : goal.returns-then-not-is_at_once-clause-stopped
returns-then-not-is_at_once-clause-stopped g c =
    let lack : is_at_once c.args.options.now.extent ≡ false = ap is_at_once (sym c.extent.ensures.value) ∙ sym c.is_at_once.ensures ∙ c.if-not-is_at_once.true in
    (rw c.option_refusal_of-refusal.ensures (for_extent lack), nothing_kept _)

pub returns-in-Err-clause-stopped : goal.returns-in-Err-clause-stopped
returns-in-Err-clause-stopped g c = (for_source _ (for_log _ c.in-Err.ensures.refused), nothing_kept _)

pub returns-in-Err-plan_of-clause-stopped : goal.returns-in-Err-plan_of-clause-stopped
returns-in-Err-plan_of-clause-stopped g c = (for_source _ (for_plan _ c.in-Ok.log c.in-Ok.ensures.log c.in-Err-plan_of.ensures.refused), nothing_kept _)

pub returns-in-Err-head_of-clause-stopped : goal.returns-in-Err-head_of-clause-stopped
returns-in-Err-head_of-clause-stopped g c =
    let s = c.args.options.now in
    let planned = c.in-Ok-plan_of.ensures in (
      rw c.of_memory.ensures (for_memory c.in-Ok.log (record {
        reads = c.in-Ok.ensures.log;
        few = subst (λ (n : ℕ). n ≤ most_images s.extent) planned.count planned.few;
        within = subst (λ (n : ℕ). has_extent s.extent n ≡ true) planned.count planned.within;
      })),
      nothing_kept _,
    )
