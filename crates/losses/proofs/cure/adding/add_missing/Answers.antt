use Rattle.std.proofs.Common.{◌<◌, ◌∙◌, ap, sym, subst, length}
use Rattle.logfmt.specs.Bounds.{LogValue}
use Rattle.losses.specs.FailureWindows.{places_in, calm_entries}
use Rattle.losses.proofs.Fewer.{are_before, fewer_left}
use Rattle.losses.proofs.cure.adding.add_missing.Goals as goal

pub with_flushes-requires : goal.with_flushes-requires
with_flushes-requires c =
    are_before (length c.args.log.entries) c.args.windows.now c.in_ok-flushes.flushes.items c.as_slice-2.result.now c.requires.inside c.in_ok-flushes.ensures
    (c.as_slice-2.ensures.value ∙ c.in_ok-places.ensures ∙ ap places_in c.as_slice.ensures.value)

pub returns-clause-fewer : goal.returns-clause-fewer
returns-clause-fewer c =
    let places = c.as_slice-2.ensures.value ∙ c.in_ok-places.ensures ∙ ap places_in c.as_slice.ensures.value in
    subst (λ (l : LogValue). calm_entries l.entries < calm_entries c.args.log.entries) (sym c.with_flushes.ensures)
    (fewer_left c.args.log.entries c.args.windows.now c.in_ok-flushes.flushes.items c.as_slice-2.result.now c.requires.some c.requires.inside c.requires.calm c.in_ok-flushes.ensures places)
