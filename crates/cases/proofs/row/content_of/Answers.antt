use Rattle.std.proofs.Common.{◌∙◌, ◌+◌, ◌*◌, ap}
use Rattle.std.specs.List.{slice_range}
use Rattle.images.proofs.Entries.{discarded, written, entry_there, unit_room}
use Rattle.cases.proofs.row.content_of.Goals as goal

pub sector_at-requires : goal.sector_at-requires
sector_at-requires c =
    let here = entry_there _ _ _ _ c.requires c.entries.ensures.value c.index-entries-unit.is in
    rw c.as_slice.ensures (unit_room _ _ _ c.entries.ensures.bounds c.requires here c.if-entry.false)

pub returns-then-entry : goal.returns-then-entry
returns-then-entry c =
    let here = entry_there _ _ _ _ c.requires c.entries.ensures.value c.index-entries-unit.is in
    discarded _ _ _ here c.if-entry.true

pub returns-else-entry : goal.returns-else-entry
returns-else-entry c =
    let here = entry_there _ _ _ _ c.requires c.entries.ensures.value c.index-entries-unit.is in
    let place = c.args.unit.place in
    c.sector_at.ensures ∙ ap (λ bytes. slice_range bytes (512 * place) (512 * place + 512)) c.as_slice.ensures ∙ written _ _ _ here c.if-entry.false
