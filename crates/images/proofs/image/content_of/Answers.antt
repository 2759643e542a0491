use Rattle.std.proofs.Common.{◌∙◌, ◌+◌, ◌*◌, length, ap}
use Rattle.std.specs.List.{slice_range}
use Rattle.epochs.proofs.Contents.{unit_is_sector}
use Rattle.images.proofs.Entries.{discarded, written, entry_there, unit_room}
use Rattle.images.proofs.image.content_of.Goals as goal

pub sector_at-requires : goal.sector_at-requires
sector_at-requires c =
    let here = entry_there _ _ _ _ c.requires c.entries.ensures.value c.index-entries-unit.is in
    rw c.as_slice.ensures (unit_room _ _ _ c.entries.ensures.bounds c.requires here c.if-entry.false)

pub returns-then-entry-clause-value : goal.returns-then-entry-clause-value
returns-then-entry-clause-value c =
    let here = entry_there _ _ _ _ c.requires c.entries.ensures.value c.index-entries-unit.is in
    discarded _ _ _ here c.if-entry.true

pub returns-else-entry-clause-value : goal.returns-else-entry-clause-value
returns-else-entry-clause-value c =
    let here = entry_there _ _ _ _ c.requires c.entries.ensures.value c.index-entries-unit.is in
    let place = c.args.unit.place in
    c.sector_at.ensures ∙ ap (λ bytes. slice_range bytes (512 * place) (512 * place + 512)) c.as_slice.ensures ∙ written _ _ _ here c.if-entry.false

pub returns-else-entry-clause-size : goal.returns-else-entry-clause-size
returns-else-entry-clause-size c =
    ap length (returns-else-entry-clause-value c) ∙ unit_is_sector c.args.log.now c.args.unit c.entries.ensures.bounds c.requires
