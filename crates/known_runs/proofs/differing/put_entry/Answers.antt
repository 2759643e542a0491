use Rattle.std.proofs.Common.{◌≡◌, Some, slice_get, sym, subst, ◌∙◌, ap, arith}
use Rattle.std.proofs.lemmas.Option.{same_Some}
use Rattle.logfmt.specs.declared.entry.Entry.{Entry}
use Rattle.logfmt.specs.Bounds.{LogValue}
use Rattle.images.proofs.Entries.{entry_read}
use Rattle.export.specs.Kept.{Spans, IsWrittenBy}
use Rattle.export.proofs.Listing.{lists_less, listed_so_far}
use Rattle.known_runs.proofs.differing.put_entry.Goals as goal

pub returns-then-entry-eq0 : goal.returns-then-entry-eq0
returns-then-entry-eq0 c = λ p is.
    let log = c.args.one.now.log in
    let entries = c.entries.ensures.value ∙ ap (λ (l : LogValue). l.entries) c.log.ensures.value in
    let x : Entry = c.index-entries-entry.result in
    let there : slice_get log.entries c.args.entry ≡ Some x = entry_read log _ c.args.entry x c.requires.entry entries c.index-entries-entry.is in
    listed_so_far _ _ _ p (IsWrittenBy log.entries c.args.entry) is
    (λ n h.
    let same : h.0.count ≡ x.count = ap (λ (e : Entry). e.count) (same_Some h.0 x (sym h.1 ∙ there)) in
    omega (arith, same, h.2.0, h.2.1, c.if-entry-eq0.true))

pub overflow_cast-entry-2 : goal.overflow_cast-entry-2
overflow_cast-entry-2 c =
    let log = c.args.one.now.log in
    let entries = c.entries.ensures.value ∙ ap (λ (l : LogValue). l.entries) c.log.ensures.value in
    let there = entry_read log _ c.args.entry c.index-entries-entry.result c.requires.entry entries c.index-entries-entry.is in
    let on = (c.log.ensures.bounds.entries c.args.entry c.index-entries-entry.result there).device (omega (arith, c.if-entry-eq0.false)) in
    let size = c.log.ensures.bounds.device in
    omega (arith, on, size)

pub put_sectors-requires-clause-device : goal.put_sectors-requires-clause-device
put_sectors-requires-clause-device c =
    let log = c.args.one.now.log in
    let entries = c.entries.ensures.value ∙ ap (λ (l : LogValue). l.entries) c.log.ensures.value in
    let there = entry_read log _ c.args.entry c.index-entries-entry.result c.requires.entry entries c.index-entries-entry.is in
    (c.log.ensures.bounds.entries c.args.entry c.index-entries-entry.result there).device (omega (arith, c.if-entry-eq0.false))

pub returns : goal.returns
returns c = λ p is.
    let log = c.args.one.now.log in
    let entries = c.entries.ensures.value ∙ ap (λ (l : LogValue). l.entries) c.log.ensures.value in
    let x : Entry = c.index-entries-entry.result in
    let there : slice_get log.entries c.args.entry ≡ Some x = entry_read log _ c.args.entry x c.requires.entry entries c.index-entries-entry.is in
    lists_less _ _ _ p (λ n. Spans x.sector x.count n) (IsWrittenBy log.entries c.args.entry) (c.in_ok-put_sectors.ensures p is)
    (λ n h. subst (λ (e : Entry). Spans e.sector e.count n) (same_Some h.0 x (sym h.1 ∙ there)) h.2)
