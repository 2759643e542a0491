use Rattle.std.proofs.Common.{List, ◌≡◌, [], sym, subst, ◌∙◌, ap, OnOk}
use Rattle.std.specs.List.Sorted.{IsNonDecreasingBy}
use Rattle.logfmt.specs.Bounds.{LogValue}
use Rattle.epochs.specs.Units.{unit_content}
use Rattle.images.specs.Images.{sector_after}
use Rattle.images.specs.Keys.{ChangedValue}
use Rattle.images.specs.Changes.{with_sector, whole_image}
use Rattle.images.proofs.Departing.{own_content}
use Rattle.images.proofs.Growing.{unit_more}
use Rattle.images.proofs.Listed.{changes_rise}
use Rattle.images.proofs.changes.put_unit.Goals as goal

pub put-requires : goal.put-requires
put-requires c =
    let P : List ChangedValue → Type 0 = λ xs. IsNonDecreasingBy (λ (s : ChangedValue). s.number) xs in
    subst P (sym c.requires.known.1) (changes_rise _ _ 0 c.args.versions.now.sectors)

pub returns : goal.returns
returns c = λ us is.
    let log = c.args.versions.now in
    let unit = c.args.unit in
    let base = whole_image log c.args.flush in
    let old = sector_after log us [] in
    let content = c.content_of.result.now in
    let told = c.change_of-change.ensures base (with_sector old unit.sector content) (sym c.durable-base.ensures) (own_content old unit.sector content) in
    subst (λ xs. OnOk c.put.result (c.put.new.sectors.items ≡ xs))
    (unit_more log c.args.flush us unit content c.log.ensures.bounds c.requires.unit (c.content_of.ensures.value ∙ ap (λ (l : LogValue). unit_content l.entries unit) c.log.ensures.value))
    (c.put.ensures base old log.sectors content c.requires.unit.device is told)
