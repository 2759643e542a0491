use Rattle.std.proofs.Common.{◌∙◌, ap, sym, List, ℕ, ◌++◌}
use Rattle.known_runs.specs.Wanted.{ExportedValue, head_text}
use Rattle.known_runs.proofs.Showing.{view_read, same_image, new_image, head_begun}
use Rattle.known_runs.proofs.wanted.put_image.Goals as goal

pub returns-in_ok-put_same-in-Some-clause-text : goal.returns-in_ok-put_same-in-Some-clause-text
returns-in_ok-put_same-in-Some-clause-text c =
    let e : ExportedValue = record { log = c.args.plan.now.log; way = c.args.by; views = c.args.images.now } in
    same_image e c.args.place c.in-Some.first c.index-images-place.result c.args.out.now.items _ c.put_same.new.out.items
    (view_read e c.args.place c.index-images-place.result c.requires.place c.index-images-place.is) (sym c.in-Some.is ∙ c.in_ok-first.ensures)
    (head_begun _ _ _ c.clear.ensures.bytes c.in_ok-put_head.ensures) c.in_ok-put_same-in-Some.ensures

pub returns-in_ok-put_new-in-None-clause-text : goal.returns-in_ok-put_new-in-None-clause-text
returns-in_ok-put_new-in-None-clause-text c =
    let e : ExportedValue = record { log = c.args.plan.now.log; way = c.args.by; views = c.args.images.now } in
    new_image e c.args.place c.index-images-place-in-None.result c.args.shown.now c.args.out.now.items _ c.put_new.new.out.items
    (view_read e c.args.place c.index-images-place-in-None.result c.requires.place c.index-images-place-in-None.is) (sym c.in-None.is ∙ c.in_ok-first.ensures) c.requires.shown
    (head_begun _ _ _ c.clear.ensures.bytes c.in_ok-put_head.ensures
    ∙ ap (head_text c.args.by c.args.place)
    (sym (view_read e c.args.place c.index-images-place.result c.requires.place c.index-images-place.is)
    ∙ view_read e c.args.place c.index-images-place-in-None.result c.requires.place c.index-images-place-in-None.is)) c.in_ok-put_new-in-None.ensures
