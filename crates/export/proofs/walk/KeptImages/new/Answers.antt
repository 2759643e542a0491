use Rattle.std.proofs.Common.{nat_eq, [], refl, ◌∙◌, ap}
use Rattle.std.specs.HashMap.{get}
use Rattle.logfmt.specs.Bounds.{LogValue}
use Rattle.images.specs.Views.{ViewValue}
use Rattle.export.proofs.Keeping.{first_kept, none_at}
use Rattle.export.proofs.walk.KeptImages.new.Goals as goal

pub returns : goal.returns
returns c =
    let start : LogValue → ViewValue = λ l. record { log = l; cut = 0; departures = [] } in
    first_kept c.args.asked.now c.initial-shown.result c.initial-near.result c.sum_of-sum.result 0 (get nat_eq c.new.result) (c.initial-shown.ensures ∙ ap start c.log.ensures)
    (ap (λ (v : ViewValue). v.log) c.initial-near.ensures ∙ c.log-2.ensures) c.sum_of-sum.ensures refl (none_at c.new.result c.new.ensures.empty)
