-- One image tells what a key ends in.
use Rattle.std.proofs.Common.{◌≡◌, slice_get, refl, sym, ap, ◌∙◌}
use Rattle.std.proofs.lemmas.Option.{same_Some}
use Rattle.checker.specs.Checker.{judgement}
use Rattle.images.specs.Views.{view_of, sectors_of, context_at}
use Rattle.images.specs.Laws.{KeysTell}
use Rattle.verdict_cache.specs.Laws.{OneImageTells}

pub one_image_tells : KeysTell → OneImageTells
one_image_tells tell plan checkers choice program checker key there has = λ other number another here same.
    let told = (tell (view_of plan choice) (view_of plan other) program number key key refl has same).0 refl in
    let one : checker ≡ another = same_Some checker another (sym there ∙ (ap (slice_get checkers) told.0 ∙ here)) in
    ap (λ c. judgement c (sectors_of (view_of plan choice)) (context_at plan.log choice.cut)) one
    ∙ (ap (λ s. judgement another s (context_at plan.log choice.cut)) told.2
    ∙ ap (λ t. judgement another (sectors_of (view_of plan other)) t) told.1)
