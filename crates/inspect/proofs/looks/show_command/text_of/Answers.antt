use Rattle.std.proofs.Common.{◌≡◌, ◌∙◌, ap, arith}
use Rattle.epochs.specs.Plan.{PlanValue}
use Rattle.images.specs.Views.{ViewValue}
use Rattle.images.specs.Whole.{length_view}
use Rattle.inspect.proofs.looks.show_command.text_of.Goals as goal

pub put_shown-requires-clause-device : goal.put_shown-requires-clause-device
put_shown-requires-clause-device c =
    let sectors : c.in_ok-image.image.log.sectors ≡ c.args.log.now.sectors =
    ap (λ (v : ViewValue). v.log.sectors) c.in_ok-image.ensures.value ∙ ap (λ (p : PlanValue). p.log.sectors) (c.in_ok-history.ensures ∙ c.requires.plan) in
    let device = c.requires.bounds.device in
    omega (arith, length_view c.in_ok-image.image, sectors, device)
