use Rattle.std.proofs.Common.{◌≡◌, length, min, take, refl, rules}
use Rattle.commands.proofs.Joining.{begins_so}
use Rattle.commands.proofs.action.are_cases.Goals as goal

pub returns : goal.returns
returns c =
    let most : c.min-most.result ≡ min (length c.as_slice-text.result.now) 14 = search rules in
    begins_so (λ f. f.items) c.args.texts.now c.index-texts-0.result c.eq.result c.as_slice-text.result.now (take c.min-most.result c.as_slice-text.result.now) c.min-most.result c.requires c.index-texts-0.is
    c.as_slice-text.ensures.value most refl c.eq.ensures
