use Rattle.std.proofs.Common.{refl, ℕ, Vec, Global}
use Rattle.crashbpf.proofs.Ending.{exits_as_read, given_as_read}
use Rattle.crashbpf.proofs.perform_on.Goals as goal

pub returns : goal.returns
returns g c =
    let given = given_as_read (λ (f : Vec ℕ Global). f.items) c.contents-files.result.now c.base.result.now c.args.words.now.choice c.args.words.now.choice c.args.inputs.now c.contents-files.ensures c.base.ensures refl in
    exits_as_read _ _ _ _ _ _ c.perform.ensures.ends given
