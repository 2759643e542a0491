use Rattle.std.proofs.Common.{◌≡◌, get_or, slice_get, Some, List, ℕ, ap, sym, ◌∙◌, arith}
use Rattle.std.proofs.lemmas.Option.{slice_get-get_or}
use Rattle.epochs.specs.Cuts.{cuts_of}
use Rattle.inspect.proofs.Counts.{few_at}
use Rattle.inspect.proofs.looks.images_command.text_of.Goals as goal

pub put_open-requires-clause-few : goal.put_open-requires-clause-few
put_open-requires-clause-few c =
    let cuts = c.cuts-cut-items.result.now in
    let cut = get_or cuts c.loop-cut.cut-index 0 in
    let there : slice_get (cuts_of c.args.plan.now.kind c.args.plan.now.log.entries) c.loop-cut.cut-index ≡ Some cut =
    ap (λ (ks : List ℕ). slice_get ks c.loop-cut.cut-index) (sym c.cuts-cut-items.ensures.value) ∙ slice_get-get_or cuts c.loop-cut.cut-index 0 c.loop-cut-test.true in
    let few = few_at c.args.plan.now c.args.bound c.args.tears c.loop-cut.cut-index cut there in
    omega (arith, few, c.requires.count, c.requires.few)
