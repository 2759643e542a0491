use Rattle.std.proofs.Common.{◌≡◌, ◌++◌, [], List, ℕ, refl, sym, ap, ◌∙◌, string_bytes}
use Rattle.std.proofs.lemmas.List.{append-nil}
use Rattle.crash_text.specs.Sectors.{sector_difference}
use Rattle.crash_text.proofs.Differing.{same_say_nothing}
use Rattle.crash_text.proofs.sector.put_sector.Goals as goal

-- equal sectors add nothing
pub returns-then-same : goal.returns-then-same
returns-then-same c =
    let none : sector_difference c.args.sector c.args.left.now c.args.right.now ≡ [] = same_say_nothing c.args.sector c.args.left.now c.args.right.now (c.if-same.ensures.0 refl) in
    sym (ap (λ (xs : List ℕ). string_bytes c.args.out.now ++ xs) none ∙ append-nil (string_bytes c.args.out.now))
