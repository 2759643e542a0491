use Rattle.std.proofs.Common.{ℕ, List, sym, ◌∙◌, ap}
use Rattle.helpers.specs.Footprint.{lists}
use Rattle.runs.proofs.Unseeing.{known_bare}
use Rattle.runs.proofs.blind.is_bare_by.Goals as goal

pub returns-then-lists-clause-value : goal.returns-then-lists-clause-value
returns-then-lists-clause-value c =
    sym (known_bare c.args.entries.now c.args.known.now.items c.args.sector
    (ap (λ (own : List ℕ). lists own c.args.sector) (sym c.as_slice.ensures.value) ∙ sym c.lists.ensures ∙ c.if-lists.true)
    c.requires.known)
