use Rattle.std.proofs.Common.{refl, ◌∙◌, arith}
use Rattle.images.proofs.Sectors.{flush_within}
use Rattle.images.proofs.Growing.{none_between, known_on}
use Rattle.images.proofs.changes.known_at.Goals as goal

pub changes_of_cut-requires-clause-flush : goal.changes_of_cut-requires-clause-flush
changes_of_cut-requires-clause-flush c =
    let last = c.requires.known.last in
    let within = c.requires.known.within in
    let low = flush_within c.args.versions.now.entries c.args.known.cut in
    omega (arith, last, within, low)

pub returns-then-first-cut : goal.returns-then-first-cut
returns-then-first-cut c =
    (refl, known_on _ _ _ _ _ _ _ _ c.requires.known c.if-old-epoch.true c.requires.cut c.requires.epoch c.in_ok-sectors.ensures)

pub changes_of_cut-requires-2-clause-known : goal.changes_of_cut-requires-2-clause-known
changes_of_cut-requires-2-clause-known c = c.new.ensures.items ∙ none_between c.args.versions.now c.last_flush-flush.result
