use Rattle.std.proofs.Common.{ℕ, List, ◌+◌, ◌*◌, subst, sym}
use Rattle.plain.specs.Kept.{AreZeros}
use Rattle.plain.proofs.Kept.{cleared_zeros}
use Rattle.plain.proofs.own.clear_noted.Goals as goal

pub returns-clause-zeros : goal.returns-clause-zeros
returns-clause-zeros c =
    subst (λ (bytes : List ℕ). AreZeros bytes (1024 * (c.args.piece + 1))) (sym c.clear_piece.ensures.cleared)
    (cleared_zeros c.args.bytes.now c.args.written.now c.args.end c.args.piece c.requires.kept c.requires.whole c.requires.pieces c.requires.inside c.requires.before)
