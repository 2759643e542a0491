use Rattle.std.proofs.Common.{ℕ, ◌≡◌, ◌+◌, ◌*◌, List, length, replicate, subst, sym, refl, ◌∙◌, ap, arith}
use Rattle.machine.specs.OwnMemory.{overwritten}
use Rattle.plain.specs.Clean.{IsClean}
use Rattle.plain.proofs.Clean.{piece_cleared, all_clean}
use Rattle.plain.proofs.Storing.{length_over}
use Rattle.plain.proofs.called.clear_pieces.Goals as goal

pub loop-piece-preserved : goal.loop-piece-preserved
loop-piece-preserved c =
    let stack : List ℕ = c.loop-piece.stack in
    let piece : ℕ = c.loop-piece.piece in
    let zeros : List ℕ = replicate {A = ℕ} 64 0 in
    let less = c.loop-piece-test.true in
    let long = c.loop-piece.invariant.1 in
    let is : c.write_at.new.block ≡ overwritten (64 * piece) zeros stack = c.write_at.ensures in
    let count : length zeros ≡ 64 = refl in (
      subst (λ (s : List ℕ). IsClean s (piece + 1)) (sym is) (piece_cleared stack zeros piece c.loop-piece.invariant.0 long less refl),
      ap length is ∙ length_over stack zeros (64 * piece) (omega (arith, less, long, count)) ∙ long,
    )

pub returns : goal.returns
returns c = all_clean c.loop-piece.stack c.loop-piece.piece c.loop-piece.invariant.0 c.loop-piece.invariant.1 (omega (arith, c.loop-piece-test.false))
