use Rattle.std.proofs.Common.{◌≡◌, ◌∙◌, ◌*◌, List, ℕ, length, replicate, false, slice_set, subst, sym, ap, arith}
use Rattle.std.proofs.lemmas.List.{length-replicate}
use Rattle.plain.specs.Kept.{IsKept}
use Rattle.plain.proofs.Storing.{length_over}
use Rattle.plain.proofs.Kept.{kept_cleared}
use Rattle.plain.proofs.own.clear_piece.Goals as goal

pub returns-clause-whole : goal.returns-clause-whole
returns-clause-whole c =
    let size : length (replicate {A = ℕ} 1024 0) ≡ 1024 = length-replicate {A = ℕ} 1024 0 in
    ap length c.write_at.ensures ∙ length_over c.args.bytes.now (replicate {A = ℕ} 1024 0) (1024 * c.args.piece) (omega (arith, size, c.requires.whole, c.requires.inside)) ∙ c.requires.whole

pub returns-clause-kept : goal.returns-clause-kept
returns-clause-kept c =
    subst (λ (bytes : List ℕ). IsKept bytes (slice_set c.args.written.now c.args.piece false) c.args.end) (sym c.write_at.ensures)
    (kept_cleared c.args.bytes.now c.args.written.now c.args.end c.args.piece c.requires.kept c.requires.whole c.requires.inside)
