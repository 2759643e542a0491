use Rattle.std.proofs.Common.{rules, ℕ, ◌≡◌, ◌-◌, ◌*◌, ◌/◌, ◌∙◌, List, length, drop, ap, arith}
use Rattle.std.proofs.SliceLists.{take_long}
use Rattle.std.proofs.lemmas.List.{length-drop}
use Rattle.logfmt.specs.Bounds.{AreBytes}
use Rattle.logfmt.specs.Initial.{initial_sector}
use Rattle.logfmt.proofs.KeptSectors.{sector_begun}
use Rattle.logfmt.proofs.initial.InitialContent.of.Goals as goal

pub invariant_of-result : goal.invariant_of-result
invariant_of-result c =
    let bytes : List ℕ = c.args.bytes.now in
    let are : AreBytes bytes = search rules in
    record {
      bytes = are;
      sector = λ s lt past.
          let whole : length bytes / 512 * 512 ≡ 512 * s = omega (arith, lt, past) in
          let rest : List ℕ = drop (length bytes / 512 * 512) bytes in
          let left : length rest ≡ length bytes - length bytes / 512 * 512 = length-drop (length bytes / 512 * 512) bytes in
          c.filled.ensures
          ∙ ap (λ (xs : List ℕ). initial_sector xs 0) (take_long rest (length bytes - length bytes / 512 * 512) (omega (arith, left)))
          ∙ rw whole (sector_begun bytes s);
    }
