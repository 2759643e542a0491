use Rattle.std.proofs.Common.{rules, ℕ, ◌≡◌, ◌∙◌, ◌++◌, [], ◌∷◌, length, option_map, Vec, Global}
use Rattle.input_files.proofs.Files.{next_read, some_held}
use Rattle.input_files.proofs.inputs.Inputs.read_next.Goals.{else-is_part-via-then-is_part+else-is_none, else-is_part-via-else-is_part}
use Rattle.input_files.proofs.inputs.Inputs.read_next.Goals as goal

pub returns-clause-files : goal.returns-clause-files
returns-clause-files g c = λ names long before.
    let place : length c.args.self.now.lengths ≡ c.len-place.result = search rules in
    let more : c.push.new.self.files ≡ c.args.self.now.files ++ (option_map (λ (b : Vec ℕ Global). b.items) c.in-Ok.piece.bytes ∷ []) = search rules in
    let longer : c.push.new.self.lengths ≡ c.args.self.now.lengths ++ (c.in-Ok.piece.length ∷ []) = search rules in
    next_read _ _ _ _ _ c.len-place.result names _ _ _ _ _ _ _ c.of-kind.result more longer c.of-kind.ensures before c.in-Ok.ensures (long ∙ place)
    (elim c.else-is_part.branch [
      | else-is_part-via-then-is_part+else-is_none w ↦ λ part. some_held (λ (b : Vec ℕ Global). b.items) c.in-Ok.piece.bytes w.is_none.result w.is_none.ensures w.if-is_none.false
      | else-is_part-via-else-is_part w ↦ λ part. absurd (search rules)
    ])
    (search rules)
