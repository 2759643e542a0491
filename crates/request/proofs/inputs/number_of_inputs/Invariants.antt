use Rattle.std.proofs.Common.{◌≡◌, map, take}
use Rattle.request.specs.Inputs.{inputs_number}
use Rattle.request.proofs.inputs.number_of_inputs.Given as goal

abbrev pub invariant-loop-program : goal.invariant-loop-program
invariant-loop-program l = l.number ≡ inputs_number l.log (take l.program-index (map (λ f. f.items) l.programs))
