use Rattle.std.proofs.Common.{◌≡◌, map, take}
use Rattle.known_runs.specs.Wanted.{wanted_view, wanted_in}
use Rattle.known_runs.proofs.wanted.wanted_images.Given as goal

abbrev pub invariant-loop-at : goal.invariant-loop-at
invariant-loop-at l = l.images.items ≡ map (wanted_view l.log l.by) (wanted_in l.log l.by l.tears (take l.at-index l.found))
