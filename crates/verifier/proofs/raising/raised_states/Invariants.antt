use Rattle.std.proofs.Common.{◌≡◌, take}
use Rattle.verifier.specs.Seen.{table_of}
use Rattle.verifier.specs.SeenUnsigned.{unsigned_table}
use Rattle.verifier.proofs.raising.raised_states.Given as goal

abbrev pub invariant-loop-state : goal.invariant-loop-state
invariant-loop-state l = table_of l.states.items ≡ unsigned_table (take l.state-index l.known)
