use Rattle.std.proofs.Common.{◌≡◌, ◌<◌, ℕ, false, slice_get, Some}
use Rattle.std.specs.List.{slice_index_or}
use Rattle.workers.specs.Reuse.{tells, told_or}
use Rattle.choices.specs.declared.pick.Pick.{Pick}
use Rattle.workers.proofs.told.first_told.Given as goal

abbrev pub invariant-loop-place : goal.invariant-loop-place
invariant-loop-place l = (i : ℕ) → i < l.place → (x : Pick) → slice_get l.picks i ≡ Some x → slice_index_or l.marks i false ≡ false → tells (told_or l.all l.told) x.part ≡ false
