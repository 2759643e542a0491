use Rattle.std.proofs.Common.{◌≡◌, ◌-◌, ◌<◌, ◌≤◌, ◌++◌, slice_get, Some}
use Rattle.workers.specs.Failing.{lines_from, choices_of, image_count}
use Rattle.workers.proofs.worker.Worker.judge_cut.Given as goal

abbrev pub invariant-loop-next : goal.invariant-loop-next
invariant-loop-next g l = (l.lines ≡ l.initial.lines ++ lines_from l.self.input.now l.image (l.next - l.image)) × (l.image ≤ l.next) × (l.next ≤ l.end)
    × (l.next < image_count l.self.input.now → slice_get (choices_of l.self.input.now) l.next ≡ Some l.choice)
    × (l.next ≡ l.image → l.choice.place ≡ l.place) × (l.changes ≡ l.initial.changes) × (l.memory ≡ l.initial.memory)

abbrev pub decreases-loop-next : goal.decreases-loop-next
decreases-loop-next g l = l.end - l.next
