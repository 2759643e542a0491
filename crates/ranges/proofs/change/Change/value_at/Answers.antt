use Rattle.std.proofs.Common.{◌≡◌, ◌∙◌, ◌==◌, nat_le, if◌then◌else◌, inl, inr, length, map}
use Rattle.std.proofs.lemmas.List.{length-map}
use Rattle.ranges.specs.Changing.{after_change, groups_after}
use Rattle.ranges.specs.Kinds.{Unset}
use Rattle.ranges.specs.Reading.{value}
use Rattle.ranges.specs.Seen.{kind_of}
use Rattle.ranges.specs.SeenStates.{group_of, state_of}
use Rattle.ranges.proofs.Writing.{answered_at}
use Rattle.ranges.proofs.change.Change.value_at.Goals as goal

pub returns-in-Answer : goal.returns-in-Answer
returns-in-Answer c =
    let s = c.args.state.now in
    let k = c.args.k in
    let answer = kind_of c.in-Answer.value in
    let other = kind_of c.at-in-Answer.result in
    let values = map kind_of s.values in
    let groups = map group_of s.groups in
    let long : length values ≡ 11 = length-map s.values kind_of ∙ s.registers in
    c.answer_after.ensures
    ∙ elim c.in-Answer.is as (λ v. (if k == 0 then answer else (if nat_le k 5 then Unset else other)) ≡ value (after_change (state_of s) c.args.self.now) k) [
      | inl e ↦ rw e (answered_at values groups answer k other long c.at-in-Answer.ensures)
      | inr p ↦ rw p.1 (answered_at values (groups_after p.0.are_set p.0.at p.0.n groups) answer k other long c.at-in-Answer.ensures)
    ]
