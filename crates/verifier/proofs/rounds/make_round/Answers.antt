use Rattle.std.proofs.Common.{◌≡◌, ◌∙◌, ℕ, arith, map, length, get_or, Bool, false}
use Rattle.std.proofs.lemmas.List.{length-replicate}
use Rattle.verifier.specs.Seen.{arrival_of}
use Rattle.verifier.specs.Passing.{passed_again}
use Rattle.verifier.proofs.Marks.{again_fits, made_round, no_marks}
use Rattle.verifier.proofs.rounds.make_round.Goals as goal

pub arrive_all-requires-clause-waiting : goal.arrive_all-requires-clause-waiting
arrive_all-requires-clause-waiting c =
    rw (c.as_slice-2.ensures.value, c.in_ok-waiting.ensures.passed, c.requires.round.long)
    (again_fits c.args.scene.now.guards c.args.scene.now.program.now c.args.scene.now.sectors c.args.table.now c.as_slice.result.now (omega (arith, c.args.scene.now.few)) c.in_ok-waiting.ensures.program c.args.scene.now.rules c.requires.round.states)

pub returns : goal.returns
returns c =
    let all : map arrival_of c.as_slice-2.result.now ≡ passed_again c.args.scene.now.guards c.args.scene.now.program.now c.args.scene.now.sectors c.args.table.now c.args.marks.now.items =
    rw (c.as_slice-2.ensures.value, ← c.as_slice.ensures.value) c.in_ok-waiting.ensures.passed in
    let long : length c.clear.new.marks.items ≡ length c.args.scene.now.program.now =
    rw c.clear.ensures (length-replicate {A = Bool} (length c.args.marks.now.items) false ∙ c.requires.marks.long) in
    let cleared : (slot : ℕ) → get_or c.clear.new.marks.items slot false ≡ false = rw c.clear.ensures (no_marks (length c.args.marks.now.items)) in
    made_round c.args.scene.now.guards c.args.scene.now.program.now c.args.scene.now.sectors c.args.table.now c.arrive_all.new.table c.args.marks.now.items c.clear.new.marks.items c.arrive_all.new.marks.items
    (map arrival_of c.as_slice-2.result.now) c.arrive_all.result (omega (arith, c.args.scene.now.few)) c.in_ok-waiting.ensures.program c.args.scene.now.rules
    c.requires.round c.requires.marks all long cleared c.arrive_all.ensures.arrived c.arrive_all.ensures.kept
