use Rattle.std.proofs.Common.{◌≡◌, ◌++◌, ◌∷◌, [], List, refl, subst, ◌∙◌, ap, arith}
use Rattle.cases.specs.Cases.{representative}
use Rattle.cases.specs.Trees.{Program, ending_of}
use Rattle.cases.specs.Search.{subject_of, case_in, Went, LeafValue}
use Rattle.cases.proofs.Runs.{ran_start, ran_more, ran_end, one_told}
use Rattle.cases.proofs.search.Search.run.Goals as goal

pub loop-count-init : goal.loop-count-init
loop-count-init g c = record {
  same = record { asked = refl; tears = refl };
  program = refl;
  ran = ran_start (subject_of c.args.self.now.asked (g.J.Judge.program c.args.judge.now)) c.args.self.now (g.J.Judge.leaves c.args.judge.now);
  many = omega arith;
}

pub returns-then-not-branch-clause-ran : goal.returns-then-not-branch-clause-ran
returns-then-not-branch-clause-ran g c =
    let before = c.loop-count.invariant in
    let went = subst (λ (program : Program). Went (subject_of c.loop-count.self.asked program) c.loop-count.self c.next.new.self c.in_ok-next.field-0) before.program c.in_ok-next.ensures.went in
    ran_end (g.J.Judge.program c.args.judge.now) c.args.self.now c.loop-count.self c.next.new.self (g.J.Judge.leaves c.args.judge.now) (g.J.Judge.leaves c.loop-count.judge)
    (g.J.Judge.leaves c.next.new.judge) c.in_ok-next.field-0 before.same before.ran went c.if-not-branch.true c.in_ok-next.ensures.kept

pub loop-count-preserved : goal.loop-count-preserved
loop-count-preserved g c =
    let before = c.loop-count.invariant in
    let next = c.next.new.self in
    let leaf : LeafValue = record { sets = next.sets; ending = g.J.Judge.ending c.next.new.judge } in
    let went = subst (λ (program : Program). Went (subject_of c.loop-count.self.asked program) c.loop-count.self next c.in_ok-next.field-0) before.program c.in_ok-next.ensures.went in
    let ends = c.in_ok-next.ensures.ending c.if-not-branch.false ∙ ap (λ (program : Program). ending_of (subject_of c.loop-count.self.asked program) (representative (case_in next))) before.program in
    let put : g.J.Judge.leaves c.tell.new.judge ≡ g.J.Judge.leaves c.loop-count.judge ++ leaf ∷ [] = c.in_ok-tell.ensures.told ∙ ap (λ (ls : List LeafValue). ls ++ leaf ∷ []) c.in_ok-next.ensures.kept in
    record {
      same = record { asked = c.in_ok-next.ensures.same.asked ∙ before.same.asked; tears = c.in_ok-next.ensures.same.tears ∙ before.same.tears };
      program = c.in_ok-tell.ensures.program ∙ c.in_ok-next.ensures.program ∙ before.program;
      ran =
          ran_more (g.J.Judge.program c.args.judge.now) c.args.self.now c.loop-count.self next (g.J.Judge.leaves c.args.judge.now) (g.J.Judge.leaves c.loop-count.judge)
          (g.J.Judge.leaves c.tell.new.judge) (g.J.Judge.ending c.next.new.judge) c.in_ok-next.field-0 before.same before.ran c.in_ok-next.ensures.same went c.if-not-branch.false ends put;
      many = one_told (g.J.Judge.leaves c.args.judge.now) (g.J.Judge.leaves c.loop-count.judge) (g.J.Judge.leaves c.tell.new.judge) leaf c.loop-count.count before.many put;
    }
