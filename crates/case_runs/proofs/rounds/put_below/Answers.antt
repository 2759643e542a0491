use Rattle.std.proofs.Common.{◌∷◌, [], Option, IfSome, refl, subst}
use Rattle.case_runs.specs.declared.pieces.SubtreeAnswer.{SubtreeAnswer}
use Rattle.case_runs.specs.Pieces.{open_as}
use Rattle.case_runs.specs.Shares.{IsAnswer}
use Rattle.case_runs.proofs.Turning.{same_below, same_answer, stays_open}
use Rattle.case_runs.proofs.rounds.put_below.Goals as goal

pub returns-then-is_of : goal.returns-then-is_of
returns-then-is_of c =
    let work = c.args.work.now in
    let answer = c.in-Some.answer in
    let is = subst (λ (o : Option SubtreeAnswer). IfSome o (IsAnswer work)) c.in-Some.is c.requires in
    record {
      same =
          same_below work c.args.cut c.args.program c.args.out.now.items answer.pieces.items c.append.new.self.items c.args.start c.in_ok-append.ensures.items
          (same_answer work c.args.cut c.args.program c.args.start answer (c.is_of.ensures.cut c.if-is_of.true) (c.is_of.ensures.program c.if-is_of.true) (c.is_of.ensures.whole c.if-is_of.true)
          (c.is_of.ensures.sets c.if-is_of.true) is);
    }

pub returns : goal.returns
returns c =
    let work = c.args.work.now in
    record {
      same =
          same_below work c.args.cut c.args.program c.args.out.now.items (open_as c.args.start ∷ []) c.push.new.self.items c.args.start c.in_ok-push.ensures.items
          (stays_open work c.args.cut c.args.program c.args.start (open_as c.args.start ∷ []) refl);
    }
