use Rattle.std.proofs.Common.{refl, sym, subst}
use Rattle.images.specs.Views.{ViewValue}
use Rattle.checker.specs.Checker.{IsFor}
use Rattle.workers.proofs.Findings.{no_line_here, ends_so}
use Rattle.workers.proofs.Reused.{told_line, on_ok}
use Rattle.workers.proofs.input.Input.judge_known.Goals as goal

pub judge_checker-requires : goal.judge_checker-requires
judge_checker-requires c = record { device = subst (λ (v : ViewValue). IsFor v.log.sectors c.args.checker.now.verified) (sym c.requires.view) c.requires.device; served = c.requires.served }

pub returns-in-Good-clause-lines : goal.returns-in-Good-clause-lines
returns-in-Good-clause-lines c = no_line_here c.args.self.now c.args.seen.now.image c.args.number c.args.seen.now.choice.now c.args.checker.now c.args.finding c.args.lines.now c.in-Good.is c.requires.finding

pub returns-in-Ends-clause-lines : goal.returns-in-Ends-clause-lines
returns-in-Ends-clause-lines c =
    on_ok _ _ _ (told_line c.args.self.now c.self.inside.by c.args.seen.now.image c.args.number c.args.seen.now.choice.now c.args.checker.now _ c.args.lines.now c.push_failing.new.lines
    (rw (← c.self.view_is) c.self.invariant.by_is) c.requires.choice c.requires.checker
    (ends_so c.args.self.now c.args.seen.now.image c.args.number c.args.seen.now.choice.now c.args.checker.now c.args.finding _ c.in-Ends.is c.requires.finding)) c.push_failing.ensures

pub returns-in-Open-clause-lines : goal.returns-in-Open-clause-lines
returns-in-Open-clause-lines c =
    on_ok _ _ _ (told_line c.args.self.now c.self.inside.by c.args.seen.now.image c.args.number c.args.seen.now.choice.now c.args.checker.now _ c.args.lines.now c.judge_checker.new.lines
    (rw (← c.self.view_is) c.self.invariant.by_is) c.requires.choice c.requires.checker refl) (c.judge_checker.ensures.lines c.args.self.now c.requires.view)
