use Rattle.workers.proofs.Findings.{before_stop}
use Rattle.workers.proofs.input.Input.finding.Goals as goal

pub returns-then-number-stop-clause-finding : goal.returns-then-number-stop-clause-finding
returns-then-number-stop-clause-finding c = before_stop c.args.self.now c.args.picked.now c.args.stop.now c.args.number c.args.checker.now c.requires.stop c.if-number-stop.true
