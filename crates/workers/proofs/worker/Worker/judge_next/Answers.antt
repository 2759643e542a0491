use Rattle.std.proofs.Common.{◌<◌, arith}
use Rattle.workers.specs.Failing.{image_count}
use Rattle.workers.proofs.Reused.{as_many}
use Rattle.workers.proofs.worker.Worker.judge_next.Goals as goal

pub go_over-requires-clause-member : goal.go_over-requires-clause-member
go_over-requires-clause-member g c =
    (c.args.row.now.image, c.requires.row.member (omega (arith, c.requires.some, c.requires.row.within)))

pub returns-clause-known : goal.returns-clause-known
returns-clause-known g c = c.end_if_vain.ensures c.args.self.now.input.now c.judge_or_pass.ensures.known

pub returns-clause-row : goal.returns-clause-row
returns-clause-row g c =
    let within : c.args.row.now.image < image_count c.args.self.now.input.now = omega (arith, c.requires.some, c.requires.row.within) in
    record {
      order = omega (arith, c.in_ok-count.ensures.most, c.requires.some);
      within = c.requires.row.within;
      member = λ lt. c.go_over.ensures c.args.row.now.image (c.requires.row.member within) lt;
    }

pub returns-clause-lines : goal.returns-clause-lines
returns-clause-lines g c = as_many c.args.self.now.input.now c.args.row.now.image c.in_ok-count.count c.args.lines.now _ c.in_ok-count.ensures.lines
