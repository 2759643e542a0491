-- Lines may cross threads.
use denote.Param.Send.{IsSend, sendable}
use Rattle.std.proofs.Crossing.{crosses}
use Rattle.report.specs.contracts.lines.part.LinesPart as Part

pub Part-send : IsSend Part.the_row
Part-send = search (sendable, crosses) depth 40
