use Rattle.join.proofs.Spans.{span_read}
use Rattle.join.proofs.span.span_said.Goals as goal

pub returns : goal.returns
returns c =
    span_read c.args.text.now c.cut.result.0.now c.cut.result.1.now c.cut-2.result.0.now c.cut-2.result.1.now c.cut-3.result.0.now c.cut-3.result.1.now c.cut-4.result.0.now c.cut-4.result.1.now c.cut-5.result.0.now
    c.cut-5.result.1.now c.cut-6.result.0.now c.cut-6.result.1.now c.cut-7.result.0.now c.cut-7.result.1.now c.cut-8.result.0.now c.cut-8.result.1.now c.cut-9.result.0.now c.cut-9.result.1.now
    c.number.result c.number-2.result c.number-3.result c.number-4.result
    c.cut.ensures.parts c.cut-2.ensures.parts c.cut-3.ensures.parts c.cut-4.ensures.parts c.cut-5.ensures.parts c.cut-6.ensures.parts c.cut-7.ensures.parts c.cut-8.ensures.parts c.cut-9.ensures.parts c.number.ensures c.number-2.ensures c.number-3.ensures c.number-4.ensures
