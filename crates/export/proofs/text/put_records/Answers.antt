use Rattle.std.proofs.Common.{rules}
use Rattle.images.specs.Keys.{with_content}
use Rattle.images.specs.Views.{sectors_of}
use Rattle.export.specs.Export.{record_text}
use Rattle.export.proofs.Streaming.{puts_nothing, puts_one_more, puts_each}
use Rattle.std.proofs.lemmas.Option.{slice_get-get_or}
use Rattle.export.proofs.text.put_records.Goals as goal

pub loop-number-init : goal.loop-number-init
loop-number-init g c = puts_nothing _ _ _

pub put_record-requires : goal.put_record-requires
put_record-requires g c = c.requires c.loop-number.number-index _ (slice_get-get_or c.args.numbers.now c.loop-number.number-index 0 c.loop-number-test.true)

pub loop-number-preserved : goal.loop-number-preserved
loop-number-preserved g c =
    puts_one_more record_text (with_content (sectors_of c.args.image.now)) c.args.numbers.now c.loop-number.number-index 0 _ _ _ c.loop-number-test.true c.loop-number.invariant c.put_record.ensures

pub returns : goal.returns
returns g c = puts_each record_text (with_content (sectors_of c.args.image.now)) c.args.numbers.now c.loop-number.number-index _ _ (search rules) c.loop-number.invariant
