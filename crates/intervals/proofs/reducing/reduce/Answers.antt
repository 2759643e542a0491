use Rattle.intervals.specs.Seen.{span_of}
use Rattle.intervals.specs.SeenSigned.{signed_span_of}
use Rattle.intervals.proofs.Reduced.{made_reduced}
use Rattle.intervals.proofs.Typed.{words_of, readings_of}
use Rattle.intervals.proofs.reducing.reduce.Goals as goal

pub invariant_of-result : goal.invariant_of-result
invariant_of-result c =
    record {
      reduced =
          made_reduced (span_of c.args.unsigned) (span_of c.in_ok-unsigned.unsigned) (signed_span_of c.args.signed) (signed_span_of c.in_ok-signed.signed)
          (signed_span_of c.in_ok-signed-2.signed) (words_of c.args.unsigned) (readings_of c.args.signed) c.in_ok-signed.ensures c.in_ok-unsigned.ensures
          c.in_ok-signed-2.ensures;
    }
