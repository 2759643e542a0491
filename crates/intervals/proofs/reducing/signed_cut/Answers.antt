use Rattle.std.proofs.Common.{sym}
use Rattle.intervals.specs.Seen.{span_of}
use Rattle.intervals.specs.SeenSigned.{signed_span_of}
use Rattle.intervals.proofs.Reduced.{uncut_stays}
use Rattle.intervals.proofs.reducing.signed_cut.Goals as goal

pub returns-else-has_one_sign : goal.returns-else-has_one_sign
returns-else-has_one_sign c =
    uncut_stays (span_of c.args.unsigned) (signed_span_of c.args.signed) (sym c.if-has_one_sign.ensures) c.args.signed.ordered
