use Rattle.std.proofs.Common.{◌≡◌, ◌-◌, ◌^◌, ◌∙◌, sym, ap, subst, Option, None, Some}
use Rattle.intervals.specs.Spans.{Span, IsSpan}
use Rattle.intervals.specs.SignedSpans.{SignedSpan, signed_full, inhabited_signed}
use Rattle.intervals.specs.Reducing.{limits, signed_cut, IsReduced, any_sign}
use Rattle.intervals.specs.Seen.{span_of}
use Rattle.intervals.specs.SeenSigned.{signed_span_of}
use Rattle.intervals.proofs.Reduced.{signed_stays, any_fits}
use Rattle.intervals.proofs.Typed.{words_of}
use Rattle.intervals.proofs.bounds.Bounds.of.Goals as goal

found : (u : Span) (f : SignedSpan) (r : Option SignedSpan) → IsSpan (2 ^ 64 - 1) u → f ≡ signed_full → r ≡ inhabited_signed (signed_cut u f)
    → r ≡ Some (signed_cut u signed_full)
found u f r h e g = g ∙ ap (λ z. inhabited_signed (signed_cut u z)) e ∙ signed_stays (signed_cut u signed_full) (any_fits u h).readings.ordered

is_cut : (u : Span) (f s : SignedSpan) → IsSpan (2 ^ 64 - 1) u → f ≡ signed_full → Some s ≡ inhabited_signed (signed_cut u f)
    → s ≡ signed_cut u signed_full
is_cut u f s h e g = let k : Some s ≡ Some (signed_cut u signed_full) = found u f (Some s) h e g in cc

pub unreachable-requires : goal.unreachable-requires
unreachable-requires c =
    absurd
    (let bad : None ≡ Some (signed_cut (span_of c.args.range) signed_full) =
    found (span_of c.args.range) (signed_span_of c.full.result) None (words_of c.args.range) c.full.ensures c.in-None.ensures in cc)

pub invariant_of-result : goal.invariant_of-result
invariant_of-result c =
    let e = is_cut (span_of c.args.range) (signed_span_of c.full.result) (signed_span_of c.in-Some.signed) (words_of c.args.range) c.full.ensures c.in-Some.ensures in
    record { reduced = subst (λ s. IsReduced (limits (span_of c.args.range) s)) (sym e) (any_fits (span_of c.args.range) (words_of c.args.range)).reduced }

pub returns : goal.returns
returns c =
    ap (limits (span_of c.args.range))
    (is_cut (span_of c.args.range) (signed_span_of c.full.result) (signed_span_of c.in-Some.signed) (words_of c.args.range) c.full.ensures c.in-Some.ensures)
