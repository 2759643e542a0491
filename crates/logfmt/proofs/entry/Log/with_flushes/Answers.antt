use Rattle.std.proofs.Common.{List, length, take, ℕ, ◌==◌, ◌∙◌, ap, sym, arith}
use Rattle.std.proofs.lemmas.Option.{slice_get-get_or}
use Rattle.logfmt.specs.declared.entry.Entry.{Entry}
use Rattle.logfmt.specs.Flushed.{flushed_at, is_place}
use Rattle.logfmt.proofs.Flushed.{flushed-none, length-flushed, one-more, log-flushed}
use Rattle.logfmt.proofs.entry.Log.with_flushes.Goals as goal

pub loop-place-init : goal.loop-place-init
loop-place-init c = c.into_parts-entries.ensures.entries ∙ sym (flushed-none c.args.self.entries)

pub put_flush-requires : goal.put_flush-requires
put_flush-requires c =
    let inside = c.requires c.loop-place.place-index 0 (omega (arith, c.loop-place-test.true)) in
    let long = ap (λ (es : List Entry). length es) c.loop-place.invariant ∙ length-flushed (is_place _) c.args.self.entries in
    omega (arith, inside, long)

pub loop-place-preserved : goal.loop-place-preserved
loop-place-preserved c =
    let k : ℕ = c.loop-place.place-index in
    let here = slice_get-get_or c.args.places.now k 0 (omega (arith, c.loop-place-test.true)) in
    c.put_flush.ensures ∙ ap (flushed_at (λ n. _ == n)) c.loop-place.invariant
    ∙ one-more c.args.places.now k _ c.args.self.entries here

pub of-requires : goal.of-requires
of-requires c =
    rw (c.sectors-sectors.ensures.value, c.loop-place.invariant, c.into_parts-entries.ensures.initial)
    (log-flushed (take c.loop-place.place-index c.args.places.now) c.args.self c.into_parts-entries.ensures.bounds)
