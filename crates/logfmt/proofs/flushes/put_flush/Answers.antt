use Rattle.std.proofs.lemmas.Option.{slice_get_read}
use Rattle.std.proofs.Common.{refl}
use Rattle.logfmt.proofs.Flushed.{set-flush}
use Rattle.logfmt.proofs.flushes.put_flush.Goals as goal

pub returns : goal.returns
returns c =
    set-flush c.args.entries.now.items c.args.place c.index_mut.result.now
    (slice_get_read c.args.entries.now.items _ c.args.place c.index_mut.result.now refl c.requires c.index_mut.ensures.value)
