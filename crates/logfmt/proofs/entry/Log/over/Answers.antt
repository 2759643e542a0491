use Rattle.logfmt.proofs.entry.Log.over.Goals as goal

pub of-requires : goal.of-requires
of-requires c =
    let is = c.into_parts-entries.ensures.bounds in
    rw (c.sectors-sectors.ensures.value, c.into_parts-entries.ensures.entries)
    (record {
      some = is.some;
      device = is.device;
      count = is.count;
      units = is.units;
      entries = is.entries;
      size = is.size;
      held = c.requires;
      initial = c.len-count.ensures.bytes;
    })
