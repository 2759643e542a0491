use Rattle.known.proofs.records.KnownRecords.new.Goals as goal

pub invariant_of-result : goal.invariant_of-result
invariant_of-result c = (record { runs = c.requires; those = c.in_ok-kept.ensures.those }, c.in_ok-kept.ensures.linked)
