use Rattle.runs.proofs.Casing.{found_within, found_few}
use Rattle.runs.proofs.case_command.text_of.Goals as goal

pub bytes_of-requires-clause-few : goal.bytes_of-requires-clause-few
bytes_of-requires-clause-few c = found_few _ _ _ _ _ _ c.requires.found c.requires.small

pub bytes_of-requires-clause-cuts : goal.bytes_of-requires-clause-cuts
bytes_of-requires-clause-cuts c = found_within _ _ _ _ _ _ _ c.requires.found c.requires.within
