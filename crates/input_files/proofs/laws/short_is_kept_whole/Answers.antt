use Rattle.input_files.proofs.Contents.{kept_whole}
use Rattle.input_files.proofs.laws.short_is_kept_whole.Goals as goal

pub returns : goal.returns
returns c = kept_whole
