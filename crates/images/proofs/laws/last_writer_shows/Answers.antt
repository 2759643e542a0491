use Rattle.images.proofs.Writers.{last_writer_shows}
use Rattle.images.proofs.laws.last_writer_shows.Goals as goal

pub returns : goal.returns
returns c = last_writer_shows
