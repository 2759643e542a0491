-- How many images of a cut fail.
use Rattle.losses.specs.declared.why.cut.CutFailures.{CutFailures}
use Rattle.page_parts.specs.declared.counts.JudgedKind.TheVariants as kind
use Rattle.page_parts.specs.declared.counts.CutCount.{CutCount}

-- the images of a cut
abbrev pub image_count : CutFailures → CutCount
image_count c = record { cut = c.cut; of = kind.Images; all = c.images; failing = c.failing }
