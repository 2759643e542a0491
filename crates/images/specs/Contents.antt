-- The bytes of a sector of a key, as it keeps them.
use Rattle.std.specs.Prelude.{ℕ, List}
use Rattle.images.specs.declared.content.SectorContent.{SectorContent}
use Rattle.images.specs.declared.content.SectorContent.TheVariants as content

unfoldable pub bytes_of : SectorContent → List ℕ
bytes_of (content.Lent sector) = sector.now
bytes_of (content.Torn sector) = sector.value
