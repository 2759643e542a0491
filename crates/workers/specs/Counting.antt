-- Which pieces count, by the least failing image.
use Rattle.std.specs.Prelude.{ℕ, ◌+◌, ◌*◌, Bool, true, false, ◌&&◌, nat_lt, nat_le, Option, None, Some}
use Rattle.workers.specs.declared.found.BlockFound.{BlockFound}
use Rattle.workers.specs.declared.found.BlockFound.TheVariants.{Lines, Passed}

-- whether the least image is that one or comes before it
abbrev pub reaches : Option ℕ → ℕ → Bool
reaches None image = false
reaches (Some least) image = nat_le least image

-- whether what was found of a block counts, where that is the least image of the full pieces' lines. The first block begins with
-- image `from`, and a passed piece names its image less that.
abbrev pub counts_with : ℕ → Option ℕ → ℕ → BlockFound → Bool
counts_with from least block (Lines own) = true
counts_with from least block (Passed image) = nat_lt image (64 * block) && reaches least (from + image)
