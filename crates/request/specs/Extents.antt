-- How many crash images a run may have, and which of them are meant (docs/OUTPUT.md, The text of a part).
use Rattle.std.specs.Prelude.{ℕ, ◌-◌, ◌==◌, Bool, true, false, ◌&&◌, ◌||◌, nat_le, nat_lt}
use Rattle.choices.specs.Choices.{limit, wide_limit}
use Rattle.request.specs.declared.extent.Extent.{Extent}
use Rattle.request.specs.declared.extent.Extent.TheVariants as extent

-- how many images the run may have
abbrev pub most_images : Extent → ℕ
most_images extent.Whole = limit
most_images extent.Wide = wide_limit
most_images (extent.Part from to) = wide_limit

-- the first image that is meant, and the one after the last, of a run with that many: all, or those of the part
abbrev pub first_meant : Extent → ℕ
first_meant extent.Whole = 0
first_meant extent.Wide = 0
first_meant (extent.Part from to) = from

abbrev pub end_meant : Extent → ℕ → ℕ
end_meant extent.Whole images = images
end_meant extent.Wide images = images
end_meant (extent.Part from to) images = to

-- all that are meant can be taken at once: those of a run that may have more than 16,777,216 can't
abbrev pub is_at_once : Extent → Bool
is_at_once extent.Whole = true
is_at_once extent.Wide = false
is_at_once (extent.Part from to) = true

-- all images are meant, of a run that has no more than usual
abbrev pub is_whole : Extent → Bool
is_whole extent.Whole = true
is_whole extent.Wide = false
is_whole (extent.Part from to) = false

-- it can be asked for: a part has an image, or is 0..0, and has no more images than a run
abbrev pub is_extent : Extent → Bool
is_extent extent.Whole = true
is_extent extent.Wide = true
is_extent (extent.Part from to) = (nat_lt from to || (from == 0 && to == 0)) && nat_le (to - from) limit

-- a run of n images has those that are meant; the part 0..0 is that of a run without images
abbrev pub has_extent : Extent → ℕ → Bool
has_extent extent.Whole n = true
has_extent extent.Wide n = true
has_extent (extent.Part from to) n = nat_le to n && (nat_lt from to || n == 0)
