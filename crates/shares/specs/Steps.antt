-- The steps of a seat, each with the number that it found, and what they say together (docs/PROVED.md, Threads and the cache).
use Rattle.std.specs.Prelude.{ℕ, ◌+◌, min, max, nat_eq, nat_le, Bool, if◌then◌else◌, List, [], ◌∷◌, Option, None, Some}
use Rattle.shares.specs.declared.view.SeatStep.{SeatStep}
use Rattle.shares.specs.declared.view.SeatStep.TheVariants.{Drew, Posted, SawLeast, SawNext}

-- f of each, added up
abbrev pub total : {A : Type 0} → (A → ℕ) → List A → ℕ
total f [] = 0
total f (x ∷ xs) = f x + total f xs

-- the greatest f of each
abbrev pub greatest_of : {A : Type 0} → (A → ℕ) → List A → ℕ
greatest_of f [] = 0
greatest_of f (x ∷ xs) = max (f x) (greatest_of f xs)

-- what the word of the least image holds as long as no image is posted
abbrev pub none_posted : ℕ
none_posted = 18446744073709551615

-- the least f of each
abbrev pub least_of : {A : Type 0} → (A → ℕ) → List A → ℕ
least_of f [] = none_posted
least_of f (x ∷ xs) = min (f x) (least_of f xs)

abbrev pub image_or_none : ℕ → Option ℕ
image_or_none n = if nat_eq n none_posted then None else Some n

abbrev pub bit : Bool → ℕ
bit b = if b then 1 else 0

-- 1 where the step drew that block
abbrev pub drew : ℕ → SeatStep → ℕ
drew block (Drew found) = bit (nat_eq found block)
drew block _ = 0

-- how often those steps drew that block
abbrev pub draws : ℕ → List SeatStep → ℕ
draws block steps = total (drew block) steps

-- 1 where the step found no block to draw
abbrev pub drew_late : ℕ → SeatStep → ℕ
drew_late blocks (Drew found) = bit (nat_le blocks found)
drew_late blocks _ = 0

-- how often those steps found none of that many blocks left
abbrev pub late_draws : ℕ → List SeatStep → ℕ
late_draws blocks steps = total (drew_late blocks) steps

-- the image that the step posted
abbrev pub image_posted : SeatStep → ℕ
image_posted (Posted image found) = image
image_posted _ = none_posted

-- the least image that those steps posted
abbrev pub least_posted : List SeatStep → ℕ
least_posted steps = least_of image_posted steps

-- the number of the next block is at least that after the step
abbrev pub shown_next : SeatStep → ℕ
shown_next (Drew found) = found + 1
shown_next (SawNext found) = found
shown_next _ = 0

-- what the number of the next block is known to have reached
abbrev pub next_seen : List SeatStep → ℕ
next_seen steps = greatest_of shown_next steps

-- the least image is at most that after the step
abbrev pub shown_least : SeatStep → ℕ
shown_least (Posted image found) = min image found
shown_least (SawLeast found) = found
shown_least _ = none_posted

-- the least image that those steps posted or saw
abbrev pub least_seen : List SeatStep → ℕ
least_seen steps = least_of shown_least steps

-- 1 where the step posted that image
abbrev pub posted_it : ℕ → SeatStep → ℕ
posted_it image (Posted own found) = bit (nat_eq own image)
posted_it image _ = 0

-- how often those steps posted that image
abbrev pub posts : ℕ → List SeatStep → ℕ
posts image steps = total (posted_it image) steps

-- 1 where that was the least image when the step was made
abbrev pub found_it : ℕ → SeatStep → ℕ
found_it image (Posted own found) = bit (nat_eq found image)
found_it image (SawLeast found) = bit (nat_eq found image)
found_it image _ = 0

-- how often those steps found that image as the least
abbrev pub finds : ℕ → List SeatStep → ℕ
finds image steps = total (found_it image) steps
