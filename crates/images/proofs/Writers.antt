-- The last unit that writes a byte.
use Rattle.std.proofs.Common.{ℕ, ◌≡◌, Bool, true, false, cond, if◌then◌else◌, List, [], ◌∷◌, ◌++◌, Option, Some, None, filter, refl, ◌∙◌, ap}
use Rattle.std.specs.List.{last_or, slice_index}
use Rattle.std.specs.Option.{option_map_or}
use Rattle.std.proofs.lemmas.List.{append-nil}
use Rattle.std.proofs.lemmas.List.Elements.{filter-append}
use Rattle.logfmt.specs.Bounds.{LogValue}
use Rattle.logfmt.specs.Initial.{initial_byte}
use Rattle.epochs.specs.declared.unit.Unit.{Unit as LogUnit}
use Rattle.epochs.specs.Units.{unit_content}
use Rattle.choices.specs.declared.choice.Departure.{Departure}
use Rattle.images.specs.Images.{writes, byte_after}
use Rattle.images.specs.Laws.{LastWriterShows}

-- the last of a list to which one was added
pub last_or-push : (o : Option LogUnit) (us : List LogUnit) (u : LogUnit) → last_or o (us ++ u ∷ []) ≡ Some u
last_or-push o [] u = refl
last_or-push o (x ∷ xs) u = last_or-push (Some x) xs u

last_of_one : (f : LogUnit → ℕ) (d : ℕ) (us : List LogUnit) (u : LogUnit) (b : Bool)
    → option_map_or f (last_or None (us ++ cond b (u ∷ []) [])) d ≡ (if b then f u else option_map_or f (last_or None us) d)
last_of_one f d us u true = ap (λ o. option_map_or f o d) (last_or-push None us u)
last_of_one f d us u false = ap (λ xs. option_map_or f (last_or None xs) d) (append-nil us)

-- one unit more
pub byte_after-push : (log : LogValue) (us : List LogUnit) (u : LogUnit) (ds : List Departure) (s i : ℕ)
    → byte_after log (us ++ u ∷ []) ds s i ≡ (if writes ds s i u then slice_index (unit_content log.entries u) i else byte_after log us ds s i)
unfolding byte_after
byte_after-push log us u ds s i =
    let f : LogUnit → ℕ = λ v. slice_index (unit_content log.entries v) i in
    let d : ℕ = initial_byte log.initial s i in
    ap (λ xs. option_map_or f (last_or None xs) d) (filter-append (writes ds s i) us (u ∷ []))
    ∙ last_of_one f d (filter (writes ds s i) us) u (writes ds s i u)

nothing_left : (log : LogValue) (ds : List Departure) (s i : ℕ) → byte_after log [] ds s i ≡ initial_byte log.initial s i
unfolding byte_after
nothing_left log ds s i = refl

-- one unit more: it writes the byte, or leaves it
pub byte_after_written : (log : LogValue) (us : List LogUnit) (u : LogUnit) (ds : List Departure) (s i : ℕ) → writes ds s i u ≡ true
    → byte_after log (us ++ u ∷ []) ds s i ≡ slice_index (unit_content log.entries u) i
byte_after_written log us u ds s i h =
    byte_after-push log us u ds s i ∙ ap (λ b. if b then slice_index (unit_content log.entries u) i else byte_after log us ds s i) h

pub byte_after_lost : (log : LogValue) (us : List LogUnit) (u : LogUnit) (ds : List Departure) (s i : ℕ) → writes ds s i u ≡ false
    → byte_after log (us ++ u ∷ []) ds s i ≡ byte_after log us ds s i
byte_after_lost log us u ds s i h =
    byte_after-push log us u ds s i ∙ ap (λ b. if b then slice_index (unit_content log.entries u) i else byte_after log us ds s i) h

pub last_writer_shows : LastWriterShows
last_writer_shows = record { nothing = nothing_left; written = byte_after_written; lost = byte_after_lost }
