-- A unit has the bytes of a sector.
use Rattle.std.proofs.Common.{ℕ, ◌≡◌, ◌+◌, ◌*◌, ◌-◌, ◌<◌, Bool, true, false, if◌then◌else◌, List, [], length, take, drop, ◌∙◌, ap, arith, length-drop}
use Rattle.std.specs.List.{slice_range}
use Rattle.std.specs.Option.{option_map_or}
use Rattle.std.proofs.lemmas.List.{length-take-le}
use Rattle.base.specs.Numbers.{zeros}
use Rattle.base.proofs.Lists.{length-zeros}
use Rattle.logfmt.specs.declared.entry.Entry.{Entry}
use Rattle.epochs.specs.Units.{unit_content}
use Rattle.epochs.specs.Laws.{UnitIsSector}

-- 512 bytes from place 512 * j
length-sector : (content : List ℕ) (j n : ℕ) → length content ≡ 512 * n → j < n → length (slice_range content (512 * j) (512 * j + 512)) ≡ 512
length-sector content j n long lt =
    let size : 512 * j + 512 - 512 * j ≡ 512 = omega arith in
    ap (λ m. length (take m (drop (512 * j) content))) size
    ∙ length-take-le 512 (drop (512 * j) content) (omega (arith, length-drop (512 * j) content, long, lt))

either : (discard : Bool) (content : List ℕ) (j n : ℕ) → length content ≡ 512 * (if discard then 0 else n) → j < n
    → length (if discard then zeros 512 else slice_range content (512 * j) (512 * j + 512)) ≡ 512
either true content j n long lt = length-zeros 512
either false content j n long lt = length-sector content j n long lt

pub unit_is_sector : UnitIsSector
unfolding unit_content
unit_is_sector log u is at =
    let entry = at.entry in
    ap (λ o. length (option_map_or (λ (e : Entry). if e.flags.discard then zeros 512 else slice_range e.content (512 * u.place) (512 * u.place + 512)) o [])) at.there
    ∙ either entry.flags.discard entry.content u.place entry.count (is.entries u.entry entry at.there).content at.place
