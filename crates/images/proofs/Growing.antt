-- The image where nothing departs, unit after unit and cut after cut.
use Rattle.std.proofs.Common.{ℕ, ◌≡◌, ◌≤◌, if◌then◌else◌, List, [], ◌∷◌, ◌++◌, length, refl, sym, ◌∙◌, ap, inl, inr, arith}
use Rattle.std.proofs.lemmas.Bool.{eq-eqb, ne_eqb}
use Rattle.std.proofs.lemmas.Bool.Decides.{eqb_tells}
use Rattle.std.proofs.lemmas.List.{append-nil}
use Rattle.logfmt.specs.declared.entry.Entry.{Entry}
use Rattle.logfmt.specs.Bounds.{LogValue, IsLog}
use Rattle.epochs.specs.declared.unit.Unit.{Unit as LogUnit}
use Rattle.epochs.specs.Plan.{IsUnit}
use Rattle.epochs.specs.Units.{units_before, unit_content, epoch_at}
use Rattle.images.specs.Images.{departures_of, sector_after}
use Rattle.images.specs.Keys.{ChangedValue}
use Rattle.images.specs.Changes.{changes, changes_between, with_sector, whole_image, IsKnown}
use Rattle.images.proofs.Bases.{one_flush_of}
use Rattle.images.proofs.Entries.{units_up_to}
use Rattle.images.proofs.Fates.{whole_shows}
use Rattle.images.proofs.Laying.{sector_elsewhere}
use Rattle.images.proofs.Listed.{nothing_changes, changes_alike}

whole_unit : (log : LogValue) (us : List LogUnit) (u : LogUnit) → IsLog log → IsUnit log u
    → unit_content log.entries u ≡ sector_after log (us ++ u ∷ []) [] u.sector
unfolding departures_of
whole_unit log us u bounds unit = sym (whole_shows log us u [] bounds unit refl)

-- one unit more changes its sector
pub unit_more : (log : LogValue) (flush : ℕ) (us : List LogUnit) (u : LogUnit) (content : List ℕ) → IsLog log → IsUnit log u → content ≡ unit_content log.entries u
    → changes (whole_image log flush) (with_sector (sector_after log us []) u.sector content) 0 log.sectors
    ≡ changes (whole_image log flush) (sector_after log (us ++ u ∷ []) []) 0 log.sectors
unit_more log flush us u content bounds unit is =
    let old : ℕ → List ℕ = sector_after log us [] in
    changes_alike (whole_image log flush) (whole_image log flush) (with_sector old u.sector content) (sector_after log (us ++ u ∷ []) []) 0 log.sectors
    (λ n low high. refl)
    (λ n low high. elim (eqb_tells n u.sector) [
      | inl same ↦
          ap (λ b. if b then content else old n) (eq-eqb n u.sector same.1) ∙ is ∙ whole_unit log us u bounds unit
          ∙ ap (sector_after log (us ++ u ∷ []) []) (sym same.1)
      | inr other ↦ ap (λ b. if b then content else old n) (ne_eqb n u.sector other.1) ∙ sector_elsewhere log us u [] n other.1
    ])

-- nothing differs from itself
pub none_between : (log : LogValue) (cut : ℕ) → [] ≡ changes_between log cut cut
unfolding changes_between
none_between log cut = sym (nothing_changes (whole_image log cut) (whole_image log cut) 0 log.sectors (λ n. refl))

-- by the units of a cut
pub between_is : (log : LogValue) (flush cut : ℕ) (us : List LogUnit) → us ≡ units_before log.entries cut
    → changes (whole_image log flush) (sector_after log us []) 0 log.sectors ≡ changes_between log flush cut
unfolding changes_between
between_is log flush cut us is = ap (λ (vs : List LogUnit). changes (whole_image log flush) (sector_after log vs []) 0 log.sectors) is

-- cut 0 is known
pub first_known : (log : LogValue) (sectors : List ChangedValue) → sectors ≡ [] → IsKnown log 0 0 0 sectors
first_known log sectors none = record {
  within = omega arith;
  told = refl;
  last = refl;
  listed = none ∙ none_between log 0;
}

-- a later cut of one epoch, and any other
pub known_on : (log : LogValue) (before epoch flush first cut : ℕ) (old new : List ChangedValue) → IsKnown log before flush first old → before ≡ epoch
    → cut ≤ length log.entries → epoch ≡ epoch_at log.entries cut → new ≡ changes_between log flush cut → IsKnown log epoch flush cut new
known_on log before epoch flush first cut old new was one le same is = record {
  within = le;
  told = same;
  last = was.last ∙ one_flush_of log.entries first cut (sym was.told ∙ one ∙ same);
  listed = is;
}

-- the units of an entry, of which none is there yet
pub up_to_none : (es : List Entry) (e : ℕ) (entry : Entry) → units_up_to es e entry 0 ≡ units_before es e
up_to_none es e entry = append-nil (units_before es e)
