-- What is left whatever flushes are added: of an image with a window by those outside of it, and of one without by all.
use Rattle.std.proofs.Common.{ℕ, ◌≡◌, ◌==◌, ◌+◌, Bool, List, [], Some, None, refl, sym, ◌∙◌, ap, arith}
use Rattle.logfmt.specs.Bounds.{LogValue}
use Rattle.logfmt.specs.Flushed.{is_place, with_flushes}
use Rattle.logfmt.specs.declared.entry.Entry.{Entry}
use Rattle.epochs.specs.declared.part.By.{By}
use Rattle.choices.specs.declared.choice.Departure.{Departure}
use Rattle.choices.specs.CrashModel.{IsAdmissible}
use Rattle.images.specs.Images.{crash_image}
use Rattle.epochs.specs.Units.{marks_at}
use Rattle.losses.specs.WindowLaws.{up_to, only_of, IsLeftWith, FlushesElsewhereLeave, NoFlushHelps}
use Rattle.losses.proofs.Away.{leaves, elsewhere, before_all, same_number}
use Rattle.losses.proofs.Same.{same_is_left, nothing_else_is_lost}
use Rattle.losses.proofs.Added.{flushes_write_nothing}

-- what leaves the same in the log leaves it in the log with flushes
left : (way : By) (log : LogValue) (bound : ℕ) (tears : Bool) (places : List ℕ) (cut : ℕ) (ds : List Departure) (right : ℕ) (some : List Departure)
    → IsAdmissible way (with_flushes places log).entries right bound tears some → crash_image log right some ≡ crash_image log cut ds
    → marks_at log.entries right ≡ marks_at log.entries cut → IsLeftWith way log bound tears places cut ds right some
left way log bound tears places cut ds right some admissible device marks =
    let now = flushes_write_nothing log places right some in
    record { choice = admissible; device = now.0 ∙ device; marks = now.1 ∙ marks }

pub flushes_elsewhere_leave : FlushesElsewhereLeave
flushes_elsewhere_leave way log cut bound tears ds w places inside is admissible =
    let same = same_is_left way log cut bound tears ds w inside is admissible in (
      λ none. left way log bound tears places cut ds (w.end + 1) (up_to w.end ds) (elsewhere way log.entries cut bound tears ds w places is admissible none) same.0 same.1,
      λ low. left way log bound tears places cut ds cut ds (before_all way log.entries cut bound tears ds w places is admissible low) refl refl,
    )

-- where nothing departs there is always a choice
nothing : (way : By) (es : List Entry) (cut bound : ℕ) (tears : Bool) → IsAdmissible way es cut bound tears []
nothing way es cut bound tears = record {
  few = omega arith;
  volatile = λ i d there. absurd (let bad : None ≡ Some d = there in cc);
  fates = λ i d there. absurd (let bad : None ≡ Some d = there in cc);
  rising = λ i j c d less here there. absurd (let bad : None ≡ Some d = there in cc);
}

pub no_flush_helps : NoFlushHelps
no_flush_helps way log cut bound tears ds places bounds inside none admissible = (
  λ empty. left way log bound tears places cut ds cut [] (nothing way (with_flushes places log).entries cut bound tears) (ap (λ (xs : List Departure). crash_image log cut xs) (sym empty)) refl,
  λ first there.
      let f : ℕ = first.part.entry in
      let same = nothing_else_is_lost way log cut bound tears ds first bounds inside none admissible there in
      let after = same.0 in
      let kept = leaves way log.entries cut bound (f + 1) tears ds (λ (d : Departure). d.part.entry == f) (is_place places) admissible after.order
      (λ d k here passes. let own = same_number d.part.entry f passes in omega (arith, own))
      (λ d k g here passes later sooner. let own = same_number d.part.entry f passes in absurd (omega (arith, own, later, sooner))) in (
        left way log bound tears places cut ds (f + 1) (only_of f ds) kept after.device after.marks,
        λ entry here lost.
            let before = same.1 entry here lost in
            left way log bound tears places cut ds f [] (nothing way (with_flushes places log).entries f bound tears) before.device before.marks,
      ),
)
