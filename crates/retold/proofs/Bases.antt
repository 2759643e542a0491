-- A report of the log with the options.
use Rattle.std.proofs.Common.{ℕ, zero, suc, ◌≡◌, ◌≢◌, ◌+◌, ◌<◌, ◌≤◌, ◌==◌, Bool, true, false, List, ◌++◌, codes, length, refl, sym, ◌∙◌, ap, subst, arith}
use Rattle.std.proofs.lemmas.Bool.Decides.{nat_tests}
use Rattle.logfmt.specs.Bounds.{LogValue}
use Rattle.choices.specs.Sums.{StartsValue}
use Rattle.request.specs.declared.extent.Extent.{Extent}
use Rattle.request.specs.declared.extent.Extent.TheVariants as extent
use Rattle.request.specs.declared.settings.Settings.{Settings}
use Rattle.request.specs.Extents.{most_images, has_extent}
use Rattle.request.specs.Source.{Recording, IsLogOf, HasImages, images_of}
use Rattle.request.specs.Inputs.{inputs_line, options_given}
use Rattle.join.specs.Given.{GivenValue, NoReport, IsReportRead, judge_count}
use Rattle.retold.specs.Told.{AreOfRun}
use Rattle.retold.specs.Retold.{IsGiven, IsGivenAs, NoneAs, NoneIsGiven, NoneUpTo, is_counted, starts_given, title_given, title_text}
use Rattle.retold.proofs.Rising.{are_of_run}

-- a report as it is read, of the log with the settings
moved : (file : List ℕ) (s : Settings) (value : LogValue) (said : ℕ) (title line : List ℕ) (starts : StartsValue) (images : ℕ) (P : List ℕ → List ℕ → StartsValue → ℕ → Type 0)
    → title ≡ title_given file s value said → line ≡ options_given s value → starts ≡ starts_given s value → images ≡ length (images_of s value) → P title line starts images
    → P (title_given file s value said) (options_given s value) (starts_given s value) (length (images_of s value))
moved file s value said title line starts images P one two three four is =
    subst (λ (n : ℕ). P (title_given file s value said) (options_given s value) (starts_given s value) n) four
    (subst (λ (t : StartsValue). P (title_given file s value said) (options_given s value) t images) three
    (subst (λ (bs : List ℕ). P (title_given file s value said) bs starts images) two (subst (λ (bs : List ℕ). P bs line starts images) one is)))

pub none_as : (file : List ℕ) (s : Settings) (value : LogValue) (said : ℕ) (title line : List ℕ) (starts : StartsValue) (images : ℕ) (report : List ℕ)
    → title ≡ title_given file s value said → line ≡ options_given s value → starts ≡ starts_given s value → images ≡ length (images_of s value)
    → NoReport title line starts images report → NoneAs file s value report said
none_as file s value said title line starts images report one two three four none =
    let same = moved file s value said title line starts images (λ t l st n. NoReport t l st n report) one two three four none in
    record { none = λ g counted is. same.none g is }

pub given_as : (file : List ℕ) (s : Settings) (value : LogValue) (said : ℕ) (title line : List ℕ) (starts : StartsValue) (images : ℕ) (report : List ℕ) (g : GivenValue) (counts : Bool)
    → title ≡ title_given file s value said → line ≡ options_given s value → starts ≡ starts_given s value → images ≡ length (images_of s value)
    → IsReportRead title line starts images report g → counts ≡ is_counted said g → counts ≡ true → IsGivenAs file s value report said g
given_as file s value said title line starts images report g counts one two three four read same right = record {
  counted = sym same ∙ right;
  read = moved file s value said title line starts images (λ t l st n. IsReportRead t l st n report g) one two three four read;
}

-- one that says of how many programs it is, and isn't, is none
pub uncounted : (file : List ℕ) (s : Settings) (value : LogValue) (said : ℕ) (title line : List ℕ) (starts : StartsValue) (images : ℕ) (report : List ℕ) (g : GivenValue) (counts : Bool)
    → title ≡ title_given file s value said → line ≡ options_given s value → starts ≡ starts_given s value → images ≡ length (images_of s value)
    → IsReportRead title line starts images report g → counts ≡ is_counted said g → counts ≡ false → NoneAs file s value report said
uncounted file s value said title line starts images report g counts one two three four read same wrong =
    let own = moved file s value said title line starts images (λ t l st n. IsReportRead t l st n report g) one two three four read in
    record {
      none = λ h counted is.
          let alike : g ≡ h = own.only h is in
          let bad : true ≡ false = sym counted ∙ ap (λ (x : GivenValue). is_counted said x) (sym alike) ∙ sym same ∙ wrong in
          absurd cc;
    }

-- how a report begins that says of one to eight programs
pub title_more : (number n : ℕ) (title inputs : List ℕ) → inputs ≡ inputs_line number (n + 1) → title ≡ codes "crash report 2\n" ++ inputs → title ≡ title_text number (n + 1)
title_more number n title inputs line is =
    let more : n + 1 ≡ suc n = omega arith in
    is ∙ ap (λ (bs : List ℕ). codes "crash report 2\n" ++ bs) line ∙ (rw more refl)

pub given_so : (file : List ℕ) (s : Settings) (value : LogValue) (report : List ℕ) (said : ℕ) (g : GivenValue) → said ≤ 8 → IsGivenAs file s value report said g → IsGiven file s value report g
given_so file s value report said g few as_said = record { said = said; few = few; as_said = as_said }

pub none_next : (file : List ℕ) (s : Settings) (value : LogValue) (report : List ℕ) (n : ℕ) → NoneUpTo file s value report n → NoneAs file s value report (n + 1) → NoneUpTo file s value report (n + 1)
none_next file s value report n before here said some few = by_test (said == n + 1) refl
  where
    by_test : (b : Bool) → (said == n + 1) ≡ b → NoneAs file s value report said
    by_test true same = let is : n + 1 ≡ said = grind (arith, nat_tests, same) in subst (λ (k : ℕ). NoneAs file s value report k) is here
    by_test false other = before said some (grind (arith, nat_tests, other, few))

pub none_given : (file : List ℕ) (s : Settings) (value : LogValue) (report : List ℕ) → NoneAs file s value report 0 → NoneUpTo file s value report 8 → NoneIsGiven file s value report
none_given file s value report plain marked = record { none = each }
  where
    each : (said : ℕ) → said ≤ 8 → NoneAs file s value report said
    each zero few = plain
    each (suc n) few = marked (suc n) (omega arith) few

pub of_run_in : (file : List ℕ) (s : Settings) (value : LogValue) (report : List ℕ) (starts : StartsValue) (g : GivenValue) → starts ≡ starts_given s value → IsGiven file s value report g → AreOfRun starts g.lines
of_run_in file s value report starts g same given =
    subst (λ (t : StartsValue). AreOfRun t g.lines) (sym same)
    (are_of_run g.outside (judge_count g.outside g.programs) (length (images_of s value)) (starts_given s value) g.lines given.as_said.read.is.lines given.as_said.read.is.order)

-- whether all images are meant
pub whole_in : (e : Extent) (s : Settings) → e ≡ s.extent → e ≡ extent.Whole → s.extent ≡ extent.Whole
whole_in e s same whole = sym same ∙ whole

pub part_in : (e : Extent) (s : Settings) → e ≡ s.extent → (e ≡ extent.Whole → ⊥) → s.extent ≢ extent.Whole
part_in e s same part = λ whole. part (same ∙ whole)

-- the log that a recording is, with its images
pub source_in : (r : Recording) (s : Settings) (value : LogValue) (images : ℕ) → IsLogOf r s value → images ≡ length (images_of s value) → images ≤ most_images s.extent → has_extent s.extent images ≡ true
    → HasImages r s value
source_in r s value images reads count few within = record {
  reads = reads;
  few = subst (λ (n : ℕ). n ≤ most_images s.extent) count few;
  within = subst (λ (n : ℕ). has_extent s.extent n ≡ true) count within;
}
