-- The marks before each cut, counted entry by entry.
use Rattle.std.proofs.Common.{ℕ, ◌≡◌, ◌+◌, ◌<◌, ◌≤◌, Bool, true, false, if◌then◌else◌, List, [], ◌∷◌, ◌++◌, length, length-append, get_or, Some, refl, sym, ap, ◌∙◌, inl, inr, arith}
use Rattle.std.specs.Prelude.{slice_get}
use Rattle.std.proofs.lemmas.List.Sums.{count_by_more_yes, count_by_more_no}
use Rattle.std.proofs.lemmas.Bool.Decides.{eqb_tells}
use Rattle.base.proofs.Lists.{slice_get-append_left, slice_get-push}
use Rattle.logfmt.specs.declared.entry.Entry.{Entry}
use Rattle.epochs.specs.Units.{marks_at}
use Rattle.known_text.specs.Reading.{AreCounted, AreMarks}

pub marks_begun : (entries : List Entry) (marks old : List ℕ) → old ≡ [] → marks ≡ old ++ 0 ∷ [] → AreCounted entries 0 0 marks
marks_begun entries marks old none pushed =
    let is : marks ≡ 0 ∷ [] = pushed ∙ ap (λ xs. xs ++ 0 ∷ []) none in
    record {
      all = refl;
      each = λ cut low.
          let first : cut ≡ 0 = omega (arith, low) in
          ap (λ k. slice_get marks k) first ∙ ap (λ xs. slice_get xs 0) is ∙ ap (λ k. Some (marks_at entries k)) (sym first);
      long = ap length is;
    }

more_marks : (entries : List Entry) (n : ℕ) (entry : Entry) → n < length entries → entry ≡ get_or entries n entry
    → marks_at entries (n + 1) ≡ marks_at entries n + (if entry.flags.mark then 1 else 0)
more_marks entries n entry less here = by_flag entry.flags.mark refl
  where
    same : (get_or entries n entry).flags.mark ≡ entry.flags.mark
    same = ap (λ (x : Entry). x.flags.mark) (sym here)

    by_flag : (b : Bool) → entry.flags.mark ≡ b → marks_at entries (n + 1) ≡ marks_at entries n + (if b then 1 else 0)
    by_flag true is = count_by_more_yes (λ (x : Entry). x.flags.mark) entries n entry less (same ∙ is)
    by_flag false is = count_by_more_no (λ (x : Entry). x.flags.mark) entries n entry less (same ∙ is) ∙ (let none : marks_at entries n ≡ marks_at entries n + 0 = omega arith in none)

pub marks_counted : (entries : List Entry) (n count next : ℕ) (marks more : List ℕ) (entry : Entry) → AreCounted entries n count marks → n < length entries → entry ≡ get_or entries n entry
    → next ≡ count + (if entry.flags.mark then 1 else 0) → more ≡ marks ++ next ∷ [] → AreCounted entries (n + 1) next more
marks_counted entries n count next marks more entry was less here is pushed = record {
  all = all;
  each = each;
  long = ap length pushed ∙ length-append marks (next ∷ []) ∙ ap (λ k. k + 1) was.long;
}
  where
    all : next ≡ marks_at entries (n + 1)
    all = is ∙ ap (λ k. k + (if entry.flags.mark then 1 else 0)) was.all ∙ sym (more_marks entries n entry less here)

    each : (cut : ℕ) → cut ≤ n + 1 → slice_get more cut ≡ Some (marks_at entries cut)
    each cut low = elim (eqb_tells cut (n + 1)) [
      | inl same ↦
          let place : cut ≡ length marks = same.1 ∙ sym was.long in
          ap (slice_get more) place ∙ ap (λ xs. slice_get xs (length marks)) pushed ∙ slice_get-push marks next ∙ ap (λ k. Some k) all ∙ ap (λ k. Some (marks_at entries k)) (sym same.1)
      | inr other ↦
          let apart = other.1 in
          let long = was.long in
          let before : cut ≤ n = omega (arith, low, apart) in
          let inside : cut < length marks = omega (arith, before, long) in
          ap (λ xs. slice_get xs cut) pushed ∙ slice_get-append_left marks (next ∷ []) cut inside ∙ was.each cut before
    ]

pub marks_all : (entries : List Entry) (n count : ℕ) (marks : List ℕ) → AreCounted entries n count marks → n ≡ length entries → AreMarks entries marks
marks_all entries n count marks was end = record { each = λ cut low. was.each cut (omega (arith, low, end)); long = was.long ∙ ap (λ k. k + 1) end }
