-- The lines of images of which outcomes are known, and of images in a row.
use Rattle.std.proofs.Common.{ℕ, ◌≡◌, ◌+◌, ◌-◌, ◌<◌, ◌≤◌, List, [], ◌∷◌, ◌++◌, length, Option, None, Some, Result, Ok, Err, slice_get, refl, sym, ◌∙◌, ap, subst, arith, append_assoc, append-nil}
use Rattle.std.specs.Prelude.{OnOk, IfSome}
use Rattle.std.specs.List.{filter_map, flat_map, range_with_len}
use Rattle.std.proofs.lemmas.List.Elements.{filter_map-append}
use Rattle.std.proofs.lemmas.Grind.{flat_map-append}
use Rattle.base.proofs.Lists.{range_with_len-more, range_with_len-append}
use Rattle.epochs.specs.declared.part.By.{By}
use Rattle.epochs.specs.Plan.{PlanValue}
use Rattle.choices.specs.Choices.{ChoiceValue, choice_of}
use Rattle.choices.specs.Picked.{PickedValue, choice_of_picked}
use Rattle.machine.specs.Outcome.{Ending}
use Rattle.checker.specs.Checker.{CheckerValue}
use Rattle.report.specs.Line.{FailingLine}
use Rattle.workers.specs.Failing.{Subject, choices_of, ending_at, line_if, line_of, image_lines, lines_from}
use Rattle.workers.specs.Input.{line_list}
use Rattle.workers.proofs.JudgedLines.{line_here, lines_of_image}
use Rattle.workers.proofs.Skipping.{none_below}

-- the line of a checker with its ending as it is known
pub told_line : (s : Subject) (way : By) (image n : ℕ) (choice : ChoiceValue) (checker : CheckerValue) (ending : Ending) (before after : List FailingLine)
    → way ≡ s.plan.by → slice_get (choices_of s) image ≡ Some choice → slice_get s.checkers n ≡ Some checker → ending ≡ ending_at s choice checker
    → after ≡ before ++ line_list (line_if way image choice n ending) → after ≡ before ++ filter_map (line_of s image) (n ∷ [])
told_line s way image n choice checker ending before after same there named ends e =
    e ∙ ap (λ (end : Ending). before ++ line_list (line_if way image choice n end)) ends
    ∙ ap (λ (w : By). before ++ line_list (line_if w image choice n (ending_at s choice checker))) same
    ∙ ap (λ (ls : List FailingLine). before ++ ls) (sym (line_here s image n choice checker there named))

-- the lines of one more checker
pub line_more : (s : Subject) (image n : ℕ) (first before after : List FailingLine) → before ≡ first ++ filter_map (line_of s image) (range_with_len 0 n)
    → after ≡ before ++ filter_map (line_of s image) (n ∷ []) → after ≡ first ++ filter_map (line_of s image) (range_with_len 0 (n + 1))
line_more s image n first before after so e =
    let z : 0 + n ≡ n = omega arith in
    let range : filter_map (line_of s image) (range_with_len 0 (n + 1)) ≡ filter_map (line_of s image) (range_with_len 0 n) ++ filter_map (line_of s image) (n ∷ []) =
    ap (filter_map (line_of s image)) (range_with_len-more 0 n ∙ ap (λ k. range_with_len 0 n ++ k ∷ []) z) ∙ filter_map-append (line_of s image) (range_with_len 0 n) (n ∷ []) in
    e ∙ ap (λ (ls : List FailingLine). ls ++ filter_map (line_of s image) (n ∷ [])) so
    ∙ append_assoc first (filter_map (line_of s image) (range_with_len 0 n)) (filter_map (line_of s image) (n ∷ []))
    ∙ ap (λ (ls : List FailingLine). first ++ ls) (sym range)

-- the lines of the first checker of which it isn't known that it finds an image good
pub line_first : (s : Subject) (image n : ℕ) (before after : List FailingLine) → ((i : ℕ) → i < n → line_of s image i ≡ None)
    → after ≡ before ++ filter_map (line_of s image) (n ∷ []) → after ≡ before ++ filter_map (line_of s image) (range_with_len 0 (n + 1))
line_first s image n before after none e =
    line_more s image n before before after (sym (append-nil before) ∙ ap (λ (ls : List FailingLine). before ++ ls) (sym (none_below s image n none))) e

pub all_lines : (s : Subject) (image n : ℕ) (before after : List FailingLine) → n ≡ length s.checkers → after ≡ before ++ filter_map (line_of s image) (range_with_len 0 n)
    → after ≡ before ++ image_lines s image
all_lines s image n before after last e = e ∙ ap (λ (ls : List FailingLine). before ++ ls) (lines_of_image s image n last)

-- images without lines
pub no_lines : (s : Subject) (image count : ℕ) (lines : List FailingLine) → lines_from s image count ≡ [] → lines ≡ lines ++ lines_from s image count
no_lines s image count lines none = sym (append-nil lines) ∙ ap (λ (ls : List FailingLine). lines ++ ls) (sym none)

one_image : (s : Subject) (image : ℕ) → lines_from s image 1 ≡ image_lines s image
one_image s image = append-nil (image_lines s image)

pub one_more : (s : Subject) (image : ℕ) (before after : List FailingLine) → after ≡ before ++ image_lines s image → after ≡ before ++ lines_from s image 1
one_more s image before after e = e ∙ ap (λ (ls : List FailingLine). before ++ ls) (sym (one_image s image))

-- as many as there are up to another image
pub as_many : (s : Subject) (image count : ℕ) (before after : List FailingLine) → after ≡ before ++ lines_from s image count → after ≡ before ++ lines_from s image (image + count - image)
as_many s image count before after e = let n : count ≡ image + count - image = omega arith in e ∙ ap (λ k. before ++ lines_from s image k) n

-- images in a row, and those after them
pub lines_join : (s : Subject) (first image next : ℕ) (before after : List FailingLine) → first ≤ image → image ≤ next → before ≡ lines_from s first (image - first)
    → after ≡ before ++ lines_from s image (next - image) → after ≡ lines_from s first (next - first)
lines_join s first image next before after low high so e =
    let size : (image - first) + (next - image) ≡ next - first = omega (arith, low, high) in
    let place : first + (image - first) ≡ image = omega (arith, low) in
    let range : lines_from s first ((image - first) + (next - image)) ≡ lines_from s first (image - first) ++ lines_from s (first + (image - first)) (next - image) =
    ap (flat_map (image_lines s)) (range_with_len-append first (image - first) (next - image))
    ∙ flat_map-append (image_lines s) (range_with_len first (image - first)) (range_with_len (first + (image - first)) (next - image)) in
    e ∙ ap (λ (ls : List FailingLine). ls ++ lines_from s image (next - image)) so
    ∙ ap (λ k. lines_from s first (image - first) ++ lines_from s k (next - image)) (sym place)
    ∙ sym range ∙ ap (λ k. lines_from s first k) size

-- a clause of what is well leads to another
pub on_ok : {X E : Type 0} (r : Result X E) (P Q : Type 0) → (P → Q) → OnOk r P → OnOk r Q
on_ok (Ok x) P Q f h = f h
on_ok (Err e) P Q f h = h

-- and so of what is there
pub if_some : {X : Type 0} (P : X → Type 0) (o : Option X) (x : X) → o ≡ Some x → IfSome o P → P x
if_some P o x e h = subst (λ v. IfSome v P) e h

pub place_of : (plan : PlanValue) (p : PickedValue) → (choice_of_picked plan p).place ≡ p.place
unfolding choice_of
place_of plan p = refl
