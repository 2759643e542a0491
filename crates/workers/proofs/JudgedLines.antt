-- The failing lines after one more checker, image or block.
use Rattle.std.proofs.Common.{ℕ, zero, suc, ◌≡◌, ◌+◌, ◌*◌, ◌-◌, ◌<◌, ◌≤◌, inl, inr, min, Bool, true, false, IsTrue, IsFalse, List, [], ◌∷◌, ◌++◌, length, Option, None, Some, slice_get, refl, sym, ◌∙◌, ap, subst, arith, append_assoc, append-nil}
use Rattle.std.specs.List.{filter_map, flat_map, range_with_len}
use Rattle.std.proofs.lemmas.Bool.{cases_lt}
use Rattle.std.proofs.lemmas.List.Elements.{filter_map-append}
use Rattle.std.proofs.lemmas.Grind.{flat_map-append}
use Rattle.base.proofs.Lists.{range_with_len-more, range_with_len-append}
use Rattle.epochs.specs.declared.part.By.{By}
use Rattle.epochs.specs.Plan.{PlanValue}
use Rattle.choices.specs.Choices.{ChoiceValue}
use Rattle.choices.specs.Picked.{PickedValue, IsRanked}
use Rattle.checker.specs.Checker.{CheckerValue}
use Rattle.report.specs.Line.{FailingLine}
use Rattle.workers.specs.Failing.{Subject, choices_of, image_count, judged_count, ending_at, line_if, line_of, image_lines, lines_from, failing_lines, part}
use Rattle.verdict_cache.specs.Endings.{ending_on}
use Rattle.machine.specs.Outcome.{Ending}
use Rattle.workers.specs.Input.{line_list}
use Rattle.workers.specs.Pieces.{block_count}

-- the line of an image and a checker, both of the run
pub line_is : (s : Subject) (image program : ℕ) (choice : ChoiceValue) (checker : CheckerValue)
    → slice_get (choices_of s) image ≡ Some choice → slice_get s.checkers program ≡ Some checker
    → line_of s image program ≡ line_if s.plan.by image choice program (ending_at s choice checker)
unfolding line_of
line_is s image program choice checker there named = rw (there, named) refl

single : (o : Option FailingLine) → filter_map (λ (x : Option FailingLine). x) (o ∷ []) ≡ line_list o
single None = refl
single (Some l) = refl

pub line_here : (s : Subject) (image n : ℕ) (choice : ChoiceValue) (checker : CheckerValue)
    → slice_get (choices_of s) image ≡ Some choice → slice_get s.checkers n ≡ Some checker
    → filter_map (line_of s image) (n ∷ []) ≡ line_list (line_if s.plan.by image choice n (ending_at s choice checker))
line_here s image n choice checker there named =
    rw (line_is s image n choice checker there named) (single (line_if s.plan.by image choice n (ending_at s choice checker)))

pub checker_next : (s : Subject) (way : By) (image n : ℕ) (choice : ChoiceValue) (checker : CheckerValue) (first before : List FailingLine)
    → way ≡ s.plan.by → slice_get (choices_of s) image ≡ Some choice → slice_get s.checkers n ≡ Some checker
    → before ≡ first ++ filter_map (line_of s image) (range_with_len 0 n)
    → before ++ line_list (line_if way image choice n (ending_at s choice checker)) ≡ first ++ filter_map (line_of s image) (range_with_len 0 (n + 1))
checker_next s way image n choice checker first before same there named so =
    let e : 0 + n ≡ n = omega arith in
    rw (same, range_with_len-more 0 n, e, filter_map-append (line_of s image) (range_with_len 0 n) (n ∷ []), line_here s image n choice checker there named, so, append_assoc) refl

-- what the cache tells of an image of the run is what the checker ends in there
pub same_ending : (s : Subject) (plan : PlanValue) (choice : ChoiceValue) (checker : CheckerValue) → plan ≡ s.plan → ending_on plan choice checker ≡ ending_at s choice checker
unfolding ending_at
same_ending s plan choice checker e = rw e refl

-- the line of one more checker, with its ending as it was found
pub checker_found : (s : Subject) (way : By) (image n : ℕ) (choice : ChoiceValue) (checker : CheckerValue) (ending : Ending) (first before after : List FailingLine)
    → way ≡ s.plan.by → slice_get (choices_of s) image ≡ Some choice → slice_get s.checkers n ≡ Some checker → ending ≡ ending_at s choice checker
    → before ≡ first ++ filter_map (line_of s image) (range_with_len 0 n) → after ≡ before ++ line_list (line_if way image choice n ending)
    → after ≡ first ++ filter_map (line_of s image) (range_with_len 0 (n + 1))
checker_found s way image n choice checker ending first before after same there named found so e =
    e ∙ ap (λ (end : Ending). before ++ line_list (line_if way image choice n end)) found ∙ checker_next s way image n choice checker first before same there named so

-- no image yet
pub none_yet : (s : Subject) (a : ℕ) (lines : List FailingLine) → lines ≡ lines ++ lines_from s a (a - a)
none_yet s a lines = let z : a - a ≡ 0 = omega arith in rw z (sym (append-nil lines))

-- the lines of one more image
pub image_next : (s : Subject) (a i : ℕ) (first before : List FailingLine) → a ≤ i
    → before ≡ first ++ lines_from s a (i - a)
    → before ++ image_lines s i ≡ first ++ lines_from s a (i + 1 - a)
image_next s a i first before le so =
    let e : i + 1 - a ≡ (i - a) + 1 = omega arith in
    let f : a + (i - a) ≡ i = omega arith in
    rw (e, range_with_len-more a (i - a), f, flat_map-append (image_lines s) (range_with_len a (i - a)) (i ∷ []), so, append_assoc, append-nil) refl

block_after : (s : Subject) (n : ℕ) → lines_from s s.from (min (64 * n) (judged_count s)) ++ part s n ≡ lines_from s s.from (min (64 * (n + 1)) (judged_count s))
unfolding part
block_after s n = elim (cases_lt (judged_count s) (64 * n)) [
  | inl less ↦
      let none : min 64 (judged_count s - 64 * n) ≡ 0 = omega (arith, less) in
      let same : min (64 * n) (judged_count s) ≡ min (64 * (n + 1)) (judged_count s) = omega (arith, less) in
      rw (none, same) (append-nil (lines_from s s.from (min (64 * (n + 1)) (judged_count s))))
  | inr more ↦
      let e : min (64 * n) (judged_count s) ≡ 64 * n = omega (arith, more) in
      let f : min (64 * (n + 1)) (judged_count s) ≡ 64 * n + min 64 (judged_count s - 64 * n) = omega (arith, more) in
      rw (e, f, range_with_len-append s.from (64 * n) (min 64 (judged_count s - 64 * n)), flat_map-append (image_lines s) (range_with_len s.from (64 * n)) (range_with_len (s.from + 64 * n) (min 64 (judged_count s - 64 * n)))) refl
]

part_more : (s : Subject) (n : ℕ) → flat_map (part s) (range_with_len 0 (n + 1)) ≡ flat_map (part s) (range_with_len 0 n) ++ part s n
part_more s n =
    let z : 0 + n ≡ n = omega arith in
    rw (range_with_len-more 0 n, z, flat_map-append (part s) (range_with_len 0 n) (n ∷ []), append-nil (part s n)) refl

-- the parts of some blocks are the lines of their images
parts : (s : Subject) (n : ℕ) → flat_map (part s) (range_with_len 0 n) ≡ lines_from s s.from (min (64 * n) (judged_count s))
parts s zero = let e : min (64 * 0) (judged_count s) ≡ 0 = omega arith in rw e refl
parts s (suc n) =
    let e : n + 1 ≡ suc n = omega arith in
    subst (λ k. flat_map (part s) (range_with_len 0 k) ≡ lines_from s s.from (min (64 * k) (judged_count s))) e
    (part_more s n ∙ ap (λ (ls : List FailingLine). ls ++ part s n) (parts s n) ∙ block_after s n)

-- the parts of all blocks are the failing lines
pub all_parts : (s : Subject) → flat_map (part s) (range_with_len 0 (block_count s)) ≡ failing_lines s
unfolding failing_lines
all_parts s =
    let e : min (64 * block_count s) (judged_count s) ≡ judged_count s = omega arith in
    parts s (block_count s) ∙ ap (λ n. lines_from s s.from n) e

-- the choice that follows that of image i, where one does
pub choice_next : (s : Subject) (moved : Bool) (old new : ChoiceValue) (i : ℕ)
    → (IsTrue moved → (n : ℕ) → slice_get (choices_of s) n ≡ Some old → slice_get (choices_of s) (n + 1) ≡ Some new)
    → (IsFalse moved → (n : ℕ) → slice_get (choices_of s) n ≡ Some old → n + 1 ≡ image_count s)
    → slice_get (choices_of s) i ≡ Some old → i + 1 < image_count s → slice_get (choices_of s) (i + 1) ≡ Some new
choice_next s true old new i f g here lt = f refl i here
choice_next s false old new i f g here lt = let last = g refl i here in absurd (omega (arith, last, lt))

-- and by its picks
pub picked_next : (s : Subject) (moved : Bool) (old new : PickedValue) (i : ℕ)
    → (IsTrue moved → (n : ℕ) → IsRanked s.plan s.bound s.tears n old → IsRanked s.plan s.bound s.tears (n + 1) new)
    → (IsFalse moved → (n : ℕ) → IsRanked s.plan s.bound s.tears n old → n + 1 ≡ image_count s)
    → IsRanked s.plan s.bound s.tears i old → i + 1 < image_count s → IsRanked s.plan s.bound s.tears (i + 1) new
picked_next s true old new i f g here lt = f refl i here
picked_next s false old new i f g here lt = let last = g refl i here in absurd (omega (arith, last, lt))

-- the lines of an image after its last checker
pub lines_of_image : (s : Subject) (image n : ℕ) → n ≡ length s.checkers → filter_map (line_of s image) (range_with_len 0 n) ≡ image_lines s image
unfolding image_lines
lines_of_image s image n e = rw e refl
