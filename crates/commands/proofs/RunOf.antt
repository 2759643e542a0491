-- A run as a value, of which the texts of its parts are.
use Rattle.std.proofs.Common.{ℕ, zero, suc, ◌≡◌, ◌+◌, ◌-◌, ◌*◌, ◌<◌, ◌≤◌, ◌^◌, ◌%◌, ◌==◌, ◌&&◌, nat_le, nat_lt, Bool, true, false, if◌then◌else◌, inl, inr, List, [], ◌∷◌, ◌++◌, length, map, filter, get_or, append-nil, slice_get, All, Option, None, Some, is_some, unwrap_or, refl, sym, ◌∙◌, ap, subst, arith}
use Rattle.std.specs.Option.{option_map_or}
use Rattle.std.specs.List.{flat_map, fold, range_with_len}
use Rattle.std.proofs.lemmas.Bool.Decides.{nat_tests}
use Rattle.std.proofs.lemmas.Option.{slice_get_within}
use Rattle.std.proofs.Math.Nat.{mod-lt}
use Rattle.base.specs.Check.{Check, check, first_failing}
use Rattle.base.specs.Sizes.{most_sectors, sector_limit}
use Rattle.logfmt.specs.declared.entry.Entry.{Entry}
use Rattle.logfmt.specs.Bounds.{LogValue}
use Rattle.logfmt.specs.Flushed.{is_place}
use Rattle.logfmt.proofs.Flushed.{length-flushed}
use Rattle.epochs.specs.declared.cuts.Cuts.{Cuts}
use Rattle.epochs.specs.Cuts.{is_after_first, is_before_last}
use Rattle.epochs.specs.declared.cuts.CutKind.{CutKind}
use Rattle.epochs.specs.declared.cuts.CutKind.TheVariants as kind
use Rattle.epochs.specs.Flushes.{places_of}
use Rattle.epochs.specs.Laws.{IsOfKind}
use Rattle.choices.specs.Choices.{ChoiceValue}
use Rattle.choices.proofs.CrashModel.{ranked_is_model}
use Rattle.bpf_isa.specs.Program.{IsProgram}
use Rattle.helpers.specs.declared.device.Context.{Context}
use Rattle.machine.specs.Outcome.{Ending, outcome}
use Rattle.machine.specs.Guards.{guarded_outcome}
use Rattle.verifier.specs.Guards.{is_guarded_at, guarded_slots}
use Rattle.verifier.specs.Verdicts.{VerifiedValue}
use Rattle.std.proofs.lemmas.List.FromFn.{length-range_with_len}
use Rattle.soundness.specs.Accepted.{IsImage}
use Rattle.lanes.specs.Sector.{horner}
use Rattle.images.specs.Number.{initial_mix, initial_number}
use Rattle.images.specs.Views.{view_of, sectors_of, context_at}
use Rattle.checker.specs.Checker.{CheckerValue, judgement}
use Rattle.checker.proofs.Counted.{few_guarded}
use Rattle.report.specs.declared.lines.marks.LineMark.{LineMark}
use Rattle.report.specs.Line.{FailingLine}
use Rattle.report.specs.Marks.{mark_of, marks_of}
use Rattle.report.specs.declared.head.ProgramHead.{ProgramHead}
use Rattle.report.specs.Report.{HeadValue}
use Rattle.join.specs.Printable.{IsWithin, IsPrintable, ArePrintable, IsLineOfRun, AreLinesOfRun}
use Rattle.join.specs.Order.{follows, in_order}
use Rattle.join.specs.Heads.{IsSmallOption, IsFewOption, IsProgramHead, IsPrintedHead, are_guards_of_run, is_program_of_run, are_programs_of_run, are_entries_of_run, are_cuts_of_run}
use Rattle.join.specs.Text.{RunValue}
use Rattle.join.specs.Laws.{IsRun}
use Rattle.join.proofs.Order.{next_back}
use Rattle.workers.specs.Failing.{Subject, ending_at, line_of, image_lines, failing_lines}
use Rattle.workers.specs.Laws.{IsFailing, Precedes}
use Rattle.workers.proofs.Sets.{listed}
use Rattle.workers.proofs.Safe.{is_image}
use Rattle.request.specs.declared.extent.Extent.{Extent}
use Rattle.request.specs.declared.extent.Extent.TheVariants as extent
use Rattle.request.specs.declared.settings.OptionPlace.{OptionPlace}
use Rattle.request.specs.declared.settings.OptionPlace.TheVariants as place
use Rattle.request.specs.declared.settings.Settings.{Settings}
use Rattle.request.specs.Extents.{most_images, is_extent}
use Rattle.request.specs.Settings.{is_one_kind, is_ordered, option_checks, IsAsked}
use Rattle.request.specs.Source.{Recording, plan_of, images_of, cut_past, lacking, HasImages}
use Rattle.request.proofs.Logs.{bounds_of}
use Rattle.inspect.proofs.Printed.{names_are}
use Rattle.request.specs.Inputs.{with_byte, file_bytes, inputs_number}
use Rattle.runs.specs.Programs.{IsRunWithin}
use Rattle.runs.specs.Explore.{IsProgramCount, AreCheckersOf, subject_of, program_head, head_of}
use Rattle.commands.proofs.HeadLines.{head_stands}
use Rattle.commands.proofs.LinesOfRun.{both, names_of_run, from_first, to_last}
use Rattle.commands.proofs.Ending.{ends_are_words, guarded_ends_are_words}

-- the run of a log and of checkers
abbrev pub run_of : Settings → LogValue → List CheckerValue → ℕ → RunValue
run_of s value checkers inputs = record { head = head_of s value checkers; inputs = inputs; image_lines = image_lines (subject_of s value checkers) }

-- a run whose options pass their checks
pub record IsGiven (text : Recording) (files : List (List ℕ)) (s : Settings) (value : LogValue) (checkers : List CheckerValue) : Type 0 where
  pub asked : IsAsked s
  pub count : IsProgramCount (length files)
  pub source : HasImages text s value
  pub made : AreCheckersOf s files checkers

-- the lines of one image

abbrev at_image : Subject → ℕ → Subject
at_image s image = record { plan = s.plan; checkers = s.checkers; bound = s.bound; tears = s.tears; from = image; to = image + 1; first = s.first }

lines_at : (s : Subject) (image : ℕ) → failing_lines (at_image s image) ≡ image_lines s image
unfolding failing_lines image_lines line_of ending_at
lines_at s image =
    let one : image + 1 - image ≡ 1 = omega arith in
    ap (λ (n : ℕ). flat_map (image_lines (at_image s image)) (range_with_len image n)) one ∙ append-nil (image_lines s image)

pub line_there : (s : Subject) (image i : ℕ) (l : FailingLine) → slice_get (image_lines s image) i ≡ Some l → IsFailing (at_image s image) l
line_there s image i l there = (listed (at_image s image)).sound i l (ap (λ (ls : List FailingLine). slice_get ls i) (lines_at s image) ∙ there)

-- their order

abbrev ArePreceding : List FailingLine → Type 0
ArePreceding ls = (i j : ℕ) (a b : FailingLine) → i < j → slice_get ls i ≡ Some a → slice_get ls j ≡ Some b → Precedes a b

lines_precede : (s : Subject) (image : ℕ) → ArePreceding (image_lines s image)
lines_precede s image i j a b less at also =
    (listed (at_image s image)).ordered i j a b less (ap (λ (ls : List FailingLine). slice_get ls i) (lines_at s image) ∙ at) (ap (λ (ls : List FailingLine). slice_get ls j) (lines_at s image) ∙ also)

after_one : (a b : FailingLine) → Precedes a b → follows (Some (mark_of a)) (mark_of b) ≡ true
after_one a b (inl less) = let one : nat_lt a.image b.image ≡ true = grind (arith, nat_tests, less) in rw one refl
after_one a b (inr (same, less)) =
    let image : (a.image == b.image) ≡ true = grind (arith, nat_tests, same) in
    let program : nat_lt a.program b.program ≡ true = grind (arith, nat_tests, less) in
    let none : nat_lt a.image b.image ≡ false = grind (arith, nat_tests, same) in
    rw (none, image, program) refl

-- where a line stands, after one
record StandsIn (from to : ℕ) (last : Option LineMark) (l : FailingLine) : Type 0 where
  low : from ≤ l.image
  high : l.image < to
  beyond : follows last (mark_of l) ≡ true

in_order_of : (from to : ℕ) (last : Option LineMark) (ls : List FailingLine) → ((i : ℕ) (l : FailingLine) → slice_get ls i ≡ Some l → StandsIn from to last l) → ArePreceding ls
    → in_order from to last (marks_of ls) ≡ true
in_order_of from to last [] each precede = refl
in_order_of from to last (l ∷ ls) each precede =
    let here = each 0 l refl in
    next_back from to last (mark_of l) (marks_of ls) here.low here.high here.beyond
    (in_order_of from to (Some (mark_of l)) ls
    (λ i k there. let own = each (suc i) k there in record { low = own.low; high = own.high; beyond = after_one l k (precede 0 (suc i) l k (omega arith) refl there) })
    (λ i j a b less at also. precede (suc i) (suc j) a b (omega (arith, less)) at also))

image_in_order : (s : Subject) (image : ℕ) → in_order image (image + 1) None (marks_of (image_lines s image)) ≡ true
image_in_order s image =
    in_order_of image (image + 1) None (image_lines s image)
    (λ i l there. let is = line_there s image i l there in record { low = is.low; high = is.high; beyond = refl })
    (lines_precede s image)

-- what is known of the checkers

pub made_long : (s : Settings) (files : List (List ℕ)) (checkers : List CheckerValue) → AreCheckersOf s files checkers → length checkers ≡ length files
made_long s [] [] made = refl
made_long s [] (c ∷ checkers) made = absurd made
made_long s (bytes ∷ files) [] made = absurd made
made_long s (bytes ∷ files) (c ∷ checkers) made = let rest = made_long s files checkers made.1 in omega (arith, rest)

pub record IsMade (s : Settings) (c : CheckerValue) : Type 0 where
  pub program : IsProgram c.program
  pub within : IsRunWithin s.checked s.guards s.sectors c

pub made_there : (s : Settings) (files : List (List ℕ)) (checkers : List CheckerValue) (n : ℕ) (c : CheckerValue) → AreCheckersOf s files checkers → slice_get checkers n ≡ Some c → IsMade s c
made_there s [] [] n c made there = absurd (let bad : None ≡ Some c = there in cc)
made_there s [] (d ∷ checkers) n c made there = absurd made
made_there s (bytes ∷ files) [] n c made there = absurd made
made_there s (bytes ∷ files) (d ∷ checkers) zero c made there =
    let both : Some d ≡ Some c = there in
    let same : d ≡ c = cc in
    subst (λ (x : CheckerValue). IsMade s x) same (record { program = made.0.spelled.program; within = made.0.within })
made_there s (bytes ∷ files) (d ∷ checkers) (suc n) c made there = made_there s files checkers n c made.1 there

-- a limit that is asked for has passed its check
fifth : (a b c d e : Bool) (rest : List (Check OptionPlace))
    → first_failing (check place.Sectors a ∷ check place.Bound b ∷ check place.Workers c ∷ check place.Cache d ∷ check place.Checked e ∷ rest) ≡ None → e ≡ true
fifth true true true true true rest passed = refl
fifth true true true true false rest passed = absurd (let bad : Some place.Checked ≡ None = passed in cc)
fifth true true true false e rest passed = absurd (let bad : Some place.Cache ≡ None = passed in cc)
fifth true true false d e rest passed = absurd (let bad : Some place.Workers ≡ None = passed in cc)
fifth true false c d e rest passed = absurd (let bad : Some place.Bound ≡ None = passed in cc)
fifth false b c d e rest passed = absurd (let bad : Some place.Sectors ≡ None = passed in cc)

limit_passed : (s : Settings) → IsAsked s → option_map_or (λ limit. nat_le limit 1000000000) s.checked true ≡ true
unfolding option_checks
limit_passed s asked =
    fifth (nat_le 1 s.sectors && nat_le s.sectors (sector_limit s.limits)) (nat_le s.bound 3) (nat_le 1 s.workers && nat_le s.workers 64) (nat_le s.cache 65536)
    (option_map_or (λ limit. nat_le limit 1000000000) s.checked true)
    (check place.Range (is_ordered s.cuts) ∷ check place.Images (is_extent s.extent) ∷ check place.Guards (is_one_kind s.guards s.checked) ∷ []) asked.passed

limit_few : (checked : Option ℕ) (guards : Bool) (sectors : ℕ) (c : CheckerValue) → option_map_or (λ limit. nat_le limit 1000000000) checked true ≡ true
    → IsRunWithin checked guards sectors c → c.limit ≤ 1000000000
limit_few (Some limit) guards sectors c passed within =
    let test : nat_le limit 1000000000 ≡ true = passed in
    let few : limit ≤ 1000000000 = grind (arith, nat_tests, test) in
    let same : c.limit ≡ limit = within.limit in
    omega (arith, few, same)
limit_few None guards sectors c passed within =
    let most : within.verified.budget ≤ 1000000000 = within.is.limit in
    let same : c.limit ≡ within.verified.budget = ap (λ (x : CheckerValue). x.limit) within.made in
    omega (arith, most, same)

limit_small : (checked : Option ℕ) (guards : Bool) (sectors : ℕ) (c : CheckerValue) → option_map_or (λ limit. nat_le limit 1000000000) checked true ≡ true
    → IsRunWithin checked guards sectors c → c.limit < 2 ^ 64
limit_small checked guards sectors c passed within = let few = limit_few checked guards sectors c passed within in omega (arith, few)

-- no more slots are guarded than a program has
few_of : (p : ℕ → Bool) (xs : List ℕ) → length (filter p xs) ≤ length xs
few_of p [] = omega arith
few_of p (x ∷ xs) = by (p x) (few_of p xs)
  where
    by : (b : Bool) → length (filter p xs) ≤ length xs → length (if b then x ∷ filter p xs else filter p xs) ≤ suc (length xs)
    by true rest = omega (arith, rest)
    by false rest = omega (arith, rest)

guarded_few : (v : VerifiedValue) → length (guarded_slots v.program v.table) ≤ length v.program
unfolding guarded_slots
guarded_few v =
    let few = few_of (is_guarded_at v.program v.table) (range_with_len 0 (length v.program)) in
    let long = length-range_with_len 0 (length v.program) in
    omega (arith, few, long)

guards_of_run : (checked : Option ℕ) (guards : Bool) (sectors : ℕ) (c : CheckerValue) → IsRunWithin checked guards sectors c → are_guards_of_run (program_head c) ≡ true
guards_of_run (Some limit) guards sectors c within = let none = within.guards in rw none refl
guards_of_run None guards sectors c within = subst (λ (x : CheckerValue). are_guards_of_run (program_head x) ≡ true) (sym within.made) (by within.verified.guards)
  where
    by : (b : Bool) → option_map_or (λ n. nat_le n (length within.verified.program) && true) (if b then Some (length (guarded_slots within.verified.program within.verified.table)) else None) true ≡ true
    by true =
        let few = guarded_few within.verified in
        let test : nat_le (length (guarded_slots within.verified.program within.verified.table)) (length within.verified.program) ≡ true = grind (arith, nat_tests, few) in
        rw test refl
    by false = refl

guards_small : (checked : Option ℕ) (guards : Bool) (sectors : ℕ) (c : CheckerValue) → IsRunWithin checked guards sectors c → IsFewOption c.guards
guards_small (Some limit) guards sectors c within = subst (λ (o : Option ℕ). IsFewOption o) (sym within.guards) tt
guards_small None guards sectors c within = subst (λ (x : CheckerValue). IsFewOption x.guards) (sym within.made) (by within.verified.guards)
  where
    by : (b : Bool) → IsFewOption (if b then Some (length (guarded_slots within.verified.program within.verified.table)) else None)
    by true = let few = few_guarded within.verified within.is in omega (arith, few)
    by false = tt

-- a failing line can be printed

ending_within : (text : Recording) (files : List (List ℕ)) (s : Settings) (value : LogValue) (checkers : List CheckerValue) (choice : ChoiceValue) (n : ℕ) (c : CheckerValue)
    → IsGiven text files s value checkers → slice_get checkers n ≡ Some c → IsWithin (ending_at (subject_of s value checkers) choice c)
unfolding ending_at judgement
ending_within text files s value checkers choice n c given there = by (is_some c.guards)
  where
    device : List (List ℕ)
    device = sectors_of (view_of (plan_of s value) choice)

    context : Context
    context = context_at value choice.cut

    program : IsProgram c.program
    program = (made_there s files checkers n c given.made there).program

    image : IsImage value.sectors device context
    image = is_image (view_of (plan_of s value) choice) (bounds_of text s value given.source.reads)

    few : value.sectors < 2 ^ 32
    few = let size = (bounds_of text s value given.source.reads).device in omega (arith, size)

    by : (guards : Bool) → IsWithin (if guards then guarded_outcome c.program device context c.limit else outcome c.program device context c.limit)
    by true = guarded_ends_are_words c.program value.sectors device context c.limit program few image
    by false = ends_are_words c.program value.sectors device context c.limit program few image

cut_within : (k : CutKind) (es : List Entry) (cut : ℕ) → IsOfKind k es cut → cut ≤ length es
cut_within kind.All es cut is = is
cut_within kind.BeforeFlush es cut (inl end) = omega (arith, end)
cut_within kind.BeforeFlush es cut (inr flush) = let there = slice_get_within es cut flush.0 flush.1 in omega (arith, there)
cut_within kind.AfterMark es cut mark = let there = slice_get_within es mark.0 mark.1 mark.3 in let next = mark.2 in omega (arith, there, next)

few_images : (e : Extent) (n : ℕ) → n ≤ most_images e → n < 2 ^ 63
few_images extent.Whole n few = let most : n ≤ 16777216 = few in omega (arith, most)
few_images extent.Wide n few = let most : n ≤ 9223372036854775807 = few in omega (arith, most)
few_images (extent.Part from to) n few = let most : n ≤ 9223372036854775807 = few in omega (arith, most)

same_ending : (s : Settings) (value : LogValue) (checkers : List CheckerValue) (image : ℕ) (choice : ChoiceValue) (c : CheckerValue)
    → ending_at (at_image (subject_of s value checkers) image) choice c ≡ ending_at (subject_of s value checkers) choice c
unfolding ending_at
same_ending s value checkers image choice c = refl

line_printable : (text : Recording) (files : List (List ℕ)) (s : Settings) (value : LogValue) (checkers : List CheckerValue) (image : ℕ) (l : FailingLine)
    → IsGiven text files s value checkers → IsFailing (at_image (subject_of s value checkers) image) l → IsPrintable l
line_printable text files s value checkers image l given is =
    let bounds = bounds_of text s value given.source.reads in
    let images = few_images s.extent (length (images_of s value)) given.source.few in
    let number = slice_get_within (images_of s value) l.image is.choice is.of_image in
    let wanted = (ranked_is_model (plan_of s value) s.bound s.tears).wanted l.image is.choice is.of_image in
    let cut = cut_within s.cuts.kind value.entries is.choice.cut wanted.of_kind in
    let entries = bounds.count in
    let same = is.cut in
    let program = slice_get_within checkers l.program is.checker is.of_program in
    let long = made_long s files checkers given.made in
    let few = given.count.few in
    let ending = ending_within text files s value checkers is.choice l.program is.checker given is.of_program in
    let names = names_are (plan_of s value) s.bound s.tears l.image is.choice bounds given.asked.bound is.of_image in
    let way : l.by ≡ s.by = is.by_is in
    let departures : l.departures ≡ is.choice.departures = is.departures in
    record {
      image = omega (arith, images, number);
      cut = omega (arith, cut, entries, same);
      program = omega (arith, program, long, few);
      ending = subst (λ (e : Ending). IsWithin e) (sym (is.ends ∙ same_ending s value checkers image is.choice is.checker)) ending;
      names = rw (way, departures) names;
    }

pub heads_long : (checkers : List CheckerValue) → length (map program_head checkers) ≡ length checkers
heads_long [] = refl
heads_long (c ∷ checkers) = let rest = heads_long checkers in omega (arith, rest)

-- and it is one of a run with its head
line_of_run : (text : Recording) (files : List (List ℕ)) (s : Settings) (value : LogValue) (checkers : List CheckerValue) (image : ℕ) (l : FailingLine)
    → IsGiven text files s value checkers → IsFailing (at_image (subject_of s value checkers) image) l → IsLineOfRun (head_of s value checkers) l
unfolding head_of
line_of_run text files s value checkers image l given is =
    let model = ranked_is_model (plan_of s value) s.bound s.tears in
    let wanted = model.wanted l.image is.choice is.of_image in
    let admissible = model.sound l.image is.choice is.of_image in
    let cut = cut_within s.cuts.kind value.entries is.choice.cut wanted.of_kind in
    let same = is.cut in
    let program = slice_get_within checkers l.program is.checker is.of_program in
    let heads = heads_long checkers in
    let departures : l.departures ≡ is.choice.departures = is.departures in
    let named : nat_lt l.program (length (map program_head checkers)) ≡ true = grind (arith, nat_tests, program, heads) in
    let within : nat_le l.cut (length value.entries) ≡ true = grind (arith, nat_tests, cut, same) in
    let first : is_after_first s.cuts.from l.cut ≡ true = rw same (from_first s.cuts.from is.choice.cut wanted.beyond) in
    let last : is_before_last s.cuts.to l.cut ≡ true = rw same (to_last s.cuts.to is.choice.cut wanted.before) in
    record {
      there = rw (named, within, first, last) refl;
      failing = is.fails;
      way = is.by_is;
      names = rw (same, departures) (names_of_run s.by value.entries is.choice.cut s.bound s.tears is.choice.departures admissible);
    }

all_of_run : (h : HeadValue) (ls : List FailingLine) → ((i : ℕ) (l : FailingLine) → slice_get ls i ≡ Some l → IsLineOfRun h l) → AreLinesOfRun h ls
all_of_run h [] each = tt
all_of_run h (l ∷ ls) each = (each 0 l refl, all_of_run h ls (λ i k there. each (suc i) k there))

all_printable : (ls : List FailingLine) → ((i : ℕ) (l : FailingLine) → slice_get ls i ≡ Some l → IsPrintable l) → ArePrintable ls
all_printable [] each = tt
all_printable (l ∷ ls) each = (each 0 l refl, all_printable ls (λ i k there. each (suc i) k there))

-- the numbers of the head

either_none : (xs ys : List ℕ) → xs ++ ys ≡ [] → (xs ≡ []) × (ys ≡ [])
either_none [] ys none = (refl, none)
either_none (x ∷ xs) ys none = absurd (let bad : x ∷ (xs ++ ys) ≡ [] = none in cc)

places_small : (n : ℕ) (es : List ℕ) → n ≤ 65536 → filter (λ entry. nat_le n entry) es ≡ [] → All (λ (entry : ℕ). entry < 2 ^ 32) es
places_small n [] few none = λ k d small. absurd (omega (arith, small))
places_small n (e ∷ es) few none = by_test (nat_le n e) refl none (places_small n es few)
  where
    all : e < 2 ^ 32 → All (λ (entry : ℕ). entry < 2 ^ 32) es → (k d : ℕ) → k < length (e ∷ es) → get_or (e ∷ es) k d < 2 ^ 32
    all own rest zero d small = own
    all own rest (suc k) d small = rest k d (omega (arith, small))

    by_test : (b : Bool) → nat_le n e ≡ b → (if b then e ∷ filter (λ entry. nat_le n entry) es else filter (λ entry. nat_le n entry) es) ≡ []
        → (filter (λ entry. nat_le n entry) es ≡ [] → All (λ (entry : ℕ). entry < 2 ^ 32) es) → All (λ (entry : ℕ). entry < 2 ^ 32) (e ∷ es)
    by_test true past none rest = absurd (let bad : e ∷ filter (λ entry. nat_le n entry) es ≡ [] = none in cc)
    by_test false before none rest = let less : e < n = grind (arith, nat_tests, before) in all (omega (arith, less, few)) (rest none)

cut_small : (n : ℕ) (o : Option ℕ) → n ≤ 65536 → cut_past n o ≡ [] → IsSmallOption o
cut_small n None few none = tt
cut_small n (Some cut) few none = by_test (nat_lt n cut) refl none
  where
    by_test : (b : Bool) → nat_lt n cut ≡ b → (if b then cut ∷ [] else []) ≡ [] → cut < 2 ^ 64
    by_test true past none = absurd (let bad : cut ∷ [] ≡ [] = none in cc)
    by_test false within none = let low : cut ≤ n = grind (arith, nat_tests, within) in omega (arith, low, few)

initial_small : (value : LogValue) → IsSmallOption (initial_number value)
unfolding initial_number
initial_small value = by_test (length value.initial == 0) (horner (initial_mix value) value.sectors)
  where
    by_test : (b : Bool) (x : ℕ) → IsSmallOption (if b then None else Some (x % 2 ^ 64))
    by_test true x = tt
    by_test false x = mod-lt x (omega arith)

programs_small : (s : Settings) (files : List (List ℕ)) (checkers : List CheckerValue) → IsAsked s → AreCheckersOf s files checkers → All IsProgramHead (map program_head checkers)
programs_small s [] [] asked made = λ k d small. absurd (omega (arith, small))
programs_small s [] (c ∷ checkers) asked made = absurd made
programs_small s (bytes ∷ files) [] asked made = absurd made
programs_small s (bytes ∷ files) (c ∷ checkers) asked made = all (programs_small s files checkers asked made.1)
  where
    all : All IsProgramHead (map program_head checkers) → (k : ℕ) (d : ProgramHead) → k < length (program_head c ∷ map program_head checkers) → IsProgramHead (get_or (program_head c ∷ map program_head checkers) k d)
    all rest zero d small =
        let slots = made.0.spelled.program.count.limit in
        record { slots = omega (arith, slots); limit = limit_small s.checked s.guards s.sectors c (limit_passed s asked) made.0.within; guards = guards_small s.checked s.guards s.sectors c made.0.within }
    all rest (suc k) d small = rest k d (omega (arith, small))

-- and they are as a run has them
programs_of_run : (s : Settings) (files : List (List ℕ)) (checkers : List CheckerValue) → IsAsked s → AreCheckersOf s files checkers → are_programs_of_run (map program_head checkers) ≡ true
programs_of_run s [] [] asked made = refl
programs_of_run s [] (c ∷ checkers) asked made = absurd made
programs_of_run s (bytes ∷ files) [] asked made = absurd made
programs_of_run s (bytes ∷ files) (c ∷ checkers) asked made =
    let count = made.0.spelled.program.count in
    let some = count.some in
    let few = count.limit in
    let steps = limit_few s.checked s.guards s.sectors c (limit_passed s asked) made.0.within in
    let one : nat_le 1 (length c.program) ≡ true = grind (arith, nat_tests, some) in
    let two : nat_le (length c.program) 4096 ≡ true = grind (arith, nat_tests, few) in
    let three : nat_le c.limit 1000000000 ≡ true = grind (arith, nat_tests, steps) in
    let guards = guards_of_run s.checked s.guards s.sectors c made.0.within in
    both (is_program_of_run (program_head c)) (are_programs_of_run (map program_head checkers)) (rw (one, two, three, guards) refl) (programs_of_run s files checkers asked made.1)

-- what is named of the cuts is in the log
entries_of_run : (n : ℕ) (es : List ℕ) → filter (λ entry. nat_le n entry) es ≡ [] → are_entries_of_run n es ≡ true
entries_of_run n [] none = refl
entries_of_run n (e ∷ es) none = by_test (nat_le n e) refl none (entries_of_run n es)
  where
    by_test : (b : Bool) → nat_le n e ≡ b → (if b then e ∷ filter (λ entry. nat_le n entry) es else filter (λ entry. nat_le n entry) es) ≡ []
        → (filter (λ entry. nat_le n entry) es ≡ [] → are_entries_of_run n es ≡ true) → are_entries_of_run n (e ∷ es) ≡ true
    by_test true past none rest = absurd (let bad : e ∷ filter (λ entry. nat_le n entry) es ≡ [] = none in cc)
    by_test false before none rest = let less : nat_lt e n ≡ true = grind (arith, nat_tests, before) in both (nat_lt e n) (are_entries_of_run n es) less (rest none)

cut_there : (n : ℕ) (o : Option ℕ) → cut_past n o ≡ [] → unwrap_or o 0 ≤ n
cut_there n None none = omega arith
cut_there n (Some cut) none = by_test (nat_lt n cut) refl none
  where
    by_test : (b : Bool) → nat_lt n cut ≡ b → (if b then cut ∷ [] else []) ≡ [] → cut ≤ n
    by_test true past none = absurd (let bad : cut ∷ [] ≡ [] = none in cc)
    by_test false within none = let low : cut ≤ n = grind (arith, nat_tests, within) in low

last_there : (last : Option ℕ) → is_before_last last 0 ≡ true
last_there None = refl
last_there (Some n) = let low : 0 ≤ n = omega arith in let test : nat_le 0 n ≡ true = grind (arith, nat_tests, low) in test

in_order_cuts : (cuts : Cuts) → is_ordered cuts ≡ true → is_before_last cuts.to (unwrap_or cuts.from 0) ≡ true
in_order_cuts cuts ordered = by_first cuts.from refl ordered
  where
    by_first : (o : Option ℕ) → cuts.from ≡ o → option_map_or (λ first. is_before_last cuts.to first) o true ≡ true → is_before_last cuts.to (unwrap_or cuts.from 0) ≡ true
    by_first None is passed = rw is (last_there cuts.to)
    by_first (Some n) is passed = rw is passed

sixth : (a b c d e f : Bool) (rest : List (Check OptionPlace))
    → first_failing (check place.Sectors a ∷ check place.Bound b ∷ check place.Workers c ∷ check place.Cache d ∷ check place.Checked e ∷ check place.Range f ∷ rest) ≡ None → f ≡ true
sixth true true true true true true rest passed = refl
sixth true true true true true false rest passed = absurd (let bad : Some place.Range ≡ None = passed in cc)
sixth true true true true false f rest passed = absurd (let bad : Some place.Checked ≡ None = passed in cc)
sixth true true true false e f rest passed = absurd (let bad : Some place.Cache ≡ None = passed in cc)
sixth true true false d e f rest passed = absurd (let bad : Some place.Workers ≡ None = passed in cc)
sixth true false c d e f rest passed = absurd (let bad : Some place.Bound ≡ None = passed in cc)
sixth false b c d e f rest passed = absurd (let bad : Some place.Sectors ≡ None = passed in cc)

range_passed : (s : Settings) → IsAsked s → is_ordered s.cuts ≡ true
unfolding option_checks
range_passed s asked =
    sixth (nat_le 1 s.sectors && nat_le s.sectors (sector_limit s.limits)) (nat_le s.bound 3) (nat_le 1 s.workers && nat_le s.workers 64) (nat_le s.cache 65536)
    (option_map_or (λ limit. nat_le limit 1000000000) s.checked true) (is_ordered s.cuts)
    (check place.Images (is_extent s.extent) ∷ check place.Guards (is_one_kind s.guards s.checked) ∷ []) asked.passed

-- so what is asked of the cuts is as a run has it
cuts_of_run : (n : ℕ) (cuts : Cuts) → lacking cuts n ≡ [] → is_ordered cuts ≡ true → are_cuts_of_run n cuts ≡ true
unfolding lacking
cuts_of_run n cuts has ordered =
    let parts = either_none (filter (λ entry. nat_le n entry) (places_of cuts.flushes)) (cut_past n cuts.from ++ cut_past n cuts.to) has in
    let named = either_none (cut_past n cuts.from) (cut_past n cuts.to) parts.1 in
    let entries = entries_of_run n (places_of cuts.flushes) parts.0 in
    let low = cut_there n cuts.from named.0 in
    let high = cut_there n cuts.to named.1 in
    let first : nat_le (unwrap_or cuts.from 0) n ≡ true = grind (arith, nat_tests, low) in
    let last : nat_le (unwrap_or cuts.to 0) n ≡ true = grind (arith, nat_tests, high) in
    let range = in_order_cuts cuts ordered in
    rw (entries, first, last, range) refl

head_printed : (text : Recording) (files : List (List ℕ)) (s : Settings) (value : LogValue) (checkers : List CheckerValue) → IsGiven text files s value checkers → IsPrintedHead (head_of s value checkers)
unfolding head_of lacking
head_printed text files s value checkers given =
    let bounds = bounds_of text s value given.source.reads in
    let reads = given.source.reads in
    let recorded = reads.recorded.of_log.bounds.count in
    let sectors = given.asked.device in
    let entries = bounds.count in
    let bound = given.asked.bound in
    let places : List ℕ = filter (λ entry. nat_le (length reads.read.entries) entry) (places_of s.cuts.flushes) in
    let parts = either_none places (cut_past (length reads.read.entries) s.cuts.from ++ cut_past (length reads.read.entries) s.cuts.to) reads.has in
    let cuts = either_none (cut_past (length reads.read.entries) s.cuts.from) (cut_past (length reads.read.entries) s.cuts.to) parts.1 in
    let long = made_long s files checkers given.made in
    let heads = heads_long checkers in
    let some = given.count.some in
    let few = given.count.few in
    let some_sector = given.asked.some in
    let one : nat_le 1 s.sectors ≡ true = grind (arith, nat_tests, some_sector) in
    let two : nat_le s.sectors most_sectors ≡ true = grind (arith, nat_tests, sectors) in
    let three : nat_le (length value.entries) 65536 ≡ true = grind (arith, nat_tests, entries) in
    let four : nat_le s.bound 3 ≡ true = grind (arith, nat_tests, bound) in
    let as_long : length value.entries ≡ length reads.read.entries = ap (λ (v : LogValue). length v.entries) reads.added ∙ length-flushed (is_place (places_of s.cuts.flushes)) reads.read.entries in
    let cuts_are : are_cuts_of_run (length value.entries) s.cuts ≡ true = rw as_long (cuts_of_run (length reads.read.entries) s.cuts reads.has (range_passed s given.asked)) in
    record {
      numbers = record {
        sectors = omega (arith, sectors);
        entries = omega (arith, entries);
        bound = omega (arith, bound);
        from = cut_small (length reads.read.entries) s.cuts.from recorded cuts.0;
        to = cut_small (length reads.read.entries) s.cuts.to recorded cuts.1;
        flushes = places_small (length reads.read.entries) (places_of s.cuts.flushes) recorded parts.0;
        base = initial_small value;
        programs = programs_small s files checkers given.asked given.made;
      };
      some = omega (arith, long, heads, some);
      few = omega (arith, long, heads, few);
      options = rw (one, two, three, four, cuts_are) refl;
      programs = programs_of_run s files checkers given.asked given.made;
    }

-- the number of the inputs is one of 64 bits
fold_small : (number : ℕ) (bytes : List ℕ) → number < 2 ^ 64 → fold with_byte number bytes < 2 ^ 64
fold_small number [] small = small
fold_small number (b ∷ bytes) small = fold_small (with_byte number b) bytes (mod-lt (number * 1099511628211 + b + 1) (omega arith))

pub inputs_small : (log : List ℕ) (programs : List (List ℕ)) → inputs_number log programs < 2 ^ 64
unfolding inputs_number
inputs_small log programs = fold_small 0 (flat_map file_bytes (log ∷ programs)) (omega arith)

head_images : (s : Settings) (value : LogValue) (checkers : List CheckerValue) → (head_of s value checkers).images ≡ length (images_of s value)
unfolding head_of
head_images s value checkers = refl

pub is_run : (text : Recording) (files : List (List ℕ)) (s : Settings) (value : LogValue) (checkers : List CheckerValue) → IsGiven text files s value checkers
    → IsRun (run_of s value checkers (inputs_number text.text files))
is_run text files s value checkers given =
    let subject : Subject = subject_of s value checkers in
    let images = head_images s value checkers in
    let few = few_images s.extent (length (images_of s value)) given.source.few in
    record {
      head = head_stands (head_of s value checkers);
      printed = head_printed text files s value checkers given;
      lines = image_in_order subject;
      printable = λ image. all_printable (image_lines subject image) (λ i l there. line_printable text files s value checkers image l given (line_there subject image i l there));
      of_run = λ image. all_of_run (head_of s value checkers) (image_lines subject image) (λ i l there. line_of_run text files s value checkers image l given (line_there subject image i l there));
      number = inputs_small text.text files;
      few = omega (arith, images, few);
    }
