-- How long failing lines are.
use Rattle.std.proofs.Common.{ℕ, zero, suc, ◌≡◌, ◌+◌, ◌*◌, ◌<◌, ◌≤◌, ◌^◌, Option, None, Some, List, [], ◌∷◌, ◌++◌, All, length, length-append, map, codes, refl, ap, arith}
use Rattle.std.specs.Fmt.{decimal}
use Rattle.std.specs.List.{flat_map, filter_map, cons_option, range_with_len}
use Rattle.std.proofs.lemmas.List.Concat.{flat_map-append}
use Rattle.std.proofs.lemmas.Fmt.{length-decimal-le}
use Rattle.std.proofs.lemmas.List.FromFn.{length-range_with_len}
use Rattle.base.specs.Causes.{fault_number}
use Rattle.base.specs.declared.causes.MachineFault.{MachineFault}
use Rattle.base.specs.declared.causes.MachineFault.TheVariants as fault
use Rattle.machine.specs.Outcome.{Ending, Verdict, Stopped, OutOfSteps, Stray}
use Rattle.choices.specs.Named.{name_of}
use Rattle.report.specs.Line.{FailingLine}
use Rattle.report.specs.LineText.{codes_text, ending_text, choice_text, line_text}
use Rattle.report.specs.ChoiceText.{names_text}
use Rattle.join.specs.Printable.{IsWithin, IsPrintable, ArePrintable}
use Rattle.workers.specs.Failing.{Subject, line_of, image_lines, lines_from, failing_lines, judged_count}
use Rattle.inspect.proofs.Printed.{prints_choices}
use Rattle.inspect.proofs.Short.{names_short}
use Rattle.runs.specs.Explore.{subject_of}
use Rattle.commands.specs.Largest.{ReportsAreBounded}
use Rattle.commands.proofs.RunOf.{made_long, is_run}

word_short : (n : ℕ) → n < 2 ^ 64 → length (decimal n) ≤ 20
word_short n low = length-decimal-le 20 n (omega arith) (omega (arith, low)) low

cut_short : (n : ℕ) → n < 2 ^ 32 → length (decimal n) ≤ 10
cut_short n low = length-decimal-le 10 n (omega arith) (omega (arith, low)) (omega (arith, low))

program_short : (n : ℕ) → n < 2 ^ 8 → length (decimal n) ≤ 3
program_short n low = length-decimal-le 3 n (omega arith) (omega (arith, low)) (omega (arith, low))

more_short : (cs : List ℕ) → All (λ (n : ℕ). n < 2 ^ 64) cs → length (flat_map (λ (n : ℕ). codes "," ++ decimal n) cs) ≤ 21 * length cs
more_short [] small = omega arith
more_short (c ∷ cs) small =
    let own = word_short c (small 0 c (omega arith)) in
    let rest = more_short cs (λ k d l. small (suc k) d (omega (arith, l))) in
    let whole = length-append (codes "," ++ decimal c) (flat_map (λ (n : ℕ). codes "," ++ decimal n) cs) in
    let one = length-append (codes ",") (decimal c) in
    omega (arith, own, rest, whole, one)

codes_short : (cs : List ℕ) → length cs ≤ 16 → All (λ (n : ℕ). n < 2 ^ 64) cs → length (codes_text cs) ≤ 335
unfolding codes_text
codes_short [] few small = let whole : length (codes_text []) ≡ 1 = refl in omega (arith, whole)
codes_short (c ∷ cs) few small =
    let own = word_short c (small 0 c (omega arith)) in
    let rest = more_short cs (λ k d l. small (suc k) d (omega (arith, l))) in
    let whole : length (codes_text (c ∷ cs)) ≡ length (decimal c) + length (flat_map (λ (n : ℕ). codes "," ++ decimal n) cs) = length-append (decimal c) (flat_map (λ (n : ℕ). codes "," ++ decimal n) cs) in
    let many : length (c ∷ cs) ≤ 16 = few in
    omega (arith, own, rest, whole, many)

fault_small : (f : MachineFault) → fault_number f < 2 ^ 8
fault_small fault.NoInstruction = omega arith
fault_small _ = omega arith

ending_short : (e : Ending) → IsWithin e → length (ending_text e) ≤ 369
ending_short (Verdict answer numbers) within =
    let own = word_short answer within.0 in
    let told = codes_short numbers within.1 within.2 in
    let whole = length-append (codes "answer " ++ decimal answer ++ codes " codes ") (codes_text numbers) in
    let begin = length-append (codes "answer " ++ decimal answer) (codes " codes ") in
    let first = length-append (codes "answer ") (decimal answer) in
    omega (arith, own, told, whole, begin, first)
ending_short (Stopped cause slot) within =
    let own = program_short (fault_number cause) (fault_small cause) in
    let at = word_short slot within in
    let whole = length-append (codes "fault " ++ decimal (fault_number cause) ++ codes " slot ") (decimal slot) in
    let begin = length-append (codes "fault " ++ decimal (fault_number cause)) (codes " slot ") in
    let first = length-append (codes "fault ") (decimal (fault_number cause)) in
    omega (arith, own, at, whole, begin, first)
ending_short OutOfSteps within = let whole : length (codes "out of steps") ≡ 12 = refl in omega (arith, whole)
ending_short (Stray slot) within =
    let at = word_short slot within in
    let whole = length-append (codes "stray at slot ") (decimal slot) in
    omega (arith, at, whole)

-- a failing line
line_short : (l : FailingLine) → IsPrintable l → length (line_text l) ≤ 528
unfolding line_text
line_short l is =
    let image = word_short l.image is.image in
    let cut = cut_short l.cut is.cut in
    let program = program_short l.program is.program in
    let ending = ending_short l.ending is.ending in
    let same : length (choice_text l.by l.departures) ≡ length (names_text l.by (map name_of l.departures)) = ap length (prints_choices l.by l.departures) in
    let choice = names_short l.by (map name_of l.departures) is.names in
    let a : List ℕ = codes "image " ++ decimal l.image in
    let b : List ℕ = a ++ codes " cut " in
    let c : List ℕ = b ++ decimal l.cut in
    let d : List ℕ = c ++ codes " program " in
    let e : List ℕ = d ++ decimal l.program in
    let f : List ℕ = e ++ codes " " in
    let g : List ℕ = f ++ ending_text l.ending in
    let h : List ℕ = g ++ codes " choice " in
    let i : List ℕ = h ++ choice_text l.by l.departures in
    let in_a = length-append (codes "image ") (decimal l.image) in
    let in_b = length-append a (codes " cut ") in
    let in_c = length-append b (decimal l.cut) in
    let in_d = length-append c (codes " program ") in
    let in_e = length-append d (decimal l.program) in
    let in_f = length-append e (codes " ") in
    let in_g = length-append f (ending_text l.ending) in
    let in_h = length-append g (codes " choice ") in
    let in_i = length-append h (choice_text l.by l.departures) in
    let whole = length-append i (codes "\n") in
    omega (arith, image, cut, program, ending, same, choice, in_a, in_b, in_c, in_d, in_e, in_f, in_g, in_h, in_i, whole)

lines_short : (ls : List FailingLine) → ArePrintable ls → length (flat_map line_text ls) ≤ 528 * length ls
lines_short [] are = omega arith
lines_short (l ∷ ls) are =
    let own = line_short l are.0 in
    let rest = lines_short ls are.1 in
    let whole = length-append (line_text l) (flat_map line_text ls) in
    omega (arith, own, rest, whole)

-- no more lines than programs of an image
kept_few : {A B : Type 0} (f : A → Option B) (xs : List A) → length (filter_map f xs) ≤ length xs
kept_few f [] = omega arith
kept_few {B = B} f (x ∷ xs) = one (f x) (filter_map f xs) (kept_few f xs)
  where
    one : (o : Option B) (ys : List B) → length ys ≤ length xs → length (cons_option o ys) ≤ length (x ∷ xs)
    one None ys few = omega (arith, few)
    one (Some y) ys few = omega (arith, few)

image_short : (s : Subject) (image : ℕ) → ArePrintable (image_lines s image) → length (flat_map line_text (image_lines s image)) ≤ 528 * length s.checkers
unfolding image_lines
image_short s image are =
    let short = lines_short (image_lines s image) are in
    let few = kept_few (line_of s image) (range_with_len 0 (length s.checkers)) in
    let long = length-range_with_len 0 (length s.checkers) in
    omega (arith, short, few, long)

images_short : (s : Subject) (a n : ℕ) → ((image : ℕ) → ArePrintable (image_lines s image)) → length (flat_map line_text (lines_from s a n)) ≤ n * (528 * length s.checkers)
images_short s a zero are = omega arith
images_short s a (suc n) are =
    let own = image_short s a (are a) in
    let rest = images_short s (a + 1) n are in
    let both = ap length (flat_map-append line_text (image_lines s a) (lines_from s (a + 1) n)) in
    let whole = length-append (flat_map line_text (image_lines s a)) (flat_map line_text (lines_from s (a + 1) n)) in
    omega (arith, own, rest, both, whole)

pub reports_are_bounded : ReportsAreBounded
unfolding failing_lines
reports_are_bounded text files s bytes failing a =
    let run = is_run text files s a.report.value a.report.checkers (record { asked = a.asked; count = a.report.count; source = a.report.source; made = a.report.made }) in
    let subject : Subject = subject_of s a.report.value a.report.checkers in
    let short = images_short subject subject.from (judged_count subject) run.printable in
    let long = made_long s files a.report.checkers a.report.made in
    rw (← long) (omega (arith, short))
