-- The lines of cases, read to the byte, and counted.
use Rattle.std.proofs.Common.{ℕ, zero, suc, ◌≡◌, ◌≢◌, ◌+◌, ◌<◌, ◌≤◌, ◌^◌, ◌==◌, ◌&&◌, nat_lt, nat_le, Bool, true, false, if◌then◌else◌, List, [], ◌∷◌, ◌++◌, length, length-append, get_or, map, append_assoc, append-nil, codes, Option, None, Some, refl, sym, subst, ap, ◌∙◌, arith}
use Rattle.std.specs.Fmt.{decimal}
use Rattle.std.proofs.lemmas.List.{map-append}
use Rattle.std.specs.List.{flat_map, list_all}
use Rattle.std.proofs.lemmas.Bool.Decides.{nat_tests}
use Rattle.epochs.specs.declared.part.By.{By}
use Rattle.epochs.specs.declared.part.By.TheVariants as by
use Rattle.choices.specs.declared.fate.Fate.{Fate}
use Rattle.choices.specs.declared.fate.Fate.TheVariants as fate
use Rattle.choices.specs.declared.name.Name.{Name}
use Rattle.choices.specs.CrashModel.{IsFate}
use Rattle.report.specs.ChoiceText.{fate_text, part_text, name_text, names_text, IsPlace, IsName}
use Rattle.report.specs.MarkReading.{lacks}
use Rattle.report.specs.Report.{HeadValue}
use Rattle.report.proofs.Back.{lacks_both}
use Rattle.losses.specs.declared.flushes.window.Window.{Window}
use Rattle.losses.proofs.Plain.{ending_lacks}
use Rattle.case_text.specs.Text.{fates_text, number_text, place_text, window_text}
use Rattle.join.specs.declared.case_parts.names.PartName.{PartName}
use Rattle.join.specs.declared.case_parts.front.CaseFront.{CaseFront}
use Rattle.join.specs.Endings.{IsEnding, IsAtChoice, NoChoice}
use Rattle.join.specs.Heads.{IsPrintedHead, IsWord, join_words}
use Rattle.join.specs.Printable.{has_program_and_cut}
use Rattle.join.specs.Reading.{IsCut, NoCut}
use Rattle.join.specs.declared.case_parts.line.CaseTally.{CaseTally}
use Rattle.join.specs.CaseTexts.{ToldCase, AreToldCases, fronts_of, is_new_cut, MixedPart, front_text, parts_text, mixed_text, next_mixed, among_text, said_text, told_body, told_line, IsToldCase, is_case_of_run, is_front_of_run, is_window_of_run, all_of_run, is_lost_of_run, is_part_of_run, is_place_of_run, is_fate_of_run, is_possible, are_fates_of_run, is_mixed_of_run, part_of}
use Rattle.join.specs.CaseReading.{Each, IsPartName, IsPossible, IsMixedPart, IsSmallFront, IsSmallWindow, IsSmallCase, listed, mixed_list, window_word, named_words, IsNoneOrWord, KnownSaid, known_list, AreKnownWords, ReadsFront, ReadsHalves, ReadsKnown, ReadsNames, ReadsParts, ReadsMixed, ReadsWindow, ReadsCase, AreCasesRead, AreFirstLines, all_counted, none_told, one_told, IsCaseBody, NoCaseBody, IsCaseLine, NoCaseLine}
use Rattle.join.proofs.Texts.{one_cut, has_it}
use Rattle.join.proofs.Spans.{SaysNumber, blank_lacks, line_lacks}
use Rattle.join.proofs.WordsRead.{spaced, words_spaced, spaced_both, number_word, less}
use Rattle.join.proofs.Outsides.{outcome_lacks as outcome_line}
use Rattle.join.proofs.CaseLists.{blank, newline, name_lacks, name_of_part, one_lacks, mixed_lacks, listed_lacks, next_lacks, part_some}

pub and_both : (a b : Bool) → (a && b) ≡ true → (a ≡ true) × (b ≡ true)
and_both true b e = (refl, e)
and_both false b e = absurd (let bad : false ≡ true = e in cc)

-- WHAT A RUN MAY PRINT IS WITHIN ITS RANGES

each_of : {A : Type 0} (P : A → Type 0) (test : A → Bool) → ((x : A) → test x ≡ true → P x) → (xs : List A) → list_all test xs ≡ true → Each P xs
each_of P test own [] e = tt
each_of P test own (x ∷ xs) e = let both = and_both (test x) (list_all test xs) e in (own x both.0, each_of P test own xs both.1)

place_is : (way : By) (place : ℕ) → is_place_of_run way place ≡ true → IsPlace way place
place_is by.Sector place e = grind (arith, nat_tests, e)
place_is by.Write place e = grind (arith, nat_tests, e)

part_is : (way : By) (cut : ℕ) (p : PartName) → cut < 2 ^ 32 → is_part_of_run way cut p ≡ true → IsPartName way p
part_is way cut p small e =
    let both = and_both (nat_lt p.entry cut) (is_place_of_run way p.place) e in
    let before = both.0 in
    let low : p.entry < cut = grind (arith, nat_tests, before) in
    record { entry = omega (arith, low, small); place = place_is way p.place both.1 }

eighths_are : (t : ℕ) → (nat_le 1 t && nat_lt t 8) ≡ true → (1 ≤ t) × (t < 8)
eighths_are t e =
    let both = and_both (nat_le 1 t) (nat_lt t 8) e in
    let low = both.0 in
    let high = both.1 in
    (grind (arith, nat_tests, low), grind (arith, nat_tests, high))

fate_is : (tears : Bool) (f : Fate) → is_fate_of_run tears f ≡ true → IsFate true f
fate_is tears fate.Drop e = tt
fate_is tears (fate.Head t) e = let both = and_both tears (nat_le 1 t && nat_lt t 8) e in let within = eighths_are t both.1 in (refl, within.0, within.1)
fate_is tears (fate.Tail t) e = let both = and_both tears (nat_le 1 t && nat_lt t 8) e in let within = eighths_are t both.1 in (refl, within.0, within.1)

lost_is : (way : By) (tears : Bool) (cut : ℕ) (n : Name) → cut < 2 ^ 32 → is_lost_of_run way tears cut n ≡ true → IsName way n
lost_is way tears cut n small e =
    let both = and_both (is_part_of_run way cut (part_of n)) (is_fate_of_run tears n.fate) e in
    let p = part_is way cut (part_of n) small both.0 in
    record { entry = p.entry; place = p.place; fate = fate_is tears n.fate both.1 }

possible_is : (f : Option Fate) → is_possible f ≡ true → IsPossible f
possible_is None e = tt
possible_is (Some f) e = fate_is true f e

mixed_is : (way : By) (tears : Bool) (cut : ℕ) (m : MixedPart) → cut < 2 ^ 32 → is_mixed_of_run way tears cut m ≡ true → IsMixedPart way m
mixed_is way tears cut m small e =
    let both = and_both (is_part_of_run way cut m.part) (are_fates_of_run tears m.fates) e in
    let fates = and_both (tears && (nat_lt 1 (length m.fates) && nat_lt (length m.fates) 16)) _ both.1 in
    let sizes = and_both (nat_lt 1 (length m.fates)) (nat_lt (length m.fates) 16) (and_both tears _ fates.0).1 in
    let low = sizes.0 in
    let some : 1 < length m.fates = grind (arith, nat_tests, low) in
    record {
      part = part_is way cut m.part small both.0;
      some = omega (arith, some);
      fates = each_of IsPossible is_possible possible_is m.fates (and_both (list_all is_possible m.fates) _ fates.1).0;
    }

window_small : (cut : ℕ) (w : Option Window) → cut < 2 ^ 32 → is_window_of_run cut w ≡ true → IsSmallWindow w
window_small cut None small e = tt
window_small cut (Some w) small e =
    let both = and_both (nat_le w.start w.end) (nat_lt w.end cut) e in
    let one = both.0 in
    let two = both.1 in
    let low : w.start ≤ w.end = grind (arith, nat_tests, one) in
    let high : w.end < cut = grind (arith, nat_tests, two) in
    (omega (arith, low, high, small), omega (arith, high, small))

-- a cut of a run is within 32 bits, and its programs are few
front_is : (h : HeadValue) (f : CaseFront) → IsPrintedHead h → is_front_of_run h f ≡ true → (f.cut < 2 ^ 32) × IsSmallFront f
front_is h f printed e =
    let both = and_both (has_program_and_cut h f.cut f.program) _ e in
    let there = and_both (nat_lt f.program (length h.programs) && nat_le f.cut h.entries && _) _ both.0 in
    let twice = and_both (nat_lt f.program (length h.programs) && nat_le f.cut h.entries) _ there.0 in
    let first = and_both (nat_lt f.program (length h.programs)) (nat_le f.cut h.entries) twice.0 in
    let program_test = first.0 in
    let cut_test = first.1 in
    let outer = and_both (nat_le f.epoch f.cut && nat_le f.marks f.cut) (nat_lt f.number 16777216) both.1 in
    let inner = and_both (nat_le f.epoch f.cut) (nat_le f.marks f.cut) outer.0 in
    let epoch_test = inner.0 in
    let marks_test = inner.1 in
    let number_test = outer.1 in
    let program : f.program < length h.programs = grind (arith, nat_tests, program_test) in
    let cut : f.cut ≤ h.entries = grind (arith, nat_tests, cut_test) in
    let epoch : f.epoch ≤ f.cut = grind (arith, nat_tests, epoch_test) in
    let marks : f.marks ≤ f.cut = grind (arith, nat_tests, marks_test) in
    let number : f.number < 16777216 = grind (arith, nat_tests, number_test) in
    let few = printed.few in
    let entries = printed.numbers.entries in (
      omega (arith, cut, entries),
      record {
        cut = omega (arith, cut, entries);
        epoch = omega (arith, cut, entries, epoch);
        marks = omega (arith, cut, entries, marks);
        program = omega (arith, program, few);
        number = omega (arith, number);
      },
    )

pub small_of : (h : HeadValue) (t : ToldCase) → IsPrintedHead h → IsToldCase h t → IsSmallCase h.by t
small_of h t printed told =
    let both = and_both (is_front_of_run h t.front && is_window_of_run t.front.cut t.window) _ told.of_run in
    let begun = and_both (is_front_of_run h t.front) (is_window_of_run t.front.cut t.window) both.0 in
    let front = front_is h t.front printed begun.0 in
    let small = front.0 in
    let parts = and_both (all_of_run h.by h.tears t.front.cut t) _ both.1 in
    let most = and_both (list_all (is_lost_of_run h.by h.tears t.front.cut) t.lost && list_all (is_part_of_run h.by t.front.cut) t.kept) (list_all (is_mixed_of_run h.by h.tears t.front.cut) t.mixed) parts.0 in
    let first = and_both (list_all (is_lost_of_run h.by h.tears t.front.cut) t.lost) (list_all (is_part_of_run h.by t.front.cut) t.kept) most.0 in
    record {
      front = front.1;
      outcome = told.outcome;
      lost = each_of (IsName h.by) (is_lost_of_run h.by h.tears t.front.cut) (λ n e. lost_is h.by h.tears t.front.cut n small e) t.lost first.0;
      kept = each_of (IsPartName h.by) (is_part_of_run h.by t.front.cut) (λ p e. part_is h.by t.front.cut p small e) t.kept first.1;
      mixed = each_of (IsMixedPart h.by) (is_mixed_of_run h.by h.tears t.front.cut) (λ m e. mixed_is h.by h.tears t.front.cut m small e) t.mixed most.1;
      free = told.free;
      window = window_small t.front.cut t.window small begun.1;
    }

-- A LINE BY ITS WORDS

-- the words after ` choice `
abbrev pub known_of : By → ToldCase → KnownSaid
known_of way t = record { lost = names_text way t.lost; kept = parts_text way t.kept; mixed = mixed_list way t.mixed; free = decimal t.free; window = window_word t.window }

word_of_listed : {A : Type 0} (P : A → Type 0) (text : A → List ℕ) → ((x : A) → P x → lacks 32 (text x) ≡ true) → ((x : A) → P x → 0 < length (text x)) → (a : A) (more : List A) → Each P (a ∷ more)
    → IsWord (listed 44 text a more)
word_of_listed {A} P text own some a more each =
    let first = some a each.0 in
    let long = length-append (text a) (flat_map (λ (x : A). 44 ∷ text x) more) in
    (omega (arith, first, long), listed_lacks 32 44 P text own refl a more each)

name_some : (way : By) (n : Name) → IsName way n → 0 < length (name_text way n)
unfolding name_text
name_some way n is =
    let some = part_some way n.entry n.place is.entry in
    let long = length-append (part_text way n.entry n.place ++ codes ":") (fate_text n.fate) in
    let part = length-append (part_text way n.entry n.place) (codes ":") in
    omega (arith, some, long, part)

mixed_some : (way : By) (m : MixedPart) → IsMixedPart way m → 0 < length (mixed_text way m)
unfolding mixed_text
mixed_some way m is =
    let some = part_some way m.part.entry m.part.place is.part.entry in
    let part = length-append (part_text way m.part.entry m.part.place) (codes ":") in
    let long = length-append (part_text way m.part.entry m.part.place ++ codes ":") (fates_text m.fates) in
    omega (arith, some, long, part)

lost_word : (way : By) (ns : List Name) → Each (IsName way) ns → IsWord (names_text way ns)
unfolding names_text
lost_word way [] each = (omega arith, refl)
lost_word way (n ∷ ns) each = word_of_listed (IsName way) (name_text way) (name_lacks 32 blank way) (name_some way) n ns each

kept_word : (way : By) (ps : List PartName) → Each (IsPartName way) ps → IsWord (parts_text way ps)
unfolding parts_text
kept_word way [] each = (omega arith, refl)
kept_word way (p ∷ ps) each = word_of_listed (IsPartName way) (name_of_part way) (one_lacks 32 blank way) (λ q is. part_some way q.entry q.place is.entry) p ps each

none_or_word : (word : List ℕ) → IsWord word → IsNoneOrWord word
none_or_word [] is = tt
none_or_word (b ∷ bs) is = is

mixed_word : (way : By) (ms : List MixedPart) → Each (IsMixedPart way) ms → IsNoneOrWord (mixed_list way ms)
mixed_word way [] each = tt
mixed_word way (m ∷ ms) each = none_or_word (listed 44 (mixed_text way) m ms) (word_of_listed (IsMixedPart way) (mixed_text way) (mixed_lacks 32 blank refl way) (mixed_some way) m ms each)

window_is_word : (w : Option Window) → IsSmallWindow w → IsWord (window_word w)
window_is_word None small = (omega arith, refl)
window_is_word (Some w) small =
    let own = number_word w.start (less w.start small.0) in
    let some = own.0 in
    let one = length-append (decimal w.start) (codes "..") in
    let two = length-append (decimal w.start ++ codes "..") (decimal w.end) in
    (omega (arith, some, one, two), lacks_both 32 (decimal w.start ++ codes "..") (decimal w.end) (lacks_both 32 (decimal w.start) (codes "..") own.1 refl) (blank_lacks w.end (less w.end small.1)))

pub known_words_are : (way : By) (t : ToldCase) → IsSmallCase way t → AreKnownWords (known_of way t)
known_words_are way t small = record {
  lost = lost_word way t.lost small.lost;
  kept = kept_word way t.kept small.kept;
  mixed = mixed_word way t.mixed small.mixed;
  free = number_word t.free small.free;
  window = window_is_word t.window small.window;
}

named_some : (name word : List ℕ) → 0 < length word → named_words name word ≡ name ∷ word ∷ []
named_some name [] some = absurd (omega (arith, some))
named_some name (b ∷ bs) some = refl

among_spaced : (way : By) (ms : List MixedPart) → Each (IsMixedPart way) ms → spaced (named_words (codes "among") (mixed_list way ms)) ≡ among_text way ms
unfolding among_text
among_spaced way [] each = refl
among_spaced way (m ∷ ms) each =
    let word = word_of_listed (IsMixedPart way) (mixed_text way) (mixed_lacks 32 blank refl way) (mixed_some way) m ms each in
    ap (λ (ws : List (List ℕ)). spaced ws) (named_some (codes "among") (listed 44 (mixed_text way) m ms) word.0)
    ∙ ap (λ (bs : List ℕ). codes " among " ++ bs) (append-nil (listed 44 (mixed_text way) m ms))
    ∙ sym (append_assoc (codes " among ") (mixed_text way m) (flat_map (next_mixed way) ms))

flush_is : (w : Option Window) → window_text w ≡ codes " flush " ++ window_word w
flush_is None = refl
flush_is (Some w) = simp append_assoc

-- the words after ` choice `, with their blanks
known_is : (way : By) (t : ToldCase) → Each (IsMixedPart way) t.mixed
    → join_words (known_list (known_of way t)) ≡ names_text way t.lost ++ (codes " kept " ++ (parts_text way t.kept ++ (among_text way t.mixed ++ (codes " free " ++ (decimal t.free ++ (codes " flush " ++ window_word t.window))))))
known_is way t each =
    let last : List (List ℕ) = codes "free" ∷ decimal t.free ∷ codes "flush" ∷ window_word t.window ∷ [] in
    let e1 : spaced (named_words (codes "among") (mixed_list way t.mixed) ++ last) ≡ among_text way t.mixed ++ spaced last = spaced_both (named_words (codes "among") (mixed_list way t.mixed)) last ∙ ap (λ (bs : List ℕ). bs ++ spaced last) (among_spaced way t.mixed each) in
    let e2 : spaced last ≡ codes " free " ++ (decimal t.free ++ (codes " flush " ++ window_word t.window)) = ap (λ (bs : List ℕ). codes " free " ++ (decimal t.free ++ (codes " flush " ++ bs))) (append-nil (window_word t.window)) in
    words_spaced (names_text way t.lost) (codes "kept" ∷ parts_text way t.kept ∷ (named_words (codes "among") (mixed_list way t.mixed) ++ last))
    ∙ ap (λ (bs : List ℕ). names_text way t.lost ++ (codes " kept " ++ (parts_text way t.kept ++ bs))) (e1 ∙ ap (λ (bs : List ℕ). among_text way t.mixed ++ bs) e2)

said_is : (way : By) (t : ToldCase) (more : List ℕ)
    → said_text way t ++ more ≡ codes " choice " ++ (names_text way t.lost ++ (codes " kept " ++ (parts_text way t.kept ++ (among_text way t.mixed ++ (codes " free " ++ (decimal t.free ++ more))))))
unfolding said_text
said_is way t more = simp append_assoc

pub body_words : (way : By) (t : ToldCase) → Each (IsMixedPart way) t.mixed → told_body way t ≡ front_text t.front ++ (t.outcome ++ codes " choice " ++ join_words (known_list (known_of way t)))
unfolding told_body
body_words way t each =
    let e1 : said_text way t ++ window_text t.window ≡ codes " choice " ++ join_words (known_list (known_of way t)) =
    ap (λ (bs : List ℕ). said_text way t ++ bs) (flush_is t.window) ∙ said_is way t (codes " flush " ++ window_word t.window) ∙ ap (λ (bs : List ℕ). codes " choice " ++ bs) (sym (known_is way t each)) in
    append_assoc (front_text t.front ++ t.outcome) (said_text way t) (window_text t.window)
    ∙ ap (λ (bs : List ℕ). (front_text t.front ++ t.outcome) ++ bs) e1
    ∙ append_assoc (front_text t.front) t.outcome (codes " choice " ++ join_words (known_list (known_of way t)))
    ∙ ap (λ (bs : List ℕ). front_text t.front ++ bs) (sym (append_assoc t.outcome (codes " choice ") (join_words (known_list (known_of way t)))))

-- what stands before and after ` choice `
pub halves_found : (text front back : List ℕ) → IsAtChoice text front back → ReadsHalves text front back
halves_found text front back at = record { read = at.only }

pub no_halves : (text front back : List ℕ) → NoChoice text → ReadsHalves text front back
no_halves text front back none = record { read = λ xs ys own e. absurd (none.none xs ys own e) }

outcome_lacks : (outcome : List ℕ) → IsEnding outcome → lacks 104 outcome ≡ true
outcome_lacks outcome e = let is = e.is in rw is (ending_lacks e.ending)

pub case_read : (way : By) (line rest outcome said w1 w2 w3 w4 w5 : List ℕ) (front : CaseFront) (lost : List Name) (kept : List PartName) (mixed : List MixedPart) (free : ℕ) (window : Option Window)
    → ReadsFront line front rest → ReadsHalves rest outcome said → ReadsKnown said (record { lost = w1; kept = w2; mixed = w3; free = w4; window = w5 }) → ReadsNames way w1 lost → ReadsParts way w2 kept
    → ReadsMixed way w3 mixed → SaysNumber w4 free → ReadsWindow w5 window
    → ReadsCase way line (record { front = front; outcome = outcome; lost = lost; kept = kept; mixed = mixed; free = free; window = window })
case_read way line rest outcome said w1 w2 w3 w4 w5 front lost kept mixed free window c1 c2 c3 c4 c5 c6 c7 c8 = record { read = reads }
  where
    reads : (t : ToldCase) → IsSmallCase way t → line ≡ told_body way t → record { front = front; outcome = outcome; lost = lost; kept = kept; mixed = mixed; free = free; window = window } ≡ t
    reads t small e =
        let p1 = c1.read t.front (t.outcome ++ codes " choice " ++ join_words (known_list (known_of way t))) small.front (e ∙ body_words way t small.mixed) in
        let p2 = c2.read t.outcome (join_words (known_list (known_of way t))) (outcome_lacks t.outcome small.outcome) p1.1 in
        let p3 : record { lost = w1; kept = w2; mixed = w3; free = w4; window = w5 } ≡ known_of way t = c3.read (known_of way t) (known_words_are way t small) p2.1 in
        let e1 : front ≡ t.front = p1.0 in
        let e2 : outcome ≡ t.outcome = p2.0 in
        let e3 : lost ≡ t.lost = c4.read t.lost small.lost (ap (λ (k : KnownSaid). k.lost) p3) in
        let e4 : kept ≡ t.kept = c5.read t.kept small.kept (ap (λ (k : KnownSaid). k.kept) p3) in
        let e5 : mixed ≡ t.mixed = c6.read t.mixed small.mixed (ap (λ (k : KnownSaid). k.mixed) p3) in
        let e6 : free ≡ t.free = c7 t.free small.free (ap (λ (k : KnownSaid). k.free) p3) in
        let e7 : window ≡ t.window = c8.read t.window small.window (ap (λ (k : KnownSaid). k.window) p3) in
        rw (e1, e2, e3, e4, e5, e6, e7) refl

-- A LINE TO THE BYTE

-- what was read is what a line says
same_case : (h : HeadValue) (line : List ℕ) (said t : ToldCase) → IsPrintedHead h → ReadsCase h.by line said → IsToldCase h t → line ≡ told_body h.by t → said ≡ t
same_case h line said t printed reads told e = reads.read t (small_of h t printed told) e

pub no_ending : (h : HeadValue) (line : List ℕ) (said : ToldCase) → IsPrintedHead h → ReadsCase h.by line said → (IsEnding said.outcome → ⊥) → NoCaseBody h line
no_ending h line said printed reads lack = record {
  none = λ t told e. lack (subst (λ (s : ToldCase). IsEnding s.outcome) (sym (same_case h line said t printed reads told e)) told.outcome);
}

pub not_of_run : (h : HeadValue) (line : List ℕ) (said : ToldCase) → IsPrintedHead h → ReadsCase h.by line said → is_case_of_run h said ≡ false → NoCaseBody h line
not_of_run h line said printed reads lack = record { none = none }
  where
    none : (t : ToldCase) → IsToldCase h t → line ≡ told_body h.by t → ⊥
    none t told e =
        let yes : is_case_of_run h said ≡ true = ap (λ (s : ToldCase). is_case_of_run h s) (same_case h line said t printed reads told e) ∙ told.of_run in
        let bad : true ≡ false = sym yes ∙ lack in
        cc

pub not_printed : (h : HeadValue) (line : List ℕ) (said : ToldCase) → IsPrintedHead h → ReadsCase h.by line said → (line ≡ told_body h.by said → ⊥) → NoCaseBody h line
not_printed h line said printed reads lack = record {
  none = λ t told e. lack (e ∙ ap (λ (s : ToldCase). told_body h.by s) (sym (same_case h line said t printed reads told e)));
}

pub is_case : (h : HeadValue) (way : By) (line outcome : List ℕ) (said : ToldCase) (free : ℕ) (front : CaseFront) → IsPrintedHead h → way ≡ h.by → ReadsCase way line said → outcome ≡ said.outcome → IsEnding outcome
    → free ≡ said.free → free < 2 ^ 64 → is_case_of_run h said ≡ true → line ≡ told_body way said → front ≡ said.front → IsCaseBody h line front
is_case h way line outcome said free front printed same reads e1 ending e2 small own is begins = record {
  told = said;
  of_run = record { outcome = subst (λ (bs : List ℕ). IsEnding bs) e1 ending; free = omega (arith, e2, small); of_run = own };
  is = is ∙ ap (λ (w : By). told_body w said) same;
  begins = begins;
  only = λ t told e. same_case h line said t printed (subst (λ (w : By). ReadsCase w line said) same reads) told e;
}

-- a line has no newline
window_lacks : (w : Option Window) → IsSmallWindow w → lacks 10 (window_word w) ≡ true
window_lacks None small = refl
window_lacks (Some w) small = lacks_both 10 (decimal w.start ++ codes "..") (decimal w.end) (lacks_both 10 (decimal w.start) (codes "..") (line_lacks w.start (less w.start small.0)) refl) (line_lacks w.end (less w.end small.1))

lost_lacks : (way : By) (ns : List Name) → Each (IsName way) ns → lacks 10 (names_text way ns) ≡ true
unfolding names_text
lost_lacks way [] each = refl
lost_lacks way (n ∷ ns) each = listed_lacks 10 44 (IsName way) (name_text way) (name_lacks 10 newline way) refl n ns each

kept_lacks : (way : By) (ps : List PartName) → Each (IsPartName way) ps → lacks 10 (parts_text way ps) ≡ true
unfolding parts_text
kept_lacks way [] each = refl
kept_lacks way (p ∷ ps) each = listed_lacks 10 44 (IsPartName way) (name_of_part way) (one_lacks 10 newline way) refl p ps each

among_lacks : (way : By) (ms : List MixedPart) → Each (IsMixedPart way) ms → lacks 10 (among_text way ms) ≡ true
unfolding among_text
among_lacks way [] each = refl
among_lacks way (m ∷ ms) each =
    lacks_both 10 (codes " among " ++ mixed_text way m) (flat_map (next_mixed way) ms)
    (lacks_both 10 (codes " among ") (mixed_text way m) refl (mixed_lacks 10 newline refl way m each.0)) (next_lacks 10 44 (IsMixedPart way) (mixed_text way) (mixed_lacks 10 newline refl way) refl ms each.1)

known_lacks : (way : By) (t : ToldCase) → IsSmallCase way t → lacks 10 (join_words (known_list (known_of way t))) ≡ true
known_lacks way t small =
    let b1 : List ℕ = codes " flush " ++ window_word t.window in
    let b2 : List ℕ = codes " free " ++ (decimal t.free ++ b1) in
    let b3 : List ℕ = among_text way t.mixed ++ b2 in
    let b4 : List ℕ = codes " kept " ++ (parts_text way t.kept ++ b3) in
    let e1 = lacks_both 10 (codes " flush ") (window_word t.window) refl (window_lacks t.window small.window) in
    let e2 = lacks_both 10 (codes " free ") (decimal t.free ++ b1) refl (lacks_both 10 (decimal t.free) b1 (line_lacks t.free small.free) e1) in
    let e3 = lacks_both 10 (among_text way t.mixed) b2 (among_lacks way t.mixed small.mixed) e2 in
    let e4 = lacks_both 10 (codes " kept ") (parts_text way t.kept ++ b3) refl (lacks_both 10 (parts_text way t.kept) b3 (kept_lacks way t.kept small.kept) e3) in
    rw (known_is way t small.mixed) (lacks_both 10 (names_text way t.lost) b4 (lost_lacks way t.lost small.lost) e4)

place_lacks : (a b c : ℕ) → a < 2 ^ 64 → b < 2 ^ 64 → c < 2 ^ 64 → lacks 10 (place_text a b c) ≡ true
unfolding place_text
place_lacks a b c one two three =
    lacks_both 10 (codes "cut " ++ decimal a ++ codes " epoch " ++ decimal b ++ codes " marks ") (decimal c)
    (lacks_both 10 (codes "cut " ++ decimal a ++ codes " epoch " ++ decimal b) (codes " marks ")
    (lacks_both 10 (codes "cut " ++ decimal a ++ codes " epoch ") (decimal b)
    (lacks_both 10 (codes "cut " ++ decimal a) (codes " epoch ") (lacks_both 10 (codes "cut ") (decimal a) refl (line_lacks a one)) refl) (line_lacks b two)) refl) (line_lacks c three)

number_text_lacks : (p n : ℕ) → p < 2 ^ 64 → n < 2 ^ 64 → lacks 10 (number_text p n) ≡ true
unfolding number_text
number_text_lacks p n one two =
    lacks_both 10 (codes " program " ++ decimal p ++ codes " case " ++ decimal n) (codes " ")
    (lacks_both 10 (codes " program " ++ decimal p ++ codes " case ") (decimal n) (lacks_both 10 (codes " program " ++ decimal p) (codes " case ") (lacks_both 10 (codes " program ") (decimal p) refl (line_lacks p one)) refl) (line_lacks n two))
    refl

front_lacks : (f : CaseFront) → IsSmallFront f → lacks 10 (front_text f) ≡ true
unfolding front_text
front_lacks f small = lacks_both 10 (place_text f.cut f.epoch f.marks) (number_text f.program f.number) (place_lacks f.cut f.epoch f.marks small.cut small.epoch small.marks) (number_text_lacks f.program f.number small.program small.number)

pub body_lacks : (way : By) (t : ToldCase) → IsSmallCase way t → lacks 10 (told_body way t) ≡ true
body_lacks way t small =
    rw (body_words way t small.mixed)
    (lacks_both 10 (front_text t.front) (t.outcome ++ codes " choice " ++ join_words (known_list (known_of way t))) (front_lacks t.front small.front)
    (lacks_both 10 (t.outcome ++ codes " choice ") (join_words (known_list (known_of way t)))
    (lacks_both 10 t.outcome (codes " choice ") (outcome_line false t.outcome small.outcome) refl) (known_lacks way t small)))

line_is : (way : By) (t : ToldCase) (more : List ℕ) → told_line way t ++ more ≡ told_body way t ++ 10 ∷ more
line_is way t more = append_assoc (told_body way t) (codes "\n") more

pub no_newline_no_case : (h : HeadValue) (text : List ℕ) → NoCut 10 text → NoCaseLine h text
no_newline_no_case h text lack = record {
  none = λ t more told e. has_it 10 (told_body h.by t) more (subst (λ (bs : List ℕ). lacks 10 bs ≡ true) (e ∙ line_is h.by t more) lack.none);
}

pub no_body_no_case : (h : HeadValue) (text line more : List ℕ) → IsPrintedHead h → IsCut 10 text line more → NoCaseBody h line → NoCaseLine h text
no_body_no_case h text line more printed cut lack = record {
  none = λ t rest told e.
      let same : line ++ 10 ∷ more ≡ told_body h.by t ++ 10 ∷ rest = sym cut.is ∙ e ∙ line_is h.by t rest in
      lack.none t told (one_cut 10 line (told_body h.by t) more rest cut.first (body_lacks h.by t (small_of h t printed told)) same).0;
}

pub body_is_case : (h : HeadValue) (text line more : List ℕ) (front : CaseFront) → IsPrintedHead h → IsCut 10 text line more → IsCaseBody h line front → IsCaseLine h text front more
body_is_case h text line more front printed cut body = record {
  told = body.told;
  of_run = body.of_run;
  is = cut.is ∙ ap (λ (bs : List ℕ). bs ++ 10 ∷ more) body.is ∙ sym (line_is h.by body.told more);
  begins = body.begins;
  only = only;
}
  where
    only : (t : ToldCase) (rest : List ℕ) → IsToldCase h t → text ≡ told_line h.by t ++ rest → (body.told ≡ t) × (more ≡ rest)
    only t rest told e =
        let p = one_cut 10 line (told_body h.by t) more rest cut.first (body_lacks h.by t (small_of h t printed told)) (sym cut.is ∙ e ∙ line_is h.by t rest) in
        (body.only t told p.0, p.1)

-- LINES, ONE AFTER THE OTHER

pub counted_push : (t : CaseTally) (fs : List CaseFront) (f : CaseFront) → all_counted t (fs ++ f ∷ []) ≡ one_told (all_counted t fs) f
unfolding all_counted
counted_push t [] f = refl
counted_push t (g ∷ fs) f = counted_push (one_told t g) fs f

counted_none : (t : CaseTally) → all_counted t [] ≡ t
unfolding all_counted
counted_none t = refl

pub none_are_read : (h : HeadValue) (text : List ℕ) → AreCasesRead h text none_told text
none_are_read h text = record {
  told = [];
  of_run = tt;
  is = refl;
  counted = sym (counted_none none_told);
  few = omega arith;
  fewer = omega arith;
  first = record { left = λ ts tail each none e. (ts, refl, each, e) };
}

-- one more of the first lines
first_on : (h : HeadValue) (text rest more : List ℕ) (f : CaseFront) (told : List ToldCase) → AreFirstLines h text told rest → (line : IsCaseLine h rest f more) → AreFirstLines h text (told ++ line.told ∷ []) more
first_on h text rest more f told first line = record { left = lefts }
  where
    next : (us : List ToldCase) (tail : List ℕ) → AreToldCases h us → NoCaseLine h tail → rest ≡ flat_map (told_line h.by) us ++ tail
        → (others : List ToldCase) × (us ≡ line.told ∷ others) × AreToldCases h others × (more ≡ flat_map (told_line h.by) others ++ tail)
    next [] tail each none e = absurd (none.none line.told more line.of_run (sym e ∙ line.is))
    next (u ∷ us) tail each none e =
        let p = line.only u (flat_map (told_line h.by) us ++ tail) each.0 (e ∙ append_assoc (told_line h.by u) (flat_map (told_line h.by) us) tail) in
        let same : line.told ≡ u = p.0 in
        (us, ap (λ (x : ToldCase). x ∷ us) (sym same), each.1, p.1)

    lefts : (ts : List ToldCase) (tail : List ℕ) → AreToldCases h ts → NoCaseLine h tail → text ≡ flat_map (told_line h.by) ts ++ tail
        → (others : List ToldCase) × (ts ≡ (told ++ line.told ∷ []) ++ others) × AreToldCases h others × (more ≡ flat_map (told_line h.by) others ++ tail)
    lefts ts tail each none e =
        let (us, are, us_each, rest_is) = first.left ts tail each none e in
        let (others, same, others_each, more_is) = next us tail us_each none rest_is in
        (others, are ∙ ap (λ (xs : List ToldCase). told ++ xs) same ∙ sym (append_assoc told (line.told ∷ []) others), others_each, more_is)

each_push : (h : HeadValue) (ts : List ToldCase) (t : ToldCase) → AreToldCases h ts → IsToldCase h t → AreToldCases h (ts ++ t ∷ [])
each_push h [] t each own = (own, tt)
each_push h (x ∷ ts) t each own = (each.0, each_push h ts t each.1 own)

text_push : (way : By) (ts : List ToldCase) (t : ToldCase) (more : List ℕ) → flat_map (told_line way) (ts ++ t ∷ []) ++ more ≡ flat_map (told_line way) ts ++ (told_line way t ++ more)
text_push way [] t more = ap (λ (bs : List ℕ). bs ++ more) (append-nil (told_line way t))
text_push way (x ∷ ts) t more =
    append_assoc (told_line way x) (flat_map (told_line way) (ts ++ t ∷ [])) more
    ∙ ap (λ (bs : List ℕ). told_line way x ++ bs) (text_push way ts t more)
    ∙ sym (append_assoc (told_line way x) (flat_map (told_line way) ts) (told_line way t ++ more))

one_or_none : (b : Bool) → (if b then 1 else 0) ≤ 1
one_or_none true = omega arith
one_or_none false = omega arith

pub one_is_read : (h : HeadValue) (text rest more : List ℕ) (t : CaseTally) (f : CaseFront) → AreCasesRead h text t rest → IsCaseLine h rest f more → length more < length rest
    → AreCasesRead h text (one_told t f) more
one_is_read h text rest more t f read line less = record {
  told = read.told ++ line.told ∷ [];
  of_run = each_push h read.told line.told read.of_run line.of_run;
  is = read.is ∙ ap (λ (bs : List ℕ). flat_map (told_line h.by) read.told ++ bs) line.is ∙ sym (text_push h.by read.told line.told more);
  counted =
      let pushed : fronts_of (read.told ++ line.told ∷ []) ≡ fronts_of read.told ++ line.told.front ∷ [] = map-append (λ (x : ToldCase). x.front) read.told (line.told ∷ []) in
      rw (pushed, counted_push none_told (fronts_of read.told) line.told.front, read.counted, line.begins) refl;
  few = let before = read.few in omega (arith, before, less);
  fewer =
      let before = read.fewer in
      let one = one_or_none (is_new_cut t.last f.cut) in
      omega (arith, before, one);
  first = first_on h text rest more f read.told read.first line;
}

pub one_is_counted : (h : HeadValue) (text rest more : List ℕ) (t next : CaseTally) (f : CaseFront) → AreCasesRead h text t rest → IsCaseLine h rest f more → length more < length rest → next ≡ one_told t f
    → AreCasesRead h text next more
one_is_counted h text rest more t next f read line less counted = subst (λ (u : CaseTally). AreCasesRead h text u more) (sym counted) (one_is_read h text rest more t f read line less)
