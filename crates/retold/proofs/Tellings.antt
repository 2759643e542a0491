-- What is told of a report, part after part.
use Rattle.std.proofs.Common.{ℕ, ◌≡◌, ◌+◌, ◌<◌, List, map, flat_map, [], ◌∷◌, ◌++◌, codes, length, length-append, slice_get, Option, None, Some, append_assoc, append-nil, refl, sym, ◌∙◌, ap, subst, inl, inr, arith}
use Rattle.epochs.specs.declared.part.By.{By}
use Rattle.std.specs.Option.{option_map, option_map_or, option_and_then}
use Rattle.std.proofs.lemmas.Option.{slice_get-map}
use Rattle.choices.specs.declared.choice.Departure.{Departure}
use Rattle.choices.specs.Choices.{ChoiceValue, ranked_choices}
use Rattle.choices.specs.Sums.{StartsValue}
use Rattle.report.specs.ChoiceText.{departures_text}
use Rattle.losses.specs.declared.flushes.counted.MissingFlush.{MissingFlush}
use Rattle.losses.specs.declared.cure.failure.Failure.{Failure}
use Rattle.losses.specs.CureText.{programs_text, missing_text, flush_line, uncured_at}
use Rattle.losses.specs.Causes.{causes_from, TellsPrograms}
use Rattle.join.specs.declared.given.told.GivenLine.{GivenLine}
use Rattle.join.specs.Given.{GivenValue, ToldLine, line_told, told_line}
use Rattle.join.specs.Reading.{words_text}
use Rattle.join.proofs.ToldLines.{body_is}
use Rattle.retold.specs.Told.{images_told_of, outcomes_told_of, opening_told, count_of, AreMissingFor, TellsWhy, TellsPlaces, uncured_told, end_told, entries_told, untried_line, AreOfRun}

-- the whole text, part after part
pub why_told : (s : StartsValue) (g : GivenValue) (ts : List ToldLine) (fs : List Failure) (ms : List MissingFlush) (count : ℕ) (none begun missing all bytes : List ℕ)
    → AreMissingFor s ts fs ms → none ≡ [] → begun ≡ none ++ opening_told g → missing ≡ begun ++ missing_text count fs ms → TellsPrograms s (λ program. images_told_of program ts) (λ program. outcomes_told_of program ts) count missing all
    → ts ≡ g.lines → count ≡ count_of g → bytes ≡ all → TellsWhy s g bytes
why_told s g ts fs ms count none begun missing all bytes are empty begins goes tells lines many is =
    let own = subst (λ (xs : List ToldLine). TellsPrograms s (λ program. images_told_of program xs) (λ program. outcomes_told_of program xs) count missing all) lines tells in
    record {
      failures = fs;
      missing = ms;
      are_missing = subst (λ (xs : List ToldLine). AreMissingFor s xs fs ms) lines are;
      causes = own.causes;
      all = own.all ∙ many;
      each = own.each;
      text = is ∙ own.text
          ∙ ap (λ (bs : List ℕ). bs ++ causes_from s (λ program. outcomes_told_of program g.lines) 0 own.causes)
          (goes ∙ ap (λ (bs : List ℕ). bs ++ missing_text count fs ms) (begins ∙ ap (λ (bs : List ℕ). bs ++ opening_told g) empty)
          ∙ ap (λ (n : ℕ). opening_told g ++ missing_text n fs ms) many)
          ∙ append_assoc (opening_told g) (missing_text (count_of g) fs ms) (causes_from s (λ program. outcomes_told_of program g.lines) 0 own.causes);
    }

pub places_told : (added : List ℕ) (s : StartsValue) (g : GivenValue) (ts : List ToldLine) (fs : List Failure) (ms : List MissingFlush) (count : ℕ) (none a b c d e f bytes : List ℕ)
    → AreMissingFor s ts fs ms → none ≡ [] → a ≡ none ++ codes "crash cure 1\n" → b ≡ a ++ g.head → c ≡ b ++ programs_text count fs → d ≡ c ++ uncured_told s ts fs
    → e ≡ d ++ flat_map (flush_line 1) ms → f ≡ e ++ end_told added g ms → ts ≡ g.lines → count ≡ count_of g → bytes ≡ f → TellsPlaces added s g bytes
places_told added s g ts fs ms count none a b c d e f bytes are empty one two three four five six lines many is =
    let title : List ℕ = codes "crash cure 1\n" in
    record {
      failures = fs;
      missing = ms;
      are_missing = subst (λ (xs : List ToldLine). AreMissingFor s xs fs ms) lines are;
      text = is ∙ six
          ∙ ap (λ (bs : List ℕ). bs ++ end_told added g ms)
          (five ∙ ap (λ (bs : List ℕ). bs ++ flat_map (flush_line 1) ms)
          (four ∙ ap (λ (bs : List ℕ). bs ++ uncured_told s ts fs)
          (three ∙ ap (λ (bs : List ℕ). bs ++ programs_text count fs)
          (two ∙ ap (λ (bs : List ℕ). bs ++ g.head) (one ∙ ap (λ (bs : List ℕ). bs ++ title) empty)))))
          ∙ (λ i. title ++ g.head ++ programs_text (many i) fs ++ uncured_told s (lines i) fs ++ flat_map (flush_line 1) ms ++ end_told added g ms)
          ∙ grouped title g.head (programs_text (count_of g) fs) (uncured_told s g.lines fs) (flat_map (flush_line 1) ms) (end_told added g ms);
    }
  where
    grouped : (u v w x y z : List ℕ) → u ++ v ++ w ++ x ++ y ++ z ≡ u ++ (v ++ (w ++ (x ++ (y ++ z))))
    grouped u v w x y z = simp append_assoc

-- pieces of a text

pub opening_is : (g : GivenValue) (old a b new : List ℕ) → a ≡ old ++ codes "crash why 2\n" → b ≡ a ++ g.head → new ≡ b ++ g.last → new ≡ old ++ opening_told g
unfolding opening_told
opening_is g old a b new one two three =
    three ∙ ap (λ (bs : List ℕ). bs ++ g.last) (two ∙ ap (λ (bs : List ℕ). bs ++ g.head) one) ∙ grouped old (codes "crash why 2\n") g.head g.last
  where
    grouped : (u v w x : List ℕ) → u ++ v ++ w ++ x ≡ u ++ (v ++ (w ++ x))
    grouped u v w x = simp append_assoc

pub untried_is : (entries old a b new : List ℕ) → a ≡ old ++ codes "untried --flush " → b ≡ a ++ entries_told entries → new ≡ b ++ codes "\n" → new ≡ old ++ untried_line entries
unfolding untried_line
untried_is entries old a b new one two three =
    three ∙ ap (λ (bs : List ℕ). bs ++ codes "\n") (two ∙ ap (λ (bs : List ℕ). bs ++ entries_told entries) one) ∙ grouped old (codes "untried --flush ") (entries_told entries) (codes "\n")
  where
    grouped : (u v w x : List ℕ) → u ++ v ++ w ++ x ≡ u ++ (v ++ w ++ x)
    grouped u v w x = simp append_assoc

pub line_printed : (s : StartsValue) (t : ToldLine) (c : ChoiceValue) (cut : ℕ) (way : By) (ds : List Departure) (old a b d new : List ℕ)
    → slice_get (ranked_choices s.plan s.bound s.tears) t.mark.image ≡ Some c → way ≡ s.plan.by → cut ≡ c.cut → ds ≡ c.departures
    → a ≡ old ++ words_text (record { image = t.mark.image; cut = cut; program = t.mark.program }) → b ≡ a ++ (t.outcome ++ codes " choice ") → d ≡ b ++ departures_text way ds → new ≡ d ++ codes "\n"
    → new ≡ old ++ told_line s t
unfolding told_line
line_printed s t c cut way ds old a b d new there kind at departs one two three four =
    four ∙ ap (λ (bs : List ℕ). bs ++ codes "\n")
    (three ∙ ap (λ (bs : List ℕ). bs ++ departures_text way ds) (two ∙ ap (λ (bs : List ℕ). bs ++ (t.outcome ++ codes " choice ")) one))
    ∙ (λ i. old ++ words_text (record { image = t.mark.image; cut = at i; program = t.mark.program }) ++ (t.outcome ++ codes " choice ") ++ departures_text (kind i) (departs i) ++ codes "\n")
    ∙ grouped old (words_text (record { image = t.mark.image; cut = c.cut; program = t.mark.program })) t.outcome (departures_text s.plan.by c.departures)
    ∙ ap (λ (bs : List ℕ). old ++ (bs ++ codes "\n")) (sym (body_is s t c there))
  where
    grouped : (u v w x : List ℕ) → u ++ v ++ (w ++ codes " choice ") ++ x ++ codes "\n" ≡ u ++ ((v ++ (w ++ codes " choice " ++ x)) ++ codes "\n")
    grouped u v w x = simp append_assoc

-- the line of the first failure without a window

told_there : (lines : List GivenLine) (n : ℕ) (l : GivenLine) → slice_get lines n ≡ Some l → slice_get (map line_told lines) n ≡ Some (line_told l)
told_there lines n l there = slice_get-map line_told lines n ∙ ap (option_map line_told) there

none_told : (lines : List GivenLine) (n : ℕ) → slice_get lines n ≡ None → slice_get (map line_told lines) n ≡ None
none_told lines n there = slice_get-map line_told lines n ∙ ap (option_map line_told) there

abbrev line_of : StartsValue → Option ToldLine → List ℕ
line_of s o = option_map_or (λ (t : ToldLine). codes "no flush cures " ++ told_line s t) o []

pub none_uncured : (s : StartsValue) (lines : List GivenLine) (fs : List Failure) (found : Option ℕ) (old : List ℕ) → found ≡ uncured_at fs → found ≡ None → old ≡ old ++ uncured_told s (map line_told lines) fs
none_uncured s lines fs found old is none =
    sym (append-nil old) ∙ ap (λ (o : Option ℕ). old ++ line_of s (option_and_then (λ (n : ℕ). slice_get (map line_told lines) n) o)) (sym none ∙ is)

pub uncured_past : (s : StartsValue) (lines : List GivenLine) (fs : List Failure) (found : Option ℕ) (n : ℕ) (old : List ℕ) → found ≡ uncured_at fs → found ≡ Some n → slice_get lines n ≡ None
    → old ≡ old ++ uncured_told s (map line_told lines) fs
uncured_past s lines fs found n old is some past =
    sym (append-nil old) ∙ ap (λ (o : Option ToldLine). old ++ line_of s o) (sym (none_told lines n past))
    ∙ ap (λ (o : Option ℕ). old ++ line_of s (option_and_then (λ (k : ℕ). slice_get (map line_told lines) k) o)) (sym some ∙ is)

pub uncured_is : (s : StartsValue) (lines : List GivenLine) (fs : List Failure) (found : Option ℕ) (n : ℕ) (l : GivenLine) (old a new : List ℕ) → found ≡ uncured_at fs → found ≡ Some n → slice_get lines n ≡ Some l
    → a ≡ old ++ codes "no flush cures " → new ≡ a ++ told_line s (line_told l) → new ≡ old ++ uncured_told s (map line_told lines) fs
uncured_is s lines fs found n l old a new is some there one two =
    two ∙ ap (λ (bs : List ℕ). bs ++ told_line s (line_told l)) one ∙ append_assoc old (codes "no flush cures ") (told_line s (line_told l))
    ∙ ap (λ (o : Option ToldLine). old ++ line_of s o) (sym (told_there lines n l there))
    ∙ ap (λ (o : Option ℕ). old ++ line_of s (option_and_then (λ (k : ℕ). slice_get (map line_told lines) k) o)) (sym some ∙ is)

pub line_within : (s : StartsValue) (lines : List GivenLine) (n : ℕ) (l : GivenLine) → AreOfRun s (map line_told lines) → slice_get lines n ≡ Some l → l.mark.image < length (ranked_choices s.plan s.bound s.tears)
line_within s lines n l of_run there = of_run.within n (line_told l) (told_there lines n l there)
