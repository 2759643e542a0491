-- What records tell is told in one way, and where it is told nothing is refused but for want of memory.
use Rattle.std.proofs.Common.{ℕ, zero, suc, ◌≡◌, ◌+◌, ◌^◌, ◌<◌, ◌≤◌, if◌then◌else◌, Bool, true, false, List, [], ◌∷◌, ◌++◌, length, map, flat_map, sum_by, slice_get, Option, None, Some, refl, sym, ◌∙◌, ap, subst, arith}
use Rattle.std.specs.Prelude.{codes}
use Rattle.std.proofs.lemmas.Bool.{false≢true}
use Rattle.std.proofs.lemmas.List.{length-map}
use Rattle.std.proofs.lemmas.List.Sums.{sum_by-cons}
use Rattle.base.specs.declared.refusal.Refusal.{Refusal}
use Rattle.logfmt.specs.Bounds.{LogValue}
use Rattle.logfmt.specs.Laws.{TextOfOneLog}
use Rattle.epochs.specs.declared.part.By.{By}
use Rattle.epochs.specs.Units.{epoch_at, marks_at}
use Rattle.cases.specs.Cases.{Case}
use Rattle.cases.specs.AtCut.{CutValue, parts_of}
use Rattle.losses.specs.declared.found.Losses.{Losses}
use Rattle.losses.specs.FoundCases.{most_cases}
use Rattle.case_text.specs.Known.{known_of}
use Rattle.case_text.specs.Window.{case_window}
use Rattle.case_text.specs.Text.{are_all_cuts, in_word, place_text, number_text, known_text, window_text}
use Rattle.known.specs.declared.run.KnownRun.{KnownRun}
use Rattle.known.specs.declared.found.KnownAt.{KnownAt}
use Rattle.known.specs.declared.found.KnownFailing.{KnownFailing}
use Rattle.known.specs.declared.found.OpenCase.{OpenCase}
use Rattle.known.specs.declared.found.Stops.{Stops}
use Rattle.known.specs.declared.contradict.Contradiction.{Contradiction}
use Rattle.known.specs.Records.{RecordsValue}
use Rattle.known.specs.Contradictions.{contradict_at, IsFirst}
use Rattle.known.specs.Found.{IsKnownAt, AreFirstKnown, AreKnown, IsPast, AreTooMany, cases_at, cases_in}
use Rattle.known.specs.Once.{FailingCaseValue, failing_case_value, open_case, RunValue, run_value, SaySame, SameKnown, FoundIsOne}
use Rattle.known_text.specs.Records.{RanValue, ran_of}
use Rattle.known_text.specs.Texts.{HeadValue, IsKnownOnly}
use Rattle.request.specs.declared.settings.Settings.{Settings}
use Rattle.request.specs.Inputs.{head_given}
use Rattle.request.specs.Source.{Recording, HasImages}
use Rattle.known_runs.specs.declared.asked.KnownRunFault.{KnownRunFault}
use Rattle.known_runs.specs.Asked.{KnownAsked, asked_losses, asked_cuts}
use Rattle.known_runs.specs.Number.{source_of}
use Rattle.known_runs.specs.Totals.{count_stopped, totals_of, totals_text, status_of}
use Rattle.known_runs.specs.Text.{end_words, case_line, cut_lines, known_bytes, opening_lines, program_text}
use Rattle.known_runs.specs.Told as told
use Rattle.known_runs.specs.Told.{records_of, FindsBy, FindsKnown, TellsOf, TellsKnown, RefusesBy, RefusesOf, RefusesKnown}
use Rattle.known_runs.specs.Wanted.{WantedValue, wanted_at, wanted_in, wanted_view, wanted_bytes, WantsOf, TellsWanted}
use Rattle.commands.specs.Laws.{IsOfMemory}
use Rattle.commands.specs.Acting.{records_refusal}
use Rattle.commands.proofs.OneReport.{Below, same_recorded, same_log, of_source}

abbrev cut_value : LogValue → By → ℕ → CutValue
cut_value log way cut = record { log = log; way = way; cut = cut }

-- the same was found at each cut
abbrev FoundSame : LogValue → By → Bool → List KnownAt → List KnownAt → Type 0
FoundSame log way tears [] [] = Unit {0}
FoundSame log way tears [] (g ∷ gs) = ⊥
FoundSame log way tears (f ∷ fs) [] = ⊥
FoundSame log way tears (f ∷ fs) (g ∷ gs) = SameKnown (cut_value log way f.cut) tears f g × FoundSame log way tears fs gs

first_same : FoundIsOne → (asked : Losses) (log : LogValue) (way : By) (v w : RecordsValue) (stops : Stops) → SaySame v w → (cuts : List ℕ) (n : ℕ) (fs gs : List KnownAt)
    → AreFirstKnown asked log way cuts v stops n fs → AreFirstKnown asked log way cuts w stops n gs → n ≤ length cuts → FoundSame log way asked.tears fs gs
first_same law asked log way v w stops say cuts n [] [] a b few = tt
first_same law asked log way v w stops say cuts n [] (g ∷ gs) a b few = let here = a.count in let there = b.count in absurd (omega (arith, here, there))
first_same law asked log way v w stops say cuts n (f ∷ fs) [] a b few = let here = a.count in let there = b.count in absurd (omega (arith, here, there))
first_same law asked log way v w stops say [] n (f ∷ fs) (g ∷ gs) a b few = let here = a.count in absurd (omega (arith, here, few))
first_same law asked log way v w stops say (k ∷ ks) zero (f ∷ fs) (g ∷ gs) a b few = let here = a.count in absurd (omega (arith, here))
first_same law asked log way v w stops say (k ∷ ks) (suc n) (f ∷ fs) (g ∷ gs) a b few =
    let here = a.count in
    let there = b.count in
    let own = a.each 0 k f refl refl in (
      subst (λ m. SameKnown (cut_value log way m) asked.tears f g) (sym own.cut) (law.same asked (cut_value log way k) v w stops f g say own (b.each 0 k g refl refl)),
      first_same law asked log way v w stops say ks n fs gs (record { count = omega (arith, here); each = λ i j h one its. a.each (suc i) j h one its })
          (record { count = omega (arith, there); each = λ i j h one its. b.each (suc i) j h one its }) (omega (arith, few)),
    )

all_same : FoundIsOne → (asked : Losses) (log : LogValue) (way : By) (v w : RecordsValue) (stops : Stops) → SaySame v w → (cuts : List ℕ) (fs gs : List KnownAt)
    → AreKnown asked log way cuts v stops fs → AreKnown asked log way cuts w stops gs → FoundSame log way asked.tears fs gs
all_same law asked log way v w stops say cuts fs gs a b = first_same law asked log way v w stops say cuts (length cuts) fs gs a b (omega arith)

-- THE TEXT

-- the lines of the same cases are the same
unfoldable said_line : CutValue → Bool → FailingCaseValue → List ℕ
said_line at tears x =
    place_text at.cut (epoch_at at.log.entries at.cut) (marks_at at.log.entries at.cut) ++ number_text 0 x.number ++ end_words x.end
    ++ known_text at.way (known_of tears x.is (parts_of at)) ++ window_text (case_window at x.is) ++ codes "\n"

lines_said : (at : CutValue) (tears : Bool) (items : List KnownFailing) → flat_map (case_line at tears) items ≡ flat_map (said_line at tears) (map (failing_case_value at tears) items)
unfolding case_line said_line
lines_said at tears [] = refl
lines_said at tears (f ∷ items) = ap (λ (xs : List ℕ). case_line at tears f ++ xs) (lines_said at tears items)

same_lines : (log : LogValue) (way : By) (tears : Bool) (f g : KnownAt) → SameKnown (cut_value log way f.cut) tears f g → cut_lines log way tears f ≡ cut_lines log way tears g
same_lines log way tears f g same =
    let at = cut_value log way f.cut in
    lines_said at tears f.failing.items ∙ ap (flat_map (said_line at tears)) same.failing ∙ sym (lines_said at tears g.failing.items)
    ∙ ap (λ n. flat_map (case_line (cut_value log way n) tears) g.failing.items) same.cut

all_lines : (log : LogValue) (way : By) (tears : Bool) (fs gs : List KnownAt) → FoundSame log way tears fs gs → flat_map (cut_lines log way tears) fs ≡ flat_map (cut_lines log way tears) gs
all_lines log way tears [] [] same = refl
all_lines log way tears [] (g ∷ gs) same = absurd same
all_lines log way tears (f ∷ fs) [] same = absurd same
all_lines log way tears (f ∷ fs) (g ∷ gs) same = λ i. same_lines log way tears f g same.0 i ++ all_lines log way tears fs gs same.1 i

same_count : (log : LogValue) (way : By) (tears : Bool) (fs gs : List KnownAt) → FoundSame log way tears fs gs → length fs ≡ length gs
same_count log way tears [] [] same = refl
same_count log way tears [] (g ∷ gs) same = absurd same
same_count log way tears (f ∷ fs) [] same = absurd same
same_count log way tears (f ∷ fs) (g ∷ gs) same = ap suc (same_count log way tears fs gs same.1)

-- what is counted of the same is the same
same_sum : (log : LogValue) (way : By) (tears : Bool) (count : KnownAt → ℕ) → ((f g : KnownAt) → SameKnown (cut_value log way f.cut) tears f g → count f ≡ count g)
    → (fs gs : List KnownAt) → FoundSame log way tears fs gs → sum_by count fs ≡ sum_by count gs
same_sum log way tears count one [] [] same = refl
same_sum log way tears count one [] (g ∷ gs) same = absurd same
same_sum log way tears count one (f ∷ fs) [] same = absurd same
same_sum log way tears count one (f ∷ fs) (g ∷ gs) same =
    sum_by-cons count f fs ∙ (λ i. one f g same.0 i + same_sum log way tears count one fs gs same.1 i) ∙ sym (sum_by-cons count g gs)

failing_many : (at : CutValue) (tears : Bool) (f g : KnownAt) → SameKnown at tears f g → length f.failing.items ≡ length g.failing.items
failing_many at tears f g same =
    sym (length-map f.failing.items (failing_case_value at tears)) ∙ ap (λ (xs : List FailingCaseValue). length xs) same.failing ∙ length-map g.failing.items (failing_case_value at tears)

open_many : (at : CutValue) (tears : Bool) (f g : KnownAt) → SameKnown at tears f g → length f.open_cases.items ≡ length g.open_cases.items
open_many at tears f g same =
    sym (length-map f.open_cases.items (open_case at tears)) ∙ ap (λ (cs : List Case). length cs) same.are_open ∙ length-map g.open_cases.items (open_case at tears)

same_totals : (log : LogValue) (way : By) (tears : Bool) (fs gs : List KnownAt) → FoundSame log way tears fs gs → totals_of fs ≡ totals_of gs
unfolding totals_of
same_totals log way tears fs gs same =
    let sum = λ (count : KnownAt → ℕ) (one : (f g : KnownAt) → SameKnown (cut_value log way f.cut) tears f g → count f ≡ count g). same_sum log way tears count one fs gs same in
    let told = sum (λ (f : KnownAt). f.told) (λ f g one. one.told) in
    let failing = sum (λ (f : KnownAt). length f.failing.items) (λ f g one. failing_many (cut_value log way f.cut) tears f g one) in
    let torn = sum (λ (f : KnownAt). f.torn_beyond) (λ f g one. one.torn) in
    let lost = sum (λ (f : KnownAt). f.lost_beyond) (λ f g one. one.lost) in
    let untold = sum (λ (f : KnownAt). length f.open_cases.items) (λ f g one. open_many (cut_value log way f.cut) tears f g one) in
    let stopped = sum count_stopped (λ f g one. ap (λ (b : Bool). if b then 1 else 0) one.stopped) in
    λ i. record { told = in_word (told i); failing = in_word (failing i); torn = in_word (torn i); lost = in_word (lost i); untold = in_word (untold i); stopped = in_word (stopped i) }

-- THE RECORDS

abbrev ran_said : RanValue → RunValue
ran_said x = record { cut = x.cut; sets = x.sets; marks = x.marks; end = x.end; looked = x.looked }

runs_said : (runs : List KnownRun) → map run_value runs ≡ map ran_said (map ran_of runs)
runs_said [] = refl
runs_said (r ∷ runs) = ap (λ (xs : List RunValue). run_value r ∷ xs) (runs_said runs)

say_same : (a : KnownAsked) (plain : LogValue) (rs qs : List KnownRun) → map ran_of rs ≡ map ran_of qs → SaySame (records_of a plain rs) (records_of a plain qs)
say_same a plain rs qs same = record { log = refl; way = refl; runs = runs_said rs ∙ ap (map ran_said) same ∙ sym (runs_said qs) }

-- what is found of a log, and the head of the records, is one
pub record FindsSame (a : KnownAsked) (value : LogValue) (head other : Option HeadValue) (fs gs : List KnownAt) : Type 0 where
  pub head_is : head ≡ other
  pub found : FoundSame value a.settings.by a.settings.tears fs gs

finds_once : FoundIsOne → (a : KnownAsked) (value plain : LogValue) (head other : Option HeadValue) (fs gs : List KnownAt) → FindsKnown a value plain head fs → FindsKnown a value plain other gs
    → FindsSame a value head other fs gs
finds_once law a value plain head other fs gs x y =
    let only = x.read.only other (map ran_of y.runs) y.read.is in
    record {
      head_is = sym only.0;
      found = all_same law (asked_losses a) value a.settings.by (records_of a plain x.runs) (records_of a plain y.runs) a.stops (say_same a plain x.runs y.runs (sym only.1)) (asked_cuts a value) fs gs
          x.finds.are y.finds.are;
    }

-- the text, and its status
tells_once : FoundIsOne → (a : KnownAsked) (value plain : LogValue) (bytes others : List ℕ) (status ended : ℕ) → TellsOf a value plain bytes status → TellsOf a value plain others ended
    → (bytes ≡ others) × (status ≡ ended)
unfolding head_given
tells_once law a value plain bytes others status ended x y =
    let same = finds_once law a value plain x.head y.head x.found y.found x.finds y.finds in
    let way = a.settings.by in
    let tears = a.settings.tears in
    let totals = same_totals value way tears x.found y.found same.found in
    let h = head_given a.settings value in
    let text : known_bytes (source_of a plain).inputs h (asked_losses a) x.head value x.found ≡ known_bytes (source_of a plain).inputs h (asked_losses a) y.head value y.found =
    λ i. opening_lines (source_of a plain).inputs h (asked_losses a) ++ program_text (same.head_is i)
    ++ (all_lines value way tears x.found y.found same.found i ++ totals_text (are_all_cuts h.cuts) (same_count value way tears x.found y.found same.found i) (totals i)) in
    (x.text ∙ text ∙ sym y.text, x.is ∙ ap status_of totals ∙ sym y.is)

-- the images that are wanted
wanted_said : (log : LogValue) (way : By) (tears : Bool) (f : KnownAt) → wanted_at log way tears f ≡ map (λ (c : Case). record { cut = f.cut; is = c }) (map (open_case (cut_value log way f.cut) tears) f.open_cases.items)
wanted_said log way tears f = by f.open_cases.items
  where
    one : OpenCase → WantedValue
    one o = record { cut = f.cut; is = open_case (cut_value log way f.cut) tears o }

    by : (items : List OpenCase) → map one items ≡ map (λ (c : Case). record { cut = f.cut; is = c }) (map (open_case (cut_value log way f.cut) tears) items)
    by [] = refl
    by (o ∷ items) = ap (λ (ws : List WantedValue). one o ∷ ws) (by items)

same_wanted : (log : LogValue) (way : By) (tears : Bool) (f g : KnownAt) → SameKnown (cut_value log way f.cut) tears f g → wanted_at log way tears f ≡ wanted_at log way tears g
same_wanted log way tears f g same =
    wanted_said log way tears f ∙ ap (map (λ (c : Case). record { cut = f.cut; is = c })) same.are_open
    ∙ (λ i. map (λ (c : Case). record { cut = same.cut i; is = c }) (map (open_case (cut_value log way (same.cut i)) tears) g.open_cases.items)) ∙ sym (wanted_said log way tears g)

all_wanted : (log : LogValue) (way : By) (tears : Bool) (fs gs : List KnownAt) → FoundSame log way tears fs gs → wanted_in log way tears fs ≡ wanted_in log way tears gs
all_wanted log way tears [] [] same = refl
all_wanted log way tears [] (g ∷ gs) same = absurd same
all_wanted log way tears (f ∷ fs) [] same = absurd same
all_wanted log way tears (f ∷ fs) (g ∷ gs) same = λ i. same_wanted log way tears f g same.0 i ++ all_wanted log way tears fs gs same.1 i

wants_once : FoundIsOne → (a : KnownAsked) (value plain : LogValue) (bytes others : List ℕ) → WantsOf a value plain bytes → WantsOf a value plain others → bytes ≡ others
wants_once law a value plain bytes others x y =
    let same = finds_once law a value plain x.head y.head x.found y.found x.finds y.finds in
    x.text
    ∙ ap (λ (ws : List WantedValue). wanted_bytes (source_of a plain).inputs (record { log = value; way = a.settings.by; views = map (wanted_view value a.settings.by) ws }))
    (all_wanted value a.settings.by a.settings.tears x.found y.found same.found)
    ∙ sym y.text

-- OF A RECORDING

same_plain : TextOfOneLog → (text : Recording) (s : Settings) (v w : LogValue) → (a : HasImages text s v) → (b : HasImages text s w) → a.reads.read ≡ b.reads.read
same_plain texts text s v w a b = same_recorded texts text s a.reads.read b.reads.read a.reads.recorded b.reads.recorded

pub known_once : TextOfOneLog → FoundIsOne → (a : KnownAsked) (bytes others : List ℕ) (status ended : ℕ) → TellsKnown a bytes status → TellsKnown a others ended → (bytes ≡ others) × (status ≡ ended)
known_once texts law a bytes others status ended x y =
    let value = same_log texts a.text a.settings y.value x.value y.source x.source in
    let plain = same_plain texts a.text a.settings y.value x.value y.source x.source in
    let by_value = subst (λ (v : LogValue). TellsOf a v y.source.reads.read others ended) value y.tells in
    tells_once law a x.value x.source.reads.read bytes others status ended x.tells (subst (λ (p : LogValue). TellsOf a x.value p others ended) plain by_value)

pub wanted_once : TextOfOneLog → FoundIsOne → (a : KnownAsked) (bytes others : List ℕ) → TellsWanted a bytes → TellsWanted a others → bytes ≡ others
wanted_once texts law a bytes others x y =
    let value = same_log texts a.text a.settings y.value x.value y.source x.source in
    let plain = same_plain texts a.text a.settings y.value x.value y.source x.source in
    let by_value = subst (λ (v : LogValue). WantsOf a v y.source.reads.read others) value y.wants in
    wants_once law a x.value x.source.reads.read bytes others x.wants (subst (λ (p : LogValue). WantsOf a x.value p others) plain by_value)

-- WHAT IS REFUSED

same_cases_at : (at : CutValue) (tears : Bool) (f g : KnownAt) → SameKnown at tears f g → cases_at f ≡ cases_at g
same_cases_at at tears f g same =
    let told = same.told in
    let opened = open_many at tears f g same in
    omega (arith, told, opened)

-- where the search of a cut comes to more leaves than are left after the cuts before it, more are found in all
past_all : FoundIsOne → (asked : Losses) (log : LogValue) (way : By) (v w : RecordsValue) (stops : Stops) → SaySame v w → (cuts : List ℕ) (place cut rest : ℕ) (fs before : List KnownAt)
    → AreKnown asked log way cuts v stops fs → slice_get cuts place ≡ Some cut → AreFirstKnown asked log way cuts w stops place before → IsPast asked (cut_value log way cut) w stops rest
    → rest + cases_in before < cases_in fs
past_all law asked log way v w stops say [] place cut rest fs before a own b past = absurd (let bad : None ≡ Some cut = own in cc)
past_all law asked log way v w stops say (k ∷ ks) place cut rest [] before a own b past = absurd (let here = a.count in omega (arith, here))
past_all law asked log way v w stops say (k ∷ ks) zero cut rest (f ∷ fs) (g ∷ gs) a own b past = absurd (let there = b.count in omega (arith, there))
past_all law asked log way v w stops say (k ∷ ks) zero cut rest (f ∷ fs) [] a own b past =
    let both : Some k ≡ Some cut = own in
    let same : cut ≡ k = cc in
    let more = law.more asked (cut_value log way k) v w stops f rest say (a.each 0 k f refl refl) (subst (λ m. IsPast asked (cut_value log way m) w stops rest) same past) in
    let all = sum_by-cons cases_at f fs in
    omega (arith, more, all)
past_all law asked log way v w stops say (k ∷ ks) (suc place) cut rest (f ∷ fs) [] a own b past = absurd (let there = b.count in omega (arith, there))
past_all law asked log way v w stops say (k ∷ ks) (suc place) cut rest (f ∷ fs) (g ∷ gs) a own b past =
    let here = a.count in
    let there = b.count in
    let one = same_cases_at (cut_value log way k) asked.tears f g (law.same asked (cut_value log way k) v w stops f g say (a.each 0 k f refl refl) (b.each 0 k g refl refl)) in
    let more = past_all law asked log way v w stops say ks place cut rest fs gs (record { count = omega (arith, here); each = λ i j h own its. a.each (suc i) j h own its }) own
    (record { count = omega (arith, there); each = λ i j h own its. b.each (suc i) j h own its }) past in
    let all = sum_by-cons cases_at f fs in
    let first = sum_by-cons cases_at g gs in
    omega (arith, one, more, all, first)

not_contrary : FoundIsOne → (a : KnownAsked) (plain : LogValue) (rs qs : List KnownRun) (found : Contradiction) → SaySame (records_of a plain rs) (records_of a plain qs)
    → told.NoneContradicts (records_of a plain rs) → IsFirst (records_of a plain qs) found → ⊥
not_contrary law a plain rs qs found say none is =
    false≢true (
    sym (none found.later found.earlier is.is.before) ∙ law.against (records_of a plain rs) (records_of a plain qs) found.earlier found.later say ∙ is.is.own
    )

-- records of which something is told
of_records : FoundIsOne → (a : KnownAsked) (value plain : LogValue) (rs qs : List KnownRun) (fs : List KnownAt) (f : KnownRunFault) → SaySame (records_of a plain rs) (records_of a plain qs)
    → FindsBy a value plain rs fs → RefusesBy a value plain qs f → IsOfMemory (records_refusal f).code
of_records law a value plain rs qs fs _ say h (told.for_contradiction found is) = absurd (not_contrary law a plain rs qs found say h.agree is)
of_records law a value plain rs qs fs _ say h (told.for_cases cut none many) =
    absurd (
    let few = h.few in
    let counted = many.counted in
    let more = past_all law (asked_losses a) value a.settings.by (records_of a plain rs) (records_of a plain qs) a.stops say (asked_cuts a value) many.place cut many.rest fs many.before h.are many.own many.are
    many.past in
    omega (arith, few, counted, more)
    )
of_records law a value plain rs qs fs _ say h told.no_search_memory = refl

of_text : FoundIsOne → (a : KnownAsked) (value plain : LogValue) (head : Option HeadValue) (fs : List KnownAt) (f : KnownRunFault) → FindsKnown a value plain head fs → RefusesOf a value plain f
    → IsOfMemory (records_refusal f).code
of_text law a value plain head fs _ h (told.for_text f refused) = absurd (refused.none head (map ran_of h.runs) h.read.is)
of_text law a value plain head fs f h (told.for_records f other runs read why) =
    let only = h.read.only other (map ran_of runs) read.is in
    of_records law a value plain h.runs runs fs f (say_same a plain h.runs runs (sym only.1)) h.finds why
of_text law a value plain head fs _ h told.no_memory = refl

-- of a recording of which records tell something
known_or_refusal : Below → FoundIsOne → (a : KnownAsked) (value : LogValue) (f : KnownRunFault) → length a.records ≤ 2 ^ 30 → (source : HasImages a.text a.settings value)
    → ((g : KnownRunFault) → RefusesOf a value source.reads.read g → IsOfMemory (records_refusal g).code) → RefusesKnown a f → IsOfMemory (records_refusal f).code
known_or_refusal below law a value _ short source rest (told.too_long long) = absurd (omega (arith, short, long))
known_or_refusal below law a value _ short source rest (told.for_source r few why) = of_source below a.text a.settings value r source why
known_or_refusal below law a value f short source rest (told.for_rest f other there few why) =
    let same = same_log below.texts a.text a.settings other value there source in
    let plain = same_plain below.texts a.text a.settings other value there source in
    let by_value = subst (λ (v : LogValue). RefusesOf a v there.reads.read f) same why in
    rest f (subst (λ (p : LogValue). RefusesOf a value p f) plain by_value)

pub told_or_refusal : Below → FoundIsOne → (a : KnownAsked) (bytes : List ℕ) (status : ℕ) (f : KnownRunFault) → TellsKnown a bytes status → RefusesKnown a f → IsOfMemory (records_refusal f).code
told_or_refusal below law a bytes status f h why =
    known_or_refusal below law a h.value f h.short h.source (λ g. of_text law a h.value h.source.reads.read h.tells.head h.tells.found g h.tells.finds) why

pub wanted_or_refusal : Below → FoundIsOne → (a : KnownAsked) (bytes : List ℕ) (f : KnownRunFault) → TellsWanted a bytes → RefusesKnown a f → IsOfMemory (records_refusal f).code
wanted_or_refusal below law a bytes f h why =
    known_or_refusal below law a h.value f h.short h.source (λ g. of_text law a h.value h.source.reads.read h.wants.head h.wants.found g h.wants.finds) why
