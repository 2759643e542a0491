-- Programs that pass without looking at what a log writes.
use Rattle.std.proofs.Common.{ℕ, suc, ◌≡◌, ◌+◌, ◌==◌, ◌≤◌, ◌<◌, nat_le, nat_lt, Bool, true, false, not, ◌&&◌, ◌||◌, List, [], ◌∷◌, ◌++◌, length, map, take, get_or, slice_get, Option, Some, None, refl, sym, ap, ◌∙◌, subst, arith}
use Rattle.std.specs.List.{list_all}
use Rattle.std.specs.Option.{option_map_or}
use Rattle.std.proofs.lemmas.Bool.Decides.{nat_tests}
use Rattle.std.proofs.lemmas.List.{length-map, take_all}
use Rattle.std.proofs.lemmas.List.Folds.{list_all-append, list_all_more, list_all_at}
use Rattle.std.proofs.lemmas.Option.{slice_get_within, get_or_from_slice_get, slice_get-get_or, same_Some}
use Rattle.logfmt.specs.declared.entry.Entry.{Entry}
use Rattle.logfmt.specs.Bounds.{LogValue, IsLog}
use Rattle.epochs.specs.Parts.{volatile_parts}
use Rattle.epochs.specs.Cuts.{cuts_of}
use Rattle.epochs.specs.Plan.{PlanValue}
use Rattle.choices.specs.declared.choice.Departure.{Departure}
use Rattle.choices.specs.Picks.{fates_of, picks_within, ranked_picks}
use Rattle.choices.specs.Ways.{ways, ways_below}
use Rattle.choices.specs.Choices.{ChoiceValue, choice_of, choices_at, ranked_choices, ranked_before, ranked_at}
use Rattle.choices.proofs.Ranks.{at_fewer}
use Rattle.choices.proofs.Plans.{found_choice, stands}
use Rattle.helpers.specs.Footprint.{lists}
use Rattle.images.specs.Covering.{HasCovering, CoveringTells}
use Rattle.images.specs.Laws.{ImagesAreDevices}
use Rattle.images.specs.Table.{AreParts}
use Rattle.images.specs.Views.{ViewValue, view_of, sectors_of, context_at}
use Rattle.images.proofs.Members.{member_parts}
use Rattle.epochs.specs.Touching.{covers as part_covers}
use Rattle.machine.specs.Outcome.{Ending, fails}
use Rattle.checker.specs.Checker.{CheckerValue}
use Rattle.checker.specs.Footprints.{AgreeingAreJudgedAlike, AgreeAt}
use Rattle.report.specs.Line.{FailingLine}
use Rattle.workers.specs.Failing.{Subject, choices_of, ending_at, failing_lines}
use Rattle.workers.specs.Laws.{IsFailing, LinesAreSet}
use Rattle.request.specs.declared.settings.Settings.{Settings}
use Rattle.request.specs.Source.{Recording, HasImages, plan_of}
use Rattle.runs.specs.declared.explore_command.WantedAnswer.{WantedAnswer}
use Rattle.runs.specs.Explore.{AreCheckersOf}
use Rattle.runs.specs.Blind.{covers, is_bare, whole_at, ending_on, looks_on, is_blind_at, is_blind, blind_found, FindsBlind, BlindProgramsPass}

-- a test of all elements, one after the other
pub all_next : {X : Type 0} (p : X → Bool) (xs : List X) (i : ℕ) (x : X) → slice_get xs i ≡ Some x → list_all p (take i xs) ≡ true → p x ≡ true
    → list_all p (take (i + 1) xs) ≡ true
all_next p xs i x there all is =
    list_all_more p xs i x (slice_get_within xs i x there) ∙ ap (λ (b : Bool). b && p (get_or xs i x)) all ∙ ap p (get_or_from_slice_get xs i x x there) ∙ is

pub one_not : {X : Type 0} (p : X → Bool) (xs : List X) (i : ℕ) (x : X) → slice_get xs i ≡ Some x → p x ≡ false → list_all p xs ≡ false
one_not p xs i x there is = list_all_at p xs i x (slice_get_within xs i x there) (ap p (get_or_from_slice_get xs i x x there) ∙ is)

pub all_of : {X : Type 0} (p : X → Bool) (xs : List X) (i : ℕ) → length xs ≤ i → list_all p (take i xs) ≡ true → list_all p xs ≡ true
all_of p xs i past all = ap (list_all p) (sym (take_all i xs past)) ∙ all

-- what is known of sectors, of one of them and with one more
pub known_bare : (es : List Entry) (known : List ℕ) (n : ℕ) → lists known n ≡ true → list_all (is_bare es) known ≡ true → is_bare es n ≡ true
known_bare es [] n found all = absurd (let bad : false ≡ true = found in cc)
known_bare es (m ∷ ms) n found all = by (known_bare es ms n) (m == n) refl found (is_bare es m) refl all
  where
    by : (lists ms n ≡ true → list_all (is_bare es) ms ≡ true → is_bare es n ≡ true) → (b : Bool) → (m == n) ≡ b → (b || lists ms n) ≡ true
        → (a : Bool) → is_bare es m ≡ a → (a && list_all (is_bare es) ms) ≡ true → is_bare es n ≡ true
    by rest b e f false g h = absurd (let bad : false ≡ true = h in cc)
    by rest true e f true g h = let same : m ≡ n = grind (arith, nat_tests) in subst (λ (k : ℕ). is_bare es k ≡ true) same g
    by rest false e f true g h = rest f h

pub known_more : (es : List Entry) (known : List ℕ) (n : ℕ) → list_all (is_bare es) known ≡ true → is_bare es n ≡ true → list_all (is_bare es) (known ++ n ∷ []) ≡ true
known_more es known n all is =
    list_all-append (is_bare es) known (n ∷ []) ∙ ap (λ (b : Bool). b && list_all (is_bare es) (n ∷ [])) all ∙ ap (λ (b : Bool). b && true) is

-- The choice of a wanted cut in which nothing departs.

none_first : (m b v : ℕ) → slice_get (picks_within m b v) 0 ≡ Some []
unfolding ways ways_below ranked_picks
none_first m b v = let one : 0 < 1 = omega arith in at_fewer m (suc b) v 0 0 (omega arith) one

first_choice : (plan : PlanValue) (b : ℕ) (tears : Bool) (place cut : ℕ) → slice_get (cuts_of plan.kind plan.log.entries) place ≡ Some cut
    → slice_get (ranked_choices plan b tears) (length (ranked_before plan b tears place)) ≡ Some (choice_of plan.by plan.log.entries place cut [])
unfolding ranked_at choices_at
first_choice plan b tears place cut wanted =
    let way = plan.by in
    let es = plan.log.entries in
    let m = fates_of tears in
    let v : ℕ = length (volatile_parts way es cut) in
    let first = none_first m b v in
    let within : 0 < length (picks_within m b v) = slice_get_within (picks_within m b v) 0 [] first in
    found_choice plan b tears (length (ranked_before plan b tears place)) place 0
    (record { cut = cut; wanted = wanted; sum = omega arith; within = omega (arith, within, length-map (picks_within m b v) (choice_of way es 0 cut)) })
    cut wanted [] first

pub first_inside : (plan : PlanValue) (b : ℕ) (tears : Bool) (place first : ℕ) → place < length (cuts_of plan.kind plan.log.entries)
    → first ≡ length (ranked_before plan b tears place) → first < length (ranked_choices plan b tears)
first_inside plan b tears place first lt is =
    let cuts = cuts_of plan.kind plan.log.entries in
    let cut : ℕ = get_or cuts place 0 in
    let there = first_choice plan b tears place cut (slice_get-get_or cuts place 0 lt) in
    let within = slice_get_within (ranked_choices plan b tears) (length (ranked_before plan b tears place)) (choice_of plan.by plan.log.entries place cut []) there in
    omega (arith, within, is)

pub whole_view : (plan : PlanValue) (b : ℕ) (tears : Bool) (place first cut : ℕ) (choice : ChoiceValue) → first ≡ length (ranked_before plan b tears place)
    → slice_get (ranked_choices plan b tears) first ≡ Some choice → slice_get (cuts_of plan.kind plan.log.entries) place ≡ Some cut → view_of plan choice ≡ whole_at plan.log cut
unfolding choice_of
whole_view plan b tears place first cut choice is there wanted =
    let own : ChoiceValue = choice_of plan.by plan.log.entries place cut [] in
    let same : choice ≡ own = same_Some choice own (sym there ∙ ap (slice_get (ranked_choices plan b tears)) is ∙ first_choice plan b tears place cut wanted) in
    ap (view_of plan) same

-- What a run on its image comes to.

at_cut : (starts plan : PlanValue) (log : LogValue) (place cut : ℕ) → starts ≡ plan → plan.log ≡ log → slice_get (cuts_of plan.kind log.entries) place ≡ Some cut
    → slice_get (cuts_of starts.kind starts.log.entries) place ≡ Some cut
at_cut starts plan log place cut same of_log wanted =
    ap (λ (p : PlanValue). slice_get (cuts_of p.kind p.log.entries) place) same ∙ ap (λ (l : LogValue). slice_get (cuts_of plan.kind l.entries) place) of_log ∙ wanted

blind_of : (checker : CheckerValue) (log : LogValue) (starts plan : PlanValue) (view : ViewValue) (entries : List Entry) (cut : ℕ)
    (ending : Ending) (sectors : Option (List ℕ)) (result : Bool) → starts ≡ plan → plan.log ≡ log → entries ≡ log.entries → view ≡ whole_at starts.log cut
    → ending ≡ ending_on checker view → sectors ≡ looks_on checker view
    → result ≡ (not (fails ending) && option_map_or (list_all (is_bare entries)) sectors false) → result ≡ is_blind_at checker log cut
unfolding is_blind_at
blind_of checker log starts plan view entries cut ending sectors result same of_log entries_is whole ends looks is =
    let at : view ≡ whole_at log cut = whole ∙ ap (λ (l : LogValue). whole_at l cut) (ap (λ (p : PlanValue). p.log) same ∙ of_log) in
    is
    ∙ ap (λ (e : Ending). not (fails e) && option_map_or (list_all (is_bare entries)) sectors false) (ends ∙ ap (ending_on checker) at)
    ∙ ap (λ (o : Option (List ℕ)). not (fails (ending_on checker (whole_at log cut))) && option_map_or (list_all (is_bare entries)) o false) (looks ∙ ap (looks_on checker) at)
    ∙ ap (λ (es : List Entry). not (fails (ending_on checker (whole_at log cut))) && option_map_or (list_all (is_bare es)) (looks_on checker (whole_at log cut)) false) entries_is

-- At all wanted cuts.

and_false : (b : Bool) → (b && false) ≡ false
and_false true = refl
and_false false = refl

and_true : (b : Bool) → (b && true) ≡ b
and_true true = refl
and_true false = refl

-- of a run it is known at a wanted cut
abbrev pub IsKnownAt : CheckerValue → LogValue → List ℕ → ℕ → Bool → Type 0
IsKnownAt checker log cuts place blind = (cut : ℕ) → slice_get cuts place ≡ Some cut → blind ≡ is_blind_at checker log cut

pub known_of : (checker : CheckerValue) (log : LogValue) (starts plan : PlanValue) (view : ViewValue) (entries : List Entry) (place : ℕ)
    (ending : Ending) (sectors : Option (List ℕ)) (result : Bool) → starts ≡ plan → plan.log ≡ log → entries ≡ log.entries
    → ((cut : ℕ) → slice_get (cuts_of starts.kind starts.log.entries) place ≡ Some cut → view ≡ whole_at starts.log cut)
    → ending ≡ ending_on checker view → sectors ≡ looks_on checker view
    → result ≡ (not (fails ending) && option_map_or (list_all (is_bare entries)) sectors false) → IsKnownAt checker log (cuts_of plan.kind log.entries) place result
known_of checker log starts plan view entries place ending sectors result same of_log entries_is whole ends looks is =
    λ cut wanted.
    blind_of checker log starts plan view entries cut ending sectors result same of_log entries_is (whole cut (at_cut starts plan log place cut same of_log wanted)) ends looks is

-- what stands bare by a list of the entries stands so by the same list
pub same_bare : (es fs : List Entry) (known : List ℕ) → es ≡ fs → list_all (is_bare es) known ≡ true → list_all (is_bare fs) known ≡ true
same_bare es fs known same bare = subst (λ (gs : List Entry). list_all (is_bare gs) known ≡ true) same bare

-- a place of the cuts of a plan is one of the cuts of its log
pub place_inside : (plan : PlanValue) (log : LogValue) (own : List ℕ) (place : ℕ) → plan.log ≡ log → own ≡ cuts_of plan.kind plan.log.entries → place < length own
    → place < length (cuts_of plan.kind log.entries)
place_inside plan log own place of_log is lt = subst (λ (l : LogValue). place < length (cuts_of plan.kind l.entries)) of_log (subst (λ (ks : List ℕ). place < length ks) is lt)

pub blind_not : (plan : PlanValue) (log : LogValue) (checker : CheckerValue) (place : ℕ) (blind : Bool) → plan.log ≡ log → place < length (cuts_of plan.kind log.entries)
    → IsKnownAt checker log (cuts_of plan.kind log.entries) place blind → blind ≡ false → false ≡ is_blind plan checker
unfolding is_blind
blind_not plan log checker place blind of_log lt known is =
    let cuts = cuts_of plan.kind log.entries in
    let cut : ℕ = get_or cuts place 0 in
    let there = slice_get-get_or cuts place 0 lt in
    let one : list_all (is_blind_at checker log) cuts ≡ false = one_not (is_blind_at checker log) cuts place cut there (sym (known cut there) ∙ is) in
    let some : Bool = not (length cuts == 0) in
    let Says : LogValue → Type 0 = λ l. false ≡ (not (length (cuts_of plan.kind l.entries) == 0) && list_all (is_blind_at checker l) (cuts_of plan.kind l.entries)) in
    subst Says (sym of_log) (sym (ap (λ (b : Bool). some && b) one ∙ and_false some))

pub blind_next : (checker : CheckerValue) (log : LogValue) (cuts : List ℕ) (place : ℕ) (blind : Bool) → place < length cuts → IsKnownAt checker log cuts place blind
    → list_all (is_blind_at checker log) (take place cuts) ≡ true → blind ≡ true → list_all (is_blind_at checker log) (take (place + 1) cuts) ≡ true
blind_next checker log cuts place blind lt known before is =
    let cut : ℕ = get_or cuts place 0 in
    let there = slice_get-get_or cuts place 0 lt in
    all_next (is_blind_at checker log) cuts place cut there before (sym (known cut there) ∙ is)

pub blind_all : (plan : PlanValue) (log : LogValue) (checker : CheckerValue) (place : ℕ) (own : List ℕ) (empty : Bool) → plan.log ≡ log → own ≡ cuts_of plan.kind plan.log.entries
    → length own ≤ place → list_all (is_blind_at checker log) (take place (cuts_of plan.kind log.entries)) ≡ true → empty ≡ (length own == 0) → not empty ≡ is_blind plan checker
unfolding is_blind
blind_all plan log checker place own empty of_log own_is past all is =
    let cuts = cuts_of plan.kind log.entries in
    let same : own ≡ cuts = own_is ∙ ap (λ (l : LogValue). cuts_of plan.kind l.entries) of_log in
    let some : Bool = not (length cuts == 0) in
    let whole : list_all (is_blind_at checker log) cuts ≡ true = all_of (is_blind_at checker log) cuts place (omega (arith, past, ap length same)) all in
    let here : not empty ≡ some = ap not is ∙ ap (λ (ks : List ℕ). not (length ks == 0)) same in
    let Says : LogValue → Type 0 = λ l. not empty ≡ (not (length (cuts_of plan.kind l.entries) == 0) && list_all (is_blind_at checker l) (cuts_of plan.kind l.entries)) in
    subst Says (sym of_log) (here ∙ sym (ap (λ (b : Bool). some && b) whole ∙ and_true some))

-- A blind program comes to the same on each image of a cut.

pub and_first : (a b : Bool) → (a && b) ≡ true → a ≡ true
and_first true b h = refl
and_first false b h = absurd (let bad : false ≡ true = h in cc)

pub and_second : (a b : Bool) → (a && b) ≡ true → b ≡ true
and_second true b h = h
and_second false b h = absurd (let bad : false ≡ true = h in cc)

pub all_at : {X : Type 0} (p : X → Bool) (xs : List X) (i : ℕ) (x : X) → list_all p xs ≡ true → slice_get xs i ≡ Some x → p x ≡ true
all_at p xs i x all there = by (p x) refl
  where
    by : (b : Bool) → p x ≡ b → b ≡ true
    by true e = refl
    by false e = absurd (let bad : false ≡ true = sym (one_not p xs i x there e) ∙ all in cc)

-- at a wanted cut
known_at : (plan : PlanValue) (checker : CheckerValue) (place cut : ℕ) → is_blind plan checker ≡ true → slice_get (cuts_of plan.kind plan.log.entries) place ≡ Some cut
    → is_blind_at checker plan.log cut ≡ true
unfolding is_blind
known_at plan checker place cut blind wanted =
    let cuts = cuts_of plan.kind plan.log.entries in
    all_at (is_blind_at checker plan.log) cuts place cut (and_second (not (length cuts == 0)) (list_all (is_blind_at checker plan.log) cuts) blind) wanted

-- the run there passes, and looks at bare sectors
pub record PassesBare (checker : CheckerValue) (log : LogValue) (cut : ℕ) : Type 0 where
  pub passes : fails (ending_on checker (whole_at log cut)) ≡ false
  pub sectors : List ℕ
  pub looks : looks_on checker (whole_at log cut) ≡ Some sectors
  pub bare : list_all (is_bare log.entries) sectors ≡ true

pub passes_bare : (checker : CheckerValue) (log : LogValue) (cut : ℕ) → is_blind_at checker log cut ≡ true → PassesBare checker log cut
unfolding is_blind_at
passes_bare checker log cut blind = by (looks_on checker (whole_at log cut)) refl (and_second good (seen (looks_on checker (whole_at log cut))) blind)
  where
    good : Bool
    good = not (fails (ending_on checker (whole_at log cut)))

    seen : Option (List ℕ) → Bool
    seen o = option_map_or (list_all (is_bare log.entries)) o false

    passed : (b : Bool) → not b ≡ true → b ≡ false
    passed false h = refl
    passed true h = absurd (let bad : false ≡ true = h in cc)

    by : (o : Option (List ℕ)) → looks_on checker (whole_at log cut) ≡ o → seen o ≡ true → PassesBare checker log cut
    by None e h = absurd (let bad : false ≡ true = h in cc)
    by (Some sectors) e h = record {
      passes = passed (fails (ending_on checker (whole_at log cut))) (and_first good (seen (looks_on checker (whole_at log cut))) blind);
      sectors = sectors;
      looks = e;
      bare = h;
    }

-- a part that covers a sector is one of an entry that does
uncovered : (log : LogValue) (ds : List Departure) (i n : ℕ) (d : Departure) → AreParts log ds → slice_get ds i ≡ Some d → is_bare log.entries n ≡ true
    → part_covers d.part n ≡ true → ⊥
uncovered log ds i n d parts there bare covered =
    let part = parts i d there in
    let entry = part.entry in
    let begin = part.sector in
    let inside = part.inside in
    let here : nat_le d.part.sector n ≡ true = and_first (nat_le d.part.sector n) (nat_lt n (d.part.sector + d.part.count)) covered in
    let before : nat_lt n (d.part.sector + d.part.count) ≡ true = and_second (nat_le d.part.sector n) (nat_lt n (d.part.sector + d.part.count)) covered in
    let low : d.part.sector ≤ n = grind (arith, nat_tests, here) in
    let high : n < d.part.sector + d.part.count = grind (arith, nat_tests, before) in
    let first : entry.sector ≤ n = omega (arith, low, begin) in
    let last : n < entry.sector + entry.count = omega (arith, high, begin, inside) in
    let writes : covers n entry ≡ true = grind (arith, nat_tests, first, last) in
    let not_it : not (covers n entry) ≡ true = all_at (λ (e : Entry). not (covers n e)) log.entries d.part.entry entry bare part.there in
    let bad : false ≡ true = ap not (sym writes) ∙ not_it in
    absurd (let worse : false ≡ true = bad in cc)

-- so the image agrees with that in which nothing departs
agree_bare : CoveringTells → ImagesAreDevices → (plan : PlanValue) (bound : ℕ) (tears : Bool) (n : ℕ) (choice : ChoiceValue) (sectors : List ℕ) → IsLog plan.log
    → slice_get (ranked_choices plan bound tears) n ≡ Some choice → list_all (is_bare plan.log.entries) sectors ≡ true
    → AgreeAt sectors (sectors_of (whole_at plan.log choice.cut)) (sectors_of (view_of plan choice))
agree_bare covering devices plan bound tears n choice sectors bounds there bare =
    let whole : ViewValue = whole_at plan.log choice.cut in
    let view : ViewValue = view_of plan choice in
    let shows = devices whole bounds in
    let others = devices view bounds in
    let within = (stands plan bound tears n choice there).within in
    let none : AreParts plan.log [] = λ i d at. absurd (let bad : None ≡ Some d = at in cc) in
    let parts : AreParts plan.log choice.departures = member_parts plan choice bounds (record { bound = bound; tears = tears; number = n; there = there }) in
    record {
      count = shows.count ∙ sym others.count;
      whole = shows.long;
      others = others.long;
      same =
          λ k d lt.
          let sector : ℕ = get_or sectors k d in
          let here = all_at (is_bare plan.log.entries) sectors k sector bare (slice_get-get_or sectors k d lt) in
          let has : HasCovering [] choice.departures sector = λ i e at covered. absurd (let bad : None ≡ Some e = at in cc) in
          let back : HasCovering choice.departures [] sector = λ i e at covered. absurd (uncovered plan.log choice.departures i sector e parts at here covered) in
          sym (covering whole choice.departures sector bounds within none parts has back);
    }

pub blind_alike : AgreeingAreJudgedAlike → CoveringTells → ImagesAreDevices → (plan : PlanValue) (checker : CheckerValue) (bound : ℕ) (tears : Bool) (n : ℕ) (choice : ChoiceValue) → IsLog plan.log
    → is_blind plan checker ≡ true → slice_get (ranked_choices plan bound tears) n ≡ Some choice
    → (ending_on checker (view_of plan choice) ≡ ending_on checker (whole_at plan.log choice.cut)) × (fails (ending_on checker (whole_at plan.log choice.cut)) ≡ false)
unfolding ending_on looks_on
blind_alike law covering devices plan checker bound tears n choice bounds blind there =
    let stand = stands plan bound tears n choice there in
    let passed = passes_bare checker plan.log choice.cut (known_at plan checker choice.place choice.cut blind stand.wanted) in
    let whole : ViewValue = whole_at plan.log choice.cut in
    let agreed = agree_bare covering devices plan bound tears n choice passed.sectors bounds there passed.bare in (
      (law checker (sectors_of whole) (sectors_of (view_of plan choice)) (context_at plan.log choice.cut) 32 passed.sectors passed.looks agreed).ends,
      passed.passes,
    )

-- of the images of a run, and of its failing lines
image_passes : AgreeingAreJudgedAlike → CoveringTells → ImagesAreDevices → (s : Subject) (checker : CheckerValue) (image : ℕ) (choice : ChoiceValue) → IsLog s.plan.log
    → is_blind s.plan checker ≡ true → slice_get (choices_of s) image ≡ Some choice
    → (ending_at s choice checker ≡ ending_on checker (whole_at s.plan.log choice.cut)) × (fails (ending_at s choice checker) ≡ false)
unfolding ending_at ending_on
image_passes law covering devices s checker image choice bounds blind there =
    let alike = blind_alike law covering devices s.plan checker s.bound s.tears image choice bounds blind there in
    (alike.0, ap fails alike.0 ∙ alike.1)

no_line : AgreeingAreJudgedAlike → CoveringTells → ImagesAreDevices → LinesAreSet → (s : Subject) (i : ℕ) (l : FailingLine) (checker : CheckerValue) → IsLog s.plan.log
    → slice_get (failing_lines s) i ≡ Some l → slice_get s.checkers l.program ≡ Some checker → is_blind s.plan checker ≡ false
no_line law covering devices set s i l checker bounds there named = by (is_blind s.plan checker) refl
  where
    failing : IsFailing s l
    failing = (set s).sound i l there

    by : (b : Bool) → is_blind s.plan checker ≡ b → b ≡ false
    by false e = refl
    by true e =
        let same : failing.checker ≡ checker = same_Some failing.checker checker (sym failing.of_program ∙ named) in
        let blind : is_blind s.plan failing.checker ≡ true = ap (is_blind s.plan) same ∙ e in
        let passes = (image_passes law covering devices s failing.checker l.image failing.choice bounds blind failing.of_image).1 in
        absurd (let bad : true ≡ false = sym failing.fails ∙ ap fails failing.ends ∙ passes in cc)

pub blind_pass : AgreeingAreJudgedAlike → CoveringTells → ImagesAreDevices → LinesAreSet → BlindProgramsPass
blind_pass law covering devices set = record {
  alike = λ s checker image choice bounds blind there. (image_passes law covering devices s checker image choice bounds blind there).0;
  passes = λ s checker image choice bounds blind there. (image_passes law covering devices s checker image choice bounds blind there).1;
  lines = no_line law covering devices set;
}

-- What is found of a run.
pub found_blind : (w : WantedAnswer) (text : Recording) (files : List (List ℕ)) (s : Settings) (log : LogValue) (checkers now : List CheckerValue) (found : List Bool)
    → HasImages text s log → AreCheckersOf s files checkers → now ≡ checkers → found ≡ blind_found w (plan_of s log) now → FindsBlind w text files s found
found_blind w text files s log checkers now found source made same is = record {
  value = log;
  source = source;
  checkers = now;
  made = subst (AreCheckersOf s files) (sym same) made;
  is = is;
}
