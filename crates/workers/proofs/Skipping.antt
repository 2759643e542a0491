-- Images that are passed over: where a checker finds one good, it finds those after it good for which the entry holds too.
use Rattle.std.proofs.Common.{ℕ, zero, suc, ◌≡◌, ◌+◌, ◌-◌, ◌*◌, ◌<◌, ◌≤◌, inl, inr, Bool, false, List, [], ◌∷◌, ◌++◌, length, take, drop, Option, None, Some, slice_get, refl, sym, ◌∙◌, ap, subst, arith, append-nil}
use Rattle.std.specs.List.{filter_map, flat_map, range_with_len, slice_index_or}
use Rattle.std.proofs.lemmas.Bool.{cases_lt}
use Rattle.std.proofs.lemmas.List.Elements.{filter_map-append}
use Rattle.std.proofs.lemmas.Option.{same_Some}
use Rattle.std.proofs.lemmas.Grind.{flat_map-append}
use Rattle.base.proofs.Lists.{range_with_len-more, slice_get-push, split_at_place}
use Rattle.base.specs.Sizes.{most_units}
use Rattle.epochs.specs.declared.part.By.{By}
use Rattle.epochs.specs.Parts.{volatile_parts}
use Rattle.epochs.specs.Plan.{PlanValue}
use Rattle.choices.specs.declared.pick.Pick.{Pick}
use Rattle.choices.specs.Choices.{ChoiceValue}
use Rattle.choices.specs.Laws.{AreRising}
use Rattle.choices.specs.Picks.{fates_of}
use Rattle.choices.specs.Picked.{PickedValue, choice_of_picked, IsRanked, CanPass, pick_after, with_last}
use Rattle.choices.proofs.Passing.{ranked_is_choice, pass_leads, passed_part}
use Rattle.machine.specs.Outcome.{Ending, fails}
use Rattle.checker.specs.Checker.{CheckerValue}
use Rattle.report.specs.Line.{FailingLine}
use Rattle.workers.specs.declared.entries.KnownEntry.{KnownEntry}
use Rattle.workers.specs.Failing.{Subject, choices_of, ending_at, line_if, line_of, image_lines, lines_from}
use Rattle.workers.specs.Reuse.{EntryValue, AreKnown, IsFound, IsNextTold, tells}
use Rattle.workers.specs.Local.{AreGood, EndsAt, Reaches, HoldsFrom, parts_at}
use Rattle.workers.proofs.JudgedLines.{line_is, lines_of_image}
use Rattle.workers.proofs.Telling.{found_ends, found_passes}

-- an image on which a checker doesn't fail has no line of it
no_line : (way : By) (image program : ℕ) (choice : ChoiceValue) (ending : Ending) → fails ending ≡ false → line_if way image choice program ending ≡ None
no_line way image program choice ending e = rw e refl

pub good_line : (s : Subject) (image i : ℕ) (choice : ChoiceValue) (checker : CheckerValue) (ending : Ending)
    → slice_get (choices_of s) image ≡ Some choice → slice_get s.checkers i ≡ Some checker → ending_at s choice checker ≡ ending → fails ending ≡ false
    → line_of s image i ≡ None
good_line s image i choice checker ending there named ends good =
    line_is s image i choice checker there named ∙ no_line s.plan.by image i choice (ending_at s choice checker) (ap fails ends ∙ good)

none_here : (s : Subject) (image n : ℕ) → line_of s image n ≡ None → filter_map (line_of s image) (n ∷ []) ≡ []
none_here s image n e = rw e refl

-- checkers without a line
pub none_below : (s : Subject) (image n : ℕ) → ((i : ℕ) → i < n → line_of s image i ≡ None) → filter_map (line_of s image) (range_with_len 0 n) ≡ []
none_below s image zero none = refl
none_below s image (suc n) none =
    let e : n + 1 ≡ suc n = omega arith in
    let z : 0 + n ≡ n = omega arith in
    let first : filter_map (line_of s image) (range_with_len 0 n) ≡ [] = none_below s image n (λ i lt. none i (omega (arith, lt))) in
    let last : filter_map (line_of s image) (n ∷ []) ≡ [] = none_here s image n (none n (omega arith)) in
    subst (λ k. filter_map (line_of s image) (range_with_len 0 k) ≡ []) e
    (ap (filter_map (line_of s image)) (range_with_len-more 0 n ∙ ap (λ k. range_with_len 0 n ++ k ∷ []) z)
    ∙ filter_map-append (line_of s image) (range_with_len 0 n) (n ∷ [])
    ∙ ap (λ (ls : List FailingLine). ls ++ filter_map (line_of s image) (n ∷ [])) first
    ∙ last)

good_image : (s : Subject) (image : ℕ) → ((i : ℕ) → i < length s.checkers → line_of s image i ≡ None) → image_lines s image ≡ []
good_image s image none = sym (lines_of_image s image (length s.checkers) refl) ∙ none_below s image (length s.checkers) none

none_from : (s : Subject) (a n : ℕ) → ((j : ℕ) → j < n → image_lines s (a + j) ≡ []) → lines_from s a n ≡ []
none_from s a zero none = refl
none_from s a (suc n) none =
    let e : n + 1 ≡ suc n = omega arith in
    let first : lines_from s a n ≡ [] = none_from s a n (λ j lt. none j (omega (arith, lt))) in
    subst (λ k. lines_from s a k ≡ []) e
    (ap (flat_map (image_lines s)) (range_with_len-more a n)
    ∙ flat_map-append (image_lines s) (range_with_len a n) ((a + n) ∷ [])
    ∙ ap (λ (ls : List FailingLine). ls ++ flat_map (image_lines s) ((a + n) ∷ [])) first
    ∙ append-nil (image_lines s (a + n))
    ∙ none n (omega arith))

-- images that all checkers find good have no lines
pub good_images : (s : Subject) (p : PickedValue) (n count : ℕ) → IsRanked s.plan s.bound s.tears n p → ((i : ℕ) → i < length s.checkers → AreGood s p count i)
    → lines_from s n count ≡ []
good_images s p n count ranked good = none_from s n count (λ j lt. good_image s (n + j) (λ i within. good i within n j ranked lt))

-- where what was found for a choice is good, so are the images for which the entry holds
good_at : (s : Subject) (checker : CheckerValue) (entries : List (EntryValue)) (p : PickedValue) (found : KnownEntry) (i most count n j : ℕ)
    → AreKnown s p.place checker entries → (is : IsFound entries p.picks found) → slice_get s.checkers i ≡ Some checker → fails is.entry.ending ≡ false
    → Reaches s p most → count ≤ most → HoldsFrom s p found is.entry count → IsRanked s.plan s.bound s.tears n p → j < count → line_of s (n + j) i ≡ None
good_at s checker entries p found i most count n zero known is named good reaches within holds ranked lt =
    let e : n ≡ n + 0 = omega arith in
    subst (λ image. line_of s image i ≡ None) e
    (good_line s n i (choice_of_picked s.plan p) checker is.entry.ending ranked named (found_ends s checker entries n p found known ranked is) good)
good_at s checker entries p found i most count n (suc j) known is named good reaches within holds ranked lt =
    let (few, front, last, can) = reaches (suc j) (omega arith) (omega (arith, lt, within)) in
    let other : Pick = pick_after (fates_of s.tears) (suc j) last in
    let (mark, told) = holds front last (suc j) can (omega arith) lt in
    let there : IsRanked s.plan s.bound s.tears (n + suc j) (with_last p front other) = pass_leads s.plan s.bound s.tears n p front last (suc j) ranked can in
    good_line s (n + suc j) i (choice_of_picked s.plan (with_last p front other)) checker is.entry.ending there named
    (found_passes s checker entries (n + suc j) p found front last other known is can.is mark told there) good

pub found_good : (s : Subject) (checker : CheckerValue) (entries : List EntryValue) (p : PickedValue) (found : KnownEntry) (i most count : ℕ)
    → AreKnown s p.place checker entries → (is : IsFound entries p.picks found) → slice_get s.checkers i ≡ Some checker → fails is.entry.ending ≡ false
    → Reaches s p most → count ≤ most → HoldsFrom s p found is.entry count → AreGood s p count i
found_good s checker entries p found i most count known is named good reaches within holds = λ n j ranked lt.
    good_at s checker entries p found i most count n j known is named good reaches within holds ranked lt

-- the last departure, and its part and fate
rising_at : (m a e i : ℕ) (picks : List Pick) (x : Pick) → AreRising m a e picks → slice_get picks i ≡ Some x → (x.part < e) × (x.fate < m)
rising_at m a e i [] x rising h = absurd (let bad : None ≡ Some x = h in cc)
rising_at m a e zero (d ∷ ds) x (low, part, fate, more) h =
    let here : Some d ≡ Some x = h in
    let same : d ≡ x = cc in
    subst (λ (y : Pick). (y.part < e) × (y.fate < m)) same (part, fate)
rising_at m a e (suc i) (d ∷ ds) x (low, part, fate, more) h = rising_at m (d.part + 1) e i ds x more h

pub pick_fits : (s : Subject) (n i : ℕ) (p : PickedValue) (x : Pick) → IsRanked s.plan s.bound s.tears n p → slice_get p.picks i ≡ Some x
    → (x.part < parts_at s p) × (x.fate < fates_of s.tears)
pick_fits s n i p x ranked there =
    rising_at (fates_of s.tears) 0 (parts_at s p) i p.picks x (ranked_is_choice s.plan s.bound s.tears n p ranked).rising there

drop_past : (picks : List Pick) (n : ℕ) → n ≡ length picks → drop n picks ≡ []
drop_past [] n e = rw e refl
drop_past (x ∷ xs) n e = rw e (drop_past xs (length xs) refl)

last_of : (picks : List Pick) (at : ℕ) (last : Pick) → at + 1 ≡ length picks → slice_get picks at ≡ Some last → picks ≡ take at picks ++ last ∷ []
last_of picks at last e there =
    let long : suc at ≡ length picks = omega (arith, e) in
    split_at_place picks at last there ∙ ap (λ (ds : List Pick). take at picks ++ last ∷ ds) (drop_past picks (suc at) long)

-- so far the last departure alone changes
pub reaches_on : (s : Subject) (p : PickedValue) (at v count : ℕ) (last : Pick) → v ≡ parts_at s p → v ≤ most_units → at + 1 ≡ length p.picks → slice_get p.picks at ≡ Some last
    → last.part * fates_of s.tears + last.fate + count ≡ v * fates_of s.tears → Reaches s p count
reaches_on s p at v count last parts few e there room = λ j ge lt.
    let fits : last.part * fates_of s.tears + last.fate + j < v * fates_of s.tears = omega (arith, room, lt) in
    (omega (arith, parts, few), take at p.picks, last, record { is = last_of p.picks at last e there; room = subst (λ w. last.part * fates_of s.tears + last.fate + j < w * fates_of s.tears) parts fits })

pub reaches_none : (s : Subject) (p : PickedValue) → Reaches s p 1
reaches_none s p = λ j ge lt. absurd (omega (arith, ge, lt))

pub reaches_less : (s : Subject) (p : PickedValue) (most count : ℕ) → Reaches s p most → count ≤ most → Reaches s p count
reaches_less s p most count reaches le = λ j ge lt. reaches j ge (omega (arith, lt, le))

pub good_less : (s : Subject) (p : PickedValue) (most count i : ℕ) → AreGood s p most i → count ≤ most → AreGood s p count i
good_less s p most count i good le = λ n j ranked lt. good n j ranked (omega (arith, lt, le))

not_told : (told : Option (List ℕ)) (part x : ℕ) (next : Option ℕ) → tells told part ≡ false → IsNextTold told part next → part ≤ x
    → ((n : ℕ) → next ≡ Some n → x < n) → tells told x ≡ false
not_told told part x next own is low high = elim (cases_lt part x) [
  | inl more ↦ beyond next is more high
  | inr less ↦ let same : part ≡ x = omega (arith, low, less) in subst (λ y. tells told y ≡ false) same own
]
  where
    beyond : (o : Option ℕ) → IsNextTold told part o → part < x → ((n : ℕ) → o ≡ Some n → x < n) → tells told x ≡ false
    beyond None is more high = is x more
    beyond (Some n) is more high = is.2 x more (high n refl)

last_is : (picks front : List Pick) (own last : Pick) (at : ℕ) → picks ≡ front ++ own ∷ [] → at + 1 ≡ length picks → slice_get picks at ≡ Some last → (at ≡ length front) × (own ≡ last)
last_is picks front own last at e long there =
    let size : length picks ≡ length front + 1 = ap length e ∙ length_push front own in
    let same : at ≡ length front = omega (arith, long, size) in
    let here : slice_get picks (length front) ≡ Some own = subst (λ (ds : List Pick). slice_get ds (length front) ≡ Some own) (sym e) (slice_get-push front own) in
    (same, same_Some own last (sym here ∙ ap (slice_get picks) (sym same) ∙ there))
  where
    length_push : (front : List Pick) (own : Pick) → length (front ++ own ∷ []) ≡ length front + 1
    length_push [] own = refl
    length_push (x ∷ xs) own = ap suc (length_push xs own) ∙ (omega arith)

-- as far as the next part that may be told
pub holds_on : (s : Subject) (p : PickedValue) (entries : List EntryValue) (found : KnownEntry) (is : IsFound entries p.picks found) (n at count : ℕ) (last : Pick) (next : Option ℕ)
    → IsRanked s.plan s.bound s.tears n p → at + 1 ≡ length p.picks → slice_get p.picks at ≡ Some last → slice_index_or found.marks at false ≡ false
    → IsNextTold is.entry.told last.part next → ((m : ℕ) → next ≡ Some m → last.part * fates_of s.tears + last.fate + count ≤ m * fates_of s.tears)
    → HoldsFrom s p found is.entry count
holds_on s p entries found is n at count last next ranked long there mark told ends = λ front own j can ge lt.
    let m = fates_of s.tears in
    let (place, same) = last_is p.picks front own last at can.is long there in
    let fits = pick_fits s n at p last ranked there in
    let room : last.part * m + last.fate + j < parts_at s p * m = subst (λ (x : Pick). x.part * m + x.fate + j < parts_at s p * m) same can.room in
    let low = passed_part m j (parts_at s p) last fits.1 room in
    let unmarked : tells is.entry.told last.part ≡ false = is.holds.others at last there mark in
    let high : (x : ℕ) → next ≡ Some x → (pick_after m j last).part < x = λ x e. (passed_part m j x last fits.1 (let end = ends x e in omega (arith, end, lt))).1 in (
      subst (λ k. slice_index_or found.marks k false ≡ false) place mark,
      subst (λ (x : Pick). tells is.entry.told (pick_after m j x).part ≡ false) (sym same) (not_told is.entry.told last.part (pick_after m j last).part next unmarked told low.0 high),
    )

pub holds_once : (s : Subject) (p : PickedValue) (found : KnownEntry) (entry : EntryValue) → HoldsFrom s p found entry 1
holds_once s p found entry = λ front last j can ge lt. absurd (omega (arith, ge, lt))

-- where a choice goes over others
abbrev pub Passes : Bool → ℕ → PickedValue → PickedValue → Type 0
Passes tears count old new = (plan : PlanValue) (bound n : ℕ) (front : List Pick) (last : Pick) → IsRanked plan bound tears n old
    → CanPass (fates_of tears) (length (volatile_parts plan.by plan.log.entries old.cut)) count front last old.picks → IsRanked plan bound tears (n + count) new

pub passed_over : (s : Subject) (tears : Bool) (count image : ℕ) (old new : PickedValue) → tears ≡ s.tears → Reaches s old count → 2 ≤ count → Passes tears (count - 1) old new
    → IsRanked s.plan s.bound s.tears image old → IsRanked s.plan s.bound s.tears (image + (count - 1)) new
passed_over s tears count image old new same reaches two pass here =
    let (few, front, last, can) = reaches (count - 1) (omega (arith, two)) (omega (arith, two)) in
    let own : Passes s.tears (count - 1) old new = subst (λ t. Passes t (count - 1) old new) same pass in
    own s.plan s.bound image front last here can

-- so a checker ends on an image
pub ends_all : (s : Subject) (choice : ChoiceValue) (i : ℕ) (checker : CheckerValue) (ending : Ending) → slice_get s.checkers i ≡ Some checker → ending ≡ ending_at s choice checker
    → EndsAt s choice i ending
ends_all s choice i checker ending there ends = λ other named. ends ∙ ap (ending_at s choice) (same_Some checker other (sym there ∙ named))

-- of one checker more
pub good_more : (s : Subject) (p : PickedValue) (most count n i : ℕ) → ((k : ℕ) → k < n → AreGood s p most k) → count ≤ most → AreGood s p count n → i < n + 1 → AreGood s p count i
good_more s p most count n i good le own lt = elim (cases_lt i n) [
  | inl less ↦ good_less s p most count i (good i less) le
  | inr more ↦ let same : n ≡ i = omega (arith, lt, more) in subst (λ k. AreGood s p count k) same own
]
