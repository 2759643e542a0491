-- What becomes of parts by names, there and back.
use Rattle.std.proofs.Common.{ℕ, zero, suc, ◌≡◌, ◌+◌, ◌*◌, ◌<◌, ◌≤◌, ◌^◌, ◌==◌, ◌&&◌, Bool, true, false, if◌then◌else◌, List, [], ◌∷◌, ◌++◌, length, map, slice_get, Option, None, Some, refl, sym, subst, ◌∙◌, ap, arith, inl, inr, eq-eqb}
use Rattle.std.specs.Prelude.{◌⊎◌}
use Rattle.std.specs.List.{range_with_len, slice_index_or}
use Rattle.std.proofs.lemmas.Bool.Decides.{eqb_tells}
use Rattle.std.proofs.lemmas.Option.{same_Some}
use Rattle.base.specs.Sizes.{most_sectors}
use Rattle.logfmt.specs.declared.entry.Entry.{Entry}
use Rattle.logfmt.specs.Bounds.{IsLog}
use Rattle.epochs.specs.declared.part.Part.{Part}
use Rattle.epochs.specs.declared.part.By.{By}
use Rattle.epochs.specs.declared.part.By.TheVariants as by
use Rattle.epochs.specs.Parts.{part_size, part_count, part_of, parts_before}
use Rattle.choices.specs.declared.fate.Fate.{Fate}
use Rattle.choices.specs.declared.fate.Fate.TheVariants as fate
use Rattle.choices.specs.declared.choice.Departure.{Departure}
use Rattle.choices.specs.declared.name.Name.{Name}
use Rattle.choices.specs.CrashModel.{IsFate}
use Rattle.choices.specs.Named.{name_of}
use Rattle.choices.specs.Seeking.{is_named}
use Rattle.cases.specs.Choices.{Choice, all_fates, departs, departures}
use Rattle.cases.specs.Cases.{representative, is_same}
use Rattle.cases.specs.Risk.{is_at_risk, parts_at_risk}
use Rattle.cases.specs.Sets.{fates_in}
use Rattle.cases.specs.Laws.{IsAmong, IsChoice}
use Rattle.cases.specs.AtCut.{CutValue, Apart, case_of, parts_of}
use Rattle.cases.proofs.Cases.{own_part, among_kept}
use Rattle.cases.proofs.Rows.{IsBefore, part_before, among_range, among_append_left, among_append_right}
use Rattle.lost_text.specs.Lost.{fate_said, left_after, fates_said, names_left, lost_of, only, is_possible}

-- names and parts

both_so : (a b : Bool) → (a && b) ≡ true → (a ≡ true) × (b ≡ true)
both_so true b is = (refl, is)
both_so false b is = absurd (let bad : false ≡ true = is in cc)

equal_at : (a b : ℕ) → (a == b) ≡ true → a ≡ b
equal_at a b is = elim (eqb_tells a b) [ inl same ↦ same.1 | inr other ↦ absurd (let bad : false ≡ true = sym other.0 ∙ is in cc) ]

-- a departure of a part that a name says, with its fate, has that name
same_name : (p : Part) (n : Name) → is_named p n ≡ true → name_of (record { part = p; fate = n.fate }) ≡ n
same_name p n is =
    let two = both_so (p.entry == n.entry) (p.place == n.place) is in
    let entry = equal_at p.entry n.entry two.0 in
    let place = equal_at p.place n.place two.1 in
    λ i. record { entry = entry i; place = place i; fate = n.fate }

own_name : (p : Part) (f : Fate) → is_named p (name_of (record { part = p; fate = f })) ≡ true
own_name p f = λ i. eq-eqb p.entry p.entry refl i && eq-eqb p.place p.place refl i

-- what the names say, and those that are left, are all of them
pub joined : (ps : List Part) (ns : List Name) → map name_of (lost_of ps (fates_said ps ns)) ++ names_left ps ns ≡ ns
joined [] ns = refl
joined (p ∷ ps) [] = joined ps []
joined (p ∷ ps) (n ∷ ns) = by_test (joined ps) (is_named p n) refl
  where
    by_test : ((ms : List Name) → map name_of (lost_of ps (fates_said ps ms)) ++ names_left ps ms ≡ ms) → (b : Bool) → is_named p n ≡ b
        → map name_of (departs p (if b then Some n.fate else None) ++ lost_of ps (fates_said ps (if b then ns else n ∷ ns))) ++ names_left ps (if b then ns else n ∷ ns) ≡ n ∷ ns
    by_test again true is = let head = same_name p n is in let rest = again ns in λ i. head i ∷ rest i
    by_test again false is = again (n ∷ ns)

-- no two of some parts have one name
abbrev pub NamesApart : List Part → Type 0
NamesApart [] = Unit {0}
NamesApart (p ∷ ps) = ((q : Part) → IsAmong ps q → p.entry ≡ q.entry → p.place ≡ q.place → ⊥) × NamesApart ps

-- what departs of some parts is of these, with what becomes of them
pub departs_among : (ch : Choice) (ps : List Part) (d : Departure) → IsAmong (departures ch ps) d → IsAmong ps d.part × (ch d.part ≡ Some d.fate)
departs_among ch [] d is = absurd is
departs_among ch (p ∷ ps) d is = by_fate (λ among. let was = departs_among ch ps d among in (inr was.0, was.1)) (ch p) refl is
  where
    here : (IsAmong (departures ch ps) d → IsAmong (p ∷ ps) d.part × (ch d.part ≡ Some d.fate)) → (f : Fate) → ch p ≡ Some f
        → (◌≡◌ {A = Departure} (record { part = p; fate = f }) d) ⊎ IsAmong (departures ch ps) d → IsAmong (p ∷ ps) d.part × (ch d.part ≡ Some d.fate)
    here later f own (inl same) = (
      inl (ap (λ (x : Departure). x.part) same),
      sym (ap ch (ap (λ (x : Departure). x.part) same)) ∙ own ∙ ap (λ (x : Departure). Some x.fate) same,
    )
    here later f own (inr rest) = later rest

    by_fate : (IsAmong (departures ch ps) d → IsAmong (p ∷ ps) d.part × (ch d.part ≡ Some d.fate)) → (f : Option Fate) → ch p ≡ f
        → IsAmong (departs p f ++ departures ch ps) d → IsAmong (p ∷ ps) d.part × (ch d.part ≡ Some d.fate)
    by_fate later None own among = later among
    by_fate later (Some f) own among = here later f own among

-- no name says a part where none is its own
passed : (p : Part) (ns : List Name) → ((n : Name) → IsAmong ns n → is_named p n ≡ true → ⊥) → (fate_said p ns ≡ None) × (left_after p ns ≡ ns)
passed p [] none = (refl, refl)
passed p (n ∷ ns) none = by_test (is_named p n) refl
  where
    by_test : (b : Bool) → is_named p n ≡ b → ((if b then Some n.fate else None) ≡ None) × ((if b then ns else n ∷ ns) ≡ n ∷ ns)
    by_test true is = absurd (none n (inl refl) is)
    by_test false is = (refl, refl)

pub mapped_among : {A B : Type 0} (f : A → B) (xs : List A) (y : B) → IsAmong (map f xs) y → (x : A) × IsAmong xs x × (f x ≡ y)
mapped_among f [] y is = absurd is
mapped_among f (x ∷ xs) y (inl same) = (x, inl refl, same)
mapped_among f (x ∷ xs) y (inr rest) = let was = mapped_among f xs y rest in (was.0, inr was.1, was.2)

-- the names of what a choice loses and tears say what becomes of each part, and none is left
pub said_back : (ch : Choice) (ps : List Part) → NamesApart ps
    → (fates_said ps (map name_of (departures ch ps)) ≡ map ch ps) × (names_left ps (map name_of (departures ch ps)) ≡ [])
said_back ch [] apart = (refl, refl)
said_back ch (p ∷ ps) apart = by_fate (said_back ch ps apart.1) (ch p)
  where
    others : (n : Name) → IsAmong (map name_of (departures ch ps)) n → is_named p n ≡ true → ⊥
    others n is named =
        let it = mapped_among name_of (departures ch ps) n is in
        let own = departs_among ch ps it.0 it.1 in
        let two = both_so (p.entry == n.entry) (p.place == n.place) named in
        apart.0 it.0.part own.0 (equal_at p.entry n.entry two.0 ∙ sym (ap (λ (m : Name). m.entry) it.2)) (equal_at p.place n.place two.1 ∙ sym (ap (λ (m : Name). m.place) it.2))

    by_fate : (fates_said ps (map name_of (departures ch ps)) ≡ map ch ps) × (names_left ps (map name_of (departures ch ps)) ≡ []) → (f : Option Fate)
        → (fates_said (p ∷ ps) (map name_of (departs p f ++ departures ch ps)) ≡ f ∷ map ch ps) × (names_left (p ∷ ps) (map name_of (departs p f ++ departures ch ps)) ≡ [])
    by_fate rest None =
        let ns = map name_of (departures ch ps) in
        let past = passed p ns others in (
          (λ i. past.0 i ∷ fates_said ps (past.1 i)) ∙ ap (λ fs. None ∷ fs) rest.0,
          ap (names_left ps) past.1 ∙ rest.1,
        )
    by_fate rest (Some f) =
        let ns = map name_of (departures ch ps) in
        let n = name_of (record { part = p; fate = f }) in
        let own = own_name p f in (
          (λ i. (if own i then Some f else None) ∷ fates_said ps (if own i then ns else n ∷ ns)) ∙ ap (λ fs. Some f ∷ fs) rest.0,
          (λ i. names_left ps (if own i then ns else n ∷ ns)) ∙ rest.1,
        )

pub lost_is : (ch : Choice) (ps : List Part) → departures ch ps ≡ lost_of ps (map ch ps)
lost_is ch [] = refl
lost_is ch (p ∷ ps) = ap (λ ds. departs p (ch p) ++ ds) (lost_is ch ps)

-- sets of one fate

abbrev pub first_in : ℕ → Option Fate
first_in bits = slice_index_or (fates_in bits) 0 None

pub firsts_are : (sets : List ℕ) (fs : List (Option Fate)) → map fates_in sets ≡ map only fs → map first_in sets ≡ fs
firsts_are [] [] e = refl
firsts_are [] (f ∷ fs) e = absurd (let bad : 0 ≡ suc (length (map only fs)) = ap length e in omega (arith, bad))
firsts_are (b ∷ sets) [] e = absurd (let bad : suc (length (map fates_in sets)) ≡ 0 = ap length e in omega (arith, bad))
firsts_are (b ∷ sets) (f ∷ fs) e =
    let head : fates_in b ≡ only f = (let s : fates_in b ∷ map fates_in sets ≡ only f ∷ map only fs = e in cc) in
    let tail : map fates_in sets ≡ map only fs = (let s : fates_in b ∷ map fates_in sets ≡ only f ∷ map only fs = e in cc) in
    let one : first_in b ≡ f = ap (λ (gs : List (Option Fate)). slice_index_or gs 0 None) head in
    let rest = firsts_are sets fs tail in
    λ i. one i ∷ rest i

departs_alike : (ch other : Choice) (ps : List Part) → ((q : Part) → IsAmong ps q → ch q ≡ other q) → departures ch ps ≡ departures other ps
departs_alike ch other [] same = refl
departs_alike ch other (p ∷ ps) same =
    let own = same p (inl refl) in
    let rest = departs_alike ch other ps (λ q is. same q (inr is)) in
    λ i. departs p (own i) ++ rest i

pub by_sets : (tears : Bool) (ps : List Part) (sets : List ℕ) → Apart ps → length sets ≡ length ps
    → departures (representative (case_of tears ps sets)) ps ≡ lost_of ps (map first_in sets)
by_sets tears [] sets apart long = refl
by_sets tears (p ∷ ps) [] apart long = absurd (omega (arith, long))
by_sets tears (p ∷ ps) (b ∷ sets) apart long =
    let at : Bool → Part → Option Fate = λ v q. slice_index_or (if v then fates_in b else case_of tears ps sets q) 0 None in
    let own : at (is_same p p) p ≡ first_in b = ap (λ v. at v p) (own_part p) in
    let alike = departs_alike (λ q. at (is_same p q) q) (representative (case_of tears ps sets)) ps (λ q is. ap (λ v. at v q) (apart.0 q is)) in
    let rest = alike ∙ by_sets tears ps sets apart.1 (omega (arith, long)) in
    λ i. departs p (own i) ++ rest i

-- all are whole
pub nothing_departs : (ch : Choice) (ps : List Part) → ((p : Part) → ch p ≡ None) → departures ch ps ≡ []
nothing_departs ch [] none = refl
nothing_departs ch (p ∷ ps) none = (λ i. departs p (none p i) ++ departures ch ps) ∙ nothing_departs ch ps none

-- fates that a choice may have

none_among : (tears : Bool) → IsAmong (all_fates tears) (slice_index_or (all_fates tears) 0 None)
none_among true = inl refl
none_among false = inl refl

pub none_of_all : (tears : Bool) → slice_index_or (all_fates tears) 0 None ≡ None
none_of_all true = refl
none_of_all false = refl

pub in_case : (tears : Bool) (ps : List Part) (sets : List ℕ) → ((b : ℕ) → IsAmong sets b → IsAmong (all_fates tears) (first_in b))
    → IsChoice tears (representative (case_of tears ps sets))
in_case tears [] sets each p = none_among tears
in_case tears (q ∷ ps) [] each p = none_among tears
in_case tears (q ∷ ps) (b ∷ sets) each p = by_test (in_case tears ps sets (λ x is. each x (inr is)) p) (is_same q p)
  where
    by_test : IsAmong (all_fates tears) (representative (case_of tears ps sets) p) → (v : Bool)
        → IsAmong (all_fates tears) (slice_index_or (if v then fates_in b else case_of tears ps sets p) 0 None)
    by_test rest true = each b (inl refl)
    by_test rest false = rest

pub first_among : (sets : List ℕ) (fs : List (Option Fate)) → map first_in sets ≡ fs → (b : ℕ) → IsAmong sets b → IsAmong fs (first_in b)
first_among sets fs is b among = subst (λ (gs : List (Option Fate)). IsAmong gs (first_in b)) is (among_map sets b among)
  where
    among_map : (xs : List ℕ) (x : ℕ) → IsAmong xs x → IsAmong (map first_in xs) (first_in x)
    among_map [] x it = absurd it
    among_map (y ∷ xs) x (inl same) = inl (ap first_in same)
    among_map (y ∷ xs) x (inr rest) = inr (among_map xs x rest)

pub fates_possible : (tears : Bool) (ps : List Part) (ns : List Name) → ((n : Name) → IsAmong ns n → IsAmong (all_fates tears) (Some n.fate))
    → (f : Option Fate) → IsAmong (fates_said ps ns) f → IsAmong (all_fates tears) f
fates_possible tears [] ns each f is = absurd is
fates_possible tears (p ∷ ps) [] each f (inl same) = subst (IsAmong (all_fates tears)) (none_of_all tears ∙ same) (none_among tears)
fates_possible tears (p ∷ ps) [] each f (inr rest) = fates_possible tears ps [] each f rest
fates_possible tears (p ∷ ps) (n ∷ ns) each f is =
    by_test (fates_possible tears ps ns (λ m among. each m (inr among)) f) (fates_possible tears ps (n ∷ ns) each f) (is_named p n) is
  where
    by_test : (IsAmong (fates_said ps ns) f → IsAmong (all_fates tears) f) → (IsAmong (fates_said ps (n ∷ ns)) f → IsAmong (all_fates tears) f) → (b : Bool)
        → ((if b then Some n.fate else None) ≡ f) ⊎ IsAmong (fates_said ps (if b then ns else n ∷ ns)) f → IsAmong (all_fates tears) f
    by_test after with_it true (inl same) = subst (IsAmong (all_fates tears)) same (each n (inl refl))
    by_test after with_it true (inr rest) = after rest
    by_test after with_it false (inl same) = subst (IsAmong (all_fates tears)) (none_of_all tears ∙ same) (none_among tears)
    by_test after with_it false (inr rest) = with_it rest

range_among : {A : Type 0} (f : ℕ → A) (a n j : ℕ) → a ≤ j → j < a + n → IsAmong (map f (range_with_len a n)) (f j)
range_among f a zero j low high = absurd (omega (arith, low, high))
range_among f a (suc n) j low high = elim (eqb_tells a j) [
  | inl same ↦ inl (ap f same.1)
  | inr other ↦ let apart = other.1 in inr (range_among f (a + 1) n j (omega (arith, low, apart)) (omega (arith, high)))
]

abbrev heads : List (Option Fate)
heads = map (λ t. Some (fate.Head t)) (range_with_len 1 7)

abbrev tails : List (Option Fate)
tails = map (λ t. Some (fate.Tail t)) (range_with_len 1 7)

pub possible : (tears : Bool) (f : Fate) → IsFate tears f → IsAmong (all_fates tears) (Some f)
possible true fate.Drop is = inr (inl refl)
possible false fate.Drop is = inr (inl refl)
possible true (fate.Head t) is =
    let low = is.1 in
    let high = is.2 in
    inr (inr (among_append_left heads tails (Some (fate.Head t)) (range_among (λ t. Some (fate.Head t)) 1 7 t low (omega (arith, high)))))
possible false (fate.Head t) is = absurd (let bad : false ≡ true = is.0 in cc)
possible true (fate.Tail t) is =
    let low = is.1 in
    let high = is.2 in
    inr (inr (among_append_right heads tails (Some (fate.Tail t)) (range_among (λ t. Some (fate.Tail t)) 1 7 t low (omega (arith, high)))))
possible false (fate.Tail t) is = absurd (let bad : false ≡ true = is.0 in cc)

among_both : {A : Type 0} (xs ys : List A) (x : A) → IsAmong (xs ++ ys) x → IsAmong xs x ⊎ IsAmong ys x
among_both [] ys x is = inr is
among_both (y ∷ xs) ys x (inl same) = inl (inl same)
among_both (y ∷ xs) ys x (inr rest) = elim (among_both xs ys x rest) [ inl early ↦ inl (inr early) | inr late ↦ inr late ]

-- a fate that a choice may have is a possible one, in its range
abbrev pub IsGood : Bool → Fate → Type 0
IsGood tears f = (is_possible tears f ≡ true) × IsFate true f

pub possible_back : (tears : Bool) (f : Fate) → IsAmong (all_fates tears) (Some f) → IsGood tears f
possible_back false f (inl none) = absurd (let bad : None ≡ Some f = none in cc)
possible_back false f (inr (inl drop)) = subst (IsGood false) (same_Some fate.Drop f drop) (refl, tt)
possible_back false f (inr (inr more)) = absurd more
possible_back true f (inl none) = absurd (let bad : None ≡ Some f = none in cc)
possible_back true f (inr (inl drop)) = subst (IsGood true) (same_Some fate.Drop f drop) (refl, tt)
possible_back true f (inr (inr torn)) = elim (among_both heads tails (Some f) torn) [
  | inl head ↦
      let at = among_range (λ t. Some (fate.Head t)) 1 7 (Some f) head in
      let low = at.1 in
      let high = at.2 in
      subst (IsGood true) (same_Some (fate.Head at.0) f at.3) (refl, (refl, low, omega (arith, high)))
  | inr tail ↦
      let at = among_range (λ t. Some (fate.Tail t)) 1 7 (Some f) tail in
      let low = at.1 in
      let high = at.2 in
      subst (IsGood true) (same_Some (fate.Tail at.0) f at.3) (refl, (refl, low, omega (arith, high)))
]

-- parts at risk

risky_before : (way : By) (es : List Entry) (k : ℕ) (p : Part) → IsAmong (parts_at_risk way es k) p → IsAmong (parts_before way es k) p
unfolding parts_at_risk
risky_before way es k p is = (among_kept (λ (q : Part). is_at_risk es k q.entry) (parts_before way es k) p is).0

-- a part is one of an entry
record IsOf (way : By) (es : List Entry) (p : Part) : Type 0 where
  entry : Entry
  there : slice_get es p.entry ≡ Some entry
  count : p.count ≡ part_size way entry
  sector : p.sector ≡ entry.sector + p.place

of_entry : (way : By) (es : List Entry) (k : ℕ) (p : Part) → IsBefore way es k p → IsOf way es p
of_entry way es k p was = subst (IsOf way es) was.is (record { entry = was.own; there = was.there; count = refl; sector = refl })

same_part : (way : By) (es : List Entry) (p q : Part) → IsOf way es p → IsOf way es q → p.entry ≡ q.entry → p.place ≡ q.place → p ≡ q
same_part way es p q one two entry place =
    let same : one.entry ≡ two.entry = same_Some one.entry two.entry (sym one.there ∙ ap (slice_get es) entry ∙ two.there) in
    let count : p.count ≡ q.count = one.count ∙ ap (part_size way) same ∙ sym two.count in
    let sector : p.sector ≡ q.sector = one.sector ∙ (λ i. (same i).sector + place i) ∙ sym two.sector in
    λ i. record { entry = entry i; place = place i; count = count i; sector = sector i }

apart_by_name : (way : By) (es : List Entry) (ps : List Part) → Apart ps → ((q : Part) → IsAmong ps q → IsOf way es q) → NamesApart ps
apart_by_name way es [] apart each = tt
apart_by_name way es (p ∷ ps) apart each = (
  (λ q is entry place.
      let same = same_part way es p q (each p (inl refl)) (each q (inr is)) entry place in
      let own : is_same p q ≡ true = sym (ap (is_same p) same) ∙ own_part p in
      (let bad : false ≡ true = sym (apart.0 q is) ∙ own in absurd cc)),
  apart_by_name way es ps apart.1 (λ q is. each q (inr is)),
)

pub names_apart : (at : CutValue) → at.cut ≤ length at.log.entries → Apart (parts_of at) → NamesApart (parts_of at)
names_apart at within apart =
    apart_by_name at.way at.log.entries (parts_of at) apart
    (λ q is. of_entry at.way at.log.entries at.cut q (part_before at.way at.log.entries at.cut q within (risky_before at.way at.log.entries at.cut q is)))

-- the place of a part among those at risk
abbrev pub IsSmall : By → Part → Type 0
IsSmall by.Sector p = p.place < 2 ^ 32
IsSmall by.Write p = p.place ≡ 0

small_place : (way : By) (x : Entry) (e j : ℕ) → x.count ≤ most_sectors → j < part_count way x → IsSmall way (part_of way e x j)
small_place by.Sector x e j few within = omega (arith, few, within)
small_place by.Write x e j few within = by_test (x.count == 0) within
  where
    by_test : (b : Bool) → j < (if b then 0 else 1) → j * x.count ≡ 0
    by_test true none = absurd (omega (arith, none))
    by_test false first = let zero_j : j ≡ 0 = omega (arith, first) in let none : 0 * x.count ≡ 0 = omega arith in ap (λ n. n * x.count) zero_j ∙ none

some_parts : (way : By) (x : Entry) (j : ℕ) → j < part_count way x → 0 < x.count
some_parts by.Sector x j within = omega (arith, within)
some_parts by.Write x j within = elim (eqb_tells x.count 0) [
  | inl same ↦ let none : j < 0 = subst (λ b. j < (if b then 0 else 1)) same.0 within in omega (arith, none)
  | inr other ↦ let apart = other.1 in omega (arith, apart)
]

-- a part at risk is one of an entry of the log, and its place a number of 32 bits
pub record IsInRange (way : By) (p : Part) : Type 0 where
  pub entry : p.entry < 2 ^ 32
  pub place : IsSmall way p

pub in_range : (at : CutValue) (p : Part) → IsLog at.log → at.cut ≤ length at.log.entries → IsAmong (parts_of at) p → IsInRange at.way p
in_range at p bounds within is =
    let es = at.log.entries in
    let was = part_before at.way es at.cut p within (risky_before at.way es at.cut p is) in
    let some = some_parts at.way was.own was.place was.within in
    let on = (bounds.entries was.entry was.own was.there).device some in
    let device = bounds.device in
    let few : was.own.count ≤ most_sectors = omega (arith, on, device) in
    let count = bounds.count in
    let before = was.before in
    subst (IsInRange at.way) was.is (record { entry = omega (arith, count, before, within); place = small_place at.way was.own was.entry was.place few was.within })
