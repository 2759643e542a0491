-- Choices by the names of their departures.
use Rattle.std.proofs.Common.{ℕ, zero, suc, ◌≡◌, ◌+◌, ◌-◌, ◌<◌, ◌≤◌, ◌==◌, Bool, true, false, List, [], ◌∷◌, ◌++◌, length, map, take, drop, slice_get, get_or, Option, Some, None, MatchOption, refl, sym, ◌∙◌, ap, subst, inl, inr, arith, add-one}
use Rattle.std.specs.Option.{option_map}
use Rattle.std.specs.List.{position, position_or_len}
use Rattle.std.proofs.lemmas.Bool.{cases_lt, lt-ltb, eq-eqb, false≢true}
use Rattle.std.proofs.lemmas.List.Elements.{All-nil, All-cons}
use Rattle.std.proofs.lemmas.List.Quantifiers.{position-Some}
use Rattle.std.proofs.lemmas.Bool.Decides.{eqb_tells}
use Rattle.std.proofs.lemmas.List.{length-map, length-append, map-append, take_all}
use Rattle.std.proofs.lemmas.Option.{slice_get-map, slice_get-get_or, slice_get_within, slice_get_cases, get_or_from_slice_get, same_Some}
use Rattle.base.proofs.Lists.{take-suc_place}
use Rattle.epochs.specs.declared.part.Part.{Part}
use Rattle.epochs.specs.Parts.{volatile_parts}
use Rattle.epochs.specs.Cuts.{cuts_of}
use Rattle.epochs.specs.Plan.{PlanValue}
use Rattle.choices.specs.declared.pick.Pick.{Pick}
use Rattle.choices.specs.declared.fate.Fate.{Fate}
use Rattle.choices.specs.declared.name.Name.{Name}
use Rattle.choices.specs.Picks.{fates_of, most_fates, picks_within, tears_of_part, ArePicks}
use Rattle.choices.specs.Laws.{AreRising, IsChoice}
use Rattle.choices.specs.Choices.{ChoiceValue, departure_of, fate_of, choice_of, choices_at, ranked_choices, ranked_at, ranked_before}
use Rattle.choices.specs.Named.{name_of, IsNamed, NoneIsNamed}
use Rattle.choices.specs.Seeking.{number_of, is_named, pick_name, NoneNamed, IsFirstNamed, IsPickOf, NoPickOf, IsFirstPick, ArePicksOf, NoPicksOf, LacksCut}
use Rattle.choices.proofs.CrashModel.{listed}
use Rattle.choices.proofs.Departing.{departs_as}
use Rattle.choices.proofs.Order.{is_head, is_tail, part_there, fate_there}
use Rattle.choices.proofs.Plans.{fates_low, found_choice}
use Rattle.choices.proofs.Sets.{list_is_set}

-- the numbers of fates lead back
number_back : (t : ℕ) → number_of (fate_of t) ≡ t
number_back zero = refl
number_back (suc t) = elim (cases_lt t tears_of_part) [
  | inl lt ↦ ap number_of (is_head t lt)
  | inr le ↦ let back : tears_of_part + (suc t - tears_of_part) ≡ suc t = omega (arith, le) in ap number_of (is_tail t le) ∙ back
]

named_number : (us : List Part) (name : Name) (pick : Pick) → pick_name us pick ≡ name → number_of name.fate ≡ pick.fate
named_number us name pick h =
    let fate : name.fate ≡ fate_of pick.fate = ap (λ (n : Name). n.fate) (sym h) ∙ fate_there us pick in
    ap number_of fate ∙ number_back pick.fate

named_part : (us : List Part) (name : Name) (pick : Pick) → pick_name us pick ≡ name → is_named (departure_of us pick).part name ≡ true
named_part us name pick h =
    let entry : (departure_of us pick).part.entry ≡ name.entry = ap (λ (n : Name). n.entry) h in
    let place : (departure_of us pick).part.place ≡ name.place = ap (λ (n : Name). n.place) h in
    rw (eq-eqb _ _ entry, eq-eqb _ _ place) refl

same_name : (u : Part) (f : Fate) (name : Name) → is_named u name ≡ true → f ≡ name.fate → name_of (record { part = u; fate = f }) ≡ name
same_name u f name h fate = elim (eqb_tells u.entry name.entry) [
  | inl entry ↦ elim (eqb_tells u.place name.place) [
    | inl place ↦ λ i. record { entry = entry.1 i; place = place.1 i; fate = fate i }
    | inr other ↦ absurd (false≢true (let bad : is_named u name ≡ false = rw (entry.0, other.0) refl in sym bad ∙ h))
  ]
  | inr other ↦ absurd (false≢true (let bad : is_named u name ≡ false = rw other.0 refl in sym bad ∙ h))
]

-- the search of a part: none yet, one more, and where it ends
pub none_yet : (us : List Part) (name : Name) (a : ℕ) → NoneNamed us name a a
none_yet us name a = record { each = λ i u low high at. absurd (omega (arith, low, high)) }

pub none_more : (us : List Part) (name : Name) (a n : ℕ) (u : Part) (b : Bool) → NoneNamed us name a n → slice_get us n ≡ Some u → b ≡ is_named u name
    → b ≡ false → NoneNamed us name a (n + 1)
none_more us name a n u b none at is other = record {
  each = λ i v low high there. elim (cases_lt i n) [
    | inl lt ↦ none.each i v low lt there
    | inr le ↦
        let here : i ≡ n = omega (arith, le, high) in
        let one : u ≡ v = same_Some u v (sym at ∙ ap (slice_get us) (sym here) ∙ there) in
        let P : Part → Type 0 = λ x. is_named x name ≡ false in
        subst P one (sym is ∙ other)
  ];
}

pub none_at_all : (us : List Part) (name : Name) (a n e : ℕ) → NoneNamed us name a n → e ≡ length us → e ≤ n → NoneNamed us name a (length us)
none_at_all us name a n e none is le = record { each = λ i u low high at. none.each i u low (omega (arith, is, le, high)) at }

pub first_named : (us : List Part) (name : Name) (a i : ℕ) (u : Part) (b : Bool) → NoneNamed us name a i → a ≤ i → slice_get us i ≡ Some u
    → b ≡ is_named u name → b ≡ true → IsFirstNamed us name a i
first_named us name a i u b none low at is named =
    record { low = low; inside = slice_get_within us i u at; part = u; there = at; named = sym is ∙ named; first = none }

-- the search of a departure
pub no_fate : (us : List Part) (m : ℕ) (name : Name) (a number : ℕ) → number ≡ number_of name.fate → m ≤ number
    → NoPickOf us m name a
no_fate us m name a number e le = record {
  none = λ pick is. let fate = is.fate in omega (arith, e, le, fate, named_number us name pick is.named);
}

pub no_part : (us : List Part) (m : ℕ) (name : Name) (a : ℕ) → NoneNamed us name a (length us) → NoPickOf us m name a
no_part us m name a none = record {
  none = λ pick is.
      let lost = none.each pick.part (departure_of us pick).part is.low is.inside (part_there us pick is.inside) in
      false≢true (sym lost ∙ named_part us name pick is.named);
}

pub first_pick : (us : List Part) (m : ℕ) (name : Name) (a i number : ℕ) → fate_of number ≡ name.fate → number < m → IsFirstNamed us name a i
    → IsFirstPick us m name a (record { part = i; fate = number })
first_pick us m name a i number back lt at =
    let pick : Pick = record { part = i; fate = number } in
    let told : name_of (departure_of us pick) ≡ name =
    ap name_of (sym (departs_as us pick at.part name.fate at.there (sym back))) ∙ same_name at.part name.fate name at.named refl in
    record {
      is = record { low = at.low; inside = at.inside; fate = lt; named = told };
      first = λ other is. elim (cases_lt other.part i) [
        | inl before ↦
            let lost = at.first.each other.part (departure_of us other).part is.low before (part_there us other is.inside) in
            absurd (false≢true (sym lost ∙ named_part us name other is.named))
        | inr le ↦ le
      ];
    }

-- departures that rise, with one more after them, from an earlier part on, or below a later one
rising_push : (m a b : ℕ) (ps : List Pick) (p : Pick) → AreRising m a b ps → a ≤ b → b ≤ p.part → p.fate < m → AreRising m a (p.part + 1) (ps ++ p ∷ [])
rising_push m a b [] p h le above fate = (omega (arith, le, above), omega arith, fate, tt)
rising_push m a b (q ∷ ps) p h le above fate =
    let below = h.1 in
    (h.0, omega (arith, below, above), h.2, rising_push m (q.part + 1) b ps p h.3 (omega (arith, below)) above fate)

rising_earlier : (m a b e : ℕ) (ps : List Pick) → AreRising m b e ps → a ≤ b → AreRising m a e ps
rising_earlier m a b e [] h le = tt
rising_earlier m a b e (p ∷ ps) h le = let low = h.0 in (omega (arith, low, le), h.1, h.2, h.3)

rising_later : (m a e f : ℕ) (ps : List Pick) → AreRising m a e ps → e ≤ f → AreRising m a f ps
rising_later m a e f [] h le = tt
rising_later m a e f (p ∷ ps) h le = let below = h.1 in (h.0, omega (arith, below, le), h.2, rising_later m (p.part + 1) e f ps h.3 le)

drop_here : (ps : List Pick) (i : ℕ) (p : Pick) → slice_get ps i ≡ Some p → drop i ps ≡ p ∷ drop (suc i) ps
drop_here [] i p h = absurd (let bad : None ≡ Some p = h in cc)
drop_here (q ∷ ps) zero p h = ap (λ (x : Pick). x ∷ ps) (same_Some q p h)
drop_here (q ∷ ps) (suc i) p h = drop_here ps i p h

-- the loop over the names: what was found, and that no other departures of these names come before
pub record Picking (us : List Part) (m : ℕ) (names : List Name) (i begin : ℕ) (picks : List Pick) : Type 0 where
  pub rising : AreRising m 0 begin picks
  pub within : begin ≤ length us
  pub named : map (pick_name us) picks ≡ take i names
  pub long : length picks ≡ i
  pub first : (ps : List Pick) → ArePicksOf us m names ps → AreRising m begin (length us) (drop i ps)

pub picking : (us : List Part) (m : ℕ) (names : List Name) → Picking us m names 0 0 []
picking us m names = record { rising = tt; within = omega arith; named = refl; long = refl; first = λ ps so. so.rising }

-- the departure that other departures of these names have at a place
record At (us : List Part) (m : ℕ) (name : Name) (begin i : ℕ) (ps : List Pick) : Type 0 where
  pick : Pick
  is : IsPickOf us m name begin pick
  rest : AreRising m (pick.part + 1) (length us) (drop (suc i) ps)

name_at : (us : List Part) (names : List Name) (ps : List Pick) (i : ℕ) (name : Name) → map (pick_name us) ps ≡ names → slice_get names i ≡ Some name
    → (p : Pick) × (slice_get ps i ≡ Some p) × (pick_name us p ≡ name)
name_at us names ps i name so at =
    let here : slice_get (map (pick_name us) ps) i ≡ Some name = ap (λ xs. slice_get xs i) so ∙ at in
    elim (slice_get_cases ps i).1 [
      | inl it ↦ (it.0, it.2, same_Some (pick_name us it.0) name (sym (slice_get-map (pick_name us) ps i ∙ ap (option_map (pick_name us)) it.2) ∙ here))
      | inr past ↦ absurd (let bad : None ≡ Some name = ap (option_map (pick_name us)) (sym past.1) ∙ sym (slice_get-map (pick_name us) ps i) ∙ here in cc)
    ]

other_at : (us : List Part) (m : ℕ) (names : List Name) (i begin : ℕ) (picks : List Pick) (name : Name) → Picking us m names i begin picks
    → slice_get names i ≡ Some name → (ps : List Pick) → ArePicksOf us m names ps → At us m name begin i ps
other_at us m names i begin picks name so at ps are =
    let it = name_at us names ps i name are.named at in
    let P : List Pick → Type 0 = λ xs. AreRising m begin (length us) xs in
    let rising : AreRising m begin (length us) (it.0 ∷ drop (suc i) ps) = subst P (drop_here ps i it.0 it.1) (so.first ps are) in
    record {
      pick = it.0;
      is = record { low = rising.0; inside = rising.1; fate = rising.2; named = it.2 };
      rest = rising.3;
    }

pub picked : (us : List Part) (m : ℕ) (names : List Name) (i begin : ℕ) (picks : List Pick) (name : Name) (pick : Pick) → Picking us m names i begin picks
    → slice_get names i ≡ Some name → IsFirstPick us m name begin pick → Picking us m names (i + 1) (pick.part + 1) (picks ++ pick ∷ [])
picked us m names i begin picks name pick so at first =
    let low = first.is.low in
    let inside = first.is.inside in
    record {
      rising = rising_push m 0 begin picks pick so.rising (omega arith) low first.is.fate;
      within = omega (arith, inside);
      named =
          map-append (pick_name us) picks (pick ∷ [])
          ∙ ap (λ xs. xs ++ pick_name us pick ∷ []) so.named
          ∙ ap (λ (n : Name). take i names ++ n ∷ []) first.is.named
          ∙ sym (ap (λ k. take k names) (add-one i) ∙ take-suc_place names i name at);
      long = let e = so.long in omega (arith, e, length-append picks (pick ∷ []));
      first = λ ps are.
          let other = other_at us m names i begin picks name so at ps are in
          let le : pick.part ≤ other.pick.part = first.first other.pick other.is in
          let P : ℕ → Type 0 = λ k. AreRising m (pick.part + 1) (length us) (drop k ps) in
          subst P (sym (add-one i)) (rising_earlier m (pick.part + 1) (other.pick.part + 1) (length us) (drop (suc i) ps) other.rest (omega (arith, le)));
    }

pub none_picked : (us : List Part) (m : ℕ) (names : List Name) (i begin : ℕ) (picks : List Pick) (name : Name) → Picking us m names i begin picks
    → slice_get names i ≡ Some name → NoPickOf us m name begin → NoPicksOf us m names
none_picked us m names i begin picks name so at lost = record {
  none = λ ps are. let other = other_at us m names i begin picks name so at ps are in lost.none other.pick other.is;
}

pub all_picked : (us : List Part) (m : ℕ) (names : List Name) (i begin : ℕ) (picks : List Pick) → Picking us m names i begin picks → length names ≤ i
    → ArePicksOf us m names picks
all_picked us m names i begin picks so le =
    record { rising = rising_later m 0 begin (length us) picks so.rising so.within; named = so.named ∙ take_all i names le }

names_of_map : (us : List Part) (ps : List Pick) → map name_of (map (departure_of us) ps) ≡ map (pick_name us) ps
names_of_map us [] = refl
names_of_map us (p ∷ ps) = ap (λ ns. pick_name us p ∷ ns) (names_of_map us ps)

-- the choice of departures that have the names
pub is_choice : (plan : PlanValue) (b : ℕ) (tears : Bool) (place cut : ℕ) (names : List Name) (picks : List Pick)
    → slice_get (cuts_of plan.kind plan.log.entries) place ≡ Some cut → length names ≤ b
    → ArePicksOf (volatile_parts plan.by plan.log.entries cut) (fates_of tears) names picks
    → IsChoice (fates_of tears) b (length (volatile_parts plan.by plan.log.entries cut)) picks
is_choice plan b tears place cut names picks wanted few are =
    record {
      few = omega (arith, few, length-map picks (pick_name (volatile_parts plan.by plan.log.entries cut)), ap length are.named);
      rising = are.rising;
    }

pub found_named : (plan : PlanValue) (b : ℕ) (tears : Bool) (place cut : ℕ) (names : List Name) (picks : List Pick)
    → slice_get (cuts_of plan.kind plan.log.entries) place ≡ Some cut → length names ≤ b
    → ArePicksOf (volatile_parts plan.by plan.log.entries cut) (fates_of tears) names picks
    → IsNamed plan b tears cut names (choice_of plan.by plan.log.entries place cut picks)
unfolding choice_of ranked_at choices_at
found_named plan b tears place cut names picks wanted few are =
    let way = plan.by in
    let es = plan.log.entries in
    let us : List Part = volatile_parts way es cut in
    let m = fates_of tears in
    let is = is_choice plan b tears place cut names picks wanted few are in
    let listed = (list_is_set m b (length us)).complete picks is in
    let within = slice_get_within (picks_within m b (length us)) listed.0 picks listed.1 in
    let number = length (ranked_before plan b tears place) + listed.0 in
    record {
      number = number;
      there =
          found_choice plan b tears number place listed.0
          (record { cut = cut; wanted = wanted; sum = refl; within = omega (arith, within, length-map (picks_within m b (length us)) (choice_of way es 0 cut)) })
          cut wanted picks listed.1;
      at = refl;
      named = names_of_map us picks ∙ are.named;
    }

-- and what such a choice tells
pub record Told (plan : PlanValue) (b : ℕ) (tears : Bool) (cut : ℕ) (names : List Name) : Type 0 where
  pub index : ℕ
  pub wanted : slice_get (cuts_of plan.kind plan.log.entries) index ≡ Some cut
  pub few : length names ≤ b
  pub picks : List Pick
  pub are : ArePicksOf (volatile_parts plan.by plan.log.entries cut) (fates_of tears) names picks

pub told : (plan : PlanValue) (b : ℕ) (tears : Bool) (cut : ℕ) (names : List Name) (choice : ChoiceValue) → IsNamed plan b tears cut names choice
    → Told plan b tears cut names
unfolding ranked_choices
told plan b tears cut names choice is =
    let way = plan.by in
    let es = plan.log.entries in
    let m = fates_of tears in
    let it = listed way es m b 0 (cuts_of plan.kind es) is.number choice (fates_low tears) is.there in
    let us : List Part = volatile_parts way es choice.cut in
    let chosen = (list_is_set m b (length us)).sound it.number choice.picks it.there in
    let named : map (pick_name us) choice.picks ≡ names =
    sym (names_of_map us choice.picks) ∙ ap (map name_of) (sym it.departs) ∙ is.named in
    let few = chosen.few in
    let P : ℕ → Type 0 = λ k. ArePicksOf (volatile_parts way es k) m names choice.picks in
    record {
      index = it.index;
      wanted = it.wanted ∙ ap (λ k. Some k) is.at;
      few = omega (arith, few, length-map choice.picks (pick_name us), ap length named);
      picks = choice.picks;
      are = subst P is.at (record { rising = chosen.rising; named = named });
    }

-- why there is no such choice
pub too_many : (plan : PlanValue) (b n : ℕ) (tears : Bool) (cut : ℕ) (names : List Name) → n ≡ length names → b < n → NoneIsNamed plan b tears cut names
too_many plan b n tears cut names long past = record {
  none = λ choice is. let few = (told plan b tears cut names choice is).few in omega (arith, few, long, past);
}

pub no_cut : (plan : PlanValue) (b : ℕ) (tears : Bool) (cut : ℕ) (names : List Name) (cuts : List ℕ) → cuts ≡ cuts_of plan.kind plan.log.entries
    → LacksCut cuts cut → NoneIsNamed plan b tears cut names
no_cut plan b tears cut names cuts are lacks = record {
  none = λ choice is.
      let it = told plan b tears cut names choice is in
      lacks.none it.index (ap (λ ks. slice_get ks it.index) are ∙ it.wanted);
}

pub no_picks : (plan : PlanValue) (b m : ℕ) (tears : Bool) (cut : ℕ) (names : List Name) → m ≡ fates_of tears
    → NoPicksOf (volatile_parts plan.by plan.log.entries cut) m names → NoneIsNamed plan b tears cut names
no_picks plan b m tears cut names fates lost =
    let P : ℕ → Type 0 = λ k. NoPicksOf (volatile_parts plan.by plan.log.entries cut) k names in
    let none = subst P fates lost in
    record { none = λ choice is. let it = told plan b tears cut names choice is in none.none it.picks it.are }

-- where a test passes somewhere, its first place isn't past the end
passes_within : {A : Type 0} (p : A → Bool) (xs : List A) (i : ℕ) (x : A) → slice_get xs i ≡ Some x → p x ≡ true → position_or_len p xs < length xs
passes_within p [] i x at h = absurd (let bad : None ≡ Some x = at in cc)
passes_within p (y ∷ ys) zero x at h =
    let first : p y ≡ true = ap p (same_Some y x at) ∙ h in
    rw first (omega arith)
passes_within p (y ∷ ys) (suc i) x at h =
    let rest = passes_within p ys i x at h in
    let by : (b : Bool) → p y ≡ b → position_or_len p (y ∷ ys) < suc (length ys) = λ b. elim b as (λ v. p y ≡ v → position_or_len p (y ∷ ys) < suc (length ys)) [
      | true ↦ λ e. rw e (omega arith)
      | false ↦ λ e. rw e (omega (arith, rest))
    ] in
    by (p y) refl

lacks : {A : Type 0} (p : A → Bool) (xs : List A) (i : ℕ) (x : A) → slice_get xs i ≡ Some x → p x ≡ true → position p xs ≡ None → ⊥
lacks p xs i x at h none =
    let within = passes_within p xs i x at h in
    let less = lt-ltb (position_or_len p xs) (length xs) within in
    let bad : Some (position_or_len p xs) ≡ None = (rw less at none) in
    absurd (cc)

-- the place of a cut
at_true : (k cut : ℕ) → (k == cut) ≡ true → k ≡ cut
at_true k cut h = elim (eqb_tells k cut) [ inl e ↦ e.1 | inr other ↦ absurd (false≢true (sym other.0 ∙ h)) ]

pub cut_found : (cuts : List ℕ) (cut : ℕ) (r : Option ℕ) → r ≡ position (λ (wanted : ℕ). wanted == cut) cuts
    → MatchOption r (LacksCut cuts cut) (λ place. slice_get cuts place ≡ Some cut)
cut_found cuts cut None is = record {
  none = λ i at.
      let test : ℕ → Bool = λ wanted. wanted == cut in
      absurd (lacks test cuts i cut at (eq-eqb cut cut refl) (sym is));
}
cut_found cuts cut (Some place) is =
    let test : ℕ → Bool = λ wanted. wanted == cut in
    let it = position-Some test cuts place 0 (sym is) in
    slice_get-get_or cuts place 0 it.0 ∙ ap (λ k. Some k) (at_true (get_or cuts place 0) cut it.1)

risen : (us : List Part) (m a : ℕ) (ps : List Pick) → m ≤ most_fates → AreRising m a (length us) ps → ArePicks most_fates (length us) ps
risen us m a [] le h = All-nil (λ (pick : Pick). (pick.part < length us) × (pick.fate < most_fates))
risen us m a (p ∷ ps) le h =
    let fate = h.2 in
    All-cons (λ (pick : Pick). (pick.part < length us) × (pick.fate < most_fates)) p ps (h.1, omega (arith, le, fate)) (risen us m (p.part + 1) ps le h.3)

-- what is at that place
pub cut_is : (cuts : List ℕ) (place cut d : ℕ) → slice_get cuts place ≡ Some cut → get_or cuts place d ≡ cut
cut_is cuts place cut d at = get_or_from_slice_get cuts place cut d at

-- the departures that were found, as `Choice::of` wants them
pub picks_fit : (us : List Part) (m : ℕ) (names : List Name) (picks : List Pick) → m ≤ most_fates → ArePicksOf us m names picks → ArePicks most_fates (length us) picks
picks_fit us m names picks le are = risen us m 0 picks le are.rising
