-- The choices of a plan, cut after cut.
use Rattle.std.proofs.Common.{ℕ, zero, suc, ◌≡◌, ◌+◌, ◌-◌, ◌<◌, ◌≤◌, Bool, true, false, List, [], ◌∷◌, ◌++◌, length, map, take, slice_get, slice_index_or, Option, Some, None, refl, sym, ◌∙◌, ap, inl, inr, arith, length-append, add-one, subst}
use Rattle.std.specs.Option.{option_map}
use Rattle.std.proofs.lemmas.Bool.{cases_lt}
use Rattle.std.proofs.lemmas.List.{length-map, take_all}
use Rattle.std.proofs.lemmas.Option.{slice_get-map, slice_get_within, slice_get_cases, same_Some, get_or_from_slice_get, slice_get-get_or}
use Rattle.base.proofs.Lists.{slice_get-append_left, slice_get-append_right, slice_get_of_append}
use Rattle.logfmt.specs.declared.entry.Entry.{Entry}
use Rattle.epochs.specs.declared.part.By.{By}
use Rattle.epochs.specs.Parts.{volatile_parts}
use Rattle.epochs.specs.Cuts.{cuts_of}
use Rattle.epochs.specs.Plan.{PlanValue}
use Rattle.epochs.proofs.Wanted.{cuts_within}
use Rattle.choices.specs.declared.pick.Pick.{Pick}
use Rattle.choices.specs.Picks.{ranked_picks, fewer, most_fates, fates_of, picks_within, ArePicks}
use Rattle.choices.specs.Ways.{ways_within}
use Rattle.choices.specs.Steps.{following_below}
use Rattle.choices.specs.Choices.{ChoiceValue, departure_of, choice_of, choices_at, choices_over, ranked_choices, ranked_before, ranked_at, IsFirstPastOf, InCut}
use Rattle.choices.proofs.Ranks.{length-fewer}
use Rattle.choices.proofs.Following.{follows_below, fewer_picks, at_end, after_end, in_front}

-- there is at least one fate, and no more than there are with tears
pub fates_low : (tears : Bool) → 1 ≤ fates_of tears
fates_low tears = elim tears as (λ b. 1 ≤ fates_of b) [ true ↦ omega arith | false ↦ omega arith ]

pub fates_high : (tears : Bool) → fates_of tears ≤ most_fates
fates_high tears = elim tears as (λ b. fates_of b ≤ most_fates) [ true ↦ omega arith | false ↦ omega arith ]

-- how many choices a cut has
at_ways : (way : By) (es : List Entry) (m b p cut : ℕ) → length (choices_at way es m b p cut) ≡ ways_within m b (length (volatile_parts way es cut))
unfolding choices_at
at_ways way es m b p cut =
    length-map (picks_within m b (length (volatile_parts way es cut))) (choice_of way es p cut) ∙ length-fewer m (suc b) (length (volatile_parts way es cut))

-- the same of a plan
pub ranked_at-ways : (plan : PlanValue) (b : ℕ) (tears : Bool) (cut : ℕ)
    → length (ranked_at plan b tears cut) ≡ ways_within (fates_of tears) b (length (volatile_parts plan.by plan.log.entries cut))
unfolding ranked_at
ranked_at-ways plan b tears cut = at_ways plan.by plan.log.entries (fates_of tears) b 0 cut

-- one cut more
over_more : (way : By) (es : List Entry) (m b p i : ℕ) (cuts : List ℕ) (cut : ℕ) → slice_get cuts i ≡ Some cut
    → length (choices_over way es m b p (take (suc i) cuts)) ≡ length (choices_over way es m b p (take i cuts)) + length (choices_at way es m b 0 cut)
unfolding choices_over
over_more way es m b p i [] cut h = absurd (let bad : None ≡ Some cut = h in cc)
over_more way es m b p zero (c ∷ cuts) cut h =
    let same : c ≡ cut = same_Some c cut h in
    omega (arith, length-append (choices_at way es m b p c) [], at_ways way es m b p c, at_ways way es m b 0 cut, ap (λ k. ways_within m b (length (volatile_parts way es k))) same)
over_more way es m b p (suc i) (c ∷ cuts) cut h =
    let rest = over_more way es m b (p + 1) i cuts cut h in
    omega (
      arith,
      length-append (choices_at way es m b p c) (choices_over way es m b (p + 1) (take (suc i) cuts)),
      length-append (choices_at way es m b p c) (choices_over way es m b (p + 1) (take i cuts)),
      rest,
    )

-- the choices before a wanted cut: those of one cut more, of none, and of all
pub before_more : (plan : PlanValue) (b : ℕ) (tears : Bool) (i cut : ℕ) → slice_get (cuts_of plan.kind plan.log.entries) i ≡ Some cut
    → length (ranked_before plan b tears (i + 1)) ≡ length (ranked_before plan b tears i) + length (ranked_at plan b tears cut)
unfolding ranked_before ranked_at
before_more plan b tears i cut h =
    rw (add-one i) (over_more plan.by plan.log.entries (fates_of tears) b 0 i (cuts_of plan.kind plan.log.entries) cut h)

pub before_none : (plan : PlanValue) (b : ℕ) (tears : Bool) → length (ranked_before plan b tears 0) ≡ 0
unfolding ranked_before choices_over
before_none plan b tears = refl

pub before_all : (plan : PlanValue) (b : ℕ) (tears : Bool) (i : ℕ) → length (cuts_of plan.kind plan.log.entries) ≤ i
    → ranked_before plan b tears i ≡ ranked_choices plan b tears
unfolding ranked_before ranked_choices
before_all plan b tears i h =
    ap (choices_over plan.by plan.log.entries (fates_of tears) b 0) (take_all i (cuts_of plan.kind plan.log.entries) h)

-- where the cut is found
over_at : (way : By) (es : List Entry) (m b p i r : ℕ) (cuts : List ℕ) (cut : ℕ) → slice_get cuts i ≡ Some cut → r < length (choices_at way es m b 0 cut)
    → slice_get (choices_over way es m b p cuts) (length (choices_over way es m b p (take i cuts)) + r) ≡ slice_get (choices_at way es m b (p + i) cut) r
unfolding choices_over
over_at way es m b p i r [] cut h lt = absurd (let bad : None ≡ Some cut = h in cc)
over_at way es m b p zero r (c ∷ cuts) cut h lt =
    let same : c ≡ cut = same_Some c cut h in
    let here : 0 + r ≡ r = omega arith in
    let place : p ≡ p + 0 = omega arith in
    let within : r < length (choices_at way es m b p c) =
    omega (arith, lt, at_ways way es m b p c, at_ways way es m b 0 cut, ap (λ k. ways_within m b (length (volatile_parts way es k))) same) in
    ap (slice_get (choices_at way es m b p c ++ choices_over way es m b (p + 1) cuts)) here
    ∙ slice_get-append_left (choices_at way es m b p c) (choices_over way es m b (p + 1) cuts) r within
    ∙ ap (λ k. slice_get (choices_at way es m b p k) r) same
    ∙ ap (λ q. slice_get (choices_at way es m b q cut) r) place
over_at way es m b p (suc i) r (c ∷ cuts) cut h lt =
    let front : ℕ = length (choices_over way es m b (p + 1) (take i cuts)) in
    let here : length (choices_at way es m b p c ++ choices_over way es m b (p + 1) (take i cuts)) + r ≡ length (choices_at way es m b p c) + (front + r) =
    omega (arith, length-append (choices_at way es m b p c) (choices_over way es m b (p + 1) (take i cuts))) in
    let place : p + 1 + i ≡ p + suc i = omega arith in
    ap (slice_get (choices_at way es m b p c ++ choices_over way es m b (p + 1) cuts)) here
    ∙ slice_get-append_right (choices_at way es m b p c) (choices_over way es m b (p + 1) cuts) (front + r)
    ∙ over_at way es m b (p + 1) i r cuts cut h lt
    ∙ ap (λ q. slice_get (choices_at way es m b q cut) r) place

-- the choice of a cut by its number there
pub found_choice : (plan : PlanValue) (b : ℕ) (tears : Bool) (number place rest : ℕ) → (at : InCut plan b tears number place rest)
    → (cut : ℕ) → slice_get (cuts_of plan.kind plan.log.entries) place ≡ Some cut
    → (picks : List Pick) → slice_get (picks_within (fates_of tears) b (length (volatile_parts plan.by plan.log.entries cut))) rest ≡ Some picks
    → slice_get (ranked_choices plan b tears) number ≡ Some (choice_of plan.by plan.log.entries place cut picks)
unfolding ranked_choices ranked_before ranked_at choices_at
found_choice plan b tears number place rest at cut wanted picks there =
    let way = plan.by in
    let es = plan.log.entries in
    let m = fates_of tears in
    let one : cut ≡ at.cut = same_Some cut at.cut (sym wanted ∙ at.wanted) in
    let place_is : 0 + place ≡ place = omega arith in
    ap (slice_get (choices_over way es m b 0 (cuts_of plan.kind es))) at.sum
    ∙ over_at way es m b 0 place rest (cuts_of plan.kind es) at.cut at.wanted at.within
    ∙ ap (λ q. slice_get (choices_at way es m b q at.cut) rest) place_is
    ∙ ap (λ k. slice_get (choices_at way es m b place k) rest) (sym one)
    ∙ slice_get-map (choice_of way es place cut) (picks_within m b (length (volatile_parts way es cut))) rest
    ∙ ap (option_map (choice_of way es place cut)) there

-- a cut of the plan
pub wanted_within : (plan : PlanValue) (place cut : ℕ) → slice_get (cuts_of plan.kind plan.log.entries) place ≡ Some cut → cut ≤ length plan.log.entries
wanted_within plan place cut h =
    let within = cuts_within plan.kind plan.log.entries place cut (slice_get_within (cuts_of plan.kind plan.log.entries) place cut h) in
    let P : ℕ → Type 0 = λ k. k ≤ length plan.log.entries in
    subst P (get_or_from_slice_get (cuts_of plan.kind plan.log.entries) place cut cut h) within

-- the cuts before a choice's own are some, not all
pub not_past : (plan : PlanValue) (b : ℕ) (tears : Bool) (number place rest : ℕ) → number < length (ranked_choices plan b tears)
    → number ≡ length (ranked_before plan b tears place) + rest → place < length (cuts_of plan.kind plan.log.entries)
not_past plan b tears number place rest lt sum = elim (cases_lt place (length (cuts_of plan.kind plan.log.entries))) [
  | inl less ↦ less
  | inr more ↦ absurd (omega (arith, ap length (before_all plan b tears place more), sum, lt))
]

-- the first choice of a cut departs nowhere
fewer_head : (m b v : ℕ) → slice_get (fewer m (suc b) v) 0 ≡ Some []
unfolding fewer ranked_picks
fewer_head m zero v = refl
fewer_head m (suc b) v = in_front (fewer m (suc b) v) (ranked_picks m (suc b) 0 v) 0 [] (fewer_head m b v)

at_head : (way : By) (es : List Entry) (m b p cut : ℕ) → slice_get (choices_at way es m b p cut) 0 ≡ Some (choice_of way es p cut [])
unfolding choices_at
at_head way es m b p cut =
    slice_get-map (choice_of way es p cut) (picks_within m b (length (volatile_parts way es cut))) 0
    ∙ ap (option_map (choice_of way es p cut)) (fewer_head m b (length (volatile_parts way es cut)))

-- the first choice of a cut has no departures
abbrev pub first_at : By → List Entry → ℕ → ℕ → ChoiceValue
first_at way es p cut = choice_of way es p cut []

over_head : (way : By) (es : List Entry) (m b p : ℕ) (cuts : List ℕ) → slice_get (choices_over way es m b p cuts) 0 ≡ option_map (first_at way es p) (slice_get cuts 0)
unfolding choices_over
over_head way es m b p [] = refl
over_head way es m b p (c ∷ cuts) = in_front (choices_at way es m b p c) (choices_over way es m b (p + 1) cuts) 0 (choice_of way es p c []) (at_head way es m b p c)

-- the choice after another: the following one of its cut, or the first of the next cut
abbrev pub next_choice : By → List Entry → ℕ → ℕ → Option (List Pick) → Option ℕ → Option ChoiceValue
next_choice way es place cut (Some picks) other = Some (choice_of way es place cut picks)
next_choice way es place cut None other = option_map (first_at way es (place + 1)) other

-- where choice n of a list of cuts comes from, and which choice is after it
pub record Goes (way : By) (es : List Entry) (m b p : ℕ) (cuts : List ℕ) (n : ℕ) (c : ChoiceValue) : Type 0 where
  pub index : ℕ
  pub cut : ℕ
  pub number : ℕ
  pub picks : List Pick
  pub wanted : slice_get cuts index ≡ Some cut
  pub there : slice_get (picks_within m b (length (volatile_parts way es cut))) number ≡ Some picks
  pub is : c ≡ choice_of way es (p + index) cut picks
  pub next : slice_get (choices_over way es m b p cuts) (suc n)
      ≡ next_choice way es (p + index) cut (following_below m (suc b) (length (volatile_parts way es cut)) picks) (slice_get cuts (suc index))

-- after a choice of the first cut
leaves : (way : By) (es : List Entry) (m b p c : ℕ) (cuts : List ℕ) (n : ℕ) → n < length (picks_within m b (length (volatile_parts way es c))) → (o : Option (List Pick))
    → slice_get (picks_within m b (length (volatile_parts way es c))) (suc n) ≡ o
    → slice_get (choices_at way es m b p c ++ choices_over way es m b (p + 1) cuts) (suc n) ≡ next_choice way es p c o (slice_get cuts 0)
unfolding choices_at
leaves way es m b p c cuts n lt (Some picks) h =
    in_front (choices_at way es m b p c) (choices_over way es m b (p + 1) cuts) (suc n) (choice_of way es p c picks)
    (slice_get-map (choice_of way es p c) (picks_within m b (length (volatile_parts way es c))) (suc n) ∙ ap (option_map (choice_of way es p c)) h)
leaves way es m b p c cuts n lt None h =
    let whole : length (picks_within m b (length (volatile_parts way es c))) ≡ suc n = at_end (picks_within m b (length (volatile_parts way es c))) n lt h in
    after_end (choices_at way es m b p c) (choices_over way es m b (p + 1) cuts) (suc n)
    (length-map (picks_within m b (length (volatile_parts way es c))) (choice_of way es p c) ∙ whole)
    ∙ over_head way es m b (p + 1) cuts

in_first : (way : By) (es : List Entry) (m b p c : ℕ) (cuts : List ℕ) (n : ℕ) (x : ChoiceValue) → 1 ≤ m → slice_get (choices_at way es m b p c) n ≡ Some x
    → Goes way es m b p (c ∷ cuts) n x
unfolding choices_at choices_over
in_first way es m b p c cuts n x some h =
    let xs : List (List Pick) = picks_within m b (length (volatile_parts way es c)) in
    let as_map = slice_get-map (choice_of way es p c) xs n in
    elim (slice_get_cases xs n).1 [
      | inl it ↦
          let picks : List Pick = it.0 in
          let here : slice_get xs n ≡ Some picks = it.2 in
          let one : x ≡ choice_of way es p c picks = same_Some x (choice_of way es p c picks) (sym h ∙ as_map ∙ ap (option_map (choice_of way es p c)) here) in
          let place : p ≡ p + 0 = omega arith in
          let after = leaves way es m b p c cuts n it.1 (following_below m (suc b) (length (volatile_parts way es c)) picks)
          (follows_below m (suc b) (length (volatile_parts way es c)) some n picks here) in
          record {
            index = 0;
            cut = c;
            number = n;
            picks = picks;
            wanted = refl;
            there = here;
            is = one ∙ ap (λ q. choice_of way es q c picks) place;
            next = after ∙ ap (λ q. next_choice way es q c (following_below m (suc b) (length (volatile_parts way es c)) picks) (slice_get cuts 0)) place;
          }
      | inr past ↦ absurd (let bad : None ≡ Some x = ap (option_map (choice_of way es p c)) (sym past.1) ∙ sym as_map ∙ h in cc)
    ]

-- each choice of the list has such a place
pub goes : (way : By) (es : List Entry) (m b p : ℕ) (cuts : List ℕ) (n : ℕ) (x : ChoiceValue) → 1 ≤ m → slice_get (choices_over way es m b p cuts) n ≡ Some x
    → Goes way es m b p cuts n x
unfolding choices_over
goes way es m b p [] n x some h = absurd (let bad : None ≡ Some x = h in cc)
goes way es m b p (c ∷ cuts) n x some h =
    elim (slice_get_of_append (choices_at way es m b p c) (choices_over way es m b (p + 1) cuts) n x h) [
      | inl first ↦ in_first way es m b p c cuts n x some first.1
      | inr more ↦
          let so = goes way es m b (p + 1) cuts (n - length (choices_at way es m b p c)) x some more.1 in
          let index : ℕ = so.index in
          let place : p + 1 + index ≡ p + suc index = omega arith in
          let at : suc n ≡ length (choices_at way es m b p c) + suc (n - length (choices_at way es m b p c)) = omega (arith, more.0) in
          record {
            index = suc index;
            cut = so.cut;
            number = so.number;
            picks = so.picks;
            wanted = so.wanted;
            there = so.there;
            is = so.is ∙ ap (λ q. choice_of way es q so.cut so.picks) place;
            next =
                ap (slice_get (choices_at way es m b p c ++ choices_over way es m b (p + 1) cuts)) at
                ∙ slice_get-append_right (choices_at way es m b p c) (choices_over way es m b (p + 1) cuts) (suc (n - length (choices_at way es m b p c)))
                ∙ so.next
                ∙ ap (λ q. next_choice way es q so.cut (following_below m (suc b) (length (volatile_parts way es so.cut)) so.picks) (slice_get cuts (suc index))) place;
          }
    ]

-- the walk over the cuts up to a choice's own
pub record Walks (plan : PlanValue) (b : ℕ) (tears : Bool) (number : ℕ) (cuts : List ℕ) (place rest own : ℕ) : Type 0 where
  pub cut : ℕ
  pub wanted : slice_get cuts place ≡ Some cut
  pub sum : number ≡ length (ranked_before plan b tears place) + rest
  pub ways : own ≡ length (ranked_at plan b tears cut)

-- the loop over the cuts: there is one, the first, room for a next, and the next
pub walk_begins : (plan : PlanValue) (b : ℕ) (tears : Bool) (number : ℕ) (cuts : List ℕ) → cuts ≡ cuts_of plan.kind plan.log.entries
    → number < length (ranked_choices plan b tears) → 0 < length cuts
walk_begins plan b tears number cuts is lt =
    let sum : number ≡ length (ranked_before plan b tears 0) + number = omega (arith, before_none plan b tears) in
    omega (arith, not_past plan b tears number 0 number lt sum, ap length is)

pub walk_first : (plan : PlanValue) (b : ℕ) (tears : Bool) (number : ℕ) (cuts : List ℕ) → 0 < length cuts
    → (own : ℕ) → own ≡ length (ranked_at plan b tears (slice_index_or cuts 0 0)) → Walks plan b tears number cuts 0 number own
walk_first plan b tears number cuts some own ways = record {
  cut = slice_index_or cuts 0 0;
  wanted = slice_get-get_or cuts 0 0 some;
  sum = omega (arith, before_none plan b tears);
  ways = ways;
}

sum_on : (plan : PlanValue) (b : ℕ) (tears : Bool) (number : ℕ) (cuts : List ℕ) (place rest own : ℕ) → Walks plan b tears number cuts place rest own
    → cuts ≡ cuts_of plan.kind plan.log.entries → own ≤ rest
    → number ≡ length (ranked_before plan b tears (place + 1)) + (rest - own)
sum_on plan b tears number cuts place rest own so is le =
    let wanted : slice_get (cuts_of plan.kind plan.log.entries) place ≡ Some so.cut = ap (λ ks. slice_get ks place) (sym is) ∙ so.wanted in
    let sum = so.sum in
    let ways = so.ways in
    omega (arith, before_more plan b tears place so.cut wanted, sum, ways, le)

-- a number that isn't at this cut has a cut after it
pub walk_room : (plan : PlanValue) (b : ℕ) (tears : Bool) (number : ℕ) (cuts : List ℕ) (place rest own : ℕ) → Walks plan b tears number cuts place rest own
    → cuts ≡ cuts_of plan.kind plan.log.entries → own ≤ rest → number < length (ranked_choices plan b tears) → place + 1 < length cuts
walk_room plan b tears number cuts place rest own so is le lt =
    let next = sum_on plan b tears number cuts place rest own so is le in
    omega (arith, not_past plan b tears number (place + 1) (rest - own) lt next, ap length is)

-- and the walk goes on there
pub walk_on : (plan : PlanValue) (b : ℕ) (tears : Bool) (number : ℕ) (cuts : List ℕ) (place rest own : ℕ) → Walks plan b tears number cuts place rest own
    → cuts ≡ cuts_of plan.kind plan.log.entries → own ≤ rest → number < length (ranked_choices plan b tears)
    → (more : ℕ) → more ≡ length (ranked_at plan b tears (slice_index_or cuts (place + 1) 0))
    → Walks plan b tears number cuts (place + 1) (rest - own) more
walk_on plan b tears number cuts place rest own so is le lt more ways = record {
  cut = slice_index_or cuts (place + 1) 0;
  wanted = slice_get-get_or cuts (place + 1) 0 (walk_room plan b tears number cuts place rest own so is le lt);
  sum = sum_on plan b tears number cuts place rest own so is le;
  ways = ways;
}

-- the count up to a cut
pub counted : (plan : PlanValue) (b : ℕ) (tears : Bool) (cuts : List ℕ) (i sum own : ℕ) → cuts ≡ cuts_of plan.kind plan.log.entries → i < length cuts
    → sum ≡ length (ranked_before plan b tears i) → own ≡ length (ranked_at plan b tears (slice_index_or cuts i 0))
    → sum + own ≡ length (ranked_before plan b tears (i + 1))
counted plan b tears cuts i sum own is lt so ways =
    let wanted : slice_get (cuts_of plan.kind plan.log.entries) i ≡ Some (slice_index_or cuts i 0) =
    ap (λ ks. slice_get ks i) (sym is) ∙ slice_get-get_or cuts i 0 lt in
    omega (arith, before_more plan b tears i (slice_index_or cuts i 0) wanted, so, ways)

-- the sum passes the most at this cut, which has more choices than are left
pub first_past : (most : ℕ) (plan : PlanValue) (b : ℕ) (tears : Bool) (cuts : List ℕ) (i sum own : ℕ) → cuts ≡ cuts_of plan.kind plan.log.entries → i < length cuts
    → sum ≡ length (ranked_before plan b tears i) → own ≡ length (ranked_at plan b tears (slice_index_or cuts i 0))
    → sum ≤ most → most - sum < own → IsFirstPastOf most plan b tears (slice_index_or cuts i 0)
first_past most plan b tears cuts i sum own is lt so ways low high = record {
  place = i;
  wanted = ap (λ ks. slice_get ks i) (sym is) ∙ slice_get-get_or cuts i 0 lt;
  before = omega (arith, so, low);
  past = omega (arith, counted plan b tears cuts i sum own is lt so ways, low, high);
}

-- after the last cut the sum is that of all choices
pub counted_all : (plan : PlanValue) (b : ℕ) (tears : Bool) (cuts : List ℕ) (i sum : ℕ) → cuts ≡ cuts_of plan.kind plan.log.entries → length cuts ≤ i
    → sum ≡ length (ranked_before plan b tears i) → sum ≡ length (ranked_choices plan b tears)
counted_all plan b tears cuts i sum is le so = so ∙ ap length (before_all plan b tears i (omega (arith, le, ap length is)))

-- departures by few fates
pub picks_weaker : (m v : ℕ) (picks : List Pick) → m ≤ most_fates → ArePicks m v picks → ArePicks most_fates v picks
picks_weaker m v picks le are = λ k d lt. let here = are k d lt in (here.0, omega (arith, here.1, le))

-- where a choice of the list stands, and what follows it
pub record Standing (plan : PlanValue) (b : ℕ) (tears : Bool) (n : ℕ) (old : ChoiceValue) : Type 0 where
  pub wanted : slice_get (cuts_of plan.kind plan.log.entries) old.place ≡ Some old.cut
  pub within : old.cut ≤ length plan.log.entries
  pub picks : ArePicks (fates_of tears) (length (volatile_parts plan.by plan.log.entries old.cut)) old.picks
  pub next : slice_get (ranked_choices plan b tears) (n + 1)
      ≡ next_choice plan.by plan.log.entries old.place old.cut (following_below (fates_of tears) (b + 1) (length (volatile_parts plan.by plan.log.entries old.cut)) old.picks)
      (slice_get (cuts_of plan.kind plan.log.entries) (old.place + 1))

stands_at : (plan : PlanValue) (b : ℕ) (tears : Bool) (n index cut number : ℕ) (picks : List Pick)
    → slice_get (cuts_of plan.kind plan.log.entries) index ≡ Some cut
    → slice_get (picks_within (fates_of tears) b (length (volatile_parts plan.by plan.log.entries cut))) number ≡ Some picks
    → slice_get (ranked_choices plan b tears) (suc n)
    ≡ next_choice plan.by plan.log.entries (0 + index) cut (following_below (fates_of tears) (suc b) (length (volatile_parts plan.by plan.log.entries cut)) picks)
    (slice_get (cuts_of plan.kind plan.log.entries) (suc index))
    → Standing plan b tears n (choice_of plan.by plan.log.entries (0 + index) cut picks)
unfolding choice_of
stands_at plan b tears n index cut number picks wanted there next =
    let zero_index : 0 + index ≡ index = omega arith in
    let step_index : 0 + index + 1 ≡ suc index = omega arith in
    let one_bound : b + 1 ≡ suc b = omega arith in
    let one_number : n + 1 ≡ suc n = omega arith in
    record {
      wanted = ap (slice_get (cuts_of plan.kind plan.log.entries)) zero_index ∙ wanted;
      within = wanted_within plan index cut wanted;
      picks = fewer_picks (fates_of tears) (suc b) (length (volatile_parts plan.by plan.log.entries cut)) number picks there;
      next = rw (one_number, step_index, one_bound) next;
    }

-- each choice of a plan has such a place
pub stands : (plan : PlanValue) (b : ℕ) (tears : Bool) (n : ℕ) (old : ChoiceValue) → slice_get (ranked_choices plan b tears) n ≡ Some old → Standing plan b tears n old
unfolding ranked_choices
stands plan b tears n old h =
    let so = goes plan.by plan.log.entries (fates_of tears) b 0 (cuts_of plan.kind plan.log.entries) n old (fates_low tears) h in
    let P : ChoiceValue → Type 0 = λ c. Standing plan b tears n c in
    subst P (sym so.is) (stands_at plan b tears n so.index so.cut so.number so.picks so.wanted so.there so.next)

-- a step is the same for equal numbers of fates and of parts
pub same_step : (m m' s v v' : ℕ) (ds : List Pick) (o : Option (List Pick)) → m ≡ m' → v ≡ v' → following_below m s v ds ≡ o → following_below m' s v' ds ≡ o
same_step m m' s v v' ds o same parts h = ap (λ f. following_below f s v' ds) (sym same) ∙ ap (λ k. following_below m s k ds) (sym parts) ∙ h

-- the next choice: one of the same cut, the first of the next, or none
pub stepped_on : (plan : PlanValue) (b : ℕ) (tears : Bool) (n : ℕ) (old : ChoiceValue) (picks : List Pick) → Standing plan b tears n old
    → following_below (fates_of tears) (b + 1) (length (volatile_parts plan.by plan.log.entries old.cut)) old.picks ≡ Some picks
    → slice_get (ranked_choices plan b tears) (n + 1) ≡ Some (choice_of plan.by plan.log.entries old.place old.cut picks)
stepped_on plan b tears n old picks so h =
    so.next ∙ ap (λ o. next_choice plan.by plan.log.entries old.place old.cut o (slice_get (cuts_of plan.kind plan.log.entries) (old.place + 1))) h

pub new_picks : (plan : PlanValue) (b : ℕ) (tears : Bool) (n : ℕ) (old : ChoiceValue) (picks : List Pick) → Standing plan b tears n old
    → following_below (fates_of tears) (b + 1) (length (volatile_parts plan.by plan.log.entries old.cut)) old.picks ≡ Some picks
    → ArePicks most_fates (length (volatile_parts plan.by plan.log.entries old.cut)) picks
unfolding choice_of
new_picks plan b tears n old picks so h =
    let there = stands plan b tears (n + 1) (choice_of plan.by plan.log.entries old.place old.cut picks) (stepped_on plan b tears n old picks so h) in
    picks_weaker (fates_of tears) (length (volatile_parts plan.by plan.log.entries old.cut)) picks (fates_high tears) there.picks

-- after the last choice of a cut comes the first of the next cut
pub moved_on : (plan : PlanValue) (b : ℕ) (tears : Bool) (n : ℕ) (old : ChoiceValue) (cut : ℕ) → Standing plan b tears n old
    → following_below (fates_of tears) (b + 1) (length (volatile_parts plan.by plan.log.entries old.cut)) old.picks ≡ None
    → slice_get (cuts_of plan.kind plan.log.entries) (old.place + 1) ≡ Some cut
    → slice_get (ranked_choices plan b tears) (n + 1) ≡ Some (choice_of plan.by plan.log.entries (old.place + 1) cut [])
moved_on plan b tears n old cut so none more =
    so.next ∙ ap (λ o. next_choice plan.by plan.log.entries old.place old.cut o (slice_get (cuts_of plan.kind plan.log.entries) (old.place + 1))) none
    ∙ ap (option_map (first_at plan.by plan.log.entries (old.place + 1))) more

-- the last choice of the last cut is the last of all
pub at_last : (plan : PlanValue) (b : ℕ) (tears : Bool) (n : ℕ) (old : ChoiceValue) → Standing plan b tears n old
    → slice_get (ranked_choices plan b tears) n ≡ Some old
    → following_below (fates_of tears) (b + 1) (length (volatile_parts plan.by plan.log.entries old.cut)) old.picks ≡ None
    → slice_get (cuts_of plan.kind plan.log.entries) (old.place + 1) ≡ None
    → n + 1 ≡ length (ranked_choices plan b tears)
at_last plan b tears n old so here none last =
    let past : slice_get (ranked_choices plan b tears) (suc n) ≡ None =
    ap (slice_get (ranked_choices plan b tears)) (sym (add-one n)) ∙ so.next
    ∙ ap (λ o. next_choice plan.by plan.log.entries old.place old.cut o (slice_get (cuts_of plan.kind plan.log.entries) (old.place + 1))) none
    ∙ ap (option_map (first_at plan.by plan.log.entries (old.place + 1))) last in
    let long = at_end (ranked_choices plan b tears) n (slice_get_within (ranked_choices plan b tears) n old here) past in
    omega (arith, long)

-- a choice by its number at its cut
pub nth_picks : (m b v n : ℕ) (picks : List Pick) → m ≤ most_fates → slice_get (picks_within m b v) n ≡ Some picks → ArePicks most_fates v picks
nth_picks m b v n picks le h = picks_weaker m v picks le (fewer_picks m (suc b) v n picks h)

-- a choice that is put together from its parts
pub choice_is : (way : By) (es : List Entry) (c : ChoiceValue) (place cut : ℕ) (picks : List Pick) → c.place ≡ place → c.cut ≡ cut → c.picks ≡ picks
    → c.departures ≡ map (departure_of (volatile_parts way es cut)) picks → c ≡ choice_of way es place cut picks
unfolding choice_of
choice_is way es c place cut picks p k ps ds = λ i. record { place = p i; cut = k i; picks = ps i; departures = ds i }

-- the wanted cut that the walk found, how many choices it has, and the picks of one of them
pub cut_there : (plan : PlanValue) (b : ℕ) (tears : Bool) (number place rest : ℕ) → InCut plan b tears number place rest
    → (cuts : List ℕ) → cuts ≡ cuts_of plan.kind plan.log.entries → (d : ℕ)
    → slice_get (cuts_of plan.kind plan.log.entries) place ≡ Some (slice_index_or cuts place d)
cut_there plan b tears number place rest at cuts is d =
    let here : slice_get cuts place ≡ Some at.cut = ap (λ ks. slice_get ks place) is ∙ at.wanted in
    at.wanted ∙ sym (ap (λ k. Some k) (get_or_from_slice_get cuts place at.cut d here))

pub same_ways : (plan : PlanValue) (b : ℕ) (tears : Bool) (number place rest : ℕ) → InCut plan b tears number place rest
    → (cuts : List ℕ) → cuts ≡ cuts_of plan.kind plan.log.entries → (d : ℕ)
    → rest < ways_within (fates_of tears) b (length (volatile_parts plan.by plan.log.entries (slice_index_or cuts place d)))
same_ways plan b tears number place rest at cuts is d =
    let here : slice_get cuts place ≡ Some at.cut = ap (λ ks. slice_get ks place) is ∙ at.wanted in
    let cut : slice_index_or cuts place d ≡ at.cut = get_or_from_slice_get cuts place at.cut d here in
    let within = at.within in
    rw cut (omega (arith, within, ranked_at-ways plan b tears at.cut))

pub same_picks : (m m' b v v' n : ℕ) (o : Option (List Pick)) → m ≡ m' → v ≡ v' → slice_get (picks_within m b v) n ≡ o → slice_get (picks_within m' b v') n ≡ o
same_picks m m' b v v' n o same parts h =
    ap (λ f. slice_get (picks_within f b v') n) (sym same) ∙ ap (λ k. slice_get (picks_within m b k) n) (sym parts) ∙ h
