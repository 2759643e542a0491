-- Choices by the numbers of their departures.
use Rattle.std.proofs.Common.{ℕ, zero, suc, ◌≡◌, ◌+◌, ◌-◌, ◌*◌, ◌/◌, ◌%◌, ◌<◌, ◌≤◌, Bool, true, false, if◌then◌else◌, List, [], ◌∷◌, ◌++◌, length, take, slice_get, Some, None, refl, sym, subst, ◌∙◌, ap, inl, inr, arith, add-one, length-append}
use Rattle.std.specs.List.{slice_index_or}
use Rattle.std.proofs.lemmas.Bool.{cases_lt}
use Rattle.std.proofs.lemmas.Nat.{mul-le, div-mul-add, mod-mul-add, div-add-mod', mod_below}
use Rattle.std.proofs.lemmas.List.{take_at}
use Rattle.std.proofs.lemmas.Option.{slice_get_within, get_or_from_slice_get, same_Some}
use Rattle.base.proofs.Lists.{slice_get-append_right}
use Rattle.epochs.specs.Parts.{volatile_parts}
use Rattle.epochs.specs.Cuts.{cuts_of}
use Rattle.epochs.specs.Plan.{PlanValue}
use Rattle.choices.specs.declared.pick.Pick.{Pick}
use Rattle.choices.specs.Picks.{fates_of, most_fates, picks_within, ArePicks}
use Rattle.choices.specs.Steps.{first_picks, following, following_below}
use Rattle.choices.specs.Choices.{ChoiceValue, choice_of, ranked_choices, ranked_before, InCut}
use Rattle.choices.specs.Laws.{IsChoice, AreRising}
use Rattle.choices.specs.Picked.{PickedValue, picked_of, choice_of_picked, IsRanked, marked_picks, single, pick_after, with_last, CanPass}
use Rattle.choices.proofs.Ranks.{length-fewer}
use Rattle.choices.proofs.Rows.{following_front, below_moved}
use Rattle.choices.proofs.Following.{stepped_fate, stepped_part}
use Rattle.choices.proofs.Sets.{list_is_set}
use Rattle.choices.proofs.Plans.{fates_low, fates_high, goes, ranked_at-ways, found_choice, stands, stepped_on, moved_on, at_last, picks_weaker}

-- a choice of a plan is that of its numbers
choice_is_picked : (plan : PlanValue) (b : ℕ) (tears : Bool) (n : ℕ) (c : ChoiceValue) → slice_get (ranked_choices plan b tears) n ≡ Some c → c ≡ choice_of_picked plan (picked_of c)
unfolding ranked_choices choice_of
choice_is_picked plan b tears n c h =
    let so = goes plan.by plan.log.entries (fates_of tears) b 0 (cuts_of plan.kind plan.log.entries) n c (fates_low tears) h in
    let P : ChoiceValue → Type 0 = λ x. x ≡ choice_of_picked plan (picked_of x) in
    subst P (sym so.is) refl

pub picked_ranked : (plan : PlanValue) (b : ℕ) (tears : Bool) (n : ℕ) (c : ChoiceValue) → slice_get (ranked_choices plan b tears) n ≡ Some c → IsRanked plan b tears n (picked_of c)
picked_ranked plan b tears n c h = h ∙ ap (λ (x : ChoiceValue). Some x) (choice_is_picked plan b tears n c h)

-- where one of them stands
pub record Stands (plan : PlanValue) (b : ℕ) (tears : Bool) (p : PickedValue) : Type 0 where
  pub wanted : slice_get (cuts_of plan.kind plan.log.entries) p.place ≡ Some p.cut
  pub within : p.cut ≤ length plan.log.entries
  pub picks : ArePicks (fates_of tears) (length (volatile_parts plan.by plan.log.entries p.cut)) p.picks
  pub most : ArePicks most_fates (length (volatile_parts plan.by plan.log.entries p.cut)) p.picks

pub ranked_stands : (plan : PlanValue) (b : ℕ) (tears : Bool) (n : ℕ) (p : PickedValue) → IsRanked plan b tears n p → Stands plan b tears p
unfolding choice_of
ranked_stands plan b tears n p h =
    let so = stands plan b tears n (choice_of_picked plan p) h in
    record {
      wanted = so.wanted;
      within = so.within;
      picks = so.picks;
      most = picks_weaker (fates_of tears) (length (volatile_parts plan.by plan.log.entries p.cut)) p.picks (fates_high tears) so.picks;
    }

pub ranked_wanted : (plan : PlanValue) (b : ℕ) (tears : Bool) (n : ℕ) (p : PickedValue) → IsRanked plan b tears n p
    → slice_get (cuts_of plan.kind plan.log.entries) p.place ≡ Some p.cut
ranked_wanted plan b tears n p h = (ranked_stands plan b tears n p h).wanted

-- its departures are a choice of the volatile parts of its cut
pub ranked_is_choice : (plan : PlanValue) (b : ℕ) (tears : Bool) (n : ℕ) (p : PickedValue) → IsRanked plan b tears n p
    → IsChoice (fates_of tears) b (length (volatile_parts plan.by plan.log.entries p.cut)) p.picks
unfolding ranked_choices choice_of
ranked_is_choice plan b tears n p h =
    let m : ℕ = fates_of tears in
    let so = goes plan.by plan.log.entries m b 0 (cuts_of plan.kind plan.log.entries) n (choice_of_picked plan p) (fates_low tears) h in
    let cut : p.cut ≡ so.cut = ap (λ (c : ChoiceValue). c.cut) so.is in
    let picks : p.picks ≡ so.picks = ap (λ (c : ChoiceValue). c.picks) so.is in
    let v : ℕ → ℕ = λ k. length (volatile_parts plan.by plan.log.entries k) in
    let P : ℕ → Type 0 = λ k. IsChoice m b (v k) p.picks in
    let Q : List Pick → Type 0 = λ ps. IsChoice m b (v so.cut) ps in
    subst P (sym cut) (subst Q (sym picks) ((list_is_set m b (v so.cut)).sound so.number so.picks so.there))

-- and each such choice has a number
pub choice_is_ranked : (plan : PlanValue) (b : ℕ) (tears : Bool) (p : PickedValue) → slice_get (cuts_of plan.kind plan.log.entries) p.place ≡ Some p.cut
    → IsChoice (fates_of tears) b (length (volatile_parts plan.by plan.log.entries p.cut)) p.picks → (n : ℕ) × IsRanked plan b tears n p
choice_is_ranked plan b tears p wanted is =
    let m : ℕ = fates_of tears in
    let v : ℕ = length (volatile_parts plan.by plan.log.entries p.cut) in
    let at = (list_is_set m b v).complete p.picks is in
    let inside = slice_get_within (picks_within m b v) at.0 p.picks at.1 in
    let number : ℕ = length (ranked_before plan b tears p.place) + at.0 in
    let here : InCut plan b tears number p.place at.0 =
    record { cut = p.cut; wanted = wanted; sum = refl; within = omega (arith, inside, length-fewer m (suc b) v, ranked_at-ways plan b tears p.cut) } in
    (number, found_choice plan b tears number p.place at.0 here p.cut wanted p.picks at.1)

-- of the departures of a choice those that are marked are one
rising_from : (m a c e : ℕ) (ds : List Pick) → a ≤ c → AreRising m c e ds → AreRising m a e ds
rising_from m a c e [] le h = tt
rising_from m a c e (d ∷ ds) le h = (omega (arith, le, h.0), h.1, h.2, h.3)

rising_marked : (m a e : ℕ) (marks : List Bool) (ds : List Pick) → AreRising m a e ds → AreRising m a e (marked_picks marks ds)
rising_marked m a e [] ds h = tt
rising_marked m a e (b ∷ marks) [] h = tt
rising_marked m a e (true ∷ marks) (d ∷ ds) h = (h.0, h.1, h.2, rising_marked m (d.part + 1) e marks ds h.3)
rising_marked m a e (false ∷ marks) (d ∷ ds) h =
    let low = h.0 in
    rising_from m a (d.part + 1) e (marked_picks marks ds) (omega (arith, low)) (rising_marked m (d.part + 1) e marks ds h.3)

pub length-marked : (marks : List Bool) (ds : List Pick) → length (marked_picks marks ds) ≤ length ds
length-marked [] ds = omega arith
length-marked (b ∷ marks) [] = omega arith
length-marked (true ∷ marks) (d ∷ ds) = let rest = length-marked marks ds in omega (arith, rest)
length-marked (false ∷ marks) (d ∷ ds) = let rest = length-marked marks ds in omega (arith, rest)

pub marked_is_choice : (m b v : ℕ) (marks : List Bool) (picks : List Pick) → IsChoice m b v picks → IsChoice m b v (marked_picks marks picks)
marked_is_choice m b v marks picks is =
    let few = is.few in
    let fewer = length-marked marks picks in
    record { few = omega (arith, few, fewer); rising = rising_marked m 0 v marks picks is.rising }

pub marked_ranked : (plan : PlanValue) (b : ℕ) (tears : Bool) (n : ℕ) (p : PickedValue) (marks : List Bool) → IsRanked plan b tears n p
    → (k : ℕ) × IsRanked plan b tears k (record p { picks = marked_picks marks p.picks })
marked_ranked plan b tears n p marks h =
    choice_is_ranked plan b tears (record p { picks = marked_picks marks p.picks }) (ranked_wanted plan b tears n p h)
    (marked_is_choice (fates_of tears) b (length (volatile_parts plan.by plan.log.entries p.cut)) marks p.picks (ranked_is_choice plan b tears n p h))

-- one pick more
pub marked_more : (marks : List Bool) (picks : List Pick) (i : ℕ) (b : Bool) (pick : Pick) → slice_get marks i ≡ Some b → slice_get picks i ≡ Some pick
    → marked_picks marks (take (suc i) picks) ≡ marked_picks marks (take i picks) ++ (if b then pick ∷ [] else [])
marked_more [] picks i b pick at here = absurd (let bad : None ≡ Some b = at in cc)
marked_more (c ∷ marks) [] i b pick at here = absurd (let bad : None ≡ Some pick = here in cc)
marked_more (true ∷ marks) (d ∷ picks) zero b pick at here =
    let one : b ≡ true = same_Some b true (sym at) in
    let same : pick ≡ d = same_Some pick d (sym here) in
    rw (one, same) (ap (λ (ps : List Pick). d ∷ ps) (no_marked marks))
  where
    no_marked : (ms : List Bool) → marked_picks ms (take 0 picks) ≡ []
    no_marked [] = refl
    no_marked (m ∷ ms) = refl
marked_more (false ∷ marks) (d ∷ picks) zero b pick at here =
    let one : b ≡ false = same_Some b false (sym at) in
    rw one (no_marked marks)
  where
    no_marked : (ms : List Bool) → marked_picks ms (take 0 picks) ≡ []
    no_marked [] = refl
    no_marked (m ∷ ms) = refl
marked_more (true ∷ marks) (d ∷ picks) (suc i) b pick at here = ap (λ (ps : List Pick). d ∷ ps) (marked_more marks picks i b pick at here)
marked_more (false ∷ marks) (d ∷ picks) (suc i) b pick at here = marked_more marks picks i b pick at here

pub marked_nothing : (marks : List Bool) → marked_picks marks [] ≡ []
marked_nothing [] = refl
marked_nothing (b ∷ marks) = refl

pub marked_on : (marks : List Bool) (picks : List Pick) (i : ℕ) (b : Bool) (pick : Pick) (done more : List Pick) → slice_get marks i ≡ Some b → slice_get picks i ≡ Some pick
    → done ≡ marked_picks marks (take i picks) → more ≡ done ++ (if b then pick ∷ [] else []) → more ≡ marked_picks marks (take (i + 1) picks)
marked_on marks picks i b pick done more at here so is =
    is ∙ ap (λ (ps : List Pick). ps ++ (if b then pick ∷ [] else [])) so ∙ sym (marked_more marks picks i b pick at here)
    ∙ ap (λ n. marked_picks marks (take n picks)) (sym (add-one i))

-- the following choice
pub picked_on : (plan : PlanValue) (b : ℕ) (tears : Bool) (n : ℕ) (p : PickedValue) (picks : List Pick) → IsRanked plan b tears n p
    → following_below (fates_of tears) (b + 1) (length (volatile_parts plan.by plan.log.entries p.cut)) p.picks ≡ Some picks
    → IsRanked plan b tears (n + 1) (record p { picks = picks })
unfolding choice_of
picked_on plan b tears n p picks h step = stepped_on plan b tears n (choice_of_picked plan p) picks (stands plan b tears n (choice_of_picked plan p) h) step

pub picked_over : (plan : PlanValue) (b : ℕ) (tears : Bool) (n : ℕ) (p : PickedValue) (cut : ℕ) → IsRanked plan b tears n p
    → following_below (fates_of tears) (b + 1) (length (volatile_parts plan.by plan.log.entries p.cut)) p.picks ≡ None
    → slice_get (cuts_of plan.kind plan.log.entries) (p.place + 1) ≡ Some cut
    → IsRanked plan b tears (n + 1) (record { place = p.place + 1; cut = cut; picks = [] })
unfolding choice_of
picked_over plan b tears n p cut h none more = moved_on plan b tears n (choice_of_picked plan p) cut (stands plan b tears n (choice_of_picked plan p) h) none more

pub picked_last : (plan : PlanValue) (b : ℕ) (tears : Bool) (n : ℕ) (p : PickedValue) → IsRanked plan b tears n p
    → following_below (fates_of tears) (b + 1) (length (volatile_parts plan.by plan.log.entries p.cut)) p.picks ≡ None
    → slice_get (cuts_of plan.kind plan.log.entries) (p.place + 1) ≡ None → n + 1 ≡ length (ranked_choices plan b tears)
unfolding choice_of
picked_last plan b tears n p h none last = at_last plan b tears n (choice_of_picked plan p) (stands plan b tears n (choice_of_picked plan p) h) h none last

-- a single departure by its number
single_is : (m : ℕ) (pick : Pick) → pick.fate < m → pick ≡ single m (pick.part * m + pick.fate)
single_is m pick lt =
    let part : pick.part ≡ (pick.part * m + pick.fate) / m = sym (div-mul-add pick.part m pick.fate lt) in
    let fate : pick.fate ≡ (pick.part * m + pick.fate) % m = sym (mod-mul-add pick.part m pick.fate lt) in
    λ i. record { part = part i; fate = fate i }

-- the following one: the next fate, or else the next part
single_as : (m n a t : ℕ) → n ≡ a * m + t → t < m → single m n ≡ record { part = a; fate = t }
single_as m n a t is lt =
    let part : n / m ≡ a = ap (λ k. k / m) is ∙ div-mul-add a m t lt in
    let fate : n % m ≡ t = ap (λ k. k % m) is ∙ mod-mul-add a m t lt in
    λ i. record { part = part i; fate = fate i }

single_next : (m v a t : ℕ) → t < m → a * m + t + 1 < v * m
    → following m v (record { part = a; fate = t } ∷ []) ≡ Some (single m (a * m + t + 1) ∷ [])
unfolding following first_picks
single_next m v a t lt room = elim (cases_lt (t + 1) m) [
  | inl less ↦
      stepped_fate m v (record { part = a; fate = t }) 0 less
      ∙ ap (λ (pick : Pick). Some (pick ∷ [])) (sym (single_as m (a * m + t + 1) a (t + 1) (omega arith) less))
  | inr last ↦
      let whole : t + 1 ≡ m = omega (arith, last, lt) in
      let next : a * m + t + 1 ≡ (a + 1) * m + 0 = omega (arith, whole) in
      let more : a + 1 + 0 < v = elim (cases_lt (a + 1 + 0) v) [
        | inl less ↦ less
        | inr past ↦ absurd (past_all m v a past (omega (arith, next, room)))
      ] in
      stepped_part m v (record { part = a; fate = t }) 0 last more
      ∙ ap (λ (pick : Pick). Some (pick ∷ [])) (sym (single_as m (a * m + t + 1) (a + 1) 0 next (omega (arith, whole))))
]
  where
    past_all : (m v a : ℕ) → v ≤ a + 1 + 0 → (a + 1) * m < v * m → ⊥
    past_all m v a le lt = let all = mul-le v m (a + 1) m (omega (arith, le)) (omega arith) in omega (arith, all, lt)

-- from a last departure to the next
last_next : (m v : ℕ) (front : List Pick) (number : ℕ) → 1 ≤ m → number + 1 < v * m
    → following m v (front ++ single m number ∷ []) ≡ Some (front ++ single m (number + 1) ∷ [])
last_next m v front number some room =
    let a : ℕ = number / m in
    let t : ℕ = number % m in
    let lt : t < m = mod_below number m some in
    let is : a * m + t ≡ number = div-add-mod' number m in
    following_front m v front (single m number ∷ []) (single m (number + 1) ∷ [])
    (single_next m v a t lt (omega (arith, is, room)) ∙ ap (λ k. Some (single m (k + 1) ∷ [])) is)

passes : (plan : PlanValue) (b : ℕ) (tears : Bool) (n : ℕ) (p : PickedValue) (front : List Pick) (number k : ℕ)
    → IsRanked plan b tears n (with_last p front (single (fates_of tears) number))
    → number + k < length (volatile_parts plan.by plan.log.entries p.cut) * fates_of tears
    → IsRanked plan b tears (n + k) (with_last p front (single (fates_of tears) (number + k)))
passes plan b tears n p front number zero h room =
    let at : n ≡ n + 0 = omega arith in
    let here : number ≡ number + 0 = omega arith in
    let P : ℕ → Type 0 = λ i. IsRanked plan b tears i (with_last p front (single (fates_of tears) number)) in
    let Q : ℕ → Type 0 = λ j. IsRanked plan b tears (n + 0) (with_last p front (single (fates_of tears) j)) in
    subst Q here (subst P at h)
passes plan b tears n p front number (suc k) h room =
    let m : ℕ = fates_of tears in
    let v : ℕ = length (volatile_parts plan.by plan.log.entries p.cut) in
    let before = passes plan b tears n p front number k h (omega (arith, room)) in
    let next = last_next m v front (number + k) (fates_low tears) (omega (arith, room)) in
    let at : n + k + 1 ≡ n + suc k = omega arith in
    let here : number + k + 1 ≡ number + suc k = omega arith in
    let P : ℕ → Type 0 = λ i. IsRanked plan b tears i (with_last p front (single m (number + k + 1))) in
    let Q : ℕ → Type 0 = λ j. IsRanked plan b tears (n + suc k) (with_last p front (single m j)) in
    subst Q here (subst P at (picked_on plan b tears (n + k) (with_last p front (single m (number + k))) (front ++ single m (number + k + 1) ∷ []) before
    (below_moved m (b + 1) v (front ++ single m (number + k) ∷ []) (front ++ single m (number + k + 1) ∷ []) next)))

-- the fate of the last departure is one of those that there are
last_fate : (m v : ℕ) (front : List Pick) (last : Pick) (picks : List Pick) → ArePicks m v picks → picks ≡ front ++ last ∷ [] → last.fate < m
last_fate m v front last picks are is =
    let at : slice_get picks (length front + 0) ≡ Some last =
    ap (λ (ps : List Pick). slice_get ps (length front + 0)) is ∙ slice_get-append_right front (last ∷ []) 0 in
    let here = are (length front + 0) last (slice_get_within picks (length front + 0) last at) in
    let same = get_or_from_slice_get picks (length front + 0) last last at in
    let P : Pick → Type 0 = λ pick. pick.fate < m in
    subst P same here.1

-- that many choices in a row, in which the last departure alone changes
pub pass_leads : (plan : PlanValue) (b : ℕ) (tears : Bool) (n : ℕ) (p : PickedValue) (front : List Pick) (last : Pick) (count : ℕ)
    → IsRanked plan b tears n p → CanPass (fates_of tears) (length (volatile_parts plan.by plan.log.entries p.cut)) count front last p.picks
    → IsRanked plan b tears (n + count) (with_last p front (pick_after (fates_of tears) count last))
pass_leads plan b tears n p front last count h can =
    let m : ℕ = fates_of tears in
    let v : ℕ = length (volatile_parts plan.by plan.log.entries p.cut) in
    let fate = last_fate m v front last p.picks (ranked_stands plan b tears n p h).picks can.is in
    let number : ℕ = last.part * m + last.fate in
    let P : List Pick → Type 0 = λ ps. IsRanked plan b tears n (record p { picks = ps }) in
    let Q : Pick → Type 0 = λ pick. IsRanked plan b tears n (with_last p front pick) in
    passes plan b tears n p front number count (subst Q (single_is m last fate) (subst P can.is h)) can.room

-- in which part the last departure is then
pub passed_part : (m count next : ℕ) (pick : Pick) → pick.fate < m → pick.part * m + pick.fate + count < next * m
    → (pick.part ≤ (pick_after m count pick).part) × ((pick_after m count pick).part < next)
passed_part m count next pick lt room =
    let number : ℕ = pick.part * m + pick.fate + count in
    let a : ℕ = number / m in
    let below : number % m < m = mod_below number m (omega (arith, lt)) in
    let is : a * m + number % m ≡ number = div-add-mod' number m in (
      elim (cases_lt a pick.part) [
        | inr le ↦ le
        | inl less ↦ let all = mul-le (a + 1) m pick.part m (omega (arith, less)) (omega arith) in absurd (omega (arith, all, is, below))
      ],
      elim (cases_lt a next) [
        | inl less ↦ less
        | inr more ↦ let all = mul-le next m a m (omega (arith, more)) (omega arith) in absurd (omega (arith, all, is, room))
      ],
    )

-- the last departure, and those before it
last_parts : (picks front : List Pick) (last d : Pick) → picks ≡ front ++ last ∷ []
    → (take (length picks - 1) picks ≡ front) × (slice_index_or picks (length picks - 1) d ≡ last)
last_parts picks front last d is =
    let n : ℕ = length picks - 1 in
    let all = ap length is in
    let here : n ≡ length front + 0 = omega (arith, all, length-append front (last ∷ [])) in
    let there : slice_get picks n ≡ Some last =
    ap (λ (ps : List Pick). slice_get ps n) is ∙ ap (slice_get (front ++ last ∷ [])) here ∙ slice_get-append_right front (last ∷ []) 0 in
    (ap (take n) is ∙ take_at front (last ∷ []) n (omega (arith, here)), get_or_from_slice_get picks n last d there)

-- and with another in its place
pub passed_on : (inside p : PickedValue) (front : List Pick) (last d next : Pick) (slice before new : List Pick) (m fates count : ℕ)
    → inside ≡ p → p.picks ≡ front ++ last ∷ [] → slice ≡ inside.picks → fates ≡ m
    → next ≡ pick_after fates count (slice_index_or slice (length slice - 1) d) → before ≡ take (length slice - 1) inside.picks
    → new ≡ before ++ next ∷ [] → record inside { picks = new } ≡ with_last p front (pick_after m count last)
passed_on inside p front last d next slice before new m fates count same is lent told made cut put =
    let own : slice ≡ front ++ last ∷ [] = lent ∙ ap (λ (q : PickedValue). q.picks) same ∙ is in
    let parts = last_parts slice front last d own in
    let after : next ≡ pick_after m count last = made ∙ ap (λ k. pick_after k count (slice_index_or slice (length slice - 1) d)) told ∙ ap (pick_after m count) parts.1 in
    let first : before ≡ front = cut ∙ ap (take (length slice - 1)) (sym lent) ∙ parts.0 in
    let all : new ≡ front ++ pick_after m count last ∷ [] =
    put ∙ ap (λ (ps : List Pick). ps ++ next ∷ []) first ∙ ap (λ (pick : Pick). front ++ pick ∷ []) after in
    ap (λ (ps : List Pick). record inside { picks = ps }) all ∙ ap (λ (q : PickedValue). with_last q front (pick_after m count last)) same

-- what is kept inside stands for the same choice
abbrev pub picked_at : ℕ → ℕ → List Pick → PickedValue
picked_at place cut picks = record { place = place; cut = cut; picks = picks }

pub inside_ranked : (plan : PlanValue) (b : ℕ) (tears : Bool) (n : ℕ) (inside p : PickedValue) → inside ≡ p → IsRanked plan b tears n p → IsRanked plan b tears n inside
inside_ranked plan b tears n inside p same h = let P : PickedValue → Type 0 = λ q. IsRanked plan b tears n q in subst P (sym same) h

pub inside_stands : (plan : PlanValue) (b : ℕ) (tears : Bool) (n : ℕ) (inside p : PickedValue) → inside ≡ p → IsRanked plan b tears n p → Stands plan b tears inside
inside_stands plan b tears n inside p same h = ranked_stands plan b tears n inside (inside_ranked plan b tears n inside p same h)
