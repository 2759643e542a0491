-- The table of the numbers of choices before each wanted cut.
use Rattle.std.proofs.Common.{ℕ, zero, suc, ◌≡◌, ◌+◌, ◌-◌, ◌<◌, ◌≤◌, Bool, List, [], ◌∷◌, ◌++◌, length, take, slice_get, slice_index_or, Some, refl, sym, ◌∙◌, ap, inl, inr, arith, length-append}
use Rattle.std.proofs.lemmas.Bool.{cases_lt}
use Rattle.std.proofs.lemmas.List.{get_or_append_left, get_or-append_right}
use Rattle.std.proofs.lemmas.Option.{slice_get-get_or}
use Rattle.logfmt.specs.declared.entry.Entry.{Entry}
use Rattle.epochs.specs.declared.part.By.{By}
use Rattle.epochs.specs.Cuts.{cuts_of}
use Rattle.epochs.specs.Plan.{PlanValue}
use Rattle.choices.specs.Picks.{fates_of}
use Rattle.choices.specs.Choices.{choices_at, choices_over, ranked_choices, ranked_before, InCut}
use Rattle.choices.specs.Sums.{AreSumsUpTo, AreSums, FallsAt}
use Rattle.choices.proofs.Plans.{before_none, before_more, before_all}

-- the first cuts have no more choices than all
over_within : (way : By) (es : List Entry) (m b p i : ℕ) (cuts : List ℕ) → length (choices_over way es m b p (take i cuts)) ≤ length (choices_over way es m b p cuts)
unfolding choices_over
over_within way es m b p zero cuts = omega arith
over_within way es m b p (suc i) [] = omega arith
over_within way es m b p (suc i) (c ∷ cuts) =
    let rest = over_within way es m b (p + 1) i cuts in
    omega (
      arith,
      rest,
      length-append (choices_at way es m b p c) (choices_over way es m b (p + 1) (take i cuts)),
      length-append (choices_at way es m b p c) (choices_over way es m b (p + 1) cuts),
    )

pub before_within : (plan : PlanValue) (b : ℕ) (tears : Bool) (i : ℕ) → length (ranked_before plan b tears i) ≤ length (ranked_choices plan b tears)
unfolding ranked_before ranked_choices
before_within plan b tears i = over_within plan.by plan.log.entries (fates_of tears) b 0 i (cuts_of plan.kind plan.log.entries)

-- the sums before the first cut, and with one cut more
pub first_sum : (plan : PlanValue) (b : ℕ) (tears : Bool) (sums : List ℕ) → sums ≡ 0 ∷ [] → AreSumsUpTo plan b tears 0 sums
first_sum plan b tears sums is = record {
  long = ap length is;
  each = λ i le.
      let first : i ≡ 0 = omega (arith, le) in
      ap (λ xs. slice_index_or xs i 0) is ∙ ap (λ j. slice_index_or (0 ∷ []) j 0) first
      ∙ sym (ap (λ j. length (ranked_before plan b tears j)) first ∙ before_none plan b tears);
}

pub one_sum_more : (plan : PlanValue) (b : ℕ) (tears : Bool) (i sum : ℕ) (sums more : List ℕ) → AreSumsUpTo plan b tears i sums → more ≡ sums ++ sum ∷ []
    → sum ≡ length (ranked_before plan b tears (i + 1)) → AreSumsUpTo plan b tears (i + 1) more
one_sum_more plan b tears i sum sums more was is told =
    let long = was.long in
    record {
      long = let all = ap length is ∙ length-append sums (sum ∷ []) in omega (arith, all, long);
      each = λ j le. elim (cases_lt j (length sums)) [
        | inl less ↦ ap (λ xs. slice_index_or xs j 0) is ∙ get_or_append_left sums (sum ∷ []) 0 j less ∙ was.each j (omega (arith, less, long))
        | inr past ↦
            let here : j ≡ i + 1 = omega (arith, le, past, long) in
            let last : j - length sums ≡ 0 = omega (arith, here, long) in
            ap (λ xs. slice_index_or xs j 0) is ∙ get_or-append_right sums (sum ∷ []) (length sums) j 0 refl past
            ∙ ap (λ n. slice_index_or (sum ∷ []) n 0) last ∙ told ∙ ap (λ n. length (ranked_before plan b tears n)) (sym here)
      ];
    }

-- the number of a choice falls into the table
pub some_cut : (plan : PlanValue) (b : ℕ) (tears : Bool) (number : ℕ) (sums : List ℕ) → AreSums plan b tears sums → number < length (ranked_choices plan b tears) → 1 < length sums
some_cut plan b tears number sums are lt = elim (cases_lt 0 (length (cuts_of plan.kind plan.log.entries))) [
  | inl some ↦ let long = are.long in omega (arith, long, some)
  | inr none ↦
      let all = ap length (before_all plan b tears 0 none) in
      let first = before_none plan b tears in
      absurd (omega (arith, all, first, lt))
]

-- a number isn't before the first cut
pub not_below : (plan : PlanValue) (b : ℕ) (tears : Bool) (number : ℕ) (sums : List ℕ) → AreSums plan b tears sums → slice_index_or sums 0 0 ≤ number
not_below plan b tears number sums are =
    let first = are.each 0 (omega arith) ∙ before_none plan b tears in
    omega (arith, first)

-- and a number of a choice isn't after the last
pub not_above : (plan : PlanValue) (b : ℕ) (tears : Bool) (number : ℕ) (sums : List ℕ) → AreSums plan b tears sums → number < length (ranked_choices plan b tears)
    → number < slice_index_or sums (length sums - 1) 0
not_above plan b tears number sums are lt =
    let count : ℕ = length (cuts_of plan.kind plan.log.entries) in
    let long = are.long in
    let at : length sums - 1 ≡ count = omega (arith, long) in
    let reach : count ≤ count = omega arith in
    let last = ap (λ i. slice_index_or sums i 0) at ∙ are.each count reach ∙ ap length (before_all plan b tears count reach) in
    omega (arith, last, lt)

-- and so it is one at the cut where it falls
pub found_cut : (plan : PlanValue) (b : ℕ) (tears : Bool) (number place start : ℕ) (sums : List ℕ) → AreSums plan b tears sums → FallsAt sums number place
    → start ≡ slice_index_or sums place 0 → InCut plan b tears number place (number - start)
found_cut plan b tears number place start sums are at is =
    let cuts : List ℕ = cuts_of plan.kind plan.log.entries in
    let long = are.long in
    let inside = at.inside in
    let low = at.low in
    let high = at.high in
    let lt : place < length cuts = omega (arith, inside, long) in
    let wanted : slice_get cuts place ≡ Some (slice_index_or cuts place 0) = slice_get-get_or cuts place 0 lt in
    let here = are.each place (omega (arith, lt)) in
    let next = are.each (place + 1) (omega (arith, lt)) in
    let more = before_more plan b tears place (slice_index_or cuts place 0) wanted in
    record {
      cut = slice_index_or cuts place 0;
      wanted = wanted;
      sum = omega (arith, is, here, low);
      within = omega (arith, is, here, next, more, low, high);
    }
