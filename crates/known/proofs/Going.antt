-- A search that goes on until it is to stop.
use Rattle.std.proofs.Common.{ℕ, zero, suc, ◌≡◌, ◌+◌, ◌<◌, ◌≤◌, Bool, true, false, not, List, [], ◌∷◌, ◌++◌, length, map, count_by, take, refl, sym, subst, ◌∙◌, ap, arith, inl, inr}
use Rattle.std.proofs.lemmas.Bool.{false≢true}
use Rattle.std.proofs.lemmas.Bool.{cases_lt}
use Rattle.std.proofs.lemmas.List.{append-nil, length-append, map-append}
use Rattle.cases.specs.AtCut.{parts_of, case_of}
use Rattle.cases.specs.Cases.{Case}
use Rattle.cases.specs.Trees.{Program, Subject}
use Rattle.cases.specs.Search.{Asked, subject_of, SearchValue, SameSearch, Went, LeadTo, are_there, LeadToLeaf, LeafValue, leaf_case, Ran, case_in, pending, is_torn_beyond, plus}
use Rattle.cases.proofs.Runs.{ran_start, ran_more, ran_end, counted_both}
use Rattle.case_runs.proofs.Seeking.{WentTo}
use Rattle.known.specs.declared.found.Stops.{Stops}
use Rattle.known.specs.Leaves.{has_stopped}
use Rattle.known.specs.Found.{GoesOn, CameRight, StopsRight, WentOn, WentRight}

-- a search that a judge was told of came to n leaves, and wasn't to stop before the last
pub record GoneSo (program : Program) (stops : Stops) (old now : SearchValue) (leaves : List LeafValue) (n : ℕ) : Type 0 where
  pub same : SameSearch old now
  pub ran : Ran (subject_of old.asked program) old now [] leaves
  pub many : length leaves ≡ n
  pub on : GoesOn stops leaves
  pub right : WentRight program old now leaves

pub gone_none : (program : Program) (stops : Stops) (v : SearchValue) (leaves : List LeafValue) → leaves ≡ [] → GoneSo program stops v v leaves 0
gone_none program stops v leaves none = subst (λ (ls : List LeafValue). GoneSo program stops v v ls 0) (sym none) (record {
  same = record { asked = refl; tears = refl };
  ran = ran_start (subject_of v.asked program) v [];
  many = refl;
  on = λ n lt. absurd (omega (arith, lt));
  right = record { left = []; leads = are_there; right = inl (refl, refl, refl); torn = refl; lost = refl };
})

-- the first n of some leaves are the same with one more
take_before : (leaves : List LeafValue) (leaf : LeafValue) (n : ℕ) → n ≤ length leaves → take n (leaves ++ leaf ∷ []) ≡ take n leaves
take_before leaves leaf zero le = refl
take_before [] leaf (suc n) le = absurd (omega (arith, le))
take_before (x ∷ leaves) leaf (suc n) le = ap (λ ls. x ∷ ls) (take_before leaves leaf n (omega (arith, le)))

take_whole : (leaves : List LeafValue) → take (length leaves) leaves ≡ leaves
take_whole [] = refl
take_whole (x ∷ leaves) = ap (λ ls. x ∷ ls) (take_whole leaves)

on_more : (stops : Stops) (leaves : List LeafValue) (leaf : LeafValue) → GoesOn stops leaves → has_stopped stops leaves ≡ false → GoesOn stops (leaves ++ leaf ∷ [])
on_more stops leaves leaf on going n lt =
    let long = length-append leaves (leaf ∷ []) in
    ap (has_stopped stops) (take_before leaves leaf n (omega (arith, long, lt))) ∙ elim (cases_lt n (length leaves)) [
      | inl less ↦ on n less
      | inr more ↦
          let same : n ≡ length leaves = omega (arith, long, lt, more) in
          ap (λ m. has_stopped stops (take m leaves)) same ∙ ap (has_stopped stops) (take_whole leaves) ∙ going
    ]

-- some cases lead to a leaf, after other leaves
came_right : (s : Subject) (old now new : SearchValue) (leaves after : List LeafValue) (leaf : LeafValue) → Ran s old now [] leaves
    → (went : Went s now new true) → case_in new ≡ leaf_case old.tears old.asked.at leaf → after ≡ leaves ++ leaf ∷ []
    → CameRight s (leaf_case old.tears old.asked.at) (pending old) old.torn_beyond old.lost_beyond new after
came_right s old now new leaves after leaf ran went own put = record {
  left = ran.left ++ went.left;
  leads =
      subst (λ (ls : List Case). LeadTo s (pending new) (pending old) ls (ran.left ++ went.left)) (sym all)
      (subst (λ (c : Case). LeadTo s (pending new) (pending old) (map F ran.told ++ c ∷ []) (ran.left ++ went.left)) own
      (ran.leads (pending new) (case_in new ∷ []) went.left
      (subst (λ (cs : List Case). LeadTo s (pending new) (pending now) (case_in new ∷ []) cs) (append-nil went.left) (went.leads (pending new) [] [] are_there))));
  right = inr (record {
    front = map F ran.told;
    last = case_in new;
    are = all ∙ ap (λ (c : Case). map F ran.told ++ c ∷ []) (sym own);
    leads =
        subst (λ (ls : List Case). LeadTo s (case_in new ∷ pending new) (pending old) ls (ran.left ++ went.left)) (append-nil (map F ran.told))
        (ran.leads (case_in new ∷ pending new) [] went.left
        (subst (λ (cs : List Case). LeadTo s (case_in new ∷ pending new) (pending now) [] cs) (append-nil went.left) (leads_to.leads (case_in new ∷ pending new) [] [] are_there)));
    within = leads_to.within;
    whole = leads_to.whole;
  });
  torn = went.torn ∙ ap (λ n. plus n (count_by (is_torn_beyond s) went.left)) ran.torn ∙ counted_both (is_torn_beyond s) old.torn_beyond ran.left went.left;
  lost =
      went.lost ∙ ap (λ n. plus n (count_by (λ c. not (is_torn_beyond s c)) went.left)) ran.lost
      ∙ counted_both (λ c. not (is_torn_beyond s c)) old.lost_beyond ran.left went.left;
}
  where
    F : LeafValue → Case
    F = leaf_case old.tears old.asked.at

    leads_to : LeadToLeaf s (pending now) went.left (case_in new) (pending new)
    leads_to = went.leaf refl

    all : map F after ≡ map F ran.told ++ F leaf ∷ []
    all = ap (map F) (put ∙ ap (λ ls. ls ++ leaf ∷ []) ran.added) ∙ map-append F ran.told (leaf ∷ [])

-- one leaf more
pub gone_more : (program : Program) (stops : Stops) (old now new : SearchValue) (leaves after : List LeafValue) (n : ℕ) → GoneSo program stops old now leaves n → has_stopped stops leaves ≡ false
    → WentTo program now new leaves after → GoneSo program stops old new after (n + 1)
gone_more program stops old now new leaves after n so going to = record {
  same = record { asked = to.same.asked ∙ so.same.asked; tears = to.same.tears ∙ so.same.tears };
  ran = ran_more program old now new [] leaves after to.ending true so.same so.ran to.same to.went refl to.ends to.put;
  many =
      let many = so.many in
      let all = ap (λ (ls : List LeafValue). length ls) to.put ∙ length-append leaves (record { sets = new.sets; ending = to.ending } ∷ []) in
      omega (arith, many, all);
  on = subst (GoesOn stops) (sym to.put) (on_more stops leaves (record { sets = new.sets; ending = to.ending }) so.on going);
  right =
      came_right (subject_of old.asked program) old now new leaves after (record { sets = new.sets; ending = to.ending }) so.ran
      (subst (λ (a : Asked). Went (subject_of a program) now new true) so.same.asked to.went)
      (λ i. case_of ((to.same.tears ∙ so.same.tears) i) (parts_of ((to.same.asked ∙ so.same.asked) i).at) new.sets) to.put;
}

-- it is to stop
pub went_to_stop : (program : Program) (stops : Stops) (old now : SearchValue) (leaves : List LeafValue) (n most : ℕ) → GoneSo program stops old now leaves n → n < most
    → has_stopped stops leaves ≡ true → WentOn program stops old now leaves most
went_to_stop program stops old now leaves n most so few stop = record {
  same = so.same;
  ran = so.ran;
  few = let many = so.many in omega (arith, many, few);
  on = so.on;
  ended = λ less. inr stop;
  right = λ less stopped. so.right;
}

-- no leaf more
pub went_to_end : (program was : Program) (stops : Stops) (old now new : SearchValue) (leaves after : List LeafValue) (n most : ℕ) (found : Bool) → GoneSo program stops old now leaves n → n < most
    → has_stopped stops leaves ≡ false → was ≡ program → SameSearch now new → Went (subject_of now.asked was) now new found → found ≡ false → after ≡ leaves → WentOn program stops old new after most
went_to_end program was stops old now new leaves after n most found so few going same kept went is stays =
    let one : Went (subject_of now.asked program) now new false =
    subst (λ (p : Program). Went (subject_of now.asked p) now new false) same (subst (λ b. Went (subject_of now.asked was) now new b) is went) in
    record {
      same = record { asked = kept.asked ∙ so.same.asked; tears = kept.tears ∙ so.same.tears };
      ran = ran_end program old now new [] leaves after false so.same so.ran one refl stays;
      few = let many = so.many in let long = ap (λ (ls : List LeafValue). length ls) stays in omega (arith, many, long, few);
      on = subst (GoesOn stops) (sym stays) so.on;
      ended = λ less. inl (one.ended refl);
      right = λ less stopped. absurd (false≢true (sym going ∙ ap (has_stopped stops) (sym stays) ∙ stopped));
    }

-- as many as are wanted
pub went_to_most : (program : Program) (stops : Stops) (old now : SearchValue) (leaves : List LeafValue) (n most : ℕ) → GoneSo program stops old now leaves n → n ≤ most → most ≤ n
    → WentOn program stops old now leaves most
went_to_most program stops old now leaves n most so low high =
    let many = so.many in
    record {
      same = so.same;
      ran = so.ran;
      few = omega (arith, many, low);
      on = so.on;
      ended = λ less. absurd (omega (arith, less, many, high));
      right = λ less stopped. absurd (omega (arith, less, many, high));
    }
