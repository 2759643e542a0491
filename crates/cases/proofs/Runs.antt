-- Of a whole run from leaf to leaf.
use Rattle.std.proofs.Common.{ℕ, zero, suc, ◌≡◌, ◌+◌, ◌^◌, ◌-◌, min, Bool, true, false, not, if◌then◌else◌, List, [], ◌∷◌, ◌++◌, length, map, count_by, refl, sym, subst, ◌∙◌, ap, arith, append_assoc}
use Rattle.std.specs.List.{All}
use Rattle.std.proofs.lemmas.List.{append-nil, map-append, length-append}
use Rattle.std.proofs.lemmas.List.Elements.{All-push, All-nil}
use Rattle.std.proofs.lemmas.List.Sums.{sum_by-append}
use Rattle.machine.specs.Outcome.{Ending}
use Rattle.cases.specs.Cases.{Case, whole_case, representative}
use Rattle.cases.specs.AtCut.{parts_of, case_of}
use Rattle.cases.specs.Trees.{Program, Subject, ending_of, AreLeaves, no_case, is_beyond, is_leaf, is_split}
use Rattle.cases.specs.Search.{Asked, subject_of, SearchValue, pending, case_in, SameSearch, Went, is_torn_beyond, plus, LeadTo, are_there, past_beyond, past_leaf, past_split, LeafValue, leaf_case, EndsSo, Ran, FoundCases, BegunCases}

plus_plus : (n a b : ℕ) → plus (plus n a) b ≡ plus n (a + b)
plus_plus n a zero = let same : a ≡ a + 0 = omega arith in ap (plus n) same
plus_plus n a (suc b) =
    let next : suc (a + b) ≡ a + suc b = omega arith in
    ap (λ m. min (m + 1) (2 ^ 64 - 1)) (plus_plus n a b) ∙ ap (plus n) next

pub counted_both : (p : Case → Bool) (n : ℕ) (left more : List Case) → plus (plus n (count_by p left)) (count_by p more) ≡ plus n (count_by p (left ++ more))
counted_both p n left more = plus_plus n (count_by p left) (count_by p more) ∙ ap (plus n) (sym (sum_by-append (λ c. if p c then 1 else 0) left more))

pub ran_start : (s : Subject) (v : SearchValue) (before : List LeafValue) → Ran s v v before before
ran_start s v before = record {
  told = [];
  left = [];
  added = sym (append-nil before);
  leads = λ end more rest are. are;
  endings = All-nil (EndsSo s v.tears v.asked.at);
  torn = refl;
  lost = refl;
}

-- one leaf more
pub ran_more : (program : Program) (old now next : SearchValue) (before mid after : List LeafValue) (ending : Ending) (found : Bool) → SameSearch old now
    → Ran (subject_of old.asked program) old now before mid → SameSearch now next → Went (subject_of now.asked program) now next found → found ≡ true
    → ending ≡ ending_of (subject_of now.asked program) (representative (case_in next)) → after ≡ mid ++ record { sets = next.sets; ending = ending } ∷ [] → Ran (subject_of old.asked program) old next before after
ran_more program old now next before mid after ending found same ran kept went is ends put =
    let s = subject_of old.asked program in
    let leaf : LeafValue = record { sets = next.sets; ending = ending } in
    let F : LeafValue → Case = leaf_case old.tears old.asked.at in
    let one : Went s now next true = subst (λ b. Went s now next b) is (subst (λ (a : Asked). Went (subject_of a program) now next found) same.asked went) in
    let own : case_in next ≡ F leaf = λ i. case_of ((kept.tears ∙ same.tears) i) (parts_of ((kept.asked ∙ same.asked) i).at) next.sets in
    record {
      told = ran.told ++ leaf ∷ [];
      left = ran.left ++ one.left;
      added = put ∙ ap (λ ls. ls ++ leaf ∷ []) ran.added ∙ append_assoc before ran.told (leaf ∷ []);
      leads = λ end more rest are.
          let here : LeadTo s end (pending now) (F leaf ∷ more) (one.left ++ rest) =
          subst (λ (c : Case). LeadTo s end (pending now) (c ∷ more) (one.left ++ rest)) own (one.leads end more rest are) in
          let all : LeadTo s end (pending old) (map F ran.told ++ F leaf ∷ more) (ran.left ++ (one.left ++ rest)) = ran.leads end (F leaf ∷ more) (one.left ++ rest) here in
          let leaves : map F ran.told ++ F leaf ∷ more ≡ map F (ran.told ++ leaf ∷ []) ++ more =
          sym (ap (λ cs. cs ++ more) (map-append F ran.told (leaf ∷ [])) ∙ append_assoc (map F ran.told) (F leaf ∷ []) more) in
          subst (λ (cs : List Case). LeadTo s end (pending old) cs ((ran.left ++ one.left) ++ rest)) leaves
          (subst (λ (cs : List Case). LeadTo s end (pending old) (map F ran.told ++ F leaf ∷ more) cs) (sym (append_assoc ran.left one.left rest)) all);
      endings =
          All-push (EndsSo s old.tears old.asked.at) ran.told leaf ran.endings
          (ends ∙ (λ i. ending_of (subject_of (same.asked i) program) (representative (own i))));
      torn = one.torn ∙ ap (λ n. plus n (count_by (is_torn_beyond s) one.left)) ran.torn ∙ counted_both (is_torn_beyond s) old.torn_beyond ran.left one.left;
      lost =
          one.lost ∙ ap (λ n. plus n (count_by (λ c. not (is_torn_beyond s c)) one.left)) ran.lost
          ∙ counted_both (λ c. not (is_torn_beyond s c)) old.lost_beyond ran.left one.left;
    }

-- no leaf more
pub ran_end : (program : Program) (old now next : SearchValue) (before mid after : List LeafValue) (found : Bool) → SameSearch old now
    → Ran (subject_of old.asked program) old now before mid → Went (subject_of now.asked program) now next found → found ≡ false → after ≡ mid
    → Ran (subject_of old.asked program) old next before after
ran_end program old now next before mid after found same ran went is put =
    let s = subject_of old.asked program in
    let F : LeafValue → Case = leaf_case old.tears old.asked.at in
    let one : Went s now next false = subst (λ b. Went s now next b) is (subst (λ (a : Asked). Went (subject_of a program) now next found) same.asked went) in
    record {
      told = ran.told;
      left = ran.left ++ one.left;
      added = put ∙ ran.added;
      leads = λ end more rest are.
          subst (λ (cs : List Case). LeadTo s end (pending old) (map F ran.told ++ more) cs) (sym (append_assoc ran.left one.left rest))
          (ran.leads end more (one.left ++ rest) (one.leads end more rest are));
      endings = ran.endings;
      torn = one.torn ∙ ap (λ n. plus n (count_by (is_torn_beyond s) one.left)) ran.torn ∙ counted_both (is_torn_beyond s) old.torn_beyond ran.left one.left;
      lost =
          one.lost ∙ ap (λ n. plus n (count_by (λ c. not (is_torn_beyond s c)) one.left)) ran.lost
          ∙ counted_both (λ c. not (is_torn_beyond s c)) old.lost_beyond ran.left one.left;
    }

-- what leads to no case has all leaves
pub leads_all : (s : Subject) (cs leaves left : List Case) → LeadTo s [] cs leaves left → AreLeaves s cs leaves left
leads_all s cs leaves left are_there = no_case
leads_all s (_ ∷ _) leaves (_ ∷ _) (past_beyond c cs ls more is rest) = is_beyond c cs ls more is (leads_all s cs ls more rest)
leads_all s (_ ∷ _) (_ ∷ _) left (past_leaf c cs ls more is none rest) = is_leaf c cs ls more is none (leads_all s cs ls more rest)
leads_all s (_ ∷ _) leaves left (past_split c it cs ls more is some rest) = is_split c it cs ls more is some (leads_all s _ ls more rest)

-- a search that began with all choices, and has ended
pub found_all : (asked : Asked) (program : Program) (tears : Bool) (old new : SearchValue) (before after : List LeafValue) → old.asked ≡ asked → old.tears ≡ tears
    → pending old ≡ whole_case tears ∷ [] → (old.torn_beyond ≡ 0) × (old.lost_beyond ≡ 0) → Ran (subject_of old.asked program) old new before after → pending new ≡ []
    → FoundCases (subject_of asked program) tears asked.at before after new.torn_beyond new.lost_beyond
found_all asked program tears old new before after asked_is tears_is whole none ran ended =
    let s = subject_of asked program in
    let F : LeafValue → Case = leaf_case tears asked.at in
    let own : Ran s old new before after = subst (λ (a : Asked). Ran (subject_of a program) old new before after) asked_is ran in
    let same : leaf_case old.tears old.asked.at ≡ F = λ i. leaf_case (tears_is i) (asked_is i).at in
    let all : AreLeaves s (pending old) (map (leaf_case old.tears old.asked.at) own.told ++ []) (own.left ++ []) =
    leads_all s (pending old) _ _ (own.leads [] [] [] (subst (λ (cs : List Case). LeadTo s [] cs [] []) (sym ended) are_there)) in
    record {
      told = own.told;
      left = own.left;
      added = own.added;
      are =
          subst (λ (cs : List Case). AreLeaves s (whole_case tears ∷ []) cs own.left) (append-nil (map (leaf_case old.tears old.asked.at) own.told) ∙ ap (λ (f : LeafValue → Case). map f own.told) same)
          (subst (λ (cs : List Case). AreLeaves s cs (map (leaf_case old.tears old.asked.at) own.told ++ []) own.left) whole
          (subst (λ (cs : List Case). AreLeaves s (pending old) (map (leaf_case old.tears old.asked.at) own.told ++ []) cs) (append-nil own.left) all));
      endings = subst (λ (P : LeafValue → Type 0). All P own.told) (λ i. EndsSo s (tears_is i) (asked_is i).at) own.endings;
      torn_beyond = own.torn ∙ ap (λ n. plus n (count_by (is_torn_beyond s) own.left)) none.0;
      lost_beyond = own.lost ∙ ap (λ n. plus n (count_by (λ c. not (is_torn_beyond s c)) own.left)) none.1;
    }

pub one_told : (before mid after : List LeafValue) (leaf : LeafValue) (n : ℕ) → length mid ≡ length before + n → after ≡ mid ++ leaf ∷ [] → length after ≡ length before + (n + 1)
one_told before mid after leaf n so put = let long = ap (λ (ls : List LeafValue). length ls) put ∙ length-append mid (leaf ∷ []) in omega (arith, so, long)

-- one that hasn't ended
pub begun_all : (asked : Asked) (program : Program) (tears : Bool) (old new : SearchValue) (before after : List LeafValue) (most : ℕ) → old.asked ≡ asked → old.tears ≡ tears
    → pending old ≡ whole_case tears ∷ [] → Ran (subject_of old.asked program) old new before after → length after ≡ length before + most
    → BegunCases (subject_of asked program) tears asked.at before after most
begun_all asked program tears old new before after most asked_is tears_is whole ran long =
    let s = subject_of asked program in
    let own : Ran s old new before after = subst (λ (a : Asked). Ran (subject_of a program) old new before after) asked_is ran in
    let same : leaf_case old.tears old.asked.at ≡ leaf_case tears asked.at = λ i. leaf_case (tears_is i) (asked_is i).at in
    let all = ap (λ (ls : List LeafValue). length ls) own.added ∙ length-append before own.told in
    record {
      told = own.told;
      left = own.left;
      to = pending new;
      added = own.added;
      many = omega (arith, long, all);
      leads =
          let led : LeadTo s (pending new) (pending old) (map (leaf_case old.tears old.asked.at) own.told ++ []) (own.left ++ []) = own.leads (pending new) [] [] are_there in
          subst (λ (cs : List Case). LeadTo s (pending new) (whole_case tears ∷ []) cs own.left) (append-nil (map (leaf_case old.tears old.asked.at) own.told) ∙ ap (λ (f : LeafValue → Case). map f own.told) same)
          (subst (λ (cs : List Case). LeadTo s (pending new) cs (map (leaf_case old.tears old.asked.at) own.told ++ []) own.left) whole
          (subst (λ (cs : List Case). LeadTo s (pending new) (pending old) (map (leaf_case old.tears old.asked.at) own.told ++ []) cs) (append-nil own.left) led));
      endings = subst (λ (P : LeafValue → Type 0). All P own.told) (λ i. EndsSo s (tears_is i) (asked_is i).at) own.endings;
    }
