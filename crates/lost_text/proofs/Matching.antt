-- What becomes of parts by names, part by part.
use Rattle.std.proofs.Common.{ℕ, zero, suc, ◌≡◌, ◌+◌, ◌<◌, List, [], ◌∷◌, ◌++◌, All, length, map, take, get_or, Option, None, Some, MatchOption, refl, sym, subst, ◌∙◌, ap, arith, append_assoc, add-one}
use Rattle.std.proofs.lemmas.List.{append-nil, map-append, take_more}
use Rattle.std.proofs.lemmas.List.Elements.{All-nil, All-cons}
use Rattle.std.proofs.lemmas.Option.{same_Some}
use Rattle.epochs.specs.declared.part.Part.{Part}
use Rattle.choices.specs.declared.fate.Fate.{Fate}
use Rattle.choices.specs.declared.choice.Departure.{Departure}
use Rattle.choices.specs.declared.name.Name.{Name}
use Rattle.cases.specs.Choices.{departs}
use Rattle.cases.specs.Sets.{fates_in}
use Rattle.lost_text.specs.Lost.{fate_said, left_after, fates_said, names_left, lost_of, only, set_of, AreSetsOf, IsSetOf, PutsSet}

fates_push : (ps : List Part) (p : Part) (ns : List Name) → fates_said (ps ++ p ∷ []) ns ≡ fates_said ps ns ++ fate_said p (names_left ps ns) ∷ []
fates_push [] p ns = refl
fates_push (q ∷ ps) p ns = ap (λ fs. fate_said q ns ∷ fs) (fates_push ps p (left_after q ns))

left_push : (ps : List Part) (p : Part) (ns : List Name) → names_left (ps ++ p ∷ []) ns ≡ left_after p (names_left ps ns)
left_push [] p ns = refl
left_push (q ∷ ps) p ns = left_push ps p (left_after q ns)

long : (ps : List Part) (ns : List Name) → length (fates_said ps ns) ≡ length ps
long [] ns = refl
long (p ∷ ps) ns = ap suc (long ps (left_after p ns))

lost_push : (ps : List Part) (fs : List (Option Fate)) (p : Part) (f : Option Fate) → length fs ≡ length ps → lost_of (ps ++ p ∷ []) (fs ++ f ∷ []) ≡ lost_of ps fs ++ departs p f
lost_push [] [] p f e = append-nil (departs p f)
lost_push [] (g ∷ fs) p f e = absurd (omega (arith, e))
lost_push (q ∷ ps) [] p f e = absurd (omega (arith, e))
lost_push (q ∷ ps) (g ∷ fs) p f e = ap (λ ds. departs q g ++ ds) (lost_push ps fs p f (omega (arith, e))) ∙ sym (append_assoc (departs q g) (lost_of ps fs) (departs p f))

-- a set of one fate, appended
pub set_put : (sets more : List ℕ) (b : ℕ) (f : Option Fate) → more ≡ sets ++ b ∷ [] → IsSetOf b f → PutsSet sets more f
set_put sets more b f put is = record { set = b; is = is; put = put }

-- the sets of some fates, with one more
sets_push : (sets more : List ℕ) (fs : List (Option Fate)) (f : Option Fate) → AreSetsOf sets fs → PutsSet sets more f → AreSetsOf more (fs ++ f ∷ [])
sets_push sets more fs f was put = record {
  fates = ap (map fates_in) put.put ∙ map-append fates_in sets (put.set ∷ []) ∙ ap (λ xs. xs ++ fates_in put.set ∷ []) was.fates
      ∙ ap (λ xs. map only fs ++ xs ∷ []) put.is.fates ∙ sym (map-append only fs (f ∷ []));
  value = put.put ∙ ap (λ xs. xs ++ put.set ∷ []) was.value ∙ ap (λ x. map set_of fs ++ x ∷ []) put.is.value ∙ sym (map-append set_of fs (f ∷ []));
}

-- of the first parts each has its set, and what they lost stands there; the other names are left
pub record Matched (ps : List Part) (names : List Name) (n : ℕ) (sets : List ℕ) (ds : List Departure) (left : List Name) : Type 0 where
  pub each : AreSetsOf sets (fates_said (take n ps) names)
  pub lost : ds ≡ lost_of (take n ps) (fates_said (take n ps) names)
  pub rest : left ≡ names_left (take n ps) names

pub matched_start : (ps : List Part) (names : List Name) (sets : List ℕ) (ds : List Departure) → sets ≡ [] → ds ≡ [] → Matched ps names 0 sets ds names
matched_start ps names sets ds none nothing = record { each = record { fates = ap (map fates_in) none; value = none }; lost = nothing; rest = refl }

pub matched_more : (ps : List Part) (names : List Name) (n : ℕ) (d p : Part) (sets more : List ℕ) (ds others : List Departure) (left rest : List Name)
    → Matched ps names n sets ds left → n < length ps → p ≡ get_or ps n d → PutsSet sets more (fate_said p left)
    → others ≡ ds ++ departs p (fate_said p left) → rest ≡ left_after p left → Matched ps names (n + 1) more others rest
matched_more ps names n d p sets more ds others left rest was less here put lost after =
    let f : Option Fate = fate_said p left in
    let next : take (n + 1) ps ≡ take n ps ++ p ∷ [] = take_more ps n d less ∙ ap (λ (q : Part). take n ps ++ q ∷ []) (sym here) in
    let own : f ≡ fate_said p (names_left (take n ps) names) = ap (fate_said p) was.rest in
    let fates : fates_said (take (n + 1) ps) names ≡ fates_said (take n ps) names ++ f ∷ [] =
    ap (λ qs. fates_said qs names) next ∙ fates_push (take n ps) p names ∙ ap (λ (g : Option Fate). fates_said (take n ps) names ++ g ∷ []) (sym own) in
    let turned = sym fates in
    let before = sym next in
    record {
      each = subst (AreSetsOf more) turned (sets_push sets more (fates_said (take n ps) names) f was.each put);
      lost = lost ∙ ap (λ xs. xs ++ departs p f) was.lost ∙ sym (lost_push (take n ps) (fates_said (take n ps) names) p f (long (take n ps) names))
          ∙ (λ i. lost_of (before i) (turned i));
      rest = after ∙ ap (left_after p) was.rest ∙ sym (left_push (take n ps) p names) ∙ ap (λ qs. names_left qs names) before;
    }

all_parts : (ps : List Part) → take (length ps) ps ≡ ps
all_parts [] = refl
all_parts (p ∷ ps) = ap (λ qs. p ∷ qs) (all_parts ps)

pub matched_all : (ps : List Part) (names : List Name) (n : ℕ) (sets : List ℕ) (ds : List Departure) (left : List Name) → Matched ps names n sets ds left → n ≡ length ps
    → AreSetsOf sets (fates_said ps names) × (ds ≡ lost_of ps (fates_said ps names)) × (left ≡ names_left ps names)
matched_all ps names n sets ds left was end =
    let whole : take n ps ≡ ps = ap (λ m. take m ps) end ∙ all_parts ps in (
      subst (λ qs. AreSetsOf sets (fates_said qs names)) whole was.each,
      was.lost ∙ ap (λ qs. lost_of qs (fates_said qs names)) whole,
      was.rest ∙ ap (λ qs. names_left qs names) whole,
    )

-- in the arm where something was found
pub at_some : {X : Type 0} (found : Option X) (x : X) (A : Type 0) (B : X → Type 0) → found ≡ Some x → MatchOption found A B → B x
at_some None x A B e h = absurd (let bad : None ≡ Some x = e in cc)
at_some (Some y) x A B e h = subst B (same_Some y x e) h

-- what holds of each of the first elements, of one more, and of all

pub all_next : {A : Type 0} (P : A → Type 0) (xs : List A) (n : ℕ) (x : A) → All P (take n xs) → n < length xs → x ≡ get_or xs n x → P x → All P (take (suc n) xs)
all_next P [] n x all less here own = absurd (omega (arith, less))
all_next P (y ∷ xs) zero x all less here own = All-cons P y [] (subst P here own) (All-nil P)
all_next P (y ∷ xs) (suc n) x all less here own =
    All-cons P y (take (suc n) xs) (all 0 y (omega arith)) (all_next P xs n x (λ k d l. all (suc k) d (omega (arith, l))) (omega (arith, less)) here own)

pub all_more : {A : Type 0} (P : A → Type 0) (xs : List A) (n : ℕ) (x : A) → All P (take n xs) → n < length xs → x ≡ get_or xs n x → P x → All P (take (n + 1) xs)
all_more P xs n x all less here own = subst (λ m. All P (take m xs)) (sym (add-one n)) (all_next P xs n x all less here own)

take_whole : {A : Type 0} (xs : List A) → take (length xs) xs ≡ xs
take_whole [] = refl
take_whole (x ∷ xs) = ap (λ ys. x ∷ ys) (take_whole xs)

pub all_whole : {A : Type 0} (P : A → Type 0) (xs : List A) (n : ℕ) → n ≡ length xs → All P (take n xs) → All P xs
all_whole P xs n end all = subst (All P) (ap (λ m. take m xs) end ∙ take_whole xs) all
