-- The examples of the first choices.
use Rattle.std.proofs.Common.{ℕ, ◌≡◌, ◌≢◌, ◌+◌, ◌<◌, ◌≤◌, ◌==◌, Bool, true, false, if◌then◌else◌, Option, List, [], ◌∷◌, ◌++◌, length, length-append, map, slice_get, None, Some, MatchOption, unwrap_or, refl, sym, ◌∙◌, ap, subst, inl, inr, arith}
use Rattle.std.proofs.lemmas.Bool.{cases_lt}
use Rattle.std.proofs.lemmas.Bool.Decides.{nat_tests}
use Rattle.base.proofs.Lists.{slice_get_of_push}
use Rattle.losses.specs.FirstParts.{AreChoices, IsSmallest, IsGroup}
use Rattle.losses.specs.Folded.{lost_or_torn, IsAlike, IsExample, StandsUnder, AreFolded}
use Rattle.losses.specs.Keys.{key_of, Remembers, Takes}
use Rattle.losses.specs.FirstPartLaws.{StandsUnderOne}
use Rattle.losses.proofs.Parts.{group_is_smallest, part_is_before}
use Rattle.losses.proofs.Keyed.{key_tells}
use Rattle.losses.proofs.Progress.{IsSmall}

-- a smallest choice, and the key of what becomes of its parts
pub record IsKnown (cs : List (List ℕ)) (h key : ℕ) : Type 0 where
  pub numbers : List ℕ
  pub there : slice_get cs h ≡ Some numbers
  pub small : IsSmall (map lost_or_torn numbers)
  pub key_is : key_of (map lost_or_torn numbers) ≡ key
  pub smallest : IsSmallest cs h

-- the first of those before place i with a key
pub record IsFirstKnown (cs : List (List ℕ)) (i key e : ℕ) : Type 0 where
  pub before : e < i
  pub known : IsKnown cs e key
  pub first : (h : ℕ) → h < i → IsKnown cs h key → e ≤ h

abbrev pub NoneKnown : List (List ℕ) → ℕ → ℕ → Type 0
NoneKnown cs i key = (h : ℕ) → h < i → IsKnown cs h key → ⊥

-- the examples of the first i choices, and a map of those that are known
pub record Folding (cs : List (List ℕ)) (i : ℕ) (known : ℕ → Option ℕ) (places : List ℕ) : Type 0 where
  pub count : length places ≡ i
  pub each : (k e : ℕ) → slice_get places k ≡ Some e → StandsUnder cs k e
  pub examples : (key : ℕ) → MatchOption (known key) (NoneKnown cs i key) (IsFirstKnown cs i key)

pub start : (cs : List (List ℕ)) (known : ℕ → Option ℕ) → ((key : ℕ) → known key ≡ None) → Folding cs 0 known []
start cs known none =
    record {
      count = refl;
      each = λ k e at. absurd (let bad : None ≡ Some e = at in cc);
      examples = λ key. subst (λ o. MatchOption o (NoneKnown cs 0 key) (IsFirstKnown cs 0 key)) (sym (none key)) (λ h lt. absurd (omega (arith, lt)));
    }

-- choices that are alike have one key
same_key : (cs : List (List ℕ)) (h i : ℕ) (ns : List ℕ) → slice_get cs i ≡ Some ns → IsSmall (map lost_or_torn ns) → IsAlike cs h i → IsSmallest cs h
    → IsKnown cs h (key_of (map lost_or_torn ns))
same_key cs h i ns at small alike smallest =
    let there : Some alike.other ≡ Some ns = sym alike.other_there ∙ at in
    let is : alike.other ≡ ns = cc in
    let same : map lost_or_torn alike.example ≡ map lost_or_torn ns = alike.alike ∙ ap (map lost_or_torn) is in
    record {
      numbers = alike.example;
      there = alike.example_there;
      small = subst (λ xs. IsSmall xs) (sym same) small;
      key_is = ap key_of same;
      smallest = smallest;
    }

-- and what has its key is alike to a choice
alike_by_key : (cs : List (List ℕ)) (e i : ℕ) (ns : List ℕ) → slice_get cs i ≡ Some ns → IsSmall (map lost_or_torn ns) → IsKnown cs e (key_of (map lost_or_torn ns)) → IsAlike cs e i
alike_by_key cs e i ns at small known =
    record {
      example = known.numbers;
      example_there = known.there;
      other = ns;
      other_there = at;
      alike = key_tells (map lost_or_torn known.numbers) (map lost_or_torn ns) known.small.few small.few known.small.words small.words known.key_is;
    }

-- the example of a smallest choice whose key was known
known_example : (cs : List (List ℕ)) (i : ℕ) (ns : List ℕ) (e : ℕ) → slice_get cs i ≡ Some ns → IsSmall (map lost_or_torn ns)
    → IsFirstKnown cs i (key_of (map lost_or_torn ns)) e → IsExample cs i e
known_example cs i ns e at small is =
    record {
      is_alike = alike_by_key cs e i ns at small is.known;
      smallest = is.known.smallest;
      first = λ h alike smallest. elim (cases_lt h i) [
        | inl lt ↦ is.first h lt (same_key cs h i ns at small alike smallest)
        | inr ge ↦ let below = is.before in omega (arith, ge, below)
      ];
    }

-- and of one whose key wasn't: itself
own_example : (cs : List (List ℕ)) (i : ℕ) (ns : List ℕ) → slice_get cs i ≡ Some ns → IsSmall (map lost_or_torn ns) → IsSmallest cs i
    → NoneKnown cs i (key_of (map lost_or_torn ns)) → IsExample cs i i
own_example cs i ns at small smallest none =
    record {
      is_alike = record { example = ns; example_there = at; other = ns; other_there = at; alike = refl };
      smallest = smallest;
      first = λ h alike least. elim (cases_lt h i) [
        | inl lt ↦ absurd (none h lt (same_key cs h i ns at small alike least))
        | inr ge ↦ ge
      ];
    }

-- a place before the next one is before this one, or this one
next_place : (h i : ℕ) → h < i + 1 → (h ≢ i) → h < i
next_place h i lt other = elim (cases_lt h i) [
  | inl less ↦ less
  | inr ge ↦ absurd (other (omega (arith, lt, ge)))
]

-- where the choice at place i has no such key, what is known of the key stays
still_known : (cs : List (List ℕ)) (i key : ℕ) (o : Option ℕ) → (IsKnown cs i key → ⊥) → MatchOption o (NoneKnown cs i key) (IsFirstKnown cs i key)
    → MatchOption o (NoneKnown cs (i + 1) key) (IsFirstKnown cs (i + 1) key)
still_known cs i key None other none = λ h lt known. none h (next_place h i lt (λ same. other (subst (λ k. IsKnown cs k key) same known))) known
still_known cs i key (Some e) other is =
    record {
      before = let lt = is.before in omega (arith, lt);
      known = is.known;
      first = λ h lt known. is.first h (next_place h i lt (λ same. other (subst (λ k. IsKnown cs k key) same known))) known;
    }

-- what is known of the key of a smallest choice, after it
now_known : (cs : List (List ℕ)) (i key : ℕ) (o : Option ℕ) → IsKnown cs i key → MatchOption o (NoneKnown cs i key) (IsFirstKnown cs i key)
    → IsFirstKnown cs (i + 1) key (unwrap_or o i)
now_known cs i key None own none =
    record {
      before = omega arith;
      known = own;
      first = λ h lt known. elim (cases_lt h i) [
        | inl less ↦ absurd (none h less known)
        | inr ge ↦ ge
      ];
    }
now_known cs i key (Some e) own is =
    record {
      before = let lt = is.before in omega (arith, lt);
      known = is.known;
      first = λ h lt known. elim (cases_lt h i) [
        | inl less ↦ is.first h less known
        | inr ge ↦ let below = is.before in omega (arith, ge, below)
      ];
    }

-- the example of a smallest choice
its_example : (cs : List (List ℕ)) (i : ℕ) (ns : List ℕ) (o : Option ℕ) → slice_get cs i ≡ Some ns → IsSmall (map lost_or_torn ns) → IsSmallest cs i
    → MatchOption o (NoneKnown cs i (key_of (map lost_or_torn ns))) (IsFirstKnown cs i (key_of (map lost_or_torn ns))) → IsExample cs i (unwrap_or o i)
its_example cs i ns None at small smallest none = own_example cs i ns at small smallest none
its_example cs i ns (Some e) at small smallest is = known_example cs i ns e at small is

-- one more example
pushed : (cs : List (List ℕ)) (i : ℕ) (places : List ℕ) (e : ℕ) → length places ≡ i → ((k f : ℕ) → slice_get places k ≡ Some f → StandsUnder cs k f) → StandsUnder cs i e
    → (k f : ℕ) → slice_get (places ++ e ∷ []) k ≡ Some f → StandsUnder cs k f
pushed cs i places e count each own k f at =
    elim (slice_get_of_push places e k f at) [
      | inl was ↦ each k f was
      | inr last ↦
          let same : k ≡ i = last.0 ∙ count in
          subst (λ x. StandsUnder cs x f) (sym same) (subst (λ x. StandsUnder cs i x) (sym last.1) own)
    ]

-- a choice of which an earlier one is a part
of_part : (cs : List (List ℕ)) (i : ℕ) (old new : ℕ → Option ℕ) (places : List ℕ) (part e : ℕ) → AreChoices cs → Folding cs i old places → IsGroup cs i part
    → part < i → slice_get places part ≡ Some e → ((q : ℕ) → new q ≡ old q) → Folding cs (i + 1) new (places ++ e ∷ [])
of_part cs i old new places part e are so is lt at same =
    let least = (group_is_smallest cs i part are is).smallest in
    let under = so.each part e at in
    let itself : under.part ≡ part = least under.part under.is_part.is_part in
    let count = so.count in
    record {
      count = omega (arith, count, length-append places (e ∷ []));
      each = pushed cs i places e count so.each (record { part = part; is_part = is; example = subst (λ p. IsExample cs p e) itself under.example });
      examples = λ key.
          let other : IsKnown cs i key → ⊥ = λ known. let e : part ≡ i = known.smallest part is.is_part in omega (arith, e, lt) in
          subst (λ o. MatchOption o (NoneKnown cs (i + 1) key) (IsFirstKnown cs (i + 1) key)) (sym (same key)) (still_known cs i key (old key) other (so.examples key));
    }

-- a smallest choice
of_itself : (cs : List (List ℕ)) (i : ℕ) (old new : ℕ → Option ℕ) (places : List ℕ) (ns : List ℕ) (e : ℕ) → AreChoices cs → Folding cs i old places → IsGroup cs i i
    → slice_get cs i ≡ Some ns → IsSmall (map lost_or_torn ns) → e ≡ unwrap_or (old (key_of (map lost_or_torn ns))) i → Remembers old new (key_of (map lost_or_torn ns)) i
    → Folding cs (i + 1) new (places ++ e ∷ [])
of_itself cs i old new places ns e are so is at small value remembers =
    let own : ℕ = key_of (map lost_or_torn ns) in
    let smallest : IsSmallest cs i = (group_is_smallest cs i i are is).smallest in
    let count = so.count in
    let example = its_example cs i ns (old own) at small smallest (so.examples own) in
    let known : IsKnown cs i own = record { numbers = ns; there = at; small = small; key_is = refl; smallest = smallest } in
    record {
      count = omega (arith, count, length-append places (e ∷ []));
      each = pushed cs i places e count so.each (record { part = i; is_part = is; example = subst (λ x. IsExample cs i x) (sym value) example });
      examples = λ key. by_key key (key == own) refl;
    }
  where
    by_key : (key : ℕ) (b : Bool) → (key == key_of (map lost_or_torn ns)) ≡ b → MatchOption (new key) (NoneKnown cs (i + 1) key) (IsFirstKnown cs (i + 1) key)
    by_key key true test =
        let own : ℕ = key_of (map lost_or_torn ns) in
        let smallest : IsSmallest cs i = (group_is_smallest cs i i are is).smallest in
        let same : key ≡ own = grind (arith, nat_tests, test) in
        let known : IsKnown cs i own = record { numbers = ns; there = at; small = small; key_is = refl; smallest = smallest } in
        let first : IsFirstKnown cs (i + 1) own (unwrap_or (old own) i) = now_known cs i own (old own) known (so.examples own) in
        let now : new key ≡ Some (unwrap_or (old own) i) = remembers key ∙ ap (λ (t : Bool). if t then Some (unwrap_or (old own) i) else old key) test in
        subst (λ o. MatchOption o (NoneKnown cs (i + 1) key) (IsFirstKnown cs (i + 1) key)) (sym now)
        (subst (λ k. IsFirstKnown cs (i + 1) k (unwrap_or (old own) i)) (sym same) first)
    by_key key false test =
        let own : ℕ = key_of (map lost_or_torn ns) in
        let now : new key ≡ old key = remembers key ∙ ap (λ (t : Bool). if t then Some (unwrap_or (old own) i) else old key) test in
        let other : IsKnown cs i key → ⊥ = λ known.
        let there : Some known.numbers ≡ Some ns = sym known.there ∙ at in
        let is_ns : known.numbers ≡ ns = cc in
        let same : own ≡ key = ap (λ xs. key_of (map lost_or_torn xs)) (sym is_ns) ∙ known.key_is in
        grind (arith, nat_tests, test, same) in
        subst (λ o. MatchOption o (NoneKnown cs (i + 1) key) (IsFirstKnown cs (i + 1) key)) (sym now) (still_known cs i key (old key) other (so.examples key))

-- one more choice
pub go_on : (cs : List (List ℕ)) (i : ℕ) (old new : ℕ → Option ℕ) (places : List ℕ) (ns : List ℕ) (key part e : ℕ) → AreChoices cs → Folding cs i old places
    → IsGroup cs i part → slice_get cs i ≡ Some ns → IsSmall (map lost_or_torn ns) → key ≡ key_of (map lost_or_torn ns) → Takes old new key places part e
    → Folding cs (i + 1) new (places ++ e ∷ [])
go_on cs i old new places ns key part e are so is at small keyed takes =
    let count = so.count in
    let le = part_is_before cs part i are is.is_part in
    elim (cases_lt part i) [
      | inl lt ↦
          let was = takes.of_part (omega (arith, lt, count)) in
          of_part cs i old new places part e are so is lt was.0 was.1
      | inr ge ↦
          let same : part ≡ i = omega (arith, le, ge) in
          let was = takes.own (omega (arith, ge, count)) in
          let value : e ≡ unwrap_or (old (key_of (map lost_or_torn ns))) i = was.0 ∙ ap (λ k. unwrap_or (old k) part) keyed ∙ ap (λ p. unwrap_or (old (key_of (map lost_or_torn ns))) p) same in
          let remembers : Remembers old new (key_of (map lost_or_torn ns)) i =
          subst (λ p. Remembers old new (key_of (map lost_or_torn ns)) p) same (subst (λ k. Remembers old new k part) keyed was.1) in
          of_itself cs i old new places ns e are so (subst (λ p. IsGroup cs i p) same is) at small value remembers
    ]

-- all choices
pub all_folded : (cs : List (List ℕ)) (i : ℕ) (known : ℕ → Option ℕ) (places : List ℕ) → Folding cs i known places → i ≡ length cs → AreFolded cs places
all_folded cs i known places so e = record { each_once = so.count ∙ e; each = so.each }

-- a choice stands under one example
pub stands_under_one : StandsUnderOne
stands_under_one cs i e f a b =
    let low = a.is_part.first b.part b.is_part.is_part in
    let high = b.is_part.first a.part a.is_part.is_part in
    let same : a.part ≡ b.part = omega (arith, low, high) in
    let other : IsExample cs a.part f = subst (λ p. IsExample cs p f) (sym same) b.example in
    let under = a.example.first f other.is_alike other.smallest in
    let over = other.first e a.example.is_alike a.example.smallest in
    omega (arith, under, over)
