-- The groups of the first choices.
use Rattle.std.proofs.Common.{ℕ, zero, suc, ◌≡◌, ◌+◌, ◌<◌, ◌≤◌, option_map, List, [], ◌∷◌, ◌++◌, length, length-append, map, slice_get, slice_index_or, None, Some, refl, sym, ◌∙◌, ap, subst, inl, inr, arith}
use Rattle.std.specs.List.Sorted.{IsNonDecreasing}
use Rattle.std.proofs.lemmas.Bool.{cases_lt}
use Rattle.std.proofs.lemmas.Option.{slice_get_within, slice_get-get_or, slice_get-map}
use Rattle.base.proofs.Lists.{slice_get-append_left, slice_get-push, slice_get_of_push}
use Rattle.losses.specs.FirstParts.{IsPartOf, AreChoices, IsPart, IsGroup, AreGroups}
use Rattle.losses.specs.Keys.{key_of, other_parts, part_keys, AreWords, Lacks, IsFirstFound}
use Rattle.losses.proofs.Parts.{left_out, leaves_part, no_longer, not_after, part_of_itself}
use Rattle.losses.proofs.Keyed.{keys_rise, key_tells, listed, listed_leaves, part_keys_rise}

-- a choice with a key: at most three numbers of 32 bits
pub record IsSmall (ns : List ℕ) : Type 0 where
  pub few : length ns ≤ 3
  pub words : AreWords ns

-- the first i choices have keys and groups
pub record Grouped (cs : List (List ℕ)) (i : ℕ) (keys places : List ℕ) : Type 0 where
  pub key_count : length keys ≡ i
  pub keyed : (k : ℕ) → k < i → (ns : List ℕ) × (slice_get cs k ≡ Some ns) × IsSmall ns × (slice_get keys k ≡ Some (key_of ns))
  pub place_count : length places ≡ i
  pub grouped : (k g : ℕ) → slice_get places k ≡ Some g → IsGroup cs k g

pub start : (cs : List (List ℕ)) → Grouped cs 0 [] []
start cs =
    record {
      key_count = refl;
      keyed = λ k lt. absurd (omega (arith, lt));
      place_count = refl;
      grouped = λ k g at. absurd (let bad : None ≡ Some g = at in cc);
    }

-- of two keys the later is the greater
later_key : (cs : List (List ℕ)) (i : ℕ) (keys places : List ℕ) → AreChoices cs → Grouped cs i keys places → (h k a b : ℕ) → h < k
    → slice_get keys h ≡ Some a → slice_get keys k ≡ Some b → a < b
later_key cs i keys places are so h k a b lt at bt =
    let within = slice_get_within keys k b bt in
    let count = so.key_count in
    let x = so.keyed h (omega (arith, lt, within, count)) in
    let y = so.keyed k (omega (arith, within, count)) in
    let first : Some a ≡ Some (key_of x.0) = sym at ∙ x.3 in
    let second : Some b ≡ Some (key_of y.0) = sym bt ∙ y.3 in
    let e : a ≡ key_of x.0 = cc in
    let f : b ≡ key_of y.0 = cc in
    let rise = keys_rise x.0 y.0 x.2.few y.2.few x.2.words y.2.words (are.ordered h k x.0 y.0 lt x.1 y.1) in
    omega (arith, e, f, rise)

-- so the keys don't fall
pub keys_in_order : (cs : List (List ℕ)) (i : ℕ) (keys places : List ℕ) → AreChoices cs → Grouped cs i keys places → IsNonDecreasing keys
keys_in_order cs i keys places are so h k d le lt =
    let at = slice_get-get_or keys h d (omega (arith, le, lt)) in
    let bt = slice_get-get_or keys k d lt in
    elim (cases_lt h k) [
      | inl less ↦ let rise = later_key cs i keys places are so h k _ _ less at bt in omega (arith, rise)
      | inr ge ↦ let same : h ≡ k = omega (arith, le, ge) in let e = ap (λ n. slice_index_or keys n d) same in omega (arith, e)
    ]

-- the key of a part that stands before a choice is listed
listed_key : (cs : List (List ℕ)) (i : ℕ) (keys places : List ℕ) (ns : List ℕ) → AreChoices cs → Grouped cs i keys places → slice_get cs i ≡ Some ns → IsSmall ns
    → (h : ℕ) → IsPart cs h i → h < i → (m key : ℕ) × (slice_get (part_keys ns) m ≡ Some key) × (slice_get keys h ≡ Some key)
listed_key cs i keys places ns are so at small h part lt =
    let own = so.keyed h lt in
    let p : Some part.part ≡ Some own.0 = sym part.part_there ∙ own.1 in
    let w : Some part.whole ≡ Some ns = sym part.whole_there ∙ at in
    let e : part.part ≡ own.0 = cc in
    let f : part.whole ≡ ns = cc in
    let within : IsPartOf own.0 ns = subst (λ xs. IsPartOf own.0 xs) f (subst (λ xs. IsPartOf xs part.whole) e part.within) in
    let rn = are.rising h own.0 own.1 in
    let rm = are.rising i ns at in
    elim (listed own.0 ns (left_out ns own.0 rn rm within) small.few) [
      | inl same ↦ absurd (not_after ns own.0 rm rn (subst (λ xs. IsPartOf xs own.0) same (part_of_itself own.0)) (are.ordered h i own.0 ns lt own.1 at))
      | inr found ↦ (found.0, key_of own.0, slice_get-map key_of (other_parts ns) found.0 ∙ ap (option_map key_of) found.1, own.3)
    ]

pub alone : (cs : List (List ℕ)) (i : ℕ) (keys places : List ℕ) (ns : List ℕ) → AreChoices cs → Grouped cs i keys places → slice_get cs i ≡ Some ns → IsSmall ns
    → ((m other : ℕ) → slice_get (part_keys ns) m ≡ Some other → Lacks keys other) → IsGroup cs i i
alone cs i keys places ns are so at small lacks =
    record {
      is_part = record { part = ns; part_there = at; whole = ns; whole_there = at; within = part_of_itself ns };
      first = λ h part. elim (cases_lt h i) [
        | inl lt ↦ absurd (let found = listed_key cs i keys places ns are so at small h part lt in lacks found.0 found.1 found.2 h found.3)
        | inr ge ↦ ge
      ];
    }

-- the words of a part are words of the whole
part_words : (ns ms : List ℕ) → IsPartOf ns ms → AreWords ms → AreWords ns
part_words ns ms h w i n at = let there = h i n at in w there.0 n there.1

-- a listed key is that of a listed part
some_part : (ns : List ℕ) (m key : ℕ) → slice_get (part_keys ns) m ≡ Some key → (p : List ℕ) × (slice_get (other_parts ns) m ≡ Some p) × (key ≡ key_of p)
some_part ns m key at = of_mapped (other_parts ns) m key at
  where
    of_mapped : (ps : List (List ℕ)) (m key : ℕ) → slice_get (map key_of ps) m ≡ Some key → (p : List ℕ) × (slice_get ps m ≡ Some p) × (key ≡ key_of p)
    of_mapped [] m key at = absurd (let bad : None ≡ Some key = at in cc)
    of_mapped (p ∷ ps) zero key at = let same : Some (key_of p) ≡ Some key = at in (p, refl, cc)
    of_mapped (p ∷ ps) (suc m) key at = of_mapped ps m key at

-- the first of the listed keys that is there is that of the group
pub in_group : (cs : List (List ℕ)) (i : ℕ) (keys places : List ℕ) (ns : List ℕ) → AreChoices cs → Grouped cs i keys places → slice_get cs i ≡ Some ns → IsSmall ns
    → (place : ℕ) → IsFirstFound keys (part_keys ns) place → IsGroup cs i place
in_group cs i keys places ns are so at small place is =
    let within = slice_get_within keys place is.key is.there in
    let count = so.key_count in
    let own = so.keyed place (omega (arith, within, count)) in
    let part = some_part ns is.number is.key is.sought_there in
    let leaves = listed_leaves ns small.few is.number part.0 part.1 in
    let few = no_longer part.0 ns leaves in
    let little : length part.0 ≤ 3 = let l = small.few in omega (arith, few, l) in
    let inside = leaves_part part.0 ns leaves in
    let first : Some is.key ≡ Some (key_of own.0) = sym is.there ∙ own.3 in
    let same_key : is.key ≡ key_of own.0 = cc in
    let same : own.0 ≡ part.0 =
    key_tells own.0 part.0 own.2.few little own.2.words (part_words part.0 ns inside small.words) (sym same_key ∙ part.2) in
    record {
      is_part = record { part = own.0; part_there = own.1; whole = ns; whole_there = at; within = subst (λ xs. IsPartOf xs ns) (sym same) inside };
      first = λ h other. elim (cases_lt h place) [
        | inl lt ↦ absurd (too_early h other lt (listed_key cs i keys places ns are so at small h other (omega (arith, lt, within, count))))
        | inr ge ↦ ge
      ];
    }
  where
    too_early : (h : ℕ) → IsPart cs h i → h < place → ((m key : ℕ) × (slice_get (part_keys ns) m ≡ Some key) × (slice_get keys h ≡ Some key)) → ⊥
    too_early h other lt found =
        elim (cases_lt found.0 is.number) [
          | inl less ↦ is.before found.0 found.1 less found.2 h found.3
          | inr ge ↦
              let low = part_keys_rise ns small.few (are.rising i ns at) small.words is.number found.0 is.key found.1 ge is.sought_there found.2 in
              let high = later_key cs i keys places are so h place found.1 is.key lt found.3 is.there in
              omega (arith, low, high)
        ]

-- one more choice with its key and its group
pub go_on : (cs : List (List ℕ)) (i : ℕ) (keys places : List ℕ) (ns : List ℕ) (key g : ℕ) → Grouped cs i keys places → slice_get cs i ≡ Some ns → IsSmall ns
    → key ≡ key_of ns → IsGroup cs i g → Grouped cs (i + 1) (keys ++ key ∷ []) (places ++ g ∷ [])
go_on cs i keys places ns key g so at small is group =
    let count = so.key_count in
    let number = so.place_count in
    record {
      key_count = omega (arith, count, length-append keys (key ∷ []));
      keyed = λ k lt. elim (cases_lt k i) [
        | inl less ↦ let was = so.keyed k less in (was.0, was.1, was.2, slice_get-append_left keys (key ∷ []) k (omega (arith, less, count)) ∙ was.3)
        | inr ge ↦
            let same : k ≡ i = omega (arith, lt, ge) in
            let end : k ≡ length keys = omega (arith, same, count) in
            (ns, ap (slice_get cs) same ∙ at, small, ap (slice_get (keys ++ key ∷ [])) end ∙ slice_get-push keys key ∙ ap (λ x. Some x) is)
      ];
      place_count = omega (arith, number, length-append places (g ∷ []));
      grouped = λ k h there. elim (slice_get_of_push places g k h there) [
        | inl was ↦ so.grouped k h was
        | inr last ↦
            let same : k ≡ i = last.0 ∙ number in
            subst (λ x. IsGroup cs x h) (sym same) (subst (λ x. IsGroup cs i x) (sym last.1) group)
      ];
    }

-- all choices
pub all_grouped : (cs : List (List ℕ)) (i : ℕ) (keys places : List ℕ) → Grouped cs i keys places → i ≡ length cs → AreGroups cs places
all_grouped cs i keys places so e = record { each_once = so.place_count ∙ e; each = so.grouped }

-- a choice of a list of types that hold their numbers
pub numbers_at : {X : Type 0} (f : X → List ℕ) (xs : List X) (i : ℕ) (x : X) → slice_get xs i ≡ Some x → slice_get (map f xs) i ≡ Some (f x)
numbers_at f xs i x at = slice_get-map f xs i ∙ ap (option_map f) at
