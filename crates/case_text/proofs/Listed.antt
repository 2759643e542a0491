-- The fates of a set, one after the other.
use Rattle.std.proofs.Common.{ℕ, ◌≡◌, ◌+◌, ◌≤◌, Bool, true, false, if◌then◌else◌, List, [], ◌∷◌, ◌++◌, length, map, filter, Option, refl, sym, ◌∙◌, ap, arith}
use Rattle.std.specs.List.{range_with_len}
use Rattle.std.proofs.lemmas.List.{map-append}
use Rattle.std.proofs.lemmas.List.Elements.{filter-append}
use Rattle.base.proofs.Lists.{range_with_len-more}
use Rattle.choices.specs.declared.fate.Fate.{Fate}
use Rattle.cases.specs.Choices.{all_fates}
use Rattle.cases.specs.Sets.{has, numbers_in, fates_in, fate_at}

-- the fates below a number, and how many they are at most
pub record FatesBelow (bits n : ℕ) (fates : List (Option Fate)) : Type 0 where
  pub are : fates ≡ map fate_at (filter (has bits) (range_with_len 0 n))
  pub few : length fates ≤ n

pub fates_more : (bits n : ℕ) (old new : List (Option Fate)) → FatesBelow bits n old → new ≡ old ++ map fate_at (filter (has bits) (n ∷ [])) → FatesBelow bits (n + 1) new
fates_more bits n old new was is = record {
  are = is ∙ ap (λ xs. xs ++ map fate_at (filter (has bits) (n ∷ []))) was.are
      ∙ sym (ap (λ xs. map fate_at (filter (has bits) xs)) (range_with_len-more 0 n ∙ ap (λ k. range_with_len 0 n ++ k ∷ []) (let e : 0 + n ≡ n = omega arith in e))
      ∙ ap (map fate_at) (filter-append (has bits) (range_with_len 0 n) (n ∷ []))
      ∙ map-append fate_at (filter (has bits) (range_with_len 0 n)) (filter (has bits) (n ∷ [])));
  few = by_test (has bits n) refl;
}
  where
    by_test : (b : Bool) → has bits n ≡ b → length new ≤ n + 1
    by_test true so =
        let one : length (old ++ fate_at n ∷ []) ≡ length old + 1 = Rattle.std.proofs.lemmas.List.length-append old (fate_at n ∷ []) in
        let told : length new ≡ length (old ++ fate_at n ∷ []) = ap length (is ∙ ap (λ v. old ++ map fate_at (if v then n ∷ [] else [])) so) in
        let few = was.few in
        omega (arith, one, told, few)
    by_test false so =
        let one : length (old ++ []) ≡ length old + 0 = Rattle.std.proofs.lemmas.List.length-append old [] in
        let told : length new ≡ length (old ++ []) = ap length (is ∙ ap (λ v. old ++ map fate_at (if v then n ∷ [] else [])) so) in
        let few = was.few in
        omega (arith, one, told, few)

pub fates_all : (bits n : ℕ) (fates : List (Option Fate)) → n ≡ 16 → FatesBelow bits n fates → fates ≡ fates_in bits
unfolding fates_in numbers_in
fates_all bits n fates all are = are.are ∙ ap (λ m. map fate_at (filter (has bits) (range_with_len 0 m))) all

-- a set of all fates
pub all_in : (tears : Bool) → fates_in (if tears then 65535 else 3) ≡ all_fates tears
unfolding fates_in numbers_in
all_in true = refl
all_in false = refl
