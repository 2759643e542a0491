-- The leaves of which a judge was told.
use Rattle.std.proofs.Common.{ℕ, suc, Bool, ◌≡◌, ◌+◌, List, [], ◌∷◌, ◌++◌, length, map, refl, sym, ◌∙◌, ap, arith}
use Rattle.std.proofs.lemmas.List.{append_assoc}
use Rattle.helpers.specs.declared.device.Context.{Context}
use Rattle.checker.specs.Checker.{CheckerValue}
use Rattle.cases.specs.Search.{LeafValue}
use Rattle.case_runs.specs.declared.leaves.ToldLeaf.{ToldLeaf}
use Rattle.losses.specs.FoundCases.{FailingValue}
use Rattle.case_runs.specs.Leaves.{leaf_of, failing_if, failing_from, IsJudge}

append_none : {A : Type 0} (xs : List A) → xs ++ [] ≡ xs
append_none [] = refl
append_none (x ∷ xs) = ap (λ ys. x ∷ ys) (append_none xs)

pub failing_push : (n : ℕ) (leaves : List LeafValue) (leaf : LeafValue) → failing_from n (leaves ++ leaf ∷ []) ≡ failing_from n leaves ++ failing_if (n + length leaves) leaf
failing_push n [] leaf = append_none (failing_if n leaf) ∙ ap (λ m. failing_if m leaf) (let e : n ≡ n + 0 = omega arith in e)
failing_push n (first ∷ leaves) leaf =
    ap (λ fs. failing_if n first ++ fs) (failing_push (n + 1) leaves leaf)
    ∙ regroup (failing_if n first) (failing_from (n + 1) leaves) (failing_if (n + 1 + length leaves) leaf)
    ∙ ap (λ m. (failing_if n first ++ failing_from (n + 1) leaves) ++ failing_if m leaf) (let e : n + 1 + length leaves ≡ n + suc (length leaves) = omega arith in e)
  where
    regroup : (xs ys zs : List FailingValue) → xs ++ (ys ++ zs) ≡ (xs ++ ys) ++ zs
    regroup xs ys zs = simp append_assoc

same_length : (told : List ToldLeaf) → length (map leaf_of told) ≡ length told
same_length [] = refl
same_length (t ∷ told) = ap suc (same_length told)

pub told_one : (checker : CheckerValue) (memory : Bool) (context : Context) (told : List ToldLeaf) (old now : List FailingValue) (leaves : List LeafValue) (leaf : LeafValue)
    → IsJudge checker memory context (map leaf_of told) old → leaves ≡ map leaf_of told ++ leaf ∷ [] → now ≡ old ++ failing_if (length told) leaf → IsJudge checker memory context leaves now
told_one checker memory context told old now leaves leaf so is added = record {
  fit = so.fit;
  served = so.served;
  those =
      let many : length told ≡ 0 + length (map leaf_of told) = let e = same_length told in omega (arith, e) in
      added ∙ ap (λ m. old ++ failing_if m leaf) many ∙ ap (λ fs. fs ++ failing_if (0 + length (map leaf_of told)) leaf) so.those
      ∙ sym (failing_push 0 (map leaf_of told) leaf) ∙ ap (failing_from 0) (sym is);
}
