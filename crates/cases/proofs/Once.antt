-- The tree of a cut and a program is one.
use Rattle.std.proofs.Common.{◌≡◌, ◌≤◌, List, ◌∷◌, ◌++◌, length, map, None, Some, refl, sym, subst, ◌∙◌, ap, arith}
use Rattle.std.proofs.lemmas.Bool.{false≢true}
use Rattle.cases.specs.Cases.{Case, Split, with_part}
use Rattle.cases.specs.Trees.{Subject, split_of, AreLeaves, no_case, is_beyond, is_leaf, is_split}
use Rattle.cases.specs.Search.{LeadTo, are_there, past_beyond, past_leaf, past_split}
use Rattle.cases.specs.Once.{TreeIsOne}

-- a case has one split
no_split : (s : Subject) (c : Case) (it : Split) → split_of s c ≡ None → split_of s c ≡ Some it → ⊥
no_split s c it none some = let bad : None ≡ Some it = sym none ∙ some in cc

one_split : (s : Subject) (c : Case) (it other : Split) → split_of s c ≡ Some it → split_of s c ≡ Some other → other ≡ it
one_split s c it other here there = let both : Some other ≡ Some it = sym there ∙ here in cc

abbrev children : Case → Split → List Case → List Case
children c it rest = map (with_part c it.part) it.groups ++ rest

one_tree : (s : Subject) (cs ls left ms rest : List Case) → AreLeaves s cs ls left → AreLeaves s cs ms rest → (ls ≡ ms) × (left ≡ rest)
one_tree s cs ls left ms rest no_case no_case = (refl, refl)
one_tree s cs ls left ms rest (is_beyond c xs ls1 left1 out a) (is_beyond d ys ms2 rest2 over b) =
    let more = one_tree s xs ls1 left1 ms2 rest2 a b in
    (more.0, ap (λ (zs : List Case). c ∷ zs) more.1)
one_tree s cs ls left ms rest (is_beyond c xs ls1 left1 out a) (is_leaf d ys ms2 rest2 within whole b) = absurd (false≢true (sym out ∙ within))
one_tree s cs ls left ms rest (is_beyond c xs ls1 left1 out a) (is_split d it ys ms2 rest2 within some b) = absurd (false≢true (sym out ∙ within))
one_tree s cs ls left ms rest (is_leaf c xs ls1 left1 within whole a) (is_beyond d ys ms2 rest2 out b) = absurd (false≢true (sym out ∙ within))
one_tree s cs ls left ms rest (is_leaf c xs ls1 left1 within whole a) (is_leaf d ys ms2 rest2 inside none b) =
    let more = one_tree s xs ls1 left1 ms2 rest2 a b in
    (ap (λ (zs : List Case). c ∷ zs) more.0, more.1)
one_tree s cs ls left ms rest (is_leaf c xs ls1 left1 within whole a) (is_split d it ys ms2 rest2 inside some b) = absurd (no_split s c it whole some)
one_tree s cs ls left ms rest (is_split c it xs ls1 left1 within some a) (is_beyond d ys ms2 rest2 out b) = absurd (false≢true (sym out ∙ within))
one_tree s cs ls left ms rest (is_split c it xs ls1 left1 within some a) (is_leaf d ys ms2 rest2 inside whole b) = absurd (no_split s c it whole some)
one_tree s cs ls left ms rest (is_split c it xs ls1 left1 within some a) (is_split d other ys ms2 rest2 inside there b) =
    one_tree s (children c it xs) ls left ms rest a
    (subst (λ (x : Split). AreLeaves s (children c x xs) ms rest) (one_split s c it other some there) b)

few_told : (s : Subject) (to cs told passed ls left : List Case) → LeadTo s to cs told passed → AreLeaves s cs ls left → length told ≤ length ls
few_told s to cs told passed ls left are_there b = omega arith
few_told s to cs told passed ls left (past_beyond c xs told1 passed1 out a) (is_beyond d ys ls2 left2 over b) = few_told s to xs told1 passed1 ls2 left2 a b
few_told s to cs told passed ls left (past_beyond c xs told1 passed1 out a) (is_leaf d ys ls2 left2 within whole b) = absurd (false≢true (sym out ∙ within))
few_told s to cs told passed ls left (past_beyond c xs told1 passed1 out a) (is_split d it ys ls2 left2 within some b) = absurd (false≢true (sym out ∙ within))
few_told s to cs told passed ls left (past_leaf c xs told1 passed1 within whole a) (is_beyond d ys ls2 left2 out b) = absurd (false≢true (sym out ∙ within))
few_told s to cs told passed ls left (past_leaf c xs told1 passed1 within whole a) (is_leaf d ys ls2 left2 inside none b) =
    let more = few_told s to xs told1 passed1 ls2 left2 a b in
    omega (arith, more)
few_told s to cs told passed ls left (past_leaf c xs told1 passed1 within whole a) (is_split d it ys ls2 left2 inside some b) = absurd (no_split s c it whole some)
few_told s to cs told passed ls left (past_split c it xs told1 passed1 within some a) (is_beyond d ys ls2 left2 out b) = absurd (false≢true (sym out ∙ within))
few_told s to cs told passed ls left (past_split c it xs told1 passed1 within some a) (is_leaf d ys ls2 left2 inside whole b) = absurd (no_split s c it whole some)
few_told s to cs told passed ls left (past_split c it xs told1 passed1 within some a) (is_split d other ys ls2 left2 inside there b) =
    few_told s to (children c it xs) told passed ls left a
    (subst (λ (x : Split). AreLeaves s (children c x xs) ls left) (one_split s c it other some there) b)

pub tree_is_one : TreeIsOne
tree_is_one = record {
  same = λ s cs leaves left others rest a b. one_tree s cs leaves left others rest a b;
  fewer = λ s to cs told passed leaves left a b. few_told s to cs told passed leaves left a b;
}
