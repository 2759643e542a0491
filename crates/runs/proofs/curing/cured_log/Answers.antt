use Rattle.std.proofs.Common.{ℕ, inl, ◌≡◌, ◌≢◌, ◌↔◌, ◌==◌, [], ◌∷◌, Bool, true, false, not, IsTrue, rules, arith, refl, sym, ◌∙◌, ap, ◌++◌, List, length, vec_len, string_bytes}
use Rattle.std.proofs.lemmas.Bool.{false≢true}
use Rattle.std.proofs.lemmas.Bool.Decides.{eqb_tells}
use Rattle.std.proofs.lemmas.Result.{err_from_is_err_and}
use Rattle.request.specs.Source.{no_plan_memory}
use Rattle.runs.proofs.Tried.{cured_so}
use Rattle.runs.proofs.curing.cured_log.Goals as goal

pub all_rounds-requires-clause-found : goal.all_rounds-requires-clause-found
all_rounds-requires-clause-found g c = λ κs lives. (c.in_ok-made.made.begin.items, c.in_ok-made.ensures.found)

-- a list that isn't empty, by the test of its length
some_fail : {A : Type 0} (xs : List A) (n : ℕ) (empty : Bool) → empty ≡ (n == 0) → n ≡ length xs → IsTrue (not empty) ↔ (xs ≢ [])
some_fail [] n true told long = ((λ fail. absurd (false≢true fail)), (λ some. absurd (some refl)))
some_fail [] n false told long = absurd (false≢true (told ∙ ap (λ (m : ℕ). m == 0) long))
some_fail (x ∷ xs) n true told long =
    let zero : (n == 0) ≡ true = sym told in
    let e : n ≡ 0 = grind (arith, eqb_tells, zero) in
    absurd (omega (arith, e, long))
some_fail (x ∷ xs) n false told long = ((λ fail empty. absurd (let bad : x ∷ xs ≡ [] = empty in cc)), (λ some. refl))

pub returns-clause-cured : goal.returns-clause-cured
returns-clause-cured g c =
    let long : vec_len c.in_ok-made.made.found.failures ≡ length c.in_ok-made.made.found.failures.items = search rules in
    let fails = some_fail c.in_ok-made.made.found.failures.items _ c.is_empty-failing.result c.is_empty-failing.ensures long in
    cured_so _ _ _ _ c.in_ok-made.made.found.failures.items c.in_ok-made.made.begin.items (string_bytes c.in_ok-made.made.found.last) _ _ c.in_ok-bytes.bytes.items (not c.is_empty-failing.result) c.in_ok-made.ensures.found
    c.in-Ok.ensures.told c.new-rounds.ensures.bytes (c.in_ok-bytes.ensures.bytes ∙ ap (λ (xs : List ℕ). c.in_ok-made.made.begin.items ++ xs) c.as_str.ensures.value) fails

pub returns-in-Err-clause-refused : goal.returns-in-Err-clause-refused
returns-in-Err-clause-refused g c = rw c.of_memory.ensures (inl no_plan_memory)

pub returns-in_err-bytes-clause-refused : goal.returns-in_err-bytes-clause-refused
returns-in_err-bytes-clause-refused g c =
    let p = err_from_is_err_and c.from_residual-in_err-bytes.result c.from_residual-in_err-bytes.ensures.1 in
    rw (p.1, p.2, c.in_err-bytes.ensures.refused) (inl no_plan_memory)
