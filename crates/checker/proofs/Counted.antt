-- How many slots of an accepted program are guarded.
use Rattle.std.proofs.Common.{ℕ, suc, ◌≡◌, ◌<◌, ◌≤◌, ◌^◌, Bool, true, false, if◌then◌else◌, List, [], ◌∷◌, length, filter, Option, None, Some, refl, ap, ◌∙◌, arith}
use Rattle.std.specs.List.{range_with_len}
use Rattle.std.specs.Option.{option_map}
use Rattle.std.proofs.lemmas.List.FromFn.{length-range_with_len}
use Rattle.verifier.specs.Guards.{is_guarded_at, guarded_slots}
use Rattle.verifier.specs.Verdicts.{VerifiedValue, IsVerified}
use Rattle.plain.specs.Guards.{GuardsValue}
use Rattle.checker.specs.Checker.{CheckerValue, guards_in, checker_of, guards_of, guarded_of, guarded_count}

few_filtered : (p : ℕ → Bool) (xs : List ℕ) → length (filter p xs) ≤ length xs
few_filtered p [] = omega arith
few_filtered p (x ∷ xs) = by (p x) (few_filtered p xs)
  where
    by : (b : Bool) → length (filter p xs) ≤ length xs → length (if b then x ∷ filter p xs else filter p xs) ≤ suc (length xs)
    by true rest = omega (arith, rest)
    by false rest = omega (arith, rest)

-- no more than there are
pub few_guarded : (v : VerifiedValue) → IsVerified v → length (guarded_slots v.program v.table) ≤ 4096
unfolding guarded_slots
few_guarded v is =
    let most = is.program.count.limit in
    let few = few_filtered (is_guarded_at v.program v.table) (range_with_len 0 (length v.program)) in
    let long = length-range_with_len 0 (length v.program) in
    omega (arith, most, few, long)

-- what is kept of the number says it
pub made_of : (v : VerifiedValue) (guarded : Option GuardsValue) (count : ℕ) → guarded ≡ guarded_of v → count ≡ guarded_count v
    → record { program = v.program; limit = v.budget; verified = Some v.sectors; guards = option_map (λ (g : GuardsValue). count) guarded } ≡ checker_of v
made_of v guarded count held is =
    ap (λ (o : Option ℕ). record { program = v.program; limit = v.budget; verified = Some v.sectors; guards = o })
    (ap (option_map (λ (g : GuardsValue). count)) held ∙ by v.guards is)
  where
    by : (b : Bool) → count ≡ (if b then length (guarded_slots v.program v.table) else 0)
        → option_map (λ (g : GuardsValue). count) (if b then Some (record { program = v.program; guarded = guards_of v }) else None)
        ≡ (if b then Some (length (guarded_slots v.program v.table)) else None)
    by true h = ap (λ (n : ℕ). Some n) h
    by false h = refl
