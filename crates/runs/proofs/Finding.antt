-- What a run finds of its programs.
use Rattle.std.proofs.Common.{ℕ, zero, suc, ◌≡◌, ◌+◌, ◌≤◌, List, [], ◌∷◌, ◌++◌, length, take, add-one, Option, None, Some, slice_get, refl, sym, subst, arith, length-append}
use Rattle.base.specs.declared.refusal.Refusal.{Refusal}
use Rattle.bpf_isa.specs.declared.instr.Instr.{Instr}
use Rattle.verifier.specs.declared.unreached.Unreached.{Unreached}
use Rattle.request.specs.declared.settings.Settings.{Settings}
use Rattle.runs.specs.Programs.{AreDecoded}
use Rattle.runs.specs.Finds.{IsUnreachedOf, AreUnreached, FindsUnreached}

-- of one more program
grow : (checked : Option ℕ) (sectors : ℕ) (programs : List (List (Option Instr))) (n : ℕ) (p : List (Option Instr)) (us : List (Option Unreached)) (u : Option Unreached)
    → AreUnreached checked sectors (take n programs) us → slice_get programs n ≡ Some p → IsUnreachedOf checked sectors p u
    → AreUnreached checked sectors (take (suc n) programs) (us ++ u ∷ [])
grow checked sectors [] n p us u h there is = absurd (let bad : None ≡ Some p = there in cc)
grow checked sectors (q ∷ qs) zero p [] u h there is =
    let same : q ≡ p = (let e : Some q ≡ Some p = there in cc) in
    (subst (λ (x : List (Option Instr)). IsUnreachedOf checked sectors x u) (sym same) is, tt)
grow checked sectors (q ∷ qs) zero p (v ∷ vs) u h there is = absurd h
grow checked sectors (q ∷ qs) (suc n) p [] u h there is = absurd h
grow checked sectors (q ∷ qs) (suc n) p (v ∷ vs) u h there is = (h.0, grow checked sectors qs n p vs u h.1 there is)

-- what is found of the first n programs
pub record Finding (checked : Option ℕ) (sectors : ℕ) (programs : List (List (Option Instr))) (n : ℕ) (us : List (Option Unreached)) : Type 0 where
  pub found : AreUnreached checked sectors (take n programs) us
  pub few : length us ≤ n

pub find_next : (checked : Option ℕ) (sectors : ℕ) (programs : List (List (Option Instr))) (n : ℕ) (p : List (Option Instr)) (us : List (Option Unreached)) (u : Option Unreached)
    → Finding checked sectors programs n us → slice_get programs n ≡ Some p → IsUnreachedOf checked sectors p u → Finding checked sectors programs (n + 1) (us ++ u ∷ [])
find_next checked sectors programs n p us u h there is =
    rw (add-one n)
    (record {
      found = grow checked sectors programs n p us u h.found there is;
      few = omega (arith, h.few, length-append us (u ∷ []));
    })

-- of all programs that files spell, where each was decoded
pub finds_unreached : (files : List (List ℕ)) (s : Settings) (programs now : List (List (Option Instr))) (refusal : Option Refusal) (us : List (Option Unreached)) → now ≡ programs
    → AreDecoded files programs refusal → ((r : Refusal) → refusal ≡ Some r → ⊥) → AreUnreached s.checked s.sectors now us → FindsUnreached files s us
finds_unreached files s programs now (Some r) us same decoded none unreached = absurd (none r refl)
finds_unreached files s programs now None us same decoded none unreached = record {
  programs = programs;
  decoded = decoded.0;
  all = decoded.1;
  unreached = subst (λ (ps : List (List (Option Instr))). AreUnreached s.checked s.sectors ps us) same unreached;
}
