-- First breaches.
use Rattle.std.proofs.Common.{◌≡◌, ◌<◌, ℕ, Bool, List, Option, Some, None, refl, sym, ◌∙◌, inl, inr, arith}
use Rattle.std.proofs.lemmas.Bool.{cases_lt}
use Rattle.base.specs.declared.causes.VerifierCause.{VerifierCause}
use Rattle.bpf_isa.specs.declared.instr.Instr.{Instr}
use Rattle.ranges.specs.States.{Abstract}
use Rattle.verifier.specs.Good.{IsGoodAt}
use Rattle.verifier.specs.Breaches.{BreaksAt, wrong_length, no_start, at_slot}
use Rattle.verifier.specs.Laws.{GoodHasNoBreach, OneBreach}

good_breaks_nothing : (guards : Bool) (program : List (Option Instr)) (sectors : ℕ) (table : List (Option Abstract)) (slot : ℕ) (c : VerifierCause)
    → IsGoodAt guards program sectors table slot → BreaksAt guards program sectors table slot c → ⊥
good_breaks_nothing guards program sectors table slot c g (inl e) = absurd (let bad : None ≡ Some c = sym g.rules ∙ e in cc)
good_breaks_nothing guards program sectors table slot c g (inr b) = b.1.edges g.edges

pub good_has_no_breach : GoodHasNoBreach
good_has_no_breach guards program sectors table _ _ g (wrong_length e) = e g.long
good_has_no_breach guards program sectors table _ _ g (no_start e n) = n g.start
good_has_no_breach guards program sectors table _ _ g (at_slot c slot e s b) = good_breaks_nothing guards program sectors table slot c (g.slots slot) b.breaks

same_cause : (guards : Bool) (program : List (Option Instr)) (sectors : ℕ) (table : List (Option Abstract)) (slot : ℕ) (c d : VerifierCause)
    → BreaksAt guards program sectors table slot c → BreaksAt guards program sectors table slot d → c ≡ d
same_cause guards program sectors table slot c d (inl x) (inl y) = let e : Some c ≡ Some d = sym x ∙ y in cc
same_cause guards program sectors table slot c d (inl x) (inr y) = absurd (let bad : None ≡ Some c = sym y.1.rules ∙ x in cc)
same_cause guards program sectors table slot c d (inr x) (inl y) = absurd (let bad : None ≡ Some d = sym x.1.rules ∙ y in cc)
same_cause guards program sectors table slot c d (inr x) (inr y) = x.0 ∙ sym y.0

same_slot : (guards : Bool) (program : List (Option Instr)) (sectors : ℕ) (table : List (Option Abstract)) (s t : ℕ) (c d : VerifierCause)
    → ((u : ℕ) → u < s → IsGoodAt guards program sectors table u) → BreaksAt guards program sectors table s c
    → ((u : ℕ) → u < t → IsGoodAt guards program sectors table u) → BreaksAt guards program sectors table t d → s ≡ t
same_slot guards program sectors table s t c d below_s x below_t y =
    elim (cases_lt s t) [
      | inl less ↦ absurd (good_breaks_nothing guards program sectors table s c (below_t s less) x)
      | inr not_less ↦ elim (cases_lt t s) [
        | inl more ↦ absurd (good_breaks_nothing guards program sectors table t d (below_s t more) y)
        | inr not_more ↦ omega (arith, not_less, not_more)
      ]
    ]

pub one_breach : OneBreach
one_breach guards program sectors table _ _ _ _ (wrong_length e) (wrong_length f) = (refl, refl)
one_breach guards program sectors table _ _ _ _ (wrong_length e) (no_start f n) = absurd (e f)
one_breach guards program sectors table _ _ _ _ (wrong_length e) (at_slot c s f g b) = absurd (e f)
one_breach guards program sectors table _ _ _ _ (no_start e n) (wrong_length f) = absurd (f e)
one_breach guards program sectors table _ _ _ _ (no_start e n) (no_start f m) = (refl, refl)
one_breach guards program sectors table _ _ _ _ (no_start e n) (at_slot c s f g b) = absurd (n g)
one_breach guards program sectors table _ _ _ _ (at_slot c s e g b) (wrong_length f) = absurd (f e)
one_breach guards program sectors table _ _ _ _ (at_slot c s e g b) (no_start f n) = absurd (n g)
one_breach guards program sectors table _ _ _ _ (at_slot c s e g b) (at_slot d t f k a) =
    let same : s ≡ t = same_slot guards program sectors table s t c d b.lowest b.breaks a.lowest a.breaks in
    (same_cause guards program sectors table t c d (rw same at b.breaks) a.breaks, same)
