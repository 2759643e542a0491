-- The results of sign extensions.
use Rattle.std.proofs.Common.{ℕ, ◌≡◌, ◌-◌, ◌%◌, ◌^◌, ◌<◌, ◌≤◌, nat_lt, if◌then◌else◌, refl, sym, ◌∙◌, ap, arith}
use Rattle.std.proofs.lemmas.Bool.Decides.{nat_tests}
use Rattle.std.proofs.lemmas.Int.{to_z_pos, ints}
use Rattle.std.specs.Int.{cast_signed, cast_unsigned, w8, w16, w32, w64}
use Rattle.bpf_isa.specs.declared.instr.SignExtension.{SignExtension}
use Rattle.bpf_isa.specs.declared.instr.SignExtension.TheVariants as extension
use Rattle.intervals.proofs.Signs.{sized_most}
use Rattle.bpf_isa.specs.declared.instr.Width.TheVariants as width
use Rattle.std.proofs.Math.Nat.{mod-eq_of_lt}
use Rattle.machine.specs.Arithmetic.{low, sign_extension}
use Rattle.intervals.specs.Spans.{Span, is_constant, IsSpan, Has, Within}
use Rattle.intervals.specs.Operators.{most, full}
use Rattle.bpf_isa.specs.Spelling.{extension_width}
use Rattle.intervals.specs.Results.{part_of_width, sign_of, sign_extended, extended_result}
use Rattle.intervals.proofs.Decided.{has_if, fits_if, mono_if, one_still, constant_is, constant_same, low_within, stays_has, stays_fits, stays_mono, moved}
use Rattle.intervals.proofs.Cuts.{cut_has, cut_fits, cut_mono, wider}

-- the extension of a sign

extended_most : (e : SignExtension) (a : ℕ) → sign_extension e a ≤ most (extension_width e)
unfolding sign_extension
extended_most extension.From8To64 a = sized_most width.W64 (cast_signed w8 (a % 2 ^ 8)) (grind (arith, ints, nat_tests))
extended_most extension.From16To64 a = sized_most width.W64 (cast_signed w16 (a % 2 ^ 16)) (grind (arith, ints, nat_tests))
extended_most extension.From32To64 a = sized_most width.W64 (cast_signed w32 (a % 2 ^ 32)) (grind (arith, ints, nat_tests))
extended_most extension.From8To32 a = sized_most width.W32 (cast_signed w8 (a % 2 ^ 8)) (grind (arith, ints, nat_tests))
extended_most extension.From16To32 a = sized_most width.W32 (cast_signed w16 (a % 2 ^ 16)) (grind (arith, ints, nat_tests))

-- a number whose sign is not set stays
extended_plain : (e : SignExtension) (a : ℕ) → a < sign_of e → sign_extension e a ≡ a
unfolding sign_extension
extended_plain extension.From8To64 a h = ap (cast_unsigned w64) (ap (cast_signed w8) (mod-eq_of_lt (omega (arith, h))) ∙ to_z_pos w8 a h)
extended_plain extension.From16To64 a h = ap (cast_unsigned w64) (ap (cast_signed w16) (mod-eq_of_lt (omega (arith, h))) ∙ to_z_pos w16 a h)
extended_plain extension.From32To64 a h = ap (cast_unsigned w64) (ap (cast_signed w32) (mod-eq_of_lt (omega (arith, h))) ∙ to_z_pos w32 a h)
extended_plain extension.From8To32 a h = ap (cast_unsigned w32) (ap (cast_signed w8) (mod-eq_of_lt (omega (arith, h))) ∙ to_z_pos w8 a h)
extended_plain extension.From16To32 a h = ap (cast_unsigned w32) (ap (cast_signed w16) (mod-eq_of_lt (omega (arith, h))) ∙ to_z_pos w16 a h)

-- only the low bits count
extended_low : (e : SignExtension) (a : ℕ) → sign_extension e (low (extension_width e) a) ≡ sign_extension e a
unfolding sign_extension
extended_low extension.From8To64 a = refl
extended_low extension.From16To64 a = refl
extended_low extension.From32To64 a = refl
extended_low extension.From8To32 a = let e : a % 2 ^ 32 % 2 ^ 8 ≡ a % 2 ^ 8 = omega arith in ap (λ n. cast_unsigned w32 (cast_signed w8 n)) e
extended_low extension.From16To32 a = let e : a % 2 ^ 32 % 2 ^ 16 ≡ a % 2 ^ 16 = omega arith in ap (λ n. cast_unsigned w32 (cast_signed w16 n)) e

signs_are_words : (e : SignExtension) → sign_of e ≤ most (extension_width e)
signs_are_words extension.From8To64 = omega arith
signs_are_words extension.From16To64 = omega arith
signs_are_words extension.From32To64 = omega arith
signs_are_words extension.From8To32 = omega arith
signs_are_words extension.From16To32 = omega arith

sign_extended_has : (e : SignExtension) (x : Span) (a : ℕ) → Has x a → Has (sign_extended e x) (sign_extension e a)
unfolding sign_extended
sign_extended_has e x a h =
    has_if (is_constant x) (sign_extension e x.low) (sign_extension e a) (if nat_lt x.high (sign_of e) then x else full (most (extension_width e)))
    (λ t. ap (sign_extension e) (constant_is x a h t))
    (stays_has (nat_lt x.high (sign_of e)) (most (extension_width e)) (sign_extension e a) x
    (λ t. moved x a (sign_extension e a) (sym (extended_plain e a (grind (arith, nat_tests, t, h.upto)))) h)
    (extended_most e a))

sign_extended_fits : (e : SignExtension) (x : Span) → IsSpan (most (extension_width e)) x → IsSpan (most (extension_width e)) (sign_extended e x)
unfolding sign_extended
sign_extended_fits e x h =
    fits_if (most (extension_width e)) (is_constant x) (sign_extension e x.low) (if nat_lt x.high (sign_of e) then x else full (most (extension_width e)))
    (extended_most e x.low) (stays_fits (nat_lt x.high (sign_of e)) (most (extension_width e)) x (λ t. h))

sign_extended_mono : (e : SignExtension) (x s : Span) → IsSpan (most (extension_width e)) x → Within x s
    → Within (sign_extended e x) (sign_extended e s)
unfolding sign_extended
sign_extended_mono e x s h a =
    mono_if (is_constant x) (is_constant s) (sign_extension e x.low) (sign_extension e s.low)
    (if nat_lt x.high (sign_of e) then x else full (most (extension_width e))) (if nat_lt s.high (sign_of e) then s else full (most (extension_width e)))
    (λ q. (one_still (most (extension_width e)) x s h a q, ap (sign_extension e) (constant_same (most (extension_width e)) x s h a q)))
    (stays_has (nat_lt s.high (sign_of e)) (most (extension_width e)) (sign_extension e x.low) s
    (λ t. moved s x.low (sign_extension e x.low) (sym (extended_plain e x.low (grind (arith, nat_tests, t, h.ordered, a.upto))))
    (low_within (most (extension_width e)) x s h a))
    (extended_most e x.low))
    (stays_mono (nat_lt x.high (sign_of e)) (nat_lt s.high (sign_of e)) (most (extension_width e)) x s
    (λ t. grind (arith, nat_tests, t, a.upto)) (λ t. h.most) a)

pub extended_has : (e : SignExtension) (x : Span) (a : ℕ) → IsSpan (2 ^ 64 - 1) x → Has x a → Has (extended_result e x) (sign_extension e a)
unfolding extended_result
extended_has e x a hx h =
    moved (sign_extended e (part_of_width (extension_width e) x)) (sign_extension e (low (extension_width e) a)) (sign_extension e a) (extended_low e a)
    (sign_extended_has e (part_of_width (extension_width e) x) (low (extension_width e) a) (cut_has (extension_width e) x a h))

pub extended_fits : (e : SignExtension) (x : Span) → IsSpan (2 ^ 64 - 1) x → IsSpan (2 ^ 64 - 1) (extended_result e x)
unfolding extended_result
extended_fits e x h = wider (extension_width e) _ (sign_extended_fits e (part_of_width (extension_width e) x) (cut_fits (extension_width e) x h))

pub extended_mono : (e : SignExtension) (x s : Span) → IsSpan (2 ^ 64 - 1) x → Within x s
    → Within (extended_result e x) (extended_result e s)
unfolding extended_result
extended_mono e x s hx a =
    sign_extended_mono e (part_of_width (extension_width e) x) (part_of_width (extension_width e) s) (cut_fits (extension_width e) x hx)
    (cut_mono (extension_width e) x s hx a)
