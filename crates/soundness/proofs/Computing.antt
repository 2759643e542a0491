-- Arithmetic: what a register means after it.
use Rattle.std.proofs.Common.{◌≡◌, ◌<◌, ℕ, ◌+◌, ◌^◌, ◌==◌, ℤ, Bool, true, false, not, List, [], ◌∷◌, length, get_or, Option, None, Some, is_some, refl, arith}
use Rattle.std.specs.Option.{option_map, option_or, IsSomeAnd}
use Rattle.std.specs.Int.{cast_unsigned, w64}
use Rattle.std.specs.List.{list_all}
use Rattle.base.specs.Check.{Check, first_failing}
use Rattle.base.specs.declared.causes.MachineFault.{MachineFault}
use Rattle.base.specs.declared.causes.MachineFault.TheVariants as fault
use Rattle.base.specs.declared.causes.VerifierCause.TheVariants as cause
use Rattle.bpf_isa.specs.declared.instr.Instr.{Instr}
use Rattle.bpf_isa.specs.declared.instr.Instr.TheVariants as instr
use Rattle.bpf_isa.specs.declared.instr.Source.{Source}
use Rattle.bpf_isa.specs.declared.instr.Source.TheVariants as source
use Rattle.bpf_isa.specs.declared.instr.Width.{Width}
use Rattle.bpf_isa.specs.declared.instr.Width.TheVariants as width
use Rattle.bpf_isa.specs.declared.instr.Operator.{Operator}
use Rattle.bpf_isa.specs.declared.instr.Operator.TheVariants as op
use Rattle.bpf_isa.specs.declared.instr.SignExtension.{SignExtension}
use Rattle.bpf_isa.specs.declared.instr.Order.{Order}
use Rattle.bpf_isa.specs.declared.instr.OrderSize.{OrderSize}
use Rattle.bpf_isa.specs.Spelling.{IsSourceInRange}
use Rattle.machine.specs.Arithmetic.{arithmetic, operator_value, sign_extension, in_order}
use Rattle.machine.specs.State.{word}
use Rattle.machine.specs.Step as step
use Rattle.bpf_isa.specs.Slots.{at}
use Rattle.machine.specs.Step.{operands, source_registers, checks, effect, step_of, memory, set_and_go}
use Rattle.intervals.specs.Spans.{only, Has}
use Rattle.intervals.specs.Seen.{immediate_span}
use Rattle.intervals.specs.Reducing.{Limits, HasWord, any_sign, IsLimits}
use Rattle.intervals.specs.SignedResults.{limits_result_of}
use Rattle.intervals.proofs.Outcomes.{any_has}
use Rattle.intervals.proofs.CallerLemmas.{limits_cover, limits_fit, words_are_limits}
use Rattle.ranges.specs.Kinds.{Kind, Unset, Num, is_unknown, is_number}
use Rattle.ranges.specs.States.{Abstract}
use Rattle.ranges.specs.Order.{IsBounded, IsState}
use Rattle.ranges.specs.Pointers.{moved_pointer}
use Rattle.ranges.specs.Reading.{value, second, are_set, words, with_value}
use Rattle.ranges.specs.Rules.{rules, may_compute, computes, rules_with}
use Rattle.ranges.specs.After.{number_result as computed_kind, result_kind, after_with}
use Rattle.ranges.specs.Passing.{passes, passed_state, passed_with}
use Rattle.ranges.proofs.Keeping.{words_fit, value_fits, second_fits}
use Rattle.soundness.specs.Meaning.{Describes, Means}
use Rattle.soundness.proofs.Checks.{first_check, pass_two, pass_three, and_parts}
use Rattle.soundness.proofs.Meanings.{word_means, word_in}
use Rattle.soundness.proofs.Standing.{Parts, machine, number, AreFew, Stands, Goes, set_goes, not_unset, reads_set, described, words_has}
use Rattle.soundness.proofs.Pointers.{shifted, moved_describes}

-- what holds where an instruction begins
pub record Site (sectors : ℕ) (known : Abstract) (m : Parts) : Type 0 where
  pub few : AreFew sectors (number m)
  pub fits : IsState known
  pub stands : Stands sectors (number m) known m.registers m.stack
  pub turns : length m.turns ≡ 4096

-- a word that a result has
pub result_small : (i : Instr) (x y : Limits) (n : ℕ) → IsLimits x → IsLimits y → IsSomeAnd (limits_result_of i x y) (λ z. HasWord z n) → n < 2 ^ 64
result_small i x y n hx hy h = by (limits_result_of i x y) refl h
  where
    by : (r : Option Limits) → limits_result_of i x y ≡ r → IsSomeAnd r (λ z. HasWord z n) → n < 2 ^ 64
    by None e k = absurd k
    by (Some z) e k = let fits = limits_fit i x y z (words_are_limits x hx) (words_are_limits y hy) e in omega (arith, fits.words.most, k.word.upto)

-- the words of operands

pub read_has : (sectors : ℕ) (known : Abstract) (m : Parts) (r : ℕ) → Site sectors known m → HasWord (words (value known r)) (word (machine m) r)
read_has sectors known m r s = words_has sectors (number m) (value known r) (get_or m.registers r None) (s.stands.words.words r) (s.stands.values r)

itself : (n : ℕ) → Has (only n) n
itself n = record { from = omega arith; upto = omega arith }

-- the constant of an instruction
constant_has : (known : Abstract) (n : ℤ) → IsSourceInRange (source.Immediate n) → IsState known → HasWord (any_sign (immediate_span n)) (cast_unsigned w64 n)
constant_has known n range fits = any_has (immediate_span n) (cast_unsigned w64 n) (second_fits known (source.Immediate n) range fits).words (itself (cast_unsigned w64 n))

pub second_has : (sectors : ℕ) (known : Abstract) (m : Parts) (from : Source) → Site sectors known m → IsSourceInRange from
    → HasWord (words (second known from)) (step.second (machine m) from)
second_has sectors known m (source.Immediate n) s range = constant_has known n range s.fits
second_has sectors known m (source.Register r) s range = read_has sectors known m r s

pub read_describes : (sectors : ℕ) (known : Abstract) (m : Parts) (r : ℕ) → Site sectors known m → are_set known (r ∷ []) ≡ true
    → Describes sectors (number m) (value known r) (word (machine m) r)
read_describes sectors known m r s e =
    let set = and_parts (not (is_unknown (value known r))) true e in
    described sectors (number m) (value known r) (get_or m.registers r None) (not_unset (is_unknown (value known r)) set.0) (s.stands.values r)

pub first_describes : (sectors : ℕ) (known : Abstract) (m : Parts) (r : ℕ) (rest : List ℕ) → Site sectors known m → are_set known (r ∷ rest) ≡ true
    → Describes sectors (number m) (value known r) (word (machine m) r)
first_describes sectors known m r rest s e =
    let set = and_parts (not (is_unknown (value known r))) (are_set known rest) e in
    described sectors (number m) (value known r) (get_or m.registers r None) (not_unset (is_unknown (value known r)) set.0) (s.stands.values r)

pub second_describes : (sectors : ℕ) (known : Abstract) (m : Parts) (from : Source) → Site sectors known m → IsSourceInRange from → are_set known (source_registers from) ≡ true
    → Describes sectors (number m) (second known from) (step.second (machine m) from)
second_describes sectors known m (source.Immediate n) s range e = constant_has known n range s.fits
second_describes sectors known m (source.Register r) s range e = read_describes sectors known m r s e

pub rest_set : (known : Abstract) (r : ℕ) (rest : List ℕ) → are_set known (r ∷ rest) ≡ true → are_set known rest ≡ true
rest_set known r rest e = (and_parts (not (is_unknown (value known r))) (are_set known rest) e).1

-- numbers

pub computed_has : (sectors : ℕ) (known : Abstract) (m : Parts) (w : Width) (o : Operator) (dst : ℕ) (from : Source) → Site sectors known m → IsSourceInRange from
    → IsSomeAnd (limits_result_of (instr.Arithmetic w o dst from) (words (value known dst)) (words (second known from)))
    (λ z. HasWord z (arithmetic w o (word (machine m) dst) (step.second (machine m) from)))
computed_has sectors known m w o dst from s range =
    limits_cover.operators w o dst from (words (value known dst)) (words (second known from)) (word (machine m) dst) (step.second (machine m) from)
    (words_are_limits (words (value known dst)) (words_fit (value known dst) (value_fits known dst s.fits)))
    (words_are_limits (words (second known from)) (words_fit (second known from) (second_fits known from range s.fits)))
    (read_has sectors known m dst s) (second_has sectors known m from s range)

-- what arithmetic makes describes what the machine does
number_describes : (sectors frame v : ℕ) (r : Option Limits) → IsSomeAnd r (λ z. HasWord z v) → IsSomeAnd (option_map (λ x. Num x) r) (λ k. Describes sectors frame k v)
number_describes sectors frame v None h = absurd h
number_describes sectors frame v (Some z) h = h

computed_describes : (sectors : ℕ) (known : Abstract) (m : Parts) (w : Width) (o : Operator) (dst : ℕ) (from : Source) → Site sectors known m → IsSourceInRange from
    → IsSomeAnd (computed_kind (instr.Arithmetic w o dst from) (value known dst) (second known from))
    (λ k. Describes sectors (number m) k (arithmetic w o (word (machine m) dst) (step.second (machine m) from)))
computed_describes sectors known m w o dst from s range =
    number_describes sectors (number m) (arithmetic w o (word (machine m) dst) (step.second (machine m) from))
    (limits_result_of (instr.Arithmetic w o dst from) (words (value known dst)) (words (second known from))) (computed_has sectors known m w o dst from s range)

moved_or : (sectors frame : ℕ) (down : Bool) (k l : Kind) (c : Option Kind) (a b v : ℕ) → (v ≡ shifted down a b) → AreFew sectors frame → IsBounded k → IsBounded l
    → Describes sectors frame k a → Describes sectors frame l b → IsSomeAnd c (λ j. Describes sectors frame j v)
    → IsSomeAnd (option_or (moved_pointer down k l) c) (λ j. Describes sectors frame j v)
moved_or sectors frame down k l c a b v e few fk fl dk dl dc = by (moved_pointer down k l) refl
  where
    by : (p : Option Kind) → moved_pointer down k l ≡ p → IsSomeAnd (option_or p c) (λ j. Describes sectors frame j v)
    by None f = dc
    by (Some p) f = rw e (moved_describes sectors frame down k l p a b few fk fl dk dl f)

move_is : (a b : ℕ) → arithmetic width.W64 op.Mov a b ≡ b
unfolding arithmetic operator_value
move_is a b = refl

sum_is : (a b : ℕ) → arithmetic width.W64 op.Add a b ≡ shifted false a b
unfolding arithmetic operator_value
sum_is a b = refl

difference_is : (a b : ℕ) → arithmetic width.W64 op.Sub a b ≡ shifted true a b
unfolding arithmetic operator_value
difference_is a b = refl

result_describes : (sectors : ℕ) (known : Abstract) (m : Parts) (w : Width) (o : Operator) (dst : ℕ) (from : Source) → Site sectors known m → IsSourceInRange from
    → are_set known (operands o dst from) ≡ true
    → IsSomeAnd (result_kind (instr.Arithmetic w o dst from) (value known dst) (second known from))
    (λ k. Describes sectors (number m) k (arithmetic w o (word (machine m) dst) (step.second (machine m) from)))
unfolding result_kind
result_describes sectors known m width.W64 op.Mov dst from s range e =
    rw (move_is (word (machine m) dst) (step.second (machine m) from)) (second_describes sectors known m from s range e)
result_describes sectors known m width.W64 op.Add dst from s range e =
    moved_or sectors (number m) false (value known dst) (second known from) (computed_kind (instr.Arithmetic width.W64 op.Add dst from) (value known dst) (second known from))
    (word (machine m) dst) (step.second (machine m) from) (arithmetic width.W64 op.Add (word (machine m) dst) (step.second (machine m) from)) (sum_is (word (machine m) dst) (step.second (machine m) from))
    s.few (value_fits known dst s.fits) (second_fits known from range s.fits)
    (first_describes sectors known m dst (source_registers from) s e) (second_describes sectors known m from s range (rest_set known dst (source_registers from) e))
    (computed_describes sectors known m width.W64 op.Add dst from s range)
result_describes sectors known m width.W64 op.Sub dst from s range e =
    moved_or sectors (number m) true (value known dst) (second known from) (computed_kind (instr.Arithmetic width.W64 op.Sub dst from) (value known dst) (second known from))
    (word (machine m) dst) (step.second (machine m) from) (arithmetic width.W64 op.Sub (word (machine m) dst) (step.second (machine m) from)) (difference_is (word (machine m) dst) (step.second (machine m) from))
    s.few (value_fits known dst s.fits) (second_fits known from range s.fits)
    (first_describes sectors known m dst (source_registers from) s e) (second_describes sectors known m from s range (rest_set known dst (source_registers from) e))
    (computed_describes sectors known m width.W64 op.Sub dst from s range)
result_describes sectors known m width.W64 o dst from s range e = computed_describes sectors known m width.W64 o dst from s range
result_describes sectors known m width.W32 o dst from s range e = computed_describes sectors known m width.W32 o dst from s range

-- the checks of an instruction that writes a register and goes on to the next slot
abbrev register_checks : List (Option Instr) → Parts → ℕ → List ℕ → List (Check MachineFault)
register_checks program m dst list = step.may_write dst ∷ step.reads (machine m) list ∷ step.goes_on program (m.slot + 1) ∷ []

register_goes : (program : List (Option Instr)) (sectors : ℕ) (known : Abstract) (m : Parts) (dst x : ℕ) (k : Kind) (list : List ℕ) → Site sectors known m
    → not (dst == 10) ≡ true → are_set known list ≡ true → is_some (at program (m.slot + 1)) ≡ true → x < 2 ^ 64 → Means sectors (number m) k (Some x)
    → Goes sectors m ((m.slot + 1, with_value known dst k) ∷ []) (step.after_checks (machine m) (register_checks program m dst list) (set_and_go 1 (machine m) dst x))
register_goes program sectors known m dst x k list s free set next small means =
    set_goes sectors known m (register_checks program m dst list) 1 dst x k
    (pass_three fault.FramePointer fault.UnsetRegister fault.NoInstruction (not (dst == 10)) (list_all (λ r. is_some (get_or m.registers r None)) list)
    (is_some (at program (m.slot + 1))) free (reads_set sectors (number m) known m.registers list s.stands.values set) next)
    s.fits s.stands s.turns small means

-- the same, where the value is what arithmetic makes, if it makes something
result_goes : (program : List (Option Instr)) (sectors : ℕ) (known : Abstract) (m : Parts) (dst x : ℕ) (r : Option Kind) (list : List ℕ) → Site sectors known m
    → not (dst == 10) ≡ true → are_set known list ≡ true → is_some (at program (m.slot + 1)) ≡ true → x < 2 ^ 64
    → IsSomeAnd r (λ k. Describes sectors (number m) k x)
    → Goes sectors m (passed_state (m.slot + 1) (option_map (with_value known dst) r)) (step.after_checks (machine m) (register_checks program m dst list) (set_and_go 1 (machine m) dst x))
result_goes program sectors known m dst x None list s free set next small describes = absurd describes
result_goes program sectors known m dst x (Some k) list s free set next small describes =
    register_goes program sectors known m dst x k list s free set next small (word_means sectors (number m) k x describes)

pub arithmetic_goes : (program : List (Option Instr)) (context : List ℕ) (device : List (List ℕ)) (sectors : ℕ) (known : Abstract) (m : Parts)
    (w : Width) (o : Operator) (dst : ℕ) (from : Source) → Site sectors known m → IsSourceInRange from → not (dst == 10) ≡ true → is_some (at program (m.slot + 1)) ≡ true
    → first_failing (rules known (instr.Arithmetic w o dst from)) ≡ None
    → Goes sectors m (passes sectors known m.slot (instr.Arithmetic w o dst from)) (step_of program context device (machine m) (instr.Arithmetic w o dst from))
unfolding rules_with passed_with after_with step_of checks effect
arithmetic_goes program context device sectors known m w o dst from s range free next keeps =
    let set = (first_check cause.UnsetRegister (are_set known (operands o dst from)) (computes (may_compute w o (value known dst) (second known from)) ∷ []) keeps).0 in
    let x : ℕ = arithmetic w o (word (machine m) dst) (step.second (machine m) from) in
    let small : x < 2 ^ 64 = result_small (instr.Arithmetic w o dst from) (words (value known dst)) (words (second known from)) x
    (words_fit (value known dst) (value_fits known dst s.fits)) (words_fit (second known from) (second_fits known from range s.fits))
    (computed_has sectors known m w o dst from s range) in
    result_goes program sectors known m dst x (result_kind (instr.Arithmetic w o dst from) (value known dst) (second known from)) (operands o dst from) s free set next small
    (result_describes sectors known m w o dst from s range set)

-- an instruction whose result is that of one register, whichever operand it is
one_goes : (program : List (Option Instr)) (sectors : ℕ) (known : Abstract) (m : Parts) (i : Instr) (k l : Kind) (dst x : ℕ) (list : List ℕ) → Site sectors known m
    → IsBounded k → IsBounded l → not (dst == 10) ≡ true → are_set known list ≡ true → is_some (at program (m.slot + 1)) ≡ true
    → IsSomeAnd (limits_result_of i (words k) (words l)) (λ z. HasWord z x)
    → Goes sectors m (passed_state (m.slot + 1) (option_map (with_value known dst) (computed_kind i k l))) (step.after_checks (machine m) (register_checks program m dst list) (set_and_go 1 (machine m) dst x))
one_goes program sectors known m i k l dst x list s fk fl free set next has =
    result_goes program sectors known m dst x (computed_kind i k l) list s free set next
    (result_small i (words k) (words l) x (words_fit k fk) (words_fit l fl) has) (number_describes sectors (number m) x (limits_result_of i (words k) (words l)) has)

pub negate_goes : (program : List (Option Instr)) (context : List ℕ) (device : List (List ℕ)) (sectors : ℕ) (known : Abstract) (m : Parts)
    (w : Width) (dst : ℕ) → Site sectors known m → not (dst == 10) ≡ true → is_some (at program (m.slot + 1)) ≡ true
    → first_failing (rules known (instr.Negate w dst)) ≡ None
    → Goes sectors m (passes sectors known m.slot (instr.Negate w dst)) (step_of program context device (machine m) (instr.Negate w dst))
unfolding rules_with passed_with after_with step_of checks effect
negate_goes program context device sectors known m w dst s free next keeps =
    let set = (first_check cause.UnsetRegister (are_set known (dst ∷ [])) (computes (is_number (value known dst)) ∷ []) keeps).0 in
    let fits = value_fits known dst s.fits in
    one_goes program sectors known m (instr.Negate w dst) (value known dst) Unset dst (arithmetic w op.Sub 0 (word (machine m) dst)) (dst ∷ []) s fits tt free set next
    (limits_cover.opposites w dst (words (value known dst)) (words Unset) (word (machine m) dst)
    (words_are_limits (words (value known dst)) (words_fit (value known dst) fits)) (read_has sectors known m dst s))

pub extend_goes : (program : List (Option Instr)) (context : List ℕ) (device : List (List ℕ)) (sectors : ℕ) (known : Abstract) (m : Parts)
    (e : SignExtension) (dst src : ℕ) → Site sectors known m → not (dst == 10) ≡ true → is_some (at program (m.slot + 1)) ≡ true
    → first_failing (rules known (instr.SignExtend e dst src)) ≡ None
    → Goes sectors m (passes sectors known m.slot (instr.SignExtend e dst src)) (step_of program context device (machine m) (instr.SignExtend e dst src))
unfolding rules_with passed_with after_with step_of checks effect
extend_goes program context device sectors known m e dst src s free next keeps =
    let set = (first_check cause.UnsetRegister (are_set known (src ∷ [])) (computes (is_number (value known src)) ∷ []) keeps).0 in
    let fits = value_fits known src s.fits in
    one_goes program sectors known m (instr.SignExtend e dst src) Unset (value known src) dst (sign_extension e (word (machine m) src)) (src ∷ []) s tt fits free set next
    (limits_cover.signs e dst src (words Unset) (words (value known src)) (word (machine m) src)
    (words_are_limits (words (value known src)) (words_fit (value known src) fits)) (read_has sectors known m src s))

pub order_goes : (program : List (Option Instr)) (context : List ℕ) (device : List (List ℕ)) (sectors : ℕ) (known : Abstract) (m : Parts)
    (o : Order) (size : OrderSize) (dst : ℕ) → Site sectors known m → not (dst == 10) ≡ true → is_some (at program (m.slot + 1)) ≡ true
    → first_failing (rules known (instr.ByteOrder o size dst)) ≡ None
    → Goes sectors m (passes sectors known m.slot (instr.ByteOrder o size dst)) (step_of program context device (machine m) (instr.ByteOrder o size dst))
unfolding rules_with passed_with after_with step_of checks effect
order_goes program context device sectors known m o size dst s free next keeps =
    let set = (first_check cause.UnsetRegister (are_set known (dst ∷ [])) (computes (is_number (value known dst)) ∷ []) keeps).0 in
    let fits = value_fits known dst s.fits in
    one_goes program sectors known m (instr.ByteOrder o size dst) (value known dst) Unset dst (in_order o size (word (machine m) dst)) (dst ∷ []) s fits tt free set next
    (limits_cover.orders o size dst (words (value known dst)) (words Unset) (word (machine m) dst)
    (words_are_limits (words (value known dst)) (words_fit (value known dst) fits)) (read_has sectors known m dst s))

pub immediate_goes : (program : List (Option Instr)) (context : List ℕ) (device : List (List ℕ)) (sectors : ℕ) (known : Abstract) (m : Parts)
    (dst x : ℕ) → Site sectors known m → x < 2 ^ 64 → not (dst == 10) ≡ true → is_some (at program (m.slot + 2)) ≡ true
    → Goes sectors m (passes sectors known m.slot (instr.LoadImmediate dst x)) (step_of program context device (machine m) (instr.LoadImmediate dst x))
unfolding passed_with after_with step_of checks effect
immediate_goes program context device sectors known m dst x s small free next =
    set_goes sectors known m (step.may_write dst ∷ step.goes_on program (m.slot + 2) ∷ []) 2 dst x (Num (any_sign (only x)))
    (pass_two fault.FramePointer fault.NoInstruction (not (dst == 10)) (is_some (at program (m.slot + 2))) free next) s.fits s.stands s.turns small
    (x, refl, word_in x x x small (omega arith) (omega arith))
