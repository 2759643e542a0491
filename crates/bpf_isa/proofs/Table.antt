-- The table of opcodes, read both ways.
use Rattle.std.proofs.Common.{◌≡◌, ℕ, zero, suc, ◌<◌, ◌==◌, ◌&&◌, Bool, true, Option, None, Some, IfSome, refl, sym, inl, inr, arith}
use Rattle.std.proofs.lemmas.Bool.{and_parts, cases_eq}
use Rattle.std.proofs.lemmas.Bool.Decides.{eqb_tells}
use Rattle.std.specs.Option.{option_map_or}
use Rattle.bpf_isa.specs.Table.{operator_code, form_of, opcode_of, arithmetic_form, jump_form, memory_form, operator_of, condition_of, size_of, signed_size_of}
use Rattle.bpf_isa.specs.declared.form.OpcodeForm.{OpcodeForm}
use Rattle.bpf_isa.specs.declared.form.OpcodeForm.TheVariants as form
use Rattle.bpf_isa.specs.declared.instr.Operator.{Operator}
use Rattle.bpf_isa.specs.declared.instr.Width.{Width}

-- the form that the opcode n tells has this opcode
unfoldable pub comes_back : ℕ → Bool
comes_back n = option_map_or (λ f. opcode_of f == n) (form_of n) true

abbrev pub all_come_back : ℕ → Bool
all_come_back zero = true
all_come_back (suc n) = comes_back n && all_come_back n

-- the table has been gone through
table : all_come_back 256 ≡ true
unfolding comes_back form_of opcode_of arithmetic_form jump_form memory_form operator_of condition_of size_of signed_size_of
table = refl

each : (m n : ℕ) → n < m → all_come_back m ≡ true → comes_back n ≡ true
each zero n h e = absurd (omega arith)
each (suc m) n h e =
    let parts = and_parts (comes_back m) (all_come_back m) e in
    elim (cases_eq n m) [ inl same ↦ rw same parts.0 | inr other ↦ each m n (omega arith) parts.1 ]

at_known : (n : ℕ) (f : OpcodeForm) → form_of n ≡ Some f → comes_back n ≡ true → opcode_of f ≡ n
unfolding comes_back
at_known n f e back =
    let same : (opcode_of f == n) ≡ true = rw e at back in
    elim (eqb_tells (opcode_of f) n) [ inl equal ↦ equal.1 | inr differ ↦ let bad = differ.0 in cc ]

-- a known opcode is that of its form
pub forth : (n : ℕ) (f : OpcodeForm) → n < 256 → form_of n ≡ Some f → opcode_of f ≡ n
forth n f h e = at_known n f e (each 256 n h table)

-- a byte that tells a form is the opcode of that form
pub known : (n : ℕ) (o : Option OpcodeForm) → n < 256 → o ≡ form_of n → IfSome o (λ f. opcode_of f ≡ n)
known n None h e = tt
known n (Some f) h e = forth n f h (sym e)

-- operators of one code share the opcode
pub same_opcode : (o p : Operator) (w : Width) (register : Bool) → operator_code p ≡ operator_code o → opcode_of (form.Arithmetic w p register) ≡ opcode_of (form.Arithmetic w o register)
unfolding opcode_of
same_opcode o p w register e = rw e refl
