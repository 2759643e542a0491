-- Bytes are spelled by one program at most, and where they are spelled no test fails.
use Rattle.std.proofs.Common.{◌≡◌, ℕ, ◌+◌, ◌*◌, ◌/◌, ◌%◌, ◌^◌, ◌<◌, ◌==◌, if◌then◌else◌, true, false, List, [], ◌∷◌, ◌++◌, length, take, drop, flat_map, Option, None, Some, refl, sym, ap, ◌∙◌, append_assoc, length-append, length-drop, ◌⊎◌, inl, inr, Result, Ok, Err, IfOk, IfErr, lit<, arith}
use Rattle.std.specs.Option.{option_map}
use Rattle.std.specs.Int.{cast_signed, w16, w32}
use Rattle.std.proofs.lemmas.List.{append-nil, append_cancel_left, drop-drop, drop-append-le, take-take, take-append-drop, length-take-le}
use Rattle.std.proofs.lemmas.Bool.{lt-ltb, cases_lt}
use Rattle.std.proofs.lemmas.Grind.{flat_map-append}
use Rattle.std.proofs.Math.Facts.{to_z-of_z, Fits-of_z}
use Rattle.bpf_isa.specs.declared.fields.Fields.{Fields}
use Rattle.bpf_isa.specs.declared.form.OpcodeForm.{OpcodeForm}
use Rattle.bpf_isa.specs.declared.form.OpcodeForm.TheVariants as form
use Rattle.bpf_isa.specs.declared.instr.Instr.{Instr}
use Rattle.bpf_isa.specs.declared.instr.Instr.TheVariants as instr
use Rattle.bpf_isa.specs.declared.instr.Source.TheVariants as source
use Rattle.bpf_isa.specs.declared.instr.Width.{Width}
use Rattle.bpf_isa.specs.declared.instr.Width.TheVariants as width
use Rattle.bpf_isa.specs.declared.instr.Operator.{Operator}
use Rattle.bpf_isa.specs.declared.instr.Operator.TheVariants as op
use Rattle.bpf_isa.specs.declared.instr.SignExtension.{SignExtension}
use Rattle.bpf_isa.specs.declared.instr.SignExtension.TheVariants as extension
use Rattle.bpf_isa.specs.declared.instr.OrderSize.{OrderSize}
use Rattle.bpf_isa.specs.declared.instr.OrderSize.TheVariants as bits
use Rattle.bpf_isa.specs.Table.{form_of}
use Rattle.bpf_isa.specs.Forms.{unsigned_form, shape}
use Rattle.bpf_isa.specs.Fields.{fields, fields_at, field_bytes, slot_at}
use Rattle.bpf_isa.specs.Spelling.{fields_of, second_of, IsInRange, operator_offset, extension_width, extension_offset, order_immediate}
use Rattle.bpf_isa.specs.Program.{entry, slots_of, spelling, slot_bytes, AllInRange, AreSlots, IsSpelledBy, Begins, checks_at, FirstFault, IsWhole, cut, count, at_slot}
use Rattle.bpf_isa.specs.Laws.{OneProgram, NoFaultInSpelled, OneFault}
use Rattle.bpf_isa.proofs.Slots.{halves_bytes}
use Rattle.base.specs.Check.{first_failing}
use Rattle.base.specs.declared.causes.CodeCause.{CodeCause}
use Rattle.bpf_isa.specs.Decoding.{Follows, memory_fault}
use Rattle.bpf_isa.specs.declared.program.CodeFault.{CodeFault}
use Rattle.base.specs.Numbers.{number_bytes}
use Rattle.bpf_isa.proofs.Bytes.{AreFields, reads_fields, fields_after}
use Rattle.bpf_isa.proofs.Forms.{shape_told, passes}

-- The fields of an instruction in range are in range.

small_offset : (o : Operator) → operator_offset o < 65536
small_offset op.Add = lit< tt
small_offset _ = lit< tt

small_extension : (e : SignExtension) → extension_offset e < 65536
small_extension extension.From8To64 = lit< tt
small_extension _ = lit< tt

small_size : (s : OrderSize) → order_immediate s < 2 ^ 32
small_size bits.Bits16 = lit< tt
small_size _ = lit< tt

in_range : (i : Instr) → IsInRange i → AreFields (fields_of i)
unfolding fields_of IsInRange
in_range (instr.Arithmetic w o dst (source.Immediate n)) range =
    let small = small_offset o in
    let fits = Fits-of_z range.1 in
    record { dst = omega (arith, range.0); src = lit< tt; offset = small; immediate = omega (arith, fits) }
in_range (instr.Arithmetic w o dst (source.Register src)) range =
    record { dst = omega (arith, range.0); src = omega (arith, range.1); offset = small_offset o; immediate = lit< tt }
in_range (instr.Negate w dst) range = record { dst = omega (arith, range); src = lit< tt; offset = lit< tt; immediate = lit< tt }
in_range (instr.SignExtend e dst src) range =
    record { dst = omega (arith, range.0); src = omega (arith, range.1); offset = small_extension e; immediate = lit< tt }
in_range (instr.ByteOrder o size dst) range = record { dst = omega (arith, range); src = lit< tt; offset = lit< tt; immediate = small_size size }
in_range (instr.Jump offset) range = record { dst = lit< tt; src = lit< tt; offset = omega (arith, Fits-of_z range); immediate = lit< tt }
in_range (instr.LongJump offset) range = record { dst = lit< tt; src = lit< tt; offset = lit< tt; immediate = omega (arith, Fits-of_z range) }
in_range (instr.Branch w c dst (source.Immediate n) offset) range =
    record { dst = omega (arith, range.0); src = lit< tt; offset = omega (arith, Fits-of_z range.2); immediate = omega (arith, Fits-of_z range.1) }
in_range (instr.Branch w c dst (source.Register src) offset) range =
    record { dst = omega (arith, range.0); src = omega (arith, range.1); offset = omega (arith, Fits-of_z range.2); immediate = lit< tt }
in_range (instr.CallHelper number) range = record { dst = lit< tt; src = lit< tt; offset = lit< tt; immediate = omega (arith, Fits-of_z range) }
in_range (instr.CallLocal distance) range = record { dst = lit< tt; src = lit< tt; offset = lit< tt; immediate = omega (arith, Fits-of_z range) }
in_range instr.Exit range = record { dst = lit< tt; src = lit< tt; offset = lit< tt; immediate = lit< tt }
in_range (instr.Load size dst base offset) range =
    record { dst = omega (arith, range.0); src = omega (arith, range.1); offset = omega (arith, Fits-of_z range.2); immediate = lit< tt }
in_range (instr.LoadSigned size dst base offset) range =
    record { dst = omega (arith, range.0); src = omega (arith, range.1); offset = omega (arith, Fits-of_z range.2); immediate = lit< tt }
in_range (instr.StoreImmediate size base offset n) range =
    record { dst = omega (arith, range.0); src = lit< tt; offset = omega (arith, Fits-of_z range.1); immediate = omega (arith, Fits-of_z range.2) }
in_range (instr.Store size base offset src) range =
    record { dst = omega (arith, range.0); src = omega (arith, range.2); offset = omega (arith, Fits-of_z range.1); immediate = lit< tt }
in_range (instr.LoadImmediate dst value) range =
    record { dst = omega (arith, range.0); src = lit< tt; offset = lit< tt; immediate = omega arith }

-- The instruction of a form that fields spell, where they spell one.

with_offset : Operator → ℕ → Operator
with_offset op.Div n = if n == 0 then op.Div else op.SignedDiv
with_offset op.Mod n = if n == 0 then op.Mod else op.SignedMod
with_offset o n = o

extension_with : Width → ℕ → SignExtension
extension_with width.W64 n = if n == 8 then extension.From8To64 else if n == 16 then extension.From16To64 else extension.From32To64
extension_with width.W32 n = if n == 8 then extension.From8To32 else extension.From16To32

size_with : ℕ → OrderSize
size_with n = if n == 16 then bits.Bits16 else if n == 32 then bits.Bits32 else bits.Bits64

with_register : Width → Operator → Fields → Instr
with_register w op.Mov s =
    if s.offset == 0 then instr.Arithmetic w op.Mov s.dst (source.Register s.src)
    else instr.SignExtend (extension_with w s.offset) s.dst s.src
with_register w o s = instr.Arithmetic w (with_offset o s.offset) s.dst (source.Register s.src)

read : OpcodeForm → Fields → Fields → Instr
read (form.Arithmetic w o false) s t = instr.Arithmetic w (with_offset o s.offset) s.dst (source.Immediate (cast_signed w32 s.immediate))
read (form.Arithmetic w o true) s t = with_register w o s
read (form.Negate w) s t = instr.Negate w s.dst
read (form.ByteOrder o) s t = instr.ByteOrder o (size_with s.immediate) s.dst
read form.Jump s t = instr.Jump (cast_signed w16 s.offset)
read form.LongJump s t = instr.LongJump (cast_signed w32 s.immediate)
read (form.Branch w c false) s t = instr.Branch w c s.dst (source.Immediate (cast_signed w32 s.immediate)) (cast_signed w16 s.offset)
read (form.Branch w c true) s t = instr.Branch w c s.dst (source.Register s.src) (cast_signed w16 s.offset)
read form.Call s t = if s.src == 0 then instr.CallHelper (cast_signed w32 s.immediate) else instr.CallLocal (cast_signed w32 s.immediate)
read form.Exit s t = instr.Exit
read (form.Load size) s t = instr.Load size s.dst s.src (cast_signed w16 s.offset)
read (form.LoadSigned size) s t = instr.LoadSigned size s.dst s.src (cast_signed w16 s.offset)
read (form.StoreImmediate size) s t = instr.StoreImmediate size s.dst (cast_signed w16 s.offset) (cast_signed w32 s.immediate)
read (form.Store size) s t = instr.Store size s.dst (cast_signed w16 s.offset) s.src
read form.LoadImmediate s t = instr.LoadImmediate s.dst (t.immediate * 2 ^ 32 + s.immediate)

operator_back : (o : Operator) → with_offset (unsigned_form o) (operator_offset o) ≡ o
unfolding with_offset
operator_back op.Add = refl
operator_back _ = refl

extension_back : (e : SignExtension) (dst src opcode : ℕ) → with_register (extension_width e) op.Mov (fields opcode dst src (extension_offset e) 0) ≡ instr.SignExtend e dst src
unfolding with_register extension_with
extension_back extension.From8To64 dst src opcode = refl
extension_back _ dst src opcode = refl

register_back : (o : Operator) (w : Width) (dst src opcode : ℕ) → with_register w (unsigned_form o) (fields opcode dst src (operator_offset o) 0) ≡ instr.Arithmetic w o dst (source.Register src)
unfolding with_register with_offset
register_back op.Add w dst src opcode = refl
register_back _ w dst src opcode = refl

size_back : (s : OrderSize) → size_with (order_immediate s) ≡ s
unfolding size_with
size_back bits.Bits16 = refl
size_back _ = refl

-- the fields of the second slot, as far as they are read
pub is_after : Instr → Fields → Type 0
is_after (instr.LoadImmediate dst value) t = t.immediate ≡ value / 2 ^ 32
is_after _ t = Unit {0}

read_back : (i : Instr) (t : Fields) → IsInRange i → is_after i t → read (shape i) (fields_of i) t ≡ i
unfolding fields_of IsInRange read is_after
read_back (instr.Arithmetic w o dst (source.Immediate n)) t range beyond = rw (operator_back o, to_z-of_z range.1) refl
read_back (instr.Arithmetic w o dst (source.Register src)) t range beyond = register_back o w dst src _
read_back (instr.Negate w dst) t range beyond = refl
read_back (instr.SignExtend e dst src) t range beyond = extension_back e dst src _
read_back (instr.ByteOrder o size dst) t range beyond = rw (size_back size) refl
read_back (instr.Jump offset) t range beyond = rw (to_z-of_z range) refl
read_back (instr.LongJump offset) t range beyond = rw (to_z-of_z range) refl
read_back (instr.Branch w c dst (source.Immediate n) offset) t range beyond = rw (to_z-of_z range.1, to_z-of_z range.2) refl
read_back (instr.Branch w c dst (source.Register src) offset) t range beyond = rw (to_z-of_z range.2) refl
read_back (instr.CallHelper number) t range beyond = rw (to_z-of_z range) refl
read_back (instr.CallLocal distance) t range beyond = rw (to_z-of_z range) refl
read_back instr.Exit t range beyond = refl
read_back (instr.Load size dst base offset) t range beyond = rw (to_z-of_z range.2) refl
read_back (instr.LoadSigned size dst base offset) t range beyond = rw (to_z-of_z range.2) refl
read_back (instr.StoreImmediate size base offset n) t range beyond = rw (to_z-of_z range.1, to_z-of_z range.2) refl
read_back (instr.Store size base offset src) t range beyond = rw (to_z-of_z range.1) refl
read_back (instr.LoadImmediate dst value) t range beyond =
    let whole : t.immediate * 2 ^ 32 + value % 2 ^ 32 ≡ value = omega (arith, beyond) in
    rw whole refl

-- Lists of bytes that begin with an instruction.

abbrev next_of : List ℕ → Fields
next_of xs = fields_at (drop 8 xs) 0

-- the instruction with which bytes begin
first_in : List ℕ → Option Instr
first_in xs = option_map (λ f. read f (fields_at xs 0) (next_of xs)) (form_of (fields_at xs 0).opcode)

drop_fields : (f : Fields) (rest : List ℕ) → drop 8 (field_bytes f ++ rest) ≡ rest
unfolding field_bytes number_bytes
drop_fields f rest = refl

-- the bytes of an instruction: those of its fields, and what follows these
beyond : Instr → List ℕ → List ℕ
beyond i rest = flat_map field_bytes (second_of i) ++ rest

spelling_is : (i : Instr) (rest : List ℕ) → spelling i ++ rest ≡ field_bytes (fields_of i) ++ beyond i rest
unfolding beyond
spelling_is i rest = append_assoc (field_bytes (fields_of i)) (flat_map field_bytes (second_of i)) rest

second_range : (dst value : ℕ) → IsInRange (instr.LoadImmediate dst value) → AreFields (fields 0 0 0 0 (value / 2 ^ 32))
unfolding IsInRange
second_range dst value range = record { dst = lit< tt; src = lit< tt; offset = lit< tt; immediate = omega (arith, range.1) }

reads_second : (dst value : ℕ) (rest : List ℕ) → IsInRange (instr.LoadImmediate dst value) → fields_at (beyond (instr.LoadImmediate dst value) rest) 0 ≡ fields 0 0 0 0 (value / 2 ^ 32)
unfolding beyond
reads_second dst value rest range =
    let second = fields 0 0 0 0 (value / 2 ^ 32) in
    rw (append-nil (field_bytes second)) (reads_fields second rest (second_range dst value range))

reads_after : (i : Instr) (rest : List ℕ) → IsInRange i → is_after i (fields_at (beyond i rest) 0)
unfolding is_after
reads_after (instr.LoadImmediate dst value) rest range = ap (λ (f : Fields). f.immediate) (reads_second dst value rest range)
reads_after _ rest range = tt

first_is : (i : Instr) (rest : List ℕ) → IsInRange i → first_in (spelling i ++ rest) ≡ Some i
unfolding first_in
first_is i rest range =
    let here : fields_at (field_bytes (fields_of i) ++ beyond i rest) 0 ≡ fields_of i = reads_fields (fields_of i) (beyond i rest) (in_range i range) in
    let next : next_of (field_bytes (fields_of i) ++ beyond i rest) ≡ fields_at (beyond i rest) 0 = ap (λ (x : List ℕ). fields_at x 0) (drop_fields (fields_of i) (beyond i rest)) in
    rw (spelling_is i rest, here, next, shape_told i, read_back i (fields_at (beyond i rest) 0) range (reads_after i rest range)) refl

-- bytes begin with one instruction at most
heads_same : (i j : Instr) (xs ys : List ℕ) → IsInRange i → IsInRange j → spelling i ++ xs ≡ spelling j ++ ys → i ≡ j
heads_same i j xs ys ri rj e =
    let a : first_in (spelling i ++ xs) ≡ Some i = first_is i xs ri in
    let b : first_in (spelling j ++ ys) ≡ Some j = first_is j ys rj in
    let c : first_in (spelling i ++ xs) ≡ first_in (spelling j ++ ys) = ap first_in e in
    cc

tails_same : (i j : Instr) (xs ys : List ℕ) → i ≡ j → spelling i ++ xs ≡ spelling j ++ ys → xs ≡ ys
tails_same i j xs ys same e =
    let moved : spelling j ++ xs ≡ spelling j ++ ys = ap (λ (k : Instr). spelling k ++ xs) (sym same) ∙ e in
    append_cancel_left (spelling j) xs ys moved

never_empty : (i : Instr) (xs : List ℕ) → [] ≡ spelling i ++ xs → ⊥
unfolding field_bytes
never_empty i xs e = cc

-- the instructions that are spelled before some bytes are the first of those that are spelled by all
pub record Splits (instrs before : List Instr) (rest : List ℕ) : Type 0 where
  pub after : List Instr
  pub joined : instrs ≡ before ++ after
  pub spelled : flat_map spelling after ≡ rest
  pub ranges : AllInRange after

-- instructions whose bytes begin with those of others begin with the others
pub splits : (instrs before : List Instr) (rest : List ℕ) → AllInRange instrs → AllInRange before → flat_map spelling instrs ≡ flat_map spelling before ++ rest → Splits instrs before rest
splits instrs [] rest all some e = record { after = instrs; joined = refl; spelled = e; ranges = all }
splits [] (j ∷ js) rest all some e = absurd (never_empty j (flat_map spelling js ++ rest) (e ∙ append_assoc (spelling j) (flat_map spelling js) rest))
splits (i ∷ is) (j ∷ js) rest all some e =
    let whole : spelling i ++ flat_map spelling is ≡ spelling j ++ (flat_map spelling js ++ rest) = e ∙ append_assoc (spelling j) (flat_map spelling js) rest in
    let same : i ≡ j = heads_same i j (flat_map spelling is) (flat_map spelling js ++ rest) all.0 some.0 whole in
    let tails = tails_same i j (flat_map spelling is) (flat_map spelling js ++ rest) same whole in
    let rec = splits is js rest all.1 some.1 tails in
    record { after = rec.after; joined = ap (λ (k : Instr). k ∷ is) same ∙ ap (λ (ks : List Instr). j ∷ ks) rec.joined; spelled = rec.spelled; ranges = rec.ranges }

-- the bytes of slots are those of their instructions
pub slots_bytes : (instrs : List Instr) → flat_map slot_bytes (slots_of instrs) ≡ flat_map spelling instrs
slots_bytes [] = refl
slots_bytes (i ∷ rest) =
    flat_map-append slot_bytes (entry i) (slots_of rest)
    ∙ rw (halves_bytes (second_of i), append-nil (spelling i), slots_bytes rest) refl

spelled_all : (slots : List (Option Instr)) (are : AreSlots slots) → flat_map slot_bytes slots ≡ flat_map spelling are.instrs
spelled_all slots are = ap (λ (s : List (Option Instr)). flat_map slot_bytes s) are.listed ∙ slots_bytes are.instrs

-- nothing is spelled by no instruction alone
nothing_left : (instrs : List Instr) → flat_map spelling instrs ≡ [] → instrs ≡ []
nothing_left [] e = refl
nothing_left (i ∷ rest) e = absurd (never_empty i (flat_map spelling rest) (sym e))

pub one_program : OneProgram
one_program bytes p q sp sq =
    let wp = sp.program.whole in
    let wq = sq.program.whole in
    let p_is : bytes ≡ flat_map spelling wp.instrs = sp.spelled ∙ spelled_all p wp in
    let q_is : bytes ≡ flat_map spelling wq.instrs = sq.spelled ∙ spelled_all q wq in
    let both : flat_map spelling wp.instrs ≡ flat_map spelling wq.instrs ++ [] = sym p_is ∙ q_is ∙ sym (append-nil (flat_map spelling wq.instrs)) in
    let split = splits wp.instrs wq.instrs [] wp.ranges wq.ranges both in
    let none : split.after ≡ [] = nothing_left split.after split.spelled in
    let same : wp.instrs ≡ wq.instrs = split.joined ∙ ap (λ (s : List Instr). wq.instrs ++ s) none ∙ append-nil wq.instrs in
    wp.listed ∙ ap slots_of same ∙ sym wq.listed

-- Bytes that are spelled have no fault.

spelling_length : (i : Instr) → length (spelling i) ≡ 8 * length (entry i)
unfolding field_bytes number_bytes
spelling_length (instr.LoadImmediate dst value) = refl
spelling_length _ = refl

spelled_length : (instrs : List Instr) → length (flat_map spelling instrs) ≡ 8 * length (slots_of instrs)
spelled_length [] = refl
spelled_length (i ∷ rest) =
    let one = spelling_length i in
    let more = spelled_length rest in
    let a = length-append (spelling i) (flat_map spelling rest) in
    let b = length-append (entry i) (slots_of rest) in
    omega (arith, one, more, a, b)

-- the second slot of an instruction that is spelled at slot n
follows : (i : Instr) (bytes : List ℕ) (n : ℕ) (rest : List ℕ) → IsInRange i → drop (8 * n) bytes ≡ spelling i ++ rest → Follows (second_of i) (slot_at bytes (n + 1))
unfolding slot_at
follows (instr.LoadImmediate dst value) bytes n rest range e =
    let i = instr.LoadImmediate dst value in
    let long : length (drop (8 * n) bytes) ≡ 16 + length rest = ap length e ∙ length-append (spelling i) rest ∙ ap (λ (k : ℕ). k + length rest) (spelling_length i) in
    let there : n + 1 < length bytes / 8 = omega (arith, long, length-drop (8 * n) bytes) in
    let place : 8 * n + 8 ≡ 8 * (n + 1) = omega arith in
    let next : drop (8 * (n + 1)) bytes ≡ beyond i rest =
    ap (λ (k : ℕ). drop k bytes) (sym place) ∙ sym (drop-drop 8 (8 * n) bytes)
    ∙ ap (drop 8) (e ∙ spelling_is i rest) ∙ drop_fields (fields_of i) (beyond i rest) in
    rw (lt-ltb (n + 1) (length bytes / 8) there, fields_after bytes (n + 1), next, reads_second dst value rest range) refl
follows _ bytes n rest range e = tt

spelled_passes : (i : Instr) (bytes : List ℕ) (n : ℕ) (rest : List ℕ) → IsInRange i → drop (8 * n) bytes ≡ spelling i ++ rest → first_failing (checks_at bytes n) ≡ None
spelled_passes i bytes n rest range e =
    let here : fields_at bytes n ≡ fields_of i =
    fields_after bytes n ∙ ap (λ (x : List ℕ). fields_at x 0) (e ∙ spelling_is i rest) ∙ reads_fields (fields_of i) (beyond i rest) (in_range i range) in
    rw (here, shape_told i) (passes i (slot_at bytes (n + 1)) range (follows i bytes n rest range e))

at_most_all : (bytes : List ℕ) (n : ℕ) → n < length bytes / 8 → drop (8 * n) bytes ≡ [] → ⊥
at_most_all bytes n there e =
    let none = ap length e in
    omega (arith, length-drop (8 * n) bytes, none)

no_more : (bytes : List ℕ) (n : ℕ) (after : List Instr) (c : CodeCause) → n < length bytes / 8 → first_failing (checks_at bytes n) ≡ Some c → AllInRange after
    → flat_map spelling after ≡ drop (8 * n) bytes → ⊥
no_more bytes n [] c there fails ranges e = at_most_all bytes n there (sym e)
no_more bytes n (i ∷ rest) c there fails ranges e =
    let passed = spelled_passes i bytes n (flat_map spelling rest) ranges.0 (sym e) in
    cc

no_slot_fault : (bytes : List ℕ) (p before : List (Option Instr)) (c : CodeCause) → IsSpelledBy bytes p → Begins bytes before → length before < length bytes / 8
    → first_failing (checks_at bytes (length before)) ≡ Some c → ⊥
no_slot_fault bytes p before c spelled begins there fails =
    let n = length before in
    let wp = spelled.program.whole in
    let wb = begins.whole in
    let all : bytes ≡ flat_map spelling wp.instrs = spelled.spelled ∙ spelled_all p wp in
    let some : take (8 * n) bytes ≡ flat_map spelling wb.instrs = begins.spelled ∙ spelled_all before wb in
    let both : flat_map spelling wp.instrs ≡ flat_map spelling wb.instrs ++ drop (8 * n) bytes =
    sym all ∙ sym (take-append-drop (8 * n) bytes) ∙ ap (λ (x : List ℕ). x ++ drop (8 * n) bytes) some in
    let split = splits wp.instrs wb.instrs (drop (8 * n) bytes) wp.ranges wb.ranges both in
    no_more bytes n split.after c there fails split.ranges split.spelled

-- the length of bytes that are spelled
length_whole : (bytes : List ℕ) (p : List (Option Instr)) → IsSpelledBy bytes p → (length bytes % 8 ≡ 0) × ((length bytes ≡ 0) ⊎ (8 * 4096 < length bytes) → ⊥)
length_whole bytes p spelled =
    let w = spelled.program.whole in
    let long : length bytes ≡ 8 * length p = ap length (spelled.spelled ∙ spelled_all p w) ∙ spelled_length w.instrs ∙ ap (λ (s : List (Option Instr)). 8 * length s) (sym w.listed) in
    let some = spelled.program.count.some in
    let limit = spelled.program.count.limit in
    (omega (arith, long), λ k. elim k [ inl none ↦ omega (arith, long, some, none) | inr more ↦ omega (arith, long, limit, more) ])

pub no_fault : NoFaultInSpelled
no_fault bytes p spelled _ _ (cut h) = h (length_whole bytes p spelled).0
no_fault bytes p spelled _ _ (count h k) = (length_whole bytes p spelled).1 k
no_fault bytes p spelled _ _ (at_slot c before whole begins there fails) = no_slot_fault bytes p before c spelled begins there fails

-- The first fault is one.

passed_over : (bytes : List ℕ) (n : ℕ) (after : List Instr) (rest ys : List ℕ) (c : CodeCause) → first_failing (checks_at bytes n) ≡ Some c → AllInRange after
    → flat_map spelling after ≡ rest → drop (8 * n) bytes ≡ rest ++ ys → 0 < length rest → ⊥
passed_over bytes n [] rest ys c fails ranges e joined some = let none = ap length e in omega (arith, none)
passed_over bytes n (i ∷ more) rest ys c fails ranges e joined some =
    let here : drop (8 * n) bytes ≡ spelling i ++ (flat_map spelling more ++ ys) =
    joined ∙ ap (λ (x : List ℕ). x ++ ys) (sym e) ∙ append_assoc (spelling i) (flat_map spelling more) ys in
    let passed = spelled_passes i bytes n (flat_map spelling more ++ ys) ranges.0 here in
    cc

no_earlier : (bytes : List ℕ) (before longer : List (Option Instr)) (c : CodeCause) → Begins bytes before → Begins bytes longer → length before < length longer
    → first_failing (checks_at bytes (length before)) ≡ Some c → ⊥
no_earlier bytes before longer c b1 b2 less fails =
    let n = length before in
    let m = length longer in
    let w1 = b1.whole in
    let w2 = b2.whole in
    let head = take (8 * m) bytes in
    let rest = drop (8 * n) head in
    let within = b2.within in
    let head_long : length head ≡ 8 * m = length-take-le (8 * m) bytes within in
    let all : head ≡ flat_map spelling w2.instrs = b2.spelled ∙ spelled_all longer w2 in
    let shorter : take (8 * n) head ≡ take (8 * n) bytes = take-take (8 * n) (8 * m) bytes (omega arith) in
    let some : take (8 * n) head ≡ flat_map spelling w1.instrs = shorter ∙ b1.spelled ∙ spelled_all before w1 in
    let both : flat_map spelling w2.instrs ≡ flat_map spelling w1.instrs ++ rest = sym all ∙ sym (take-append-drop (8 * n) head) ∙ ap (λ (x : List ℕ). x ++ rest) some in
    let split = splits w2.instrs w1.instrs rest w2.ranges w1.ranges both in
    let joined : drop (8 * n) bytes ≡ rest ++ drop (8 * m) bytes =
    ap (drop (8 * n)) (sym (take-append-drop (8 * m) bytes)) ∙ drop-append-le (8 * n) head (drop (8 * m) bytes) (omega arith) in
    let rest_long = length-drop (8 * n) head in
    passed_over bytes n split.after rest (drop (8 * m) bytes) c fails split.ranges split.spelled joined (omega arith)

same_slot : (bytes : List ℕ) (b1 b2 : List (Option Instr)) (c d : CodeCause) → Begins bytes b1 → Begins bytes b2
    → first_failing (checks_at bytes (length b1)) ≡ Some c → first_failing (checks_at bytes (length b2)) ≡ Some d → (c ≡ d) × (length b1 ≡ length b2)
same_slot bytes b1 b2 c d h1 h2 f1 f2 = elim (cases_lt (length b1) (length b2)) [
  | inl less ↦ absurd (no_earlier bytes b1 b2 c h1 h2 less f1)
  | inr least ↦ elim (cases_lt (length b2) (length b1)) [
    | inl more ↦ absurd (no_earlier bytes b2 b1 d h2 h1 more f2)
    | inr most ↦
        let same : length b1 ≡ length b2 = omega arith in
        let at : first_failing (checks_at bytes (length b1)) ≡ first_failing (checks_at bytes (length b2)) = ap (λ (n : ℕ). first_failing (checks_at bytes n)) same in
        (cc, same)
  ]
]

miscounted : (bytes : List ℕ) → IsWhole bytes → (length bytes ≡ 0) ⊎ (8 * 4096 < length bytes) → ⊥
miscounted bytes whole k = let some = whole.some in let limit = whole.limit in elim k [ inl none ↦ omega arith | inr more ↦ omega arith ]

pub one_fault : OneFault
one_fault bytes _ _ _ _ (cut h) (cut k) = (refl, refl)
one_fault bytes _ _ _ _ (cut h) (count k m) = absurd (h k)
one_fault bytes _ _ _ _ (cut h) (at_slot d b w e there f) = absurd (h w.slots)
one_fault bytes _ _ _ _ (count h m) (cut k) = absurd (k h)
one_fault bytes _ _ _ _ (count h m) (count k l) = (refl, refl)
one_fault bytes _ _ _ _ (count h m) (at_slot d b w e there f) = absurd (miscounted bytes w m)
one_fault bytes _ _ _ _ (at_slot c b w e there f) (cut k) = absurd (k w.slots)
one_fault bytes _ _ _ _ (at_slot c b w e there f) (count k m) = absurd (miscounted bytes w m)
one_fault bytes _ _ _ _ (at_slot c b1 w1 e1 t1 f1) (at_slot d b2 w2 e2 t2 f2) = same_slot bytes b1 b2 c d e1 e2 f1 f2

-- What decoding the bytes of a program answers.

pub same_again : (bytes : List ℕ) (p : List (Option Instr)) (r : Result (List (Option Instr)) CodeFault) → IsSpelledBy bytes p → IfOk r (λ q. IsSpelledBy bytes q) → IfOk r (λ q. q ≡ p)
same_again bytes p (Ok q) sp sq = one_program bytes q p sq sp
same_again bytes p (Err f) sp sq = tt

pub only_memory : (bytes : List ℕ) (p : List (Option Instr)) (r : Result (List (Option Instr)) CodeFault) → IsSpelledBy bytes p
    → IfErr r (λ f. (f ≡ memory_fault) ⊎ FirstFault bytes f.code f.slot) → IfErr r (λ f. f ≡ memory_fault)
only_memory bytes p (Ok q) sp e = tt
only_memory bytes p (Err f) sp e = elim e [ inl memory ↦ memory | inr other ↦ absurd (no_fault bytes p sp f.code f.slot other) ]
