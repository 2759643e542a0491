-- Slots that the bytes begin with, and one instruction more.
use Rattle.std.proofs.Common.{◌≡◌, ℕ, ◌+◌, ◌*◌, ◌/◌, ◌^◌, ◌<◌, ◌≤◌, List, [], ◌∷◌, ◌++◌, length, take, flat_map, Option, None, Some, inl, inr, map, refl, sym, ap, ◌∙◌, append_assoc, length-append, arith}
use Rattle.std.proofs.lemmas.List.{append-nil}
use Rattle.std.proofs.Math.Seq.{take-length}
use Rattle.std.proofs.lemmas.Grind.{flat_map-append}
use Rattle.std.proofs.lemmas.Bool.{cases_lt, le-ltb, lt-ltb}
use Rattle.bpf_isa.specs.declared.fields.Fields.{Fields}
use Rattle.bpf_isa.specs.declared.instr.Instr.{Instr}
use Rattle.bpf_isa.specs.declared.instr.Instr.TheVariants as instr
use Rattle.bpf_isa.specs.Fields.{fields, fields_at, slot_at, field_bytes}
use Rattle.bpf_isa.specs.Spelling.{fields_of, second_of, IsInRange}
use Rattle.bpf_isa.specs.Decoding.{IsSpelled}
use Rattle.bpf_isa.specs.Program.{entry, spelling, slot_bytes, slots_of, AllInRange, AreSlots, Begins, IsWhole, IsSpelledBy}
use Rattle.bpf_isa.proofs.Bytes.{AreBytes, next_slot}

pub ranges_push : (xs : List Instr) (i : Instr) → AllInRange xs → IsInRange i → AllInRange (xs ++ i ∷ [])
ranges_push [] i all one = (one, tt)
ranges_push (x ∷ xs) i all one = (all.0, ranges_push xs i all.1 one)

-- one instruction more
pub slots_push : (slots : List (Option Instr)) (i : Instr) → AreSlots slots → IsInRange i → AreSlots (slots ++ entry i)
slots_push slots i are range = record {
  instrs = are.instrs ++ i ∷ [];
  listed =
      let one : slots_of (i ∷ []) ≡ entry i = append-nil (entry i) in
      ap (λ (s : List (Option Instr)). s ++ entry i) are.listed
      ∙ ap (λ (s : List (Option Instr)). slots_of are.instrs ++ s) (sym one)
      ∙ sym (flat_map-append entry are.instrs (i ∷ []));
  ranges = ranges_push are.instrs i are.ranges range;
}

-- where there is a slot, its fields are those at its place
pub slot_there : (bytes : List ℕ) (n : ℕ) (s : Fields) → slot_at bytes n ≡ Some s → (n < length bytes / 8) × (fields_at bytes n ≡ s)
unfolding slot_at
slot_there bytes n s e = elim (cases_lt n (length bytes / 8)) [
  | inl below ↦ let same : Some (fields_at bytes n) ≡ Some s = rw (lt-ltb n (length bytes / 8) below) at e in (below, cc)
  | inr above ↦ let nothing : Option Fields = None in let none : nothing ≡ Some s = rw (le-ltb n (length bytes / 8) above) at e in cc
]

-- a slot of eight bytes further
one_further : (bytes : List ℕ) (n m : ℕ) → AreBytes bytes → 8 * n + 8 ≤ length bytes → m ≡ n + 1
    → take (8 * m) bytes ≡ take (8 * n) bytes ++ field_bytes (fields_at bytes n)
one_further bytes n m are long e =
    let more : 8 * m ≡ 8 * n + 8 = omega arith in
    rw more (next_slot bytes n are long)

abbrev pub nothing : Fields → Option Instr
nothing _ = None

pub halves_bytes : (seconds : List Fields) → flat_map slot_bytes (map nothing seconds) ≡ []
halves_bytes [] = refl
halves_bytes (x ∷ xs) = halves_bytes xs

-- the bytes of the slots and of one instruction more
pub bytes_push : (slots : List (Option Instr)) (i : Instr) → flat_map slot_bytes (slots ++ entry i) ≡ flat_map slot_bytes slots ++ spelling i
bytes_push slots i =
    flat_map-append slot_bytes slots (entry i)
    ∙ ap (λ (s : List ℕ). flat_map slot_bytes slots ++ s) (ap (λ (s : List ℕ). spelling i ++ s) (halves_bytes (second_of i)) ∙ append-nil (spelling i))

-- an instruction of one slot
push_one : (bytes : List ℕ) (slots : List (Option Instr)) (i : Instr) → AreBytes bytes → Begins bytes slots → length slots < length bytes / 8
    → IsSpelled (fields_at bytes (length slots)) (slot_at bytes (length slots + 1)) i → second_of i ≡ [] → Begins bytes (slots ++ entry i)
push_one bytes slots i are b there spelled e =
    let more : length (slots ++ entry i) ≡ length slots + 1 = rw (length-append slots (entry i), e) refl in
    let long : 8 * length slots + 8 ≤ length bytes = omega arith in
    let bytes_is : spelling i ≡ field_bytes (fields_of i) = rw e (append-nil (field_bytes (fields_of i))) in
    record {
      whole = slots_push slots i b.whole spelled.range;
      within = omega arith;
      spelled =
          one_further bytes (length slots) (length (slots ++ entry i)) are long more
          ∙ rw (bytes_push slots i, bytes_is, b.spelled, spelled.first) refl;
    }

-- an instruction of two slots
push_two : (bytes : List ℕ) (slots : List (Option Instr)) (i : Instr) (s : Fields) → AreBytes bytes → Begins bytes slots → length slots < length bytes / 8
    → IsSpelled (fields_at bytes (length slots)) (slot_at bytes (length slots + 1)) i → second_of i ≡ s ∷ [] → Begins bytes (slots ++ entry i)
push_two bytes slots i s are b there spelled e =
    let next : slot_at bytes (length slots + 1) ≡ Some s = rw e at spelled.second in
    let second = slot_there bytes (length slots + 1) s next in
    let more : length (slots ++ entry i) ≡ length slots + 1 + 1 = rw (length-append slots (entry i), e) (omega arith) in
    let below : length slots + 1 < length bytes / 8 = second.0 in
    let long : 8 * length slots + 8 ≤ length bytes = omega arith in
    let longer : 8 * (length slots + 1) + 8 ≤ length bytes = omega arith in
    let bytes_is : spelling i ≡ field_bytes (fields_of i) ++ field_bytes s = rw e (ap (λ (x : List ℕ). field_bytes (fields_of i) ++ x) (append-nil (field_bytes s))) in
    record {
      whole = slots_push slots i b.whole spelled.range;
      within = omega arith;
      spelled =
          one_further bytes (length slots + 1) (length (slots ++ entry i)) are longer more
          ∙ rw (one_further bytes (length slots) (length slots + 1) are long refl, bytes_push slots i, bytes_is, b.spelled, spelled.first, second.1)
          (append_assoc (flat_map slot_bytes slots) (field_bytes (fields_at bytes (length slots))) (field_bytes s));
    }

-- the bytes begin with one instruction more
pub goes_on : (bytes : List ℕ) (slots : List (Option Instr)) (i : Instr) → AreBytes bytes → Begins bytes slots → length slots < length bytes / 8
    → IsSpelled (fields_at bytes (length slots)) (slot_at bytes (length slots + 1)) i → Begins bytes (slots ++ entry i)
goes_on bytes slots (instr.LoadImmediate dst value) are b there spelled =
    push_two bytes slots (instr.LoadImmediate dst value) (fields 0 0 0 0 (value / 2 ^ 32)) are b there spelled refl
goes_on bytes slots i are b there spelled = push_one bytes slots i are b there spelled refl

-- where the slots reach the end of the bytes, these spell the program
pub ends : (bytes : List ℕ) (slots : List (Option Instr)) → IsWhole bytes → Begins bytes slots → length bytes / 8 ≤ length slots → IsSpelledBy bytes slots
ends bytes slots whole b all =
    let within = b.within in
    let same : 8 * length slots ≡ length bytes = omega (arith, whole.slots) in
    record {
      program = record { whole = b.whole; count = record { some = omega (arith, whole.some); limit = omega (arith, whole.limit) } };
      spelled = sym (take-length bytes) ∙ ap (λ (n : ℕ). take n bytes) (sym same) ∙ b.spelled;
    }
