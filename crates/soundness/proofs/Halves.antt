-- After a 64-bit immediate stands its second half, in which no instruction begins.
use Rattle.std.proofs.Common.{ℕ, zero, suc, ◌≡◌, List, [], ◌∷◌, ◌++◌, map, Option, Some, None, refl, sym, subst}
use Rattle.bpf_isa.specs.declared.instr.Instr.{Instr}
use Rattle.bpf_isa.specs.declared.instr.Instr.TheVariants as instr
use Rattle.bpf_isa.specs.Spelling.{second_of}
use Rattle.bpf_isa.specs.Program.{slots_of, IsProgram}
use Rattle.bpf_isa.specs.Slots.{at}

-- after each 64-bit immediate no instruction begins
abbrev HasHalves : List (Option Instr) → Type 0
HasHalves slots = (s dst x : ℕ) → at slots s ≡ Some (instr.LoadImmediate dst x) → at slots (suc s) ≡ None

after_halves : {X : Type 0} (xs : List X) (rest : List (Option Instr)) → HasHalves rest → HasHalves (map (λ _. None) xs ++ rest)
after_halves [] rest h s dst x e = h s dst x e
after_halves (f ∷ xs) rest h zero dst x e = absurd (let bad : None ≡ Some (instr.LoadImmediate dst x) = e in cc)
after_halves (f ∷ xs) rest h (suc k) dst x e = after_halves xs rest h k dst x e

all_halves : (instrs : List Instr) → HasHalves (slots_of instrs)
all_halves [] s dst x e = absurd (let bad : None ≡ Some (instr.LoadImmediate dst x) = e in cc)
all_halves (i ∷ rest) zero dst x e =
    let found : Some i ≡ Some (instr.LoadImmediate dst x) = e in
    let same : i ≡ instr.LoadImmediate dst x = cc in
    rw same refl
all_halves (i ∷ rest) (suc k) dst x e = after_halves (second_of i) (slots_of rest) (all_halves rest) k dst x e

pub half_after : (program : List (Option Instr)) (s dst x : ℕ) → IsProgram program → at program s ≡ Some (instr.LoadImmediate dst x) → at program (suc s) ≡ None
half_after program s dst x p e =
    let all : HasHalves program = subst HasHalves (sym p.whole.listed) (all_halves p.whole.instrs) in
    all s dst x e
