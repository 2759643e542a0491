-- The listing of a program (docs/ASSEMBLY.md, Listing): an instruction a line, in one spelling.
use Rattle.std.specs.Prelude.{ℕ, ℤ, pos, negsuc, List, [], ◌∷◌, ◌++◌, codes, Option, None, Some}
use Rattle.std.specs.List.{flat_map}
use Rattle.std.specs.Fmt.{decimal, signed_decimal}
use Rattle.bpf_isa.specs.declared.instr.Instr.{Instr}
use Rattle.bpf_isa.specs.declared.instr.Instr.TheVariants as instr
use Rattle.bpf_isa.specs.declared.instr.Source.{Source}
use Rattle.bpf_isa.specs.declared.instr.Source.TheVariants as source
use Rattle.bpf_asm.specs.Mnemonics.{name_of, mnemonic}

-- a number with its sign, `+` for zero
abbrev pub with_sign : ℤ → List ℕ
with_sign (pos n) = codes "+" ++ decimal n
with_sign (negsuc n) = signed_decimal (negsuc n)

abbrev pub register_text : ℕ → List ℕ
register_text r = codes "r" ++ decimal r

abbrev pub source_text : Source → List ℕ
source_text (source.Immediate n) = signed_decimal n
source_text (source.Register r) = register_text r

abbrev pub place_text : ℕ → ℤ → List ℕ
place_text base offset = codes "[" ++ register_text base ++ with_sign offset ++ codes "]"

-- the operands of an instruction
abbrev pub operand_texts : Instr → List (List ℕ)
operand_texts (instr.Arithmetic w o dst from) = register_text dst ∷ source_text from ∷ []
operand_texts (instr.Negate w dst) = register_text dst ∷ []
operand_texts (instr.SignExtend e dst src) = register_text dst ∷ register_text src ∷ []
operand_texts (instr.ByteOrder o s dst) = register_text dst ∷ []
operand_texts (instr.Jump offset) = with_sign offset ∷ []
operand_texts (instr.LongJump offset) = with_sign offset ∷ []
operand_texts (instr.Branch w c dst from offset) = register_text dst ∷ source_text from ∷ with_sign offset ∷ []
operand_texts (instr.CallHelper number) = signed_decimal number ∷ []
operand_texts (instr.CallLocal offset) = with_sign offset ∷ []
operand_texts instr.Exit = []
operand_texts (instr.Load s dst base offset) = register_text dst ∷ place_text base offset ∷ []
operand_texts (instr.LoadSigned s dst base offset) = register_text dst ∷ place_text base offset ∷ []
operand_texts (instr.StoreImmediate s base offset n) = place_text base offset ∷ signed_decimal n ∷ []
operand_texts (instr.Store s base offset src) = place_text base offset ∷ register_text src ∷ []
operand_texts (instr.LoadImmediate dst value) = register_text dst ∷ decimal value ∷ []

-- a space before the first, a comma and a space before each further one
abbrev pub operand_list : List (List ℕ) → List ℕ
operand_list [] = []
operand_list (x ∷ rest) = codes " " ++ x ++ flat_map (λ y. codes ", " ++ y) rest

-- the line of an instruction, without its end
unfoldable pub line_text : Instr → List ℕ
line_text i = name_of (mnemonic i) ++ operand_list (operand_texts i)

-- the line of the instruction that begins in a slot, if one does
abbrev pub slot_text : Option Instr → List ℕ
slot_text None = []
slot_text (Some i) = line_text i ++ codes "\n"

-- the listing of the program of these slots
abbrev pub listing : List (Option Instr) → List ℕ
listing slots = flat_map slot_text slots
