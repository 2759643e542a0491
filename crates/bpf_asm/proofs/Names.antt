-- The names of instructions, read back.
use Rattle.std.proofs.Common.{◌≡◌, ℕ, ◌&&◌, Bool, true, false, List, [], ◌∷◌, Some, refl}
use Rattle.bpf_isa.specs.declared.instr.Width.TheVariants as width
use Rattle.bpf_isa.specs.declared.instr.Operator.TheVariants as op
use Rattle.bpf_isa.specs.declared.instr.Condition.TheVariants as cond
use Rattle.bpf_isa.specs.declared.instr.SignExtension.TheVariants as extension
use Rattle.bpf_isa.specs.declared.instr.Order.TheVariants as order
use Rattle.bpf_isa.specs.declared.instr.OrderSize.TheVariants as bits
use Rattle.bpf_isa.specs.declared.instr.Size.TheVariants as size
use Rattle.bpf_isa.specs.declared.instr.SignedSize.TheVariants as signed
use Rattle.bpf_asm.specs.declared.mnemonic.Mnemonic.{Mnemonic}
use Rattle.bpf_asm.specs.declared.mnemonic.Mnemonic.TheVariants as kind
use Rattle.bpf_asm.specs.Mnemonics.{name_of, mnemonics, mnemonic_of}
use Rattle.bpf_asm.specs.Parts.{is_word_character}

pub named_back : (m : Mnemonic) → mnemonic_of (name_of m) ≡ Some m
unfolding mnemonic_of mnemonics name_of
named_back (kind.Arithmetic width.W64 op.Add) = refl
named_back (kind.Arithmetic width.W64 _) = refl
named_back (kind.Arithmetic width.W32 op.Add) = refl
named_back (kind.Arithmetic width.W32 _) = refl
named_back (kind.Negate width.W64) = refl
named_back (kind.Negate width.W32) = refl
named_back (kind.SignExtend extension.From8To64) = refl
named_back (kind.SignExtend _) = refl
named_back (kind.ByteOrder order.Little bits.Bits16) = refl
named_back (kind.ByteOrder order.Little _) = refl
named_back (kind.ByteOrder order.Big bits.Bits16) = refl
named_back (kind.ByteOrder order.Big _) = refl
named_back (kind.ByteOrder order.Swap bits.Bits16) = refl
named_back (kind.ByteOrder order.Swap _) = refl
named_back kind.Jump = refl
named_back kind.LongJump = refl
named_back (kind.Branch width.W64 cond.Eq) = refl
named_back (kind.Branch width.W64 _) = refl
named_back (kind.Branch width.W32 cond.Eq) = refl
named_back (kind.Branch width.W32 _) = refl
named_back kind.CallHelper = refl
named_back kind.CallLocal = refl
named_back kind.Exit = refl
named_back (kind.Load size.Byte) = refl
named_back (kind.Load _) = refl
named_back (kind.LoadSigned signed.Byte) = refl
named_back (kind.LoadSigned _) = refl
named_back (kind.StoreImmediate size.Byte) = refl
named_back (kind.StoreImmediate _) = refl
named_back (kind.Store size.Byte) = refl
named_back (kind.Store _) = refl
named_back kind.LoadImmediate = refl

-- characters of words alone, as a test
abbrev pub all_word : List ℕ → Bool
all_word [] = true
all_word (c ∷ rest) = is_word_character c && all_word rest

abbrev pub is_word_text : List ℕ → Bool
is_word_text [] = false
is_word_text (c ∷ rest) = is_word_character c && all_word rest

pub name_tested : (m : Mnemonic) → is_word_text (name_of m) ≡ true
unfolding name_of is_word_character
name_tested (kind.Arithmetic width.W64 op.Add) = refl
name_tested (kind.Arithmetic width.W64 _) = refl
name_tested (kind.Arithmetic width.W32 op.Add) = refl
name_tested (kind.Arithmetic width.W32 _) = refl
name_tested (kind.Negate width.W64) = refl
name_tested (kind.Negate width.W32) = refl
name_tested (kind.SignExtend extension.From8To64) = refl
name_tested (kind.SignExtend _) = refl
name_tested (kind.ByteOrder order.Little bits.Bits16) = refl
name_tested (kind.ByteOrder order.Little _) = refl
name_tested (kind.ByteOrder order.Big bits.Bits16) = refl
name_tested (kind.ByteOrder order.Big _) = refl
name_tested (kind.ByteOrder order.Swap bits.Bits16) = refl
name_tested (kind.ByteOrder order.Swap _) = refl
name_tested kind.Jump = refl
name_tested kind.LongJump = refl
name_tested (kind.Branch width.W64 cond.Eq) = refl
name_tested (kind.Branch width.W64 _) = refl
name_tested (kind.Branch width.W32 cond.Eq) = refl
name_tested (kind.Branch width.W32 _) = refl
name_tested kind.CallHelper = refl
name_tested kind.CallLocal = refl
name_tested kind.Exit = refl
name_tested (kind.Load size.Byte) = refl
name_tested (kind.Load _) = refl
name_tested (kind.LoadSigned signed.Byte) = refl
name_tested (kind.LoadSigned _) = refl
name_tested (kind.StoreImmediate size.Byte) = refl
name_tested (kind.StoreImmediate _) = refl
name_tested (kind.Store size.Byte) = refl
name_tested (kind.Store _) = refl
name_tested kind.LoadImmediate = refl
