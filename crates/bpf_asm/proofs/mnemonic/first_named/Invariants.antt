use Rattle.std.proofs.Common.{◌≡◌, drop, bytes_eq}
use Rattle.std.specs.List.{find}
use Rattle.bpf_asm.specs.Mnemonics.{name_of}
use Rattle.bpf_asm.proofs.mnemonic.first_named.Given as goal

abbrev pub invariant-loop-mnemonic : goal.invariant-loop-mnemonic
invariant-loop-mnemonic l = find (λ m. bytes_eq (name_of m) l.word) (drop l.mnemonic-index l.table) ≡ find (λ m. bytes_eq (name_of m) l.word) l.table
