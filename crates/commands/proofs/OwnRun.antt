-- The bytes of the stored run are those that its definition says.
use Rattle.std.proofs.Common.{◌≡◌, ◌++◌, [], ◌∷◌, refl, replicate}
use Rattle.base.specs.Numbers.{number_bytes, zeros}
use Rattle.logfmt.specs.LogText.{super_sector}
use Rattle.bpf_isa.specs.Fields.{field_bytes}
use Rattle.bpf_isa.specs.Spelling.{fields_of}
use Rattle.bpf_isa.specs.Table.{opcode_of}
use Rattle.commands.specs.declared.stored.TheConstants.{STORED_SUPER, STORED_PROGRAM}
use Rattle.commands.specs.Stored.{stored_log, stored_programs}

pub log_is : STORED_SUPER ++ replicate 480 0 ≡ stored_log
unfolding super_sector number_bytes zeros
log_is = refl

pub programs_are : STORED_PROGRAM ∷ [] ≡ stored_programs
unfolding opcode_of fields_of field_bytes number_bytes
programs_are = refl
