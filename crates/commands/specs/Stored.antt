-- The run that the product holds itself (docs/COMMANDS.md, The stored run): what `explore` is asked without a word.
use Rattle.std.specs.Prelude.{ℕ, List, [], ◌∷◌, ◌++◌, Some, pos}
use Rattle.bpf_isa.specs.Program.{spelling}
use Rattle.bpf_isa.specs.declared.instr.Instr.TheVariants as instr
use Rattle.bpf_isa.specs.declared.instr.Operator.TheVariants as op
use Rattle.bpf_isa.specs.declared.instr.Source.TheVariants as source
use Rattle.bpf_isa.specs.declared.instr.Width.TheVariants as width
use Rattle.logfmt.specs.LogText.{canonical_text}
use Rattle.request.specs.declared.settings.Settings.{Settings}
use Rattle.request.specs.Settings.{usual_settings}

-- a log without entries (docs/LOG-FORMAT.md)
abbrev pub stored_log : List ℕ
stored_log = canonical_text []

-- one program, `mov64 r0, 0; exit`
abbrev pub stored_programs : List (List ℕ)
stored_programs = (spelling (instr.Arithmetic width.W64 op.Mov 0 (source.Immediate (pos 0))) ++ spelling instr.Exit) ∷ []

-- a device of one sector, of which nothing is lost; the program isn't verified, and makes two steps at most
abbrev pub stored_settings : Settings
stored_settings = record usual_settings { sectors = 1; bound = 0; checked = Some 2 }
