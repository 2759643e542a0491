-- The number under which each cause is printed (docs/REFUSALS.md, All refusals; docs/OUTPUT.md, Machine faults).
use Rattle.std.specs.Prelude.{ℕ}
use Rattle.base.specs.declared.causes.LogCause.{LogCause}
use Rattle.base.specs.declared.causes.LogCause.TheVariants as log
use Rattle.base.specs.declared.causes.RequestCause.{RequestCause}
use Rattle.base.specs.declared.causes.RequestCause.TheVariants as request
use Rattle.base.specs.declared.causes.CodeCause.{CodeCause}
use Rattle.base.specs.declared.causes.CodeCause.TheVariants as code
use Rattle.base.specs.declared.causes.AsmCause.{AsmCause}
use Rattle.base.specs.declared.causes.AsmCause.TheVariants as asm
use Rattle.base.specs.declared.causes.VerifierCause.{VerifierCause}
use Rattle.base.specs.declared.causes.VerifierCause.TheVariants as verifier
use Rattle.base.specs.declared.causes.JoinCause.{JoinCause}
use Rattle.base.specs.declared.causes.JoinCause.TheVariants as joining
use Rattle.base.specs.declared.causes.WorkCause.{WorkCause}
use Rattle.base.specs.declared.causes.WorkCause.TheVariants as work
use Rattle.base.specs.declared.causes.MachineFault.{MachineFault}
use Rattle.base.specs.declared.causes.MachineFault.TheVariants as fault

abbrev pub log_number : LogCause → ℕ
log_number log.Short = 1
log_number log.Magic = 2
log_number log.Version = 3
log_number log.SectorSize = 4
log_number log.CutShort = 5
log_number log.Flags = 6
log_number log.DataLength = 7
log_number log.MarkForm = 8
log_number log.Device = 9
log_number log.Limit = 10
log_number log.Memory = 11

abbrev pub request_number : RequestCause → ℕ
request_number request.TooManyImages = 12
request_number request.Option = 13
request_number request.File = 14
request_number request.NotInLog = 15
request_number request.NotReport = 16

abbrev pub code_number : CodeCause → ℕ
code_number code.Length = 20
code_number code.SlotCount = 21
code_number code.Opcode = 22
code_number code.Register = 23
code_number code.Field = 24
code_number code.SecondHalf = 25
code_number code.Memory = 26

abbrev pub asm_number : AsmCause → ℕ
asm_number asm.Word = 30
asm_number asm.Operand = 31
asm_number asm.Range = 32
asm_number asm.UnknownLabel = 33
asm_number asm.RepeatedLabel = 34
asm_number asm.Memory = 35

abbrev pub verifier_number : VerifierCause → ℕ
verifier_number verifier.Target = 40
verifier_number verifier.End = 41
verifier_number verifier.Loop = 42
verifier_number verifier.AgainForm = 43
verifier_number verifier.CallDepth = 44
verifier_number verifier.Budget = 45
verifier_number verifier.UnsetRegister = 50
verifier_number verifier.UnsetByte = 51
verifier_number verifier.OutsideRegion = 52
verifier_number verifier.ReadOnly = 53
verifier_number verifier.PointerArithmetic = 54
verifier_number verifier.PointerAsNumber = 55
verifier_number verifier.HelperArgument = 56
verifier_number verifier.FramePointer = 57
verifier_number verifier.UnknownHelper = 58
verifier_number verifier.Unsettled = 59
verifier_number verifier.Memory = 60

abbrev pub join_number : JoinCause → ℕ
join_number joining.NotPart = 61
join_number joining.OtherRun = 62
join_number joining.Gap = 63
join_number joining.Overlap = 64
join_number joining.TooLong = 65
join_number joining.Memory = 66

abbrev pub work_number : WorkCause → ℕ
work_number work.PieceTwice = 70
work_number work.PieceMissing = 71
work_number work.Memory = 72
work_number work.SeatsMissing = 73

abbrev pub fault_number : MachineFault → ℕ
fault_number fault.NoInstruction = 80
fault_number fault.UnsetRegister = 81
fault_number fault.UnsetByte = 82
fault_number fault.Unmapped = 83
fault_number fault.ReadOnly = 84
fault_number fault.UnknownHelper = 85
fault_number fault.HelperArgument = 86
fault_number fault.FrameLimit = 87
fault_number fault.FramePointer = 88
