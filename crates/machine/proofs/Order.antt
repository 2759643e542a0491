-- The checks of each instruction stand in the order of the fault table.
use Rattle.std.proofs.Common.{ℕ, IsTrue, false, List, [], ◌∷◌, map, Option, None, Some, refl}
use Rattle.std.specs.Option.{option_map_or}
use Rattle.std.specs.Int.{cast_unsigned, w32}
use Rattle.base.specs.Check.{Check, check}
use Rattle.base.specs.declared.causes.MachineFault.{MachineFault}
use Rattle.base.specs.declared.causes.MachineFault.TheVariants as fault
use Rattle.bpf_isa.specs.declared.instr.Instr.{Instr}
use Rattle.bpf_isa.specs.declared.instr.Instr.TheVariants as instr
use Rattle.helpers.specs.declared.helper.Helper.{Helper}
use Rattle.helpers.specs.declared.helper.Helper.TheVariants as helper
use Rattle.helpers.specs.Helper.{helper_of}
use Rattle.machine.specs.declared.ByteAt.{ByteAt}
use Rattle.machine.specs.State.{State, Caller}
use Rattle.machine.specs.Step.{checks, call_checks, caller_of, reads, returns_to}
use Rattle.machine.specs.Laws.{AreInOrder, line_of, rises_from}

abbrev InOrder : List (Check MachineFault) → Type 0
InOrder list = IsTrue (rises_from 0 (map (λ (c : Check MachineFault). line_of c.cause) list))

calls : (program : List (Option Instr)) (bytes : ℕ → ByteAt) (s : State) (h : Helper) → InOrder (call_checks program bytes s h)
unfolding call_checks
calls program bytes s helper.Copy = refl
calls program bytes s helper.Again = refl
calls program bytes s helper.Report = refl
calls program bytes s (helper.Query q) = refl

any_call : (program : List (Option Instr)) (bytes : ℕ → ByteAt) (s : State) (found : Option Helper)
    → InOrder (option_map_or (call_checks program bytes s) found (check fault.UnknownHelper false ∷ []))
any_call program bytes s None = refl
any_call program bytes s (Some h) = calls program bytes s h

any_exit : (program : List (Option Instr)) (s : State) (found : Option Caller) → InOrder (reads s (0 ∷ []) ∷ returns_to program found)
any_exit program s None = refl
any_exit program s (Some c) = refl

pub in_order : AreInOrder
unfolding checks
in_order program bytes s (instr.Arithmetic w o dst from) = refl
in_order program bytes s (instr.Negate w dst) = refl
in_order program bytes s (instr.SignExtend e dst src) = refl
in_order program bytes s (instr.ByteOrder o size dst) = refl
in_order program bytes s (instr.Jump distance) = refl
in_order program bytes s (instr.LongJump distance) = refl
in_order program bytes s (instr.Branch w c dst from distance) = refl
in_order program bytes s (instr.CallHelper number) = any_call program bytes s (helper_of (cast_unsigned w32 number))
in_order program bytes s (instr.CallLocal distance) = refl
in_order program bytes s instr.Exit = any_exit program s (caller_of s.frames)
in_order program bytes s (instr.Load size dst base distance) = refl
in_order program bytes s (instr.LoadSigned size dst base distance) = refl
in_order program bytes s (instr.StoreImmediate size base distance n) = refl
in_order program bytes s (instr.Store size base distance src) = refl
in_order program bytes s (instr.LoadImmediate dst x) = refl
