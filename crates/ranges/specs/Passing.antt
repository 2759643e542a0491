-- What is passed along the edges of an instruction (docs/VERIFIER.md, Branches and Good table).
use Rattle.std.specs.Prelude.{ℕ, ◌+◌, Bool, true, false, not, if◌then◌else◌, List, [], ◌∷◌, ◌++◌, Option, None, Some}
use Rattle.std.specs.Option.{option_map}
use Rattle.bpf_isa.specs.declared.instr.Instr.{Instr}
use Rattle.bpf_isa.specs.declared.instr.Instr.TheVariants as instr
use Rattle.bpf_isa.specs.declared.instr.Source.{Source}
use Rattle.bpf_isa.specs.declared.instr.Source.TheVariants as source
use Rattle.bpf_isa.specs.declared.instr.Condition.{Condition}
use Rattle.bpf_isa.specs.declared.instr.Condition.TheVariants as cond
use Rattle.bpf_isa.specs.Slots.{target_slot}
use Rattle.intervals.specs.Spans.{only}
use Rattle.intervals.specs.Reducing.{Limits, any_sign}
use Rattle.intervals.specs.SignedEdges.{limits_refined}
use Rattle.ranges.specs.Kinds.{Kind, Unset, Word, Num, Stack, Sector}
use Rattle.ranges.specs.States.{Abstract, unset_groups}
use Rattle.ranges.specs.Reading.{value, second, with_value, words}
use Rattle.ranges.specs.Rules.{is_null_test}
use Rattle.ranges.specs.After.{after_with}

-- whether an edge of a null test says that the register is 0
abbrev pub is_equal_edge : Condition → Bool → Bool
is_equal_edge cond.Eq taken = taken
is_equal_edge _ taken = not taken

-- the answer of helper 1 after a null test
abbrev pub tested_kind : Bool → Kind
tested_kind true = Num (any_sign (only 0))
tested_kind false = Sector (only 0)

-- the second operand with other ranges; an immediate has none of its own
abbrev pub with_second : Abstract → Source → Limits → Abstract
with_second s (source.Immediate n) y = s
with_second s (source.Register r) y = with_value s r (Num y)

abbrev pub with_both : Abstract → ℕ → Source → Limits × Limits → Abstract
with_both s dst from p = with_second (with_value s dst (Num p.0)) from p.1

-- The state on an edge of a conditional jump, the one that is taken or the other; None where no
-- machine goes that way. Where a rule is broken that guards lift, it tells nothing.
unfoldable pub edge_with : Bool → Abstract → Instr → Bool → Option Abstract
edge_with loose s (instr.Branch w c dst from distance) taken =
    if loose then Some s
    else if is_null_test w c from (value s dst) then Some (with_value s dst (tested_kind (is_equal_edge c taken)))
    else option_map (with_both s dst from) (limits_refined (instr.Branch w c dst from distance) taken (words (value s dst)) (words (second s from)))
edge_with loose s i taken = Some s

-- where no rule is broken
abbrev pub edge_of : Abstract → Instr → Bool → Option Abstract
edge_of s i taken = edge_with false s i taken

-- what a local function is given of a register: a number, or a word, and no pointer
abbrev pub argument_kind : Kind → Kind
argument_kind (Num x) = Num x
argument_kind Unset = Unset
argument_kind _ = Word

-- The state at the entry of a local function: registers 1 to 5, of which only numbers are known, the end of a
-- stack of its own, and nothing else of its caller.
unfoldable pub entry_state : Abstract → Abstract
entry_state s = record {
  values =
      Unset ∷ argument_kind (value s 1) ∷ argument_kind (value s 2) ∷ argument_kind (value s 3) ∷ argument_kind (value s 4) ∷ argument_kind (value s 5)
      ∷ Unset ∷ Unset ∷ Unset ∷ Unset ∷ Stack 512 ∷ [];
  groups = unset_groups;
}

-- a state that is passed to a slot, if it is
abbrev pub passed_state : ℕ → Option Abstract → List (ℕ × Abstract)
passed_state slot None = []
passed_state slot (Some s) = (slot, s) ∷ []

-- to which slots what state is passed, the next slot first; rounding where it arrives is not a part
-- of it
unfoldable pub passed_with : Bool → ℕ → Abstract → ℕ → Instr → List (ℕ × Abstract)
passed_with loose sectors s slot (instr.Jump distance) = (target_slot slot distance, s) ∷ []
passed_with loose sectors s slot (instr.LongJump distance) = (target_slot slot distance, s) ∷ []
passed_with loose sectors s slot (instr.Branch w c dst from distance) =
    passed_state (slot + 1) (edge_with loose s (instr.Branch w c dst from distance) false)
    ++ passed_state (target_slot slot distance) (edge_with loose s (instr.Branch w c dst from distance) true)
passed_with loose sectors s slot instr.Exit = []
passed_with loose sectors s slot (instr.CallLocal distance) =
    passed_state (slot + 1) (after_with loose sectors s (instr.CallLocal distance)) ++ (target_slot slot distance, entry_state s) ∷ []
passed_with loose sectors s slot (instr.LoadImmediate dst x) = passed_state (slot + 2) (after_with loose sectors s (instr.LoadImmediate dst x))
passed_with loose sectors s slot i = passed_state (slot + 1) (after_with loose sectors s i)

-- where no rule is broken
abbrev pub passes : ℕ → Abstract → ℕ → Instr → List (ℕ × Abstract)
passes sectors s slot i = passed_with false sectors s slot i
