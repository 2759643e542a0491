-- What an instruction reads of a state.
use Rattle.std.specs.Prelude.{ℕ, ◌^◌, ◌-◌, not, ◌&&◌, Bool, true, false, List, slice_index_or, slice_set}
use Rattle.std.specs.List.{list_all}
use Rattle.bpf_isa.specs.declared.instr.Source.{Source}
use Rattle.bpf_isa.specs.declared.instr.Source.TheVariants as source
use Rattle.machine.specs.Step.{is_length}
use Rattle.intervals.specs.Spans.{span, is_constant}
use Rattle.intervals.specs.Reducing.{Limits, any_sign}
use Rattle.intervals.specs.Seen.{immediate_span}
use Rattle.ranges.specs.Kinds.{Kind, Unset, Num, Ctx, Stack, Sector, is_unset, is_unknown}
use Rattle.ranges.specs.Groups.{GroupKind}
use Rattle.ranges.specs.States.{Abstract}

-- what a register holds
abbrev pub value : Abstract → ℕ → Kind
value s r = slice_index_or s.values r Unset

-- the state with another value in a register, and with other groups
abbrev pub with_value : Abstract → ℕ → Kind → Abstract
with_value s r k = record { values = slice_set s.values r k; groups = s.groups }

abbrev pub with_groups : Abstract → List GroupKind → Abstract
with_groups s groups = record { values = s.values; groups = groups }

-- the second operand
abbrev pub second : Abstract → Source → Kind
second s (source.Immediate n) = Num (any_sign (immediate_span n))
second s (source.Register r) = value s r

-- whether of each of these registers it is known that it is set, and whether it is a pointer
abbrev pub are_set : Abstract → List ℕ → Bool
are_set s registers = list_all (λ r. not (is_unknown (value s r))) registers

-- whether none of them may be unset
abbrev pub are_words : Abstract → List ℕ → Bool
are_words s registers = list_all (λ r. not (is_unset (value s r))) registers

-- all words
abbrev pub any_word : Limits
any_word = any_sign (span 0 (2 ^ 64 - 1))

-- the words of a number; of what is none nothing is asked
abbrev pub words : Kind → Limits
words (Num x) = x
words _ = any_word

abbrev pub is_stack : Kind → Bool
is_stack (Stack o) = true
is_stack _ = false

-- whether it is a pointer to bytes
abbrev pub is_base : Kind → Bool
is_base (Ctx o) = true
is_base (Stack o) = true
is_base (Sector x) = true
is_base _ = false

-- a length of helper 2, which is a constant
abbrev pub has_length : Kind → Bool
has_length (Num x) = is_constant x.unsigned && is_length x.unsigned.low
has_length _ = false
