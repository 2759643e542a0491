-- Acceptance with guards (docs/VERIFIER.md, Guards): what is passed on where a rule without guards is broken, and which slots
-- are guarded.
use Rattle.std.specs.Prelude.{◌≡◌, ◌<◌, ℕ, ◌^◌, not, ◌&&◌, ◌||◌, Bool, true, false, ℤ, pos, List, None, is_some}
use Rattle.std.specs.Option.{option_map_or}
use Rattle.std.specs.Int.{cast_unsigned, w32}
use Rattle.base.specs.Check.{first_failing}
use Rattle.bpf_isa.specs.declared.instr.Instr.{Instr}
use Rattle.bpf_isa.specs.declared.instr.Instr.TheVariants as instr
use Rattle.bpf_isa.specs.Spelling.{IsInRange}
use Rattle.helpers.specs.declared.helper.Helper.{Helper}
use Rattle.helpers.specs.declared.helper.Helper.TheVariants as helper
use Rattle.helpers.specs.Helper.{helper_of}
use Rattle.helpers.specs.declared.sums.Checksum.{Checksum}
use Rattle.helpers.specs.declared.sums.Checksum.TheVariants as sums
use Rattle.helpers.specs.Sums.{checksum_of}
use Rattle.machine.specs.Memory.{byte_count, plain_size}
use Rattle.ranges.specs.Kinds.{Kind}
use Rattle.ranges.specs.States.{Abstract}
use Rattle.ranges.specs.Reading.{value, is_stack}
use Rattle.ranges.specs.Places.{place_of, is_inside, is_own_memory}
use Rattle.ranges.specs.Rules.{rules, guarded_rules, length_of}
use Rattle.ranges.specs.Passing.{passed_with}
use Rattle.ranges.specs.Order.{IsState, StateUnder, Each, SentUnder}

abbrev pub breaks_rule : Abstract → Instr → Bool
breaks_rule s i = is_some (first_failing (rules s i))

-- what is passed on with guards
abbrev pub passed_with_guards : ℕ → Abstract → ℕ → Instr → List (ℕ × Abstract)
passed_with_guards sectors s slot i = passed_with (breaks_rule s i) sectors s slot i

-- Guarded slots: the place of an access isn't proved.

abbrev pub is_read_place : Kind → ℤ → ℕ → Bool
is_read_place k distance n = is_inside (place_of k distance n) || is_own_memory k distance n

abbrev pub is_own_place : Kind → ℤ → ℕ → Bool
is_own_place k distance n = (is_stack k && is_inside (place_of k distance n)) || is_own_memory k distance n

abbrev pub is_guarded_call : Abstract → Helper → Bool
is_guarded_call s helper.Copy = not (is_own_place (value s 2) (pos 0) (length_of (value s 3)))
is_guarded_call s _ = false

-- a checksum of memory is guarded, whatever its bytes are
abbrev pub is_guarded_sum : Checksum → Bool
is_guarded_sum (sums.OfDevice polynomial) = false
is_guarded_sum (sums.OfMemory polynomial) = true

unfoldable pub is_guarded : Abstract → Instr → Bool
is_guarded s (instr.Load size dst base distance) = not (is_read_place (value s base) distance (byte_count size))
is_guarded s (instr.LoadSigned size dst base distance) = not (is_read_place (value s base) distance (byte_count (plain_size size)))
is_guarded s (instr.StoreImmediate size base distance n) = not (is_own_place (value s base) distance (byte_count size))
is_guarded s (instr.Store size base distance src) = not (is_own_place (value s base) distance (byte_count size))
is_guarded s (instr.CallHelper number) =
    option_map_or (is_guarded_call s) (helper_of (cast_unsigned w32 number)) (option_map_or is_guarded_sum (checksum_of (cast_unsigned w32 number)) false)
is_guarded s _ = false

-- What holds of them.

-- the rules with guards are weaker
abbrev pub GuardedRulesAreWeaker : Type 0
GuardedRulesAreWeaker = (s : Abstract) (i : Instr) → first_failing (rules s i) ≡ None → first_failing (guarded_rules s i) ≡ None

-- a smaller state breaks none where a larger one breaks none
abbrev pub GuardedRulesAreMonotone : Type 0
GuardedRulesAreMonotone = (s t : Abstract) (i : Instr) → IsInRange i → IsState s → IsState t → StateUnder s t
    → first_failing (guarded_rules t i) ≡ None → first_failing (guarded_rules s i) ≡ None

-- and passes on smaller states
abbrev pub GuardedPassesAreMonotone : Type 0
GuardedPassesAreMonotone = (sectors slot : ℕ) (s t : Abstract) (i : Instr) → IsInRange i → IsState s → IsState t → StateUnder s t
    → first_failing (guarded_rules t i) ≡ None → SentUnder (passed_with_guards sectors s slot i) (passed_with_guards sectors t slot i)

-- which are states
abbrev pub GuardedPassesFit : Type 0
GuardedPassesFit = (sectors slot : ℕ) (s : Abstract) (i : Instr) → sectors < 2 ^ 64 → IsInRange i → IsState s → Each (λ p. IsState p.1) (passed_with_guards sectors s slot i)

-- where no rule without guards is broken, nothing is guarded; nor is it at a smaller state, where it isn't at a larger one
pub record GuardsAreProved : Type 0 where
  pub kept : (s : Abstract) (i : Instr) → first_failing (rules s i) ≡ None → is_guarded s i ≡ false
  pub smaller : (s t : Abstract) (i : Instr) → IsState s → IsState t → StateUnder s t → first_failing (guarded_rules t i) ≡ None
      → is_guarded t i ≡ false → is_guarded s i ≡ false
