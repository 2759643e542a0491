-- A table that is good without guards is good with them, and guards no slot.
use Rattle.std.proofs.Common.{◌≡◌, ℕ, Bool, true, false, List, map, Option, None, Some, refl, sym, ap, subst}
use Rattle.base.specs.Check.{first_failing}
use Rattle.bpf_isa.specs.declared.instr.Instr.{Instr}
use Rattle.bpf_isa.specs.Slots.{at}
use Rattle.bpf_shape.specs.Again.{heads}
use Rattle.ranges.specs.States.{Abstract}
use Rattle.ranges.specs.Rules.{rules}
use Rattle.ranges.specs.Passing.{passes}
use Rattle.ranges.specs.Guards.{passed_with_guards}
use Rattle.ranges.proofs.GuardedRules.{guarded_weaker, kept_proved}
use Rattle.verifier.specs.Tables.{state_at, CoversAll, arrival, broken_with, passed_on_with, rule_with, sent_with}
use Rattle.verifier.specs.Good.{IsGoodAt, IsGoodWith, IsGood}
use Rattle.verifier.specs.Breaches.{KeepsRules}
use Rattle.verifier.specs.Guards.{is_guarded_with, is_guarded_at, GoodNeedsNoGuards}

-- where no rule without guards is broken, a slot passes on with guards what it does without
passed_same : (sectors slot : ℕ) (s : Abstract) (i : Instr) → first_failing (rules s i) ≡ None → passed_with_guards sectors s slot i ≡ passes sectors s slot i
passed_same sectors slot s i e = rw e refl

sent_same : (heads : List Bool) (sectors slot : ℕ) (i : Option Instr) (s : Option Abstract) → broken_with false i s ≡ None
    → passed_on_with true heads sectors slot i s ≡ passed_on_with false heads sectors slot i s
sent_same heads sectors slot None s e = refl
sent_same heads sectors slot (Some i) None e = refl
sent_same heads sectors slot (Some i) (Some s) e = ap (map (arrival heads)) (passed_same sectors slot s i e)

rule_kept : (i : Option Instr) (s : Option Abstract) → broken_with false i s ≡ None → broken_with true i s ≡ None
rule_kept None s e = refl
rule_kept (Some i) None e = refl
rule_kept (Some i) (Some s) e = guarded_weaker s i e

not_guarded : (i : Option Instr) (s : Option Abstract) → broken_with false i s ≡ None → is_guarded_with i s ≡ false
not_guarded None s e = refl
not_guarded (Some i) None e = refl
not_guarded (Some i) (Some s) e = kept_proved s i e

slot_with_guards : (program : List (Option Instr)) (sectors : ℕ) (table : List (Option Abstract)) (slot : ℕ) → IsGoodAt false program sectors table slot
    → IsGoodAt true program sectors table slot
unfolding rule_with sent_with
slot_with_guards program sectors table slot h = record {
  rules = rule_kept (at program slot) (state_at table slot) h.rules;
  edges = subst (λ ps. CoversAll table ps) (sym (sent_same (heads program) sectors slot (at program slot) (state_at table slot) h.rules)) h.edges;
}

slot_without : (program : List (Option Instr)) (sectors : ℕ) (table : List (Option Abstract)) (slot : ℕ) → IsGoodAt true program sectors table slot
    → rule_with false program table slot ≡ None → IsGoodAt false program sectors table slot
unfolding rule_with sent_with
slot_without program sectors table slot h kept = record {
  rules = kept;
  edges = subst (λ ps. CoversAll table ps) (sent_same (heads program) sectors slot (at program slot) (state_at table slot) kept) h.edges;
}

pub good_with_guards : (program : List (Option Instr)) (sectors : ℕ) (table : List (Option Abstract)) → IsGood program sectors table → IsGoodWith true program sectors table
good_with_guards program sectors table h =
    record { states = h.states; long = h.long; start = h.start; slots = λ slot. slot_with_guards program sectors table slot (h.slots slot) }

-- and the other way round, where the rules without guards hold
pub good_without : (program : List (Option Instr)) (sectors : ℕ) (table : List (Option Abstract)) → IsGoodWith true program sectors table → KeepsRules false program table
    → IsGood program sectors table
good_without program sectors table h kept =
    record { states = h.states; long = h.long; start = h.start; slots = λ slot. slot_without program sectors table slot (h.slots slot) (kept slot) }

no_slot_guarded : (program : List (Option Instr)) (sectors slot : ℕ) (table : List (Option Abstract)) → IsGood program sectors table → is_guarded_at program table slot ≡ false
unfolding is_guarded_at rule_with
no_slot_guarded program sectors slot table h = not_guarded (at program slot) (state_at table slot) (h.slots slot).rules

pub needs_no_guards : GoodNeedsNoGuards
needs_no_guards = record { good = good_with_guards; none = no_slot_guarded }
