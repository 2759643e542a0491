-- Rounds whose visits are counted.
use Rattle.std.proofs.Common.{◌≡◌, ◌<◌, ◌≤◌, ◌+◌, ◌-◌, ℕ, suc, Bool, false, List, length, Option, refl, ◌∙◌, ap, subst, arith}
use Rattle.bpf_isa.specs.declared.instr.Instr.{Instr}
use Rattle.ranges.specs.States.{Abstract}
use Rattle.verifier.specs.Rounds.{first_table, round_of, rounds, IsSettled}
use Rattle.verifier.specs.Visits.{HaveLearned, Visits, NeedMore, count_set}
use Rattle.verifier.specs.Passing.{IsMarked, MadeRound}

-- the table of some round with the marks for the next one, and how many visits are left
pub record Counted (guards : Bool) (program : List (Option Instr)) (sectors most : ℕ) (table : List (Option Abstract)) (marks : List Bool) (left : ℕ) : Type 0 where
  pub turns : ℕ
  pub is : table ≡ rounds guards program sectors turns
  pub marked : IsMarked guards program sectors table marks
  pub within : left ≤ most
  pub visits : Visits guards program sectors turns (most - left)

pub counted_first : (guards : Bool) (program : List (Option Instr)) (sectors most : ℕ) (table : List (Option Abstract)) (marks : List Bool) → table ≡ first_table (length program)
    → IsMarked guards program sectors table marks → Counted guards program sectors most table marks most
counted_first guards program sectors most table marks is marked = record {
  turns = 0;
  is = is;
  marked = marked;
  within = omega arith;
  visits = omega arith;
}

-- what one more round makes
learned_next : (guards : Bool) (program : List (Option Instr)) (sectors turns : ℕ) (old new : List (Option Abstract)) (n : ℕ) → old ≡ rounds guards program sectors turns
    → new ≡ round_of guards program sectors old → HaveLearned old new n → HaveLearned (rounds guards program sectors turns) (rounds guards program sectors (suc turns)) n
learned_next guards program sectors turns old new n a b h =
    let next : new ≡ rounds guards program sectors (suc turns) = b ∙ ap (λ t. round_of guards program sectors t) a in
    subst (λ t. HaveLearned t (rounds guards program sectors (suc turns)) n) a (subst (λ t. HaveLearned old t n) next h)

pub counted_next : (guards : Bool) (program : List (Option Instr)) (sectors most : ℕ) (old new : List (Option Abstract)) (before after : List Bool) (left visits rest : ℕ) (changed : Bool)
    → Counted guards program sectors most old before left → MadeRound guards program sectors old new after changed → visits ≡ count_set after → visits ≤ left → rest ≡ left - visits
    → Counted guards program sectors most new after rest
counted_next guards program sectors most old new before after left visits rest changed h made e few r =
    let within = h.within in
    let sum : most - rest ≡ most - left + visits = omega (arith, within, few, r) in
    record {
      turns = suc h.turns;
      is = made.table ∙ ap (λ t. round_of guards program sectors t) h.is;
      marked = made.marks;
      within = omega (arith, within, few, r);
      visits = (most - left, visits, h.visits, rw e (learned_next guards program sectors h.turns old new (count_set after) h.is made.table made.learned), sum);
    }

pub counted_more : (guards : Bool) (program : List (Option Instr)) (sectors most : ℕ) (old new : List (Option Abstract)) (before after : List Bool) (left visits : ℕ) (changed : Bool)
    → Counted guards program sectors most old before left → MadeRound guards program sectors old new after changed → visits ≡ count_set after → left < visits
    → NeedMore guards program sectors most
counted_more guards program sectors most old new before after left visits changed h made e many =
    let within = h.within in
    record {
      turns = suc h.turns;
      visits = most - left + visits;
      made = (most - left, visits, h.visits, rw e (learned_next guards program sectors h.turns old new (count_set after) h.is made.table made.learned), refl);
      more = omega (arith, within, many);
    }

pub counted_settled : (guards : Bool) (program : List (Option Instr)) (sectors most : ℕ) (old new : List (Option Abstract)) (before after : List Bool) (left : ℕ) (changed : Bool)
    → Counted guards program sectors most old before left → MadeRound guards program sectors old new after changed → changed ≡ false → IsSettled guards program sectors new
counted_settled guards program sectors most old new before after left changed h made e =
    let same = made.same e in
    let still : new ≡ old = made.table ∙ same in
    record {
      turns = h.turns;
      is = still ∙ h.is;
      same = rw still same;
    }
