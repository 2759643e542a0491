-- Acceptance is exact: the least good table.
use Rattle.std.proofs.Common.{◌≡◌, ◌<◌, ◌≤◌, ◌+◌, ◌^◌, ℕ, zero, suc, Bool, true, false, List, [], ◌∷◌, length, Option, Some, None, refl, sym, ◌∙◌, if◌then◌else◌, ap, subst, inl, inr, arith}
use Rattle.std.proofs.lemmas.Bool.{cases_eq}
use Rattle.base.specs.Check.{Check, check, first_failing}
use Rattle.base.specs.declared.causes.VerifierCause.{VerifierCause}
use Rattle.base.specs.declared.causes.VerifierCause.TheVariants as cause
use Rattle.bpf_isa.specs.declared.instr.Instr.{Instr}
use Rattle.bpf_isa.specs.declared.instr.Instr.TheVariants as instr
use Rattle.bpf_isa.specs.Program.{IsProgram}
use Rattle.bpf_isa.specs.Slots.{at}
use Rattle.bpf_shape.specs.Rules.{IsShaped, FirstOf, FirstBroken, order}
use Rattle.bpf_shape.proofs.Kept.{shaped_with_guards}
use Rattle.helpers.specs.declared.helper.Helper.{Helper}
use Rattle.helpers.specs.declared.helper.Helper.TheVariants as helper
use Rattle.helpers.specs.Helper.{helper_of, asked_of}
use Rattle.std.specs.Int.{cast_unsigned, w32}
use Rattle.std.specs.Option.{option_map_or}
use Rattle.ranges.specs.States.{Abstract}
use Rattle.ranges.specs.Rules.{load_rules, store_rules, call_rules, rules_with}
use Rattle.ranges.specs.Order.{IsState, Each, Holds, EdgeUnder}
use Rattle.ranges.proofs.Chains.{state_both}
use Rattle.verifier.specs.Tables.{state_at, Covers, CoversAll, AreStates, broken_with, rule_with}
use Rattle.verifier.specs.Good.{IsGoodWith, IsGood}
use Rattle.verifier.specs.Breaches.{FirstBreach, BreaksAt, wrong_length, no_start, at_slot}
use Rattle.verifier.specs.Least.{IsContained, IsLeast}
use Rattle.verifier.specs.Rounds.{passed_by, passed_states, rounds, IsSame, IsSettled}
use Rattle.verifier.specs.Measure.{weight}
use Rattle.verifier.specs.Sought.{Below}
use Rattle.verifier.specs.Passing.{IsRound}
use Rattle.verifier.specs.Verdicts.{RefusedWith, shape, no_table, sought}
use Rattle.verifier.specs.Laws.{AcceptanceIsExact, RoundsEnd}
use Rattle.verifier.proofs.Settled.{each_round, settled_covers, slot_covers}
use Rattle.verifier.proofs.Below.{covered_is_under, keeps_below, settled_below, settled_is_least, settled_round}
use Rattle.verifier.proofs.Guards.{good_with_guards, good_without}
use Rattle.verifier.proofs.Rising.{round_weighs, round_rises, round_is_below}

-- two least tables are the same

same_known : (m n : Option Abstract) → EdgeUnder m n → EdgeUnder n m → m ≡ n
same_known None None u v = refl
same_known None (Some t) u v = absurd v
same_known (Some s) None u v = absurd u
same_known (Some s) (Some t) u v = ap (λ z. Some z) (state_both s t u v)

same_tables : (t u : List (Option Abstract)) → length t ≡ length u → ((slot : ℕ) → state_at t slot ≡ state_at u slot) → t ≡ u
same_tables [] [] e h = refl
same_tables [] (y ∷ ys) e h = absurd (let bad : 0 ≡ suc (length ys) = e in cc)
same_tables (x ∷ xs) [] e h = absurd (let bad : suc (length xs) ≡ 0 = e in cc)
same_tables (x ∷ xs) (y ∷ ys) e h =
    let here : x ≡ y = h 0 in
    let rest : xs ≡ ys = same_tables xs ys (omega (arith, e)) (λ slot. h (suc slot)) in
    rw (here, rest) refl

contained_under : (m n : Option Abstract) → Holds IsState m → Holds IsState n → Holds (Covers n) m → EdgeUnder m n
contained_under None n a b c = tt
contained_under (Some s) n a b c = covered_is_under n s b a c

one_table : (t u : List (Option Abstract)) → length t ≡ length u → AreStates t → AreStates u → IsContained t u → IsContained u t → t ≡ u
one_table t u long h k a b =
    same_tables t u long
    (λ slot. same_known (state_at t slot) (state_at u slot)
    (contained_under (state_at t slot) (state_at u slot) (h slot) (k slot) (a slot))
    (contained_under (state_at u slot) (state_at t slot) (k slot) (h slot) (b slot)))

as_long : (t u : List (Option Abstract)) (n : ℕ) → length t ≡ n → length u ≡ n → length t ≡ length u
as_long t u n x y = x ∙ sym y

pub one_least : (guards : Bool) (program : List (Option Instr)) (sectors : ℕ) (t u : List (Option Abstract)) → IsLeast guards program sectors t → IsLeast guards program sectors u → t ≡ u
one_least guards program sectors t u a b =
    one_table t u (as_long t u (length program) a.good.long b.good.long) a.good.states b.good.states (a.least u b.good) (b.least t a.good)

-- the rounds end

abbrev Ends : Bool → List (Option Instr) → ℕ → Type 0
Ends guards program sectors = (turns : ℕ) × IsSame guards program sectors (rounds guards program sectors turns)

ends_within : (guards : Bool) (program : List (Option Instr)) (sectors : ℕ) → sectors < 2 ^ 64 → IsProgram program → IsShaped guards program → (left turns : ℕ)
    → 2 ^ 96 ≤ weight (rounds guards program sectors turns) + left → Ends guards program sectors
ends_within guards program sectors few p h zero turns most =
    let below : weight (rounds guards program sectors turns) < 2 ^ 96 = round_is_below program (rounds guards program sectors turns) p (each_round guards program sectors turns few p h) in
    absurd (omega (arith, most, below))
ends_within guards program sectors few p h (suc left) turns most =
    let both = round_weighs guards program sectors (rounds guards program sectors turns) few p h (each_round guards program sectors turns few p h) in
    let least : weight (rounds guards program sectors turns) ≤ weight (rounds guards program sectors (suc turns)) = both.0 in
    elim (cases_eq (weight (rounds guards program sectors turns)) (weight (rounds guards program sectors (suc turns)))) [
      | inl same ↦ (turns, sym (both.1 same))
      | inr other ↦ ends_within guards program sectors few p h left (suc turns) (omega (arith, most, least, other))
    ]

ends : (guards : Bool) (program : List (Option Instr)) (sectors : ℕ) → sectors < 2 ^ 64 → IsProgram program → IsShaped guards program → (left : ℕ) → left ≡ 2 ^ 96 → Ends guards program sectors
ends guards program sectors few p h left e = ends_within guards program sectors few p h left 0 (omega (arith, e))

table_ends : (guards : Bool) (program : List (Option Instr)) (sectors : ℕ) → Ends guards program sectors → (table : List (Option Abstract)) × IsSettled guards program sectors table
table_ends guards program sectors e = (rounds guards program sectors e.0, record { turns = e.0; is = refl; same = e.1 })

least_exists : (guards : Bool) (program : List (Option Instr)) (sectors : ℕ) (g : List (Option Abstract)) → sectors < 2 ^ 64 → IsProgram program → IsShaped guards program
    → IsGoodWith guards program sectors g → (table : List (Option Abstract)) × IsLeast guards program sectors table
least_exists guards program sectors g few p h good =
    let found = table_ends guards program sectors (ends guards program sectors few p h (2 ^ 96) refl) in
    let round = settled_round guards program sectors found.0 few p h found.1 in (
      found.0,
      settled_is_least guards program sectors found.0 few p h found.1
          (λ slot. keeps_below guards program sectors found.0 g slot p round.states good (settled_below guards program sectors found.0 g few p h found.1 good)),
    )

-- the rounds end at the least good table, where there is one
pub least_is_settled : (guards : Bool) (program : List (Option Instr)) (sectors : ℕ) (t : List (Option Abstract)) → sectors < 2 ^ 64 → IsProgram program → IsShaped guards program
    → IsLeast guards program sectors t → IsSettled guards program sectors t
least_is_settled guards program sectors t few p h least =
    let found = table_ends guards program sectors (ends guards program sectors few p h (2 ^ 96) refl) in
    let round = settled_round guards program sectors found.0 few p h found.1 in
    let there : IsLeast guards program sectors found.0 = settled_is_least guards program sectors found.0 few p h found.1
    (λ slot. keeps_below guards program sectors found.0 t slot p round.states least.good (settled_below guards program sectors found.0 t few p h found.1 least.good)) in
    subst (λ u. IsSettled guards program sectors u) (one_least guards program sectors found.0 t there least) found.1

-- The least table without guards is the least one with them: that one is below it, so it keeps the rules too.
pub least_with_guards : (program : List (Option Instr)) (sectors : ℕ) (t : List (Option Abstract)) → sectors < 2 ^ 64 → IsProgram program → IsShaped false program
    → IsLeast false program sectors t → IsLeast true program sectors t
least_with_guards program sectors t few p h least =
    let good : IsGoodWith true program sectors t = good_with_guards program sectors t least.good in
    let found = least_exists true program sectors t few p (shaped_with_guards false program h) good in
    let states = found.1.good.states in
    let below : Below found.0 t = λ slot. contained_under (state_at found.0 slot) (state_at t slot) (states slot) (least.good.states slot) (found.1.least t good slot) in
    let without : IsGood program sectors found.0 = good_without program sectors found.0 found.1.good (λ slot. keeps_below false program sectors found.0 t slot p states least.good below) in
    let same : found.0 ≡ t =
    one_table found.0 t (as_long found.0 t (length program) found.1.good.long least.good.long) states least.good.states (found.1.least t good) (least.least found.0 without) in
    subst (λ u. IsLeast true program sectors u) same found.1

-- no refusal is for a table that isn't settled

abbrev is_unsettled : VerifierCause → Bool
is_unsettled cause.Unsettled = true
is_unsettled _ = false

abbrev Other : VerifierCause → Type 0
Other c = is_unsettled c ≡ false

no_other : (c : VerifierCause) → c ≡ cause.Unsettled → Other c → ⊥
no_other c e other =
    let told : is_unsettled c ≡ true = rw e refl in
    let bad : true ≡ false = sym told ∙ other in
    cc

no_shape : (guards : Bool) (program : List (Option Instr)) (c : VerifierCause) (slot : ℕ) (list : List VerifierCause) → c ≡ cause.Unsettled → Each Other list → FirstOf guards program list c slot → ⊥
no_shape guards program c slot [] e a f = f
no_shape guards program c slot (r ∷ rest) e a (inl f) = no_other r (sym f.0 ∙ e) a.0
no_shape guards program c slot (r ∷ rest) e a (inr f) = no_shape guards program c slot rest e a.1 f.1

no_check : (list : List (Check VerifierCause)) (c : VerifierCause) → c ≡ cause.Unsettled → Each (λ k. Other k.cause) list → first_failing list ≡ Some c → ⊥
no_check [] c u a e = let bad : None ≡ Some c = e in cc
no_check (k ∷ rest) c u a e = by_test k.passes (no_check rest c u a.1) e
  where
    by_test : (b : Bool) → (first_failing rest ≡ Some c → ⊥) → (if b then first_failing rest else Some k.cause) ≡ Some c → ⊥
    by_test true below f = below f
    by_test false below f = no_other k.cause (let same : k.cause ≡ c = cc in same ∙ u) a.0

other_calls : (guards : Bool) (s : Abstract) (h : Helper) → Each (λ k. Other k.cause) (call_rules guards s h)
unfolding call_rules
other_calls guards s helper.Copy = (refl, (refl, (refl, tt)))
other_calls guards s h = (refl, (refl, tt))

other_rules : (guards : Bool) (s : Abstract) (i : Instr) → Each (λ k. Other k.cause) (rules_with guards s i)
unfolding rules_with load_rules store_rules
other_rules guards s (instr.Jump distance) = tt
other_rules guards s (instr.LongJump distance) = tt
other_rules guards s (instr.CallHelper number) = by_helper (if guards then asked_of (cast_unsigned w32 number) else helper_of (cast_unsigned w32 number))
  where
    by_helper : (m : Option Helper) → Each (λ k. Other k.cause) (option_map_or (call_rules guards s) m (check cause.UnknownHelper false ∷ []))
    by_helper None = (refl, tt)
    by_helper (Some h) = other_calls guards s h
other_rules guards s (instr.CallLocal distance) = tt
other_rules guards s (instr.Load size dst base distance) = (refl, (refl, (refl, (refl, tt))))
other_rules guards s (instr.LoadSigned size dst base distance) = (refl, (refl, (refl, (refl, tt))))
other_rules guards s (instr.StoreImmediate size base distance n) = (refl, (refl, (refl, (refl, (refl, tt)))))
other_rules guards s (instr.Store size base distance src) = (refl, (refl, (refl, (refl, (refl, tt)))))
other_rules guards s (instr.LoadImmediate dst x) = tt
other_rules guards s i = (refl, (refl, tt))

no_rule : (guards : Bool) (program : List (Option Instr)) (table : List (Option Abstract)) (slot : ℕ) (c : VerifierCause) → c ≡ cause.Unsettled → rule_with guards program table slot ≡ Some c → ⊥
unfolding rule_with
no_rule guards program table slot c u e = by_state (at program slot) (state_at table slot) e
  where
    by_state : (i : Option Instr) (m : Option Abstract) → broken_with guards i m ≡ Some c → ⊥
    by_state None m f = let bad : None ≡ Some c = f in cc
    by_state (Some i) None f = let bad : None ≡ Some c = f in cc
    by_state (Some i) (Some s) f = no_check (rules_with guards s i) c u (other_rules guards s i) f

no_breach : (guards : Bool) (program : List (Option Instr)) (sectors : ℕ) (table : List (Option Abstract)) (c : VerifierCause) (slot : ℕ) → c ≡ cause.Unsettled → IsRound (length program) table
    → CoversAll table (passed_states guards program sectors table) → FirstBreach guards program sectors table c slot → ⊥
no_breach guards program sectors table _ _ u r covered (wrong_length e) = e r.long
no_breach guards program sectors table _ _ u r covered (no_start e n) = n r.starts
no_breach guards program sectors table _ _ u r covered (at_slot c slot e s b) = by_break b.breaks
  where
    by_break : BreaksAt guards program sectors table slot c → ⊥
    by_break (inl broken) = no_rule guards program table slot c u broken
    by_break (inr out) =
        let part : CoversAll table (passed_by guards program sectors table slot) = slot_covers guards program sectors table table slot covered in
        out.1.edges (rw out.1.rules at part)

not_unsettled : (guards : Bool) (program : List (Option Instr)) (sectors : ℕ) (c : VerifierCause) (slot : ℕ) → sectors < 2 ^ 64 → IsProgram program → c ≡ cause.Unsettled → RefusedWith guards program sectors c slot → ⊥
unfolding FirstBroken
not_unsettled guards program sectors _ _ few p u (shape c s x) = no_shape guards program c s order u (refl, (refl, (refl, (refl, (refl, (refl, (refl, (refl, tt)))))))) x
not_unsettled guards program sectors _ _ few p u (no_table c s t h none k x) =
    let round = settled_round guards program sectors t few p h k in
    no_breach guards program sectors t c s u round (settled_covers guards program sectors t few p h round k.same) x
not_unsettled guards program sectors _ _ few p u (sought c s t h none more k x) = no_rule guards program t s c u x

pub acceptance_is_exact : AcceptanceIsExact
acceptance_is_exact = record {
  least = least_exists;
  one = one_least;
  settled = λ guards program sectors slot few p r. not_unsettled guards program sectors cause.Unsettled slot few p refl r;
  same = least_with_guards;
}

pub rounds_end : RoundsEnd
rounds_end = record {
  rises = λ guards program sectors turns few p h changes. round_rises guards program sectors (rounds guards program sectors turns) few p h (each_round guards program sectors turns few p h) changes;
  below = λ guards program sectors turns few p h. round_is_below program (rounds guards program sectors turns) p (each_round guards program sectors turns few p h);
}
