-- Weights: from the greatest lengths to the longest paths, one depth after the other; and that a
-- program has one longest path.
use Rattle.std.proofs.Common.{ℕ, zero, suc, ◌≡◌, ◌+◌, ◌*◌, ◌<◌, ◌≤◌, Bool, true, false, List, [], ◌∷◌, ◌++◌, length, set, replicate, Option, Some, None, refl, sym, ◌∙◌, inl, inr, arith}
use Rattle.std.proofs.lemmas.Bool.{cases_lt, cases_eq}
use Rattle.std.proofs.lemmas.List.{get_or_past, get_or-replicate, length-replicate, get_or_append_left, get_or_push, length_push, get_or-set_same, get_or-set_other}
use Rattle.bpf_isa.specs.declared.instr.Instr.{Instr}
use Rattle.base.specs.declared.causes.VerifierCause.TheVariants as cause
use Rattle.bpf_shape.specs.Edges.{control}
use Rattle.bpf_shape.specs.Calls.{callee}
use Rattle.bpf_shape.specs.Again.{plain}
use Rattle.bpf_shape.specs.Paths.{IsWalk, Reaches, LeadsTo, OnCycle}
use Rattle.bpf_shape.specs.Chains.{IsWithin}
use Rattle.bpf_shape.specs.Weights.{path_weight, HasPath, IsLongest, Weighs, AreWeights}
use Rattle.bpf_shape.specs.Budget.{most_calls}
use Rattle.bpf_shape.specs.Rules.{Breaks, Holds}
use Rattle.bpf_shape.specs.Search.{IsMarked, EdgesFit, EntriesFit}
use Rattle.bpf_shape.specs.Lengths.{weight_at, heaviest, most_weight, length_of, AreHeavy, AreSettled, IsGreatestFrom, AreGreatest, IsWeighed, AreWeighed, AreLengths}
use Rattle.bpf_shape.proofs.Walks.{reaches_more, stays}
use Rattle.bpf_shape.proofs.Kept.{plain_is_control, callee_past}
use Rattle.bpf_shape.proofs.Partial.{heaviest_le, few_enough, no_length}
use Rattle.bpf_shape.proofs.Longest.{no_longer, attained, all_known}

marked_inside : (marks : List Bool) (s : ℕ) → IsMarked marks s → s < length marks
marked_inside marks s is =
    elim (cases_lt s (length marks)) [
      | inl inside ↦ inside
      | inr past ↦ absurd (let bad : false ≡ true = sym (get_or_past marks s false past) ∙ is in cc)
    ]

straight : (program : List (Option Instr)) → Holds true program cause.Loop → (s : ℕ) → OnCycle (plain program) s → ⊥
unfolding Breaks
straight program holds s cycle = holds s cycle

-- the greatest length of the slots that are reached from an entry is that of its longest path
module _ (program : List (Option Instr)) (ws : List ℕ) (v : List (Option ℕ)) (fits : EdgesFit (control program) (length program))
    (settled : AreSettled (plain program) (length program) ws v) (loops : Holds true program cause.Loop) (entry k : ℕ) (great : IsGreatestFrom program v entry k)
    (inside : entry < length program) where
  plain_fits_here : EdgesFit (plain program) (length program)
  plain_fits_here s t h = fits s t (plain_is_control program s t h)

  inside_of : (s : ℕ) → IsMarked great.marks s → s < length program
  inside_of s is = let w = marked_inside great.marks s is in omega (arith, w, great.found.long)

  lighter : (s : ℕ) (p : List ℕ) → IsMarked great.marks s → IsWalk (plain program) s p → path_weight (weight_at ws) s p ≤ k
  lighter s p is walk =
      let here = all_known (plain program) (length program) ws v s plain_fits_here settled (inside_of s is) (straight program loops) in
      let a = no_longer (plain program) (length program) ws v settled.partial s here.0 p here.1 walk in
      let b = great.greatest.most s here.0 (inside_of s is) is here.1 in
      omega (arith, a, b)

  first_marked : IsMarked great.marks entry
  first_marked = great.found.complete entry (record { first = entry; leads = refl; on = stays (control program) entry })

  from_entry : (s : ℕ) → LeadsTo (control program) (λ t. entry ≡ t) s → Reaches (control program) entry s
  from_entry s way = let same : entry ≡ way.first = way.leads in rw (← same) at way.on

  pub is_longest : IsLongest program (weight_at ws) entry k
  is_longest = record {
    some = elim great.greatest.some [
      | inl none ↦
          let one : weight_at ws entry ≤ k = lighter entry [] first_marked tt in
          let heavy = settled.partial.heavy.least entry in
          absurd (omega (arith, none, one, heavy))
      | inr there ↦
          let path = attained (plain program) (length program) ws v k there.0 k (omega arith) settled.partial there.1.1 in
          record {
            first = there.0;
            rest = path.rest;
            reached = from_entry there.0 (great.found.sound there.0 there.1.0);
            path = path.walk;
            heavy = path.heavy;
          }
    ];
    most = λ m has.
        let a = lighter has.first has.rest (great.found.complete has.first (record { first = entry; leads = refl; on = has.reached })) has.path in
        let b = has.heavy in
        omega (arith, a, b);
  }

-- The weights by lengths are those of one depth more.
module _ (program : List (Option Instr)) (depth : ℕ) (v : List (Option ℕ)) (new : List ℕ) (fits : EdgesFit (control program) (length program))
    (entries : EntriesFit program) (loops : Holds true program cause.Loop) (small : length program ≤ 4096) (l : AreLengths program depth v)
    (weighed : AreWeighed program v (length program) new) where
  past_one : (s : ℕ) → length program ≤ s → weight_at new s ≡ 1
  past_one s past = get_or_past new s 1 (omega (arith, past, weighed.long))

  weighs : (s : ℕ) → Weighs program (weight_at l.weights) (callee program s) (weight_at new s)
  weighs s =
      elim (cases_lt s (length program)) [
        | inl inside ↦ by_callee (callee program s) refl (weighed.each s inside)
        | inr past ↦ rw (callee_past program s past) (past_one s past)
      ]
    where
      by_callee : (o : Option ℕ) → callee program s ≡ o → IsWeighed program v o (weight_at new s) → Weighs program (weight_at l.weights) (callee program s) (weight_at new s)
      by_callee None is h = rw is h
      by_callee (Some entry) is h =
          rw is (h.0, (is_longest program l.weights v fits l.settled loops entry h.0 h.1.0 (entries s entry is), h.1.1))

  pub deeper : AreWeights program (suc depth) (weight_at new)
  deeper = (weight_at l.weights, (l.are, weighs))

  -- the greatest length is bounded,
  great_bound : (entry k : ℕ) → IsGreatestFrom program v entry k → k ≤ 4096 * most_weight depth
  great_bound entry k g =
      elim g.greatest.some [
        | inl none ↦ omega (arith, none)
        | inr there ↦ few_enough (plain program) (length program) (most_weight depth) l.weights v l.settled.partial small l.few there.0 k there.1.1
      ]

  -- and so is each weight
  bound_by : (o : Option ℕ) (n : ℕ) → IsWeighed program v o n → (1 ≤ n) × (n ≤ most_weight (suc depth))
  bound_by None n h = (omega (arith, h), omega (arith, h))
  bound_by (Some entry) n h = let b = great_bound entry h.0 h.1.0 in (omega (arith, h.1.1), omega (arith, h.1.1, b))

  pub deeper_few : heaviest new ≤ most_weight (suc depth)
  deeper_few = heaviest_le new (most_weight (suc depth)) (λ s inside. (bound_by (callee program s) (weight_at new s) (weighed.each s (omega (arith, inside, weighed.long)))).1)

  pub deeper_heavy : AreHeavy (length program) new
  deeper_heavy = record {
    long = weighed.long;
    least = λ s. elim (cases_lt s (length program)) [
      | inl inside ↦ (bound_by (callee program s) (weight_at new s) (weighed.each s inside)).0
      | inr past ↦ let one = past_one s past in omega (arith, one)
    ];
  }

  pub deeper_lengths : (r : List (Option ℕ)) → AreSettled (plain program) (length program) new r → AreLengths program (suc depth) r
  deeper_lengths r settled = record { weights = new; are = deeper; settled = settled; few = deeper_few }

-- the greatest weights are small
pub small_weight : (depth : ℕ) → depth ≤ 3 → most_weight depth ≤ 137438953472
small_weight zero h = omega arith
small_weight (suc zero) h = omega arith
small_weight (suc (suc zero)) h = omega arith
small_weight (suc (suc (suc zero))) h = omega arith
small_weight (suc (suc (suc (suc d)))) h = absurd (omega (arith, h))

pub small_lengths : (program : List (Option Instr)) (depth : ℕ) (v : List (Option ℕ)) → depth ≤ 3 → length program ≤ 4096 → AreLengths program depth v
    → (s k : ℕ) → length_of v s ≡ Some k → k ≤ 562949953421312
small_lengths program depth v shallow small l s k h =
    let light = small_weight depth shallow in
    let few = l.few in
    let all : k ≤ 4096 * 137438953472 =
    few_enough (plain program) (length program) 137438953472 l.weights v l.settled.partial small (omega (arith, light, few)) s k h in
    omega (arith, all)

-- where no call is followed each slot weighs 1
ones : (n s : ℕ) → weight_at (replicate n 1) s ≡ 1
ones n s =
    elim (cases_lt s n) [
      | inl inside ↦ get_or-replicate {A = ℕ} n s 1 1 inside
      | inr past ↦ get_or_past (replicate {A = ℕ} n 1) s 1 (rw (length-replicate {A = ℕ} n 1) past)
    ]

-- where each slot weighs 1, none weighs more
pub ones_few : (n : ℕ) → heaviest (replicate n 1) ≤ 1
ones_few n = heaviest_le (replicate n 1) 1 (λ s inside. let one = ones n s in omega (arith, one))

-- and none weighs less
pub ones_heavy : (n : ℕ) → AreHeavy n (replicate n 1)
ones_heavy n = record { long = length-replicate {A = ℕ} n 1; least = λ s. let one = ones n s in omega (arith, one) }

-- lengths that are settled with weight 1 everywhere are those of depth 0
pub plain_are : (program : List (Option Instr)) (v : List (Option ℕ)) → AreSettled (plain program) (length program) (replicate (length program) 1) v
    → AreLengths program 0 v
plain_are program v settled = record {
  weights = replicate (length program) 1;
  are = ones (length program);
  settled = settled;
  few = ones_few (length program);
}

-- without calls that is so at each depth
no_calls_weigh : (program : List (Option Instr)) (weight : ℕ → ℕ) → ((s : ℕ) → callee program s ≡ None) → AreWeights program 0 weight → (depth : ℕ) → AreWeights program depth weight
no_calls_weigh program weight none one zero = one
no_calls_weigh program weight none one (suc depth) = (weight, (no_calls_weigh program weight none one depth, λ s. rw (none s) (one s)))

pub without_calls : (program : List (Option Instr)) (v : List (Option ℕ)) → ((s : ℕ) → callee program s ≡ None) → AreLengths program 0 v → AreLengths program most_calls v
without_calls program v none l = record {
  weights = l.weights;
  are = no_calls_weigh program (weight_at l.weights) none l.are 3;
  settled = l.settled;
  few = let light = l.few in omega (arith, light);
}

-- Weights that agree on what is reached from an entry give it the same longest path.
module _ (program : List (Option Instr)) (entry : ℕ) (v w : ℕ → ℕ) (same : (s : ℕ) → Reaches (control program) entry s → v s ≡ w s) where
  same_path : (s : ℕ) (p : List ℕ) → Reaches (control program) entry s → IsWalk (plain program) s p → path_weight v s p ≡ path_weight w s p
  same_path s [] reached walk = same s reached
  same_path s (t ∷ p) reached walk =
      let here = same s reached in
      let rest = same_path t p (reaches_more (control program) entry s t reached (plain_is_control program s t walk.0)) walk.1 in
      omega (arith, here, rest)

  has_same : (n : ℕ) → HasPath program v entry n → HasPath program w entry n
  has_same n h = record { first = h.first; rest = h.rest; reached = h.reached; path = h.path; heavy = sym (same_path h.first h.rest h.reached h.path) ∙ h.heavy }

  has_back : (n : ℕ) → HasPath program w entry n → HasPath program v entry n
  has_back n h = record { first = h.first; rest = h.rest; reached = h.reached; path = h.path; heavy = same_path h.first h.rest h.reached h.path ∙ h.heavy }

  pub same_longest : (a b : ℕ) → IsLongest program v entry a → IsLongest program w entry b → a ≡ b
  same_longest a b x y =
      let up = y.most a (has_same a x.some) in
      let back = x.most b (has_back b y.some) in
      omega (arith, up, back)

-- what two kinds of weights say of a slot
weighs_same : (program : List (Option Instr)) (v w : ℕ → ℕ) (o : Option ℕ) (m n : ℕ)
    → ((entry a b : ℕ) → o ≡ Some entry → IsLongest program v entry a → IsLongest program w entry b → a ≡ b)
    → Weighs program v o m → Weighs program w o n → m ≡ n
weighs_same program v w None m n same x y = x ∙ sym y
weighs_same program v w (Some entry) m n same x y =
    let longest = same entry x.0 y.0 refl x.1.0 y.1.0 in
    omega (arith, longest, x.1.1, y.1.1)

-- A program has one weight for each slot and depth,
pub one_weight : (program : List (Option Instr)) (depth : ℕ) (v w : ℕ → ℕ) → AreWeights program depth v → AreWeights program depth w → (s : ℕ) → v s ≡ w s
one_weight program zero v w x y s = x s ∙ sym (y s)
one_weight program (suc depth) v w x y s =
    weighs_same program x.0 y.0 (callee program s) (v s) (w s)
    (λ entry a b is. same_longest program entry x.0 y.0 (λ t reached. one_weight program depth x.0 y.0 x.1.0 y.1.0 t) a b)
    (x.1.1 s) (y.1.1 s)

-- and a slot that is no call weighs 1 at each
weighs_one : (program : List (Option Instr)) (depth : ℕ) (v : ℕ → ℕ) (s : ℕ) → AreWeights program depth v → callee program s ≡ None → v s ≡ 1
weighs_one program zero v s x none = x s
weighs_one program (suc depth) v s x none = let here : Weighs program x.0 None (v s) = rw none at (x.1.1 s) in here

-- Chains of calls that begin at a call reached from an entry are at most so long.
abbrev IsShallow : List (Option Instr) → ℕ → ℕ → Type 0
IsShallow program zero entry = (c : ℕ) → Reaches (control program) entry c → callee program c ≡ None
IsShallow program (suc k) entry = (c inner : ℕ) → Reaches (control program) entry c → callee program c ≡ Some inner → IsShallow program k inner

-- So deep suffices.
agree : (program : List (Option Instr)) (k d e entry : ℕ) (v w : ℕ → ℕ) → k ≤ d → k ≤ e → AreWeights program d v → AreWeights program e w → IsShallow program k entry
    → (s : ℕ) → Reaches (control program) entry s → v s ≡ w s
agree program zero d e entry v w x y a b shallow s reached =
    weighs_one program d v s a (shallow s reached) ∙ sym (weighs_one program e w s b (shallow s reached))
agree program (suc k) zero e entry v w x y a b shallow s reached = absurd (omega (arith, x))
agree program (suc k) (suc d) zero entry v w x y a b shallow s reached = absurd (omega (arith, y))
agree program (suc k) (suc d) (suc e) entry v w x y a b shallow s reached =
    weighs_same program a.0 b.0 (callee program s) (v s) (w s)
    (λ inner m n is. same_longest program inner a.0 b.0 (λ t there. agree program k d e inner a.0 b.0 (omega (arith, x)) (omega (arith, y)) a.1.0 b.1.0 (shallow s inner reached is) t there) m n)
    (a.1.1 s) (b.1.1 s)

within_is : (program : List (Option Instr)) (c d entry inner : ℕ) → callee program c ≡ Some entry → Reaches (control program) entry d → callee program d ≡ Some inner
    → IsWithin program c d
within_is program c d entry inner enters reached calls = record { entry = entry; enters = enters; reached = reached; calls = rw calls refl }

-- In a program that keeps rule 44 three deep suffices.
three_shallow : (program : List (Option Instr)) → Holds true program cause.CallDepth → IsShallow program 3 0
unfolding Breaks
three_shallow program holds c1 f1 r1 e1 c2 f2 r2 e2 c3 f3 r3 e3 c4 r4 = by_callee (callee program c4) refl
  where
    by_callee : (o : Option ℕ) → callee program c4 ≡ o → callee program c4 ≡ None
    by_callee None is = is
    by_callee (Some f4) is =
        absurd (holds c4 (inr (record {
          first = c1;
          second = c2;
          third = c3;
          reached = r1;
          chain = (within_is program c1 c2 f1 f2 e1 r2 e2, (within_is program c2 c3 f2 f3 e2 r3 e3, (within_is program c3 c4 f3 f4 e3 r4 is, tt)));
        })))

pub deeper_same : (program : List (Option Instr)) (depth a b : ℕ) (v w : ℕ → ℕ) → Holds true program cause.CallDepth → most_calls ≤ depth
    → AreWeights program most_calls v → AreWeights program depth w → IsLongest program v 0 a → IsLongest program w 0 b → a ≡ b
deeper_same program depth a b v w holds enough three deep x y =
    same_longest program 0 v w (agree program 3 3 depth 0 v w (omega arith) enough three deep (three_shallow program holds)) a b x y

-- one slot more is weighed
pub weighed_more : (program : List (Option Instr)) (v : List (Option ℕ)) (k w : ℕ) (ws : List ℕ) → AreWeighed program v k ws → IsWeighed program v (callee program k) w
    → AreWeighed program v (k + 1) (ws ++ w ∷ [])
weighed_more program v k w ws before here = record {
  long = let long = length_push ws w in omega (arith, long, before.long);
  each = λ s inside. elim (cases_lt s k) [
    | inl less ↦
        let same : weight_at (ws ++ w ∷ []) s ≡ weight_at ws s = get_or_append_left ws (w ∷ []) 1 s (omega (arith, less, before.long)) in
        rw same (before.each s less)
    | inr not_less ↦
        let last : s ≡ k = omega (arith, inside, not_less) in
        let same : weight_at (ws ++ w ∷ []) k ≡ w = get_or_push ws w 1 k before.long in
        rw (last, same) here
  ];
}

pub none_weighed : (program : List (Option Instr)) (v : List (Option ℕ)) → AreWeighed program v 0 []
none_weighed program v = record { long = refl; each = λ s inside. absurd (omega (arith, inside)) }

-- one entry more is known
pub greatest_more : (program : List (Option Instr)) (v longest : List (Option ℕ)) (entry k : ℕ) → entry < length longest → AreGreatest program v longest
    → IsGreatestFrom program v entry k → AreGreatest program v (set longest entry (Some k))
greatest_more program v longest entry k inside before here e j h =
    elim (cases_eq e entry) [
      | inl same ↦
          let it : length_of (set longest entry (Some k)) entry ≡ Some j = rw same at h in
          let equal : Some k ≡ Some j = sym (get_or-set_same longest entry (Some k) None inside) ∙ it in
          let equal_too : k ≡ j = cc in
          rw (same, ← equal_too) here
      | inr other ↦ before e j (sym (get_or-set_other longest entry e (Some k) None other) ∙ h)
    ]

pub none_greatest : (program : List (Option Instr)) (v : List (Option ℕ)) (n : ℕ) → AreGreatest program v (replicate n None)
none_greatest program v n entry k h =
    let none : length_of (replicate n None) entry ≡ None = no_length n entry in
    absurd (let bad : None ≡ Some k = sym none ∙ h in cc)
