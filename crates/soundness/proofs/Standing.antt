-- A machine with its frames, and the states that cover it.
use Rattle.std.proofs.Common.{◌≡◌, ◌<◌, ◌≤◌, ℕ, zero, suc, ◌+◌, ◌-◌, ◌^◌, Bool, true, false, not, List, [], ◌∷◌, ◌++◌, length, length-append, get_or, Option, None, Some, is_some, inl, inr, refl, sym, ◌∙◌, subst, arith}
use Rattle.std.specs.Prelude.{set, unwrap_or}
use Rattle.std.specs.List.{list_all}
use Rattle.std.proofs.lemmas.List.{length-set}
use Rattle.base.specs.Sizes.{most_sectors}
use Rattle.base.specs.Check.{Check, first_failing}
use Rattle.base.specs.declared.causes.MachineFault.{MachineFault}
use Rattle.machine.specs.State.{Caller, Frame, State}
use Rattle.machine.specs.Step.{Stepped, Next, Done, Fault, after_checks, set_and_go, with_answer}
use Rattle.intervals.specs.Reducing.{HasWord}
use Rattle.ranges.specs.Kinds.{Kind, Unset, Word, Num, Ctx, Stack, Sector, SectorOrNull, is_unknown}
use Rattle.ranges.specs.Groups.{Marked}
use Rattle.ranges.specs.States.{Abstract}
use Rattle.ranges.specs.Order.{IsBounded, IsState}
use Rattle.ranges.specs.Reading.{value, are_set, with_value, words, any_word}
use Rattle.ranges.specs.After.{after_answer}
use Rattle.soundness.specs.Meaning.{Describes, Means, GroupMeans, Covers, frame_number, last_stack}
use Rattle.soundness.specs.Machines.{AreRegisters, IsStack}
use Rattle.soundness.specs.Laws.{Arrives}
use Rattle.soundness.proofs.Checks.{and_parts, tested_passes}
use Rattle.soundness.proofs.Meanings.{means_word, word_in}

-- what a machine holds: what the frame at hand has, and the frames below it
pub record Parts : Type 0 where
  pub slot : ℕ
  pub registers : List (Option ℕ)
  pub below : List Frame
  pub caller : Option Caller
  pub stack : List (Option ℕ)
  pub turns : List ℕ
  pub codes : List ℕ

abbrev pub frames_of : List Frame → Option Caller → List (Option ℕ) → List Frame
frames_of below caller stack = below ++ record { stack = stack; caller = caller } ∷ []

abbrev pub all_frames : Parts → List Frame
all_frames m = frames_of m.below m.caller m.stack

abbrev pub machine : Parts → State
machine m = record { slot = m.slot; registers = m.registers; frames = all_frames m; turns = m.turns; codes = m.codes }

-- the number of the frame at hand
abbrev pub number : Parts → ℕ
number m = length m.below

pub number_is : (below : List Frame) (f : Frame) → frame_number (below ++ f ∷ []) ≡ length below
number_is below f = let e = length-append below (f ∷ []) in omega (arith, e)

pub last_is : (below : List Frame) (f : Frame) → last_stack (below ++ f ∷ []) ≡ f.stack
last_is [] f = refl
last_is (g ∷ []) f = refl
last_is (g ∷ h ∷ rest) f = last_is (h ∷ rest) f

-- a device within its bounds, and a number of a frame
pub record AreFew (sectors frame : ℕ) : Type 0 where
  pub device : sectors ≤ most_sectors
  pub frames : frame ≤ 3

-- its registers and its stack are covered
pub record Stands (sectors frame : ℕ) (known : Abstract) (registers stack : List (Option ℕ)) : Type 0 where
  pub words : AreRegisters registers
  pub cells : IsStack stack
  pub values : (r : ℕ) → Means sectors frame (value known r) (get_or registers r None)
  pub groups : (g : ℕ) → GroupMeans sectors frame (get_or known.groups g (Marked [])) stack g

-- where a step within a frame leads: the frames below stay as they are
pub record Stays (sectors : ℕ) (below : List Frame) (caller : Option Caller) (arrivals : List (ℕ × Abstract)) (t : State) : Type 0 where
  pub words : AreRegisters t.registers
  pub stack : List (Option ℕ)
  pub frames : t.frames ≡ frames_of below caller stack
  pub cells : IsStack stack
  pub turns : length t.turns ≡ 4096
  pub arrives : Arrives sectors arrivals t

-- what a covered step within a frame comes to, before rounding
abbrev pub Goes : ℕ → Parts → List (ℕ × Abstract) → Stepped → Type 0
Goes sectors m arrivals (Next t) = Stays sectors m.below m.caller arrivals t
Goes sectors m arrivals (Done answer codes) = ⊥
Goes sectors m arrivals (Fault cause slot) = ⊥

pub covers_machine : (sectors : ℕ) (known : Abstract) (m : Parts) → Stands sectors (number m) known m.registers m.stack → Covers sectors known (machine m)
covers_machine sectors known m h =
    let f : Frame = record { stack = m.stack; caller = m.caller } in
    rw (number_is m.below f, last_is m.below f) (record { registers = h.values; groups = h.groups })

pub goes_to : (sectors : ℕ) (m : Parts) (arrivals : List (ℕ × Abstract)) → AreRegisters m.registers → IsStack m.stack → length m.turns ≡ 4096
    → Arrives sectors arrivals (machine m) → Goes sectors m arrivals (Next (machine m))
goes_to sectors m arrivals words cells turns arrives =
    record { words = words; stack = m.stack; frames = refl; cells = cells; turns = turns; arrives = arrives }

pub goes_first : (sectors : ℕ) (known : Abstract) (m : Parts) (rest : List (ℕ × Abstract)) → Stands sectors (number m) known m.registers m.stack → length m.turns ≡ 4096
    → Goes sectors m ((m.slot, known) ∷ rest) (Next (machine m))
goes_first sectors known m rest h t = goes_to sectors m ((m.slot, known) ∷ rest) h.words h.cells t (inl (refl, covers_machine sectors known m h))

-- lists with one element changed

pub each_set : {X : Type 0} (P : X → Type 0) (xs : List X) (i : ℕ) (x d : X) → ((r : ℕ) → P (get_or xs r d)) → P x → (r : ℕ) → P (get_or (set xs i x) r d)
each_set P [] i x d h p r = h r
each_set P (y ∷ ys) zero x d h p zero = p
each_set P (y ∷ ys) zero x d h p (suc r) = h (suc r)
each_set P (y ∷ ys) (suc i) x d h p zero = h 0
each_set P (y ∷ ys) (suc i) x d h p (suc r) = each_set P ys i x d (λ q. h (suc q)) p r

pub set_means : (sectors frame : ℕ) (values : List Kind) (registers : List (Option ℕ)) (dst : ℕ) (k : Kind) (c : Option ℕ) → length values ≡ length registers
    → ((r : ℕ) → Means sectors frame (get_or values r Unset) (get_or registers r None)) → Means sectors frame k c
    → (r : ℕ) → Means sectors frame (get_or (set values dst k) r Unset) (get_or (set registers dst c) r None)
set_means sectors frame [] [] dst k c e h m r = h r
set_means sectors frame [] (y ∷ ys) dst k c e h m r = absurd (omega (arith, e))
set_means sectors frame (x ∷ xs) [] dst k c e h m r = absurd (omega (arith, e))
set_means sectors frame (x ∷ xs) (y ∷ ys) zero k c e h m zero = m
set_means sectors frame (x ∷ xs) (y ∷ ys) zero k c e h m (suc r) = h (suc r)
set_means sectors frame (x ∷ xs) (y ∷ ys) (suc dst) k c e h m zero = h 0
set_means sectors frame (x ∷ xs) (y ∷ ys) (suc dst) k c e h m (suc r) = set_means sectors frame xs ys dst k c (omega (arith, e)) (λ q. h (suc q)) m r

-- a register is set, and what is known of it
abbrev pub IsWord : Option ℕ → Type 0
IsWord c = (w : ℕ) → c ≡ Some w → w < 2 ^ 64

pub word_is : (x : ℕ) → x < 2 ^ 64 → IsWord (Some x)
word_is x lt w e = let same : x ≡ w = cc in rw (← same) lt

pub unset_is : IsWord None
unset_is w e = absurd (let bad : None ≡ Some w = e in cc)

pub set_stands : (sectors frame : ℕ) (known : Abstract) (registers stack : List (Option ℕ)) (dst : ℕ) (k : Kind) (c : Option ℕ) → length known.values ≡ 11
    → IsWord c → Means sectors frame k c → Stands sectors frame known registers stack → Stands sectors frame (with_value known dst k) (set registers dst c) stack
set_stands sectors frame known registers stack dst k c long w m h = record {
  words = record {
    long = length-set registers dst c ∙ h.words.long;
    words = each_set IsWord registers dst c None h.words.words w;
  };
  cells = h.cells;
  values = set_means sectors frame known.values registers dst k c (long ∙ sym h.words.long) h.values m;
  groups = h.groups;
}

pub answered_stands : (sectors frame : ℕ) (known : Abstract) (registers stack : List (Option ℕ)) (k : Kind) (x : ℕ) → length known.values ≡ 11 → x < 2 ^ 64
    → Means sectors frame k (Some x) → Stands sectors frame known registers stack → Stands sectors frame (after_answer known k) (with_answer registers x) stack
answered_stands sectors frame known registers stack k x long lt m h =
    let k0 = with_value known 0 k in let r0 = set registers 0 (Some x) in let e0 : length k0.values ≡ 11 = length-set known.values 0 k ∙ long in
    let h0 = set_stands sectors frame known registers stack 0 k (Some x) long (word_is x lt) m h in
    let k1 = with_value k0 1 Unset in let r1 = set r0 1 None in let e1 : length k1.values ≡ 11 = length-set k0.values 1 Unset ∙ e0 in
    let h1 = set_stands sectors frame k0 r0 stack 1 Unset None e0 unset_is tt h0 in
    let k2 = with_value k1 2 Unset in let r2 = set r1 2 None in let e2 : length k2.values ≡ 11 = length-set k1.values 2 Unset ∙ e1 in
    let h2 = set_stands sectors frame k1 r1 stack 2 Unset None e1 unset_is tt h1 in
    let k3 = with_value k2 3 Unset in let r3 = set r2 3 None in let e3 : length k3.values ≡ 11 = length-set k2.values 3 Unset ∙ e2 in
    let h3 = set_stands sectors frame k2 r2 stack 3 Unset None e2 unset_is tt h2 in
    let k4 = with_value k3 4 Unset in let r4 = set r3 4 None in let e4 : length k4.values ≡ 11 = length-set k3.values 4 Unset ∙ e3 in
    let h4 = set_stands sectors frame k3 r3 stack 4 Unset None e3 unset_is tt h3 in
    set_stands sectors frame k4 r4 stack 5 Unset None e4 unset_is tt h4

-- an instruction that sets a register
pub set_goes : (sectors : ℕ) (known : Abstract) (m : Parts) (list : List (Check MachineFault)) (n dst x : ℕ) (k : Kind) → first_failing list ≡ None
    → IsState known → Stands sectors (number m) known m.registers m.stack → length m.turns ≡ 4096 → x < 2 ^ 64 → Means sectors (number m) k (Some x)
    → Goes sectors m ((m.slot + n, with_value known dst k) ∷ []) (after_checks (machine m) list (set_and_go n (machine m) dst x))
set_goes sectors known m list n dst x k passes fits h turns lt means =
    let to : Parts = record { slot = m.slot + n; registers = set m.registers dst (Some x); below = m.below; caller = m.caller; stack = m.stack; turns = m.turns; codes = m.codes } in
    let stands = set_stands sectors (number m) known m.registers m.stack dst k (Some x) fits.registers (word_is x lt) means h in
    subst (Goes sectors m ((m.slot + n, with_value known dst k) ∷ [])) (sym (tested_passes (machine m) list (set_and_go n (machine m) dst x) passes))
    (goes_first sectors (with_value known dst k) to [] stands turns)

-- what a register means that is set

pub not_unset : (b : Bool) → not b ≡ true → b ≡ false
not_unset true e = absurd (let bad : false ≡ true = e in cc)
not_unset false e = refl

pub reads_set : (sectors frame : ℕ) (known : Abstract) (registers : List (Option ℕ)) (list : List ℕ) → ((r : ℕ) → Means sectors frame (value known r) (get_or registers r None))
    → are_set known list ≡ true → list_all (λ r. is_some (get_or registers r None)) list ≡ true
reads_set sectors frame known registers [] h e = refl
reads_set sectors frame known registers (r ∷ rest) h e =
    let both = and_parts (not (is_unknown (value known r))) (are_set known rest) e in
    let means = means_word sectors frame (value known r) (get_or registers r None) (not_unset (is_unknown (value known r)) both.0) (h r) in
    rw means.1 (reads_set sectors frame known registers rest h both.1)

pub described : (sectors frame : ℕ) (k : Kind) (c : Option ℕ) → is_unknown k ≡ false → Means sectors frame k c → Describes sectors frame k (unwrap_or c 0)
described sectors frame k c e m =
    let h = means_word sectors frame k c e m in
    rw h.1 h.2

-- the words of a value, of a register that is 0 where it is unset
pub words_has : (sectors frame : ℕ) (k : Kind) (c : Option ℕ) → IsWord c → Means sectors frame k c → HasWord (words k) (unwrap_or c 0)
words_has sectors frame (Num x) c w m = described sectors frame (Num x) c refl m
words_has sectors frame k c w m = any_has c w
  where
    any_has : (c : Option ℕ) → IsWord c → HasWord any_word (unwrap_or c 0)
    any_has None w = word_in 0 (2 ^ 64 - 1) 0 (omega arith) (omega arith) (omega arith)
    any_has (Some x) w = let lt : x < 2 ^ 64 = w x refl in word_in 0 (2 ^ 64 - 1) x (omega arith) (omega arith) (omega (arith, lt))

-- a pointer or a number that is within its bounds is a word
pub described_word : (sectors frame : ℕ) (k : Kind) (w : ℕ) → AreFew sectors frame → is_unknown k ≡ false → IsBounded k → Describes sectors frame k w → w < 2 ^ 64
described_word sectors frame Unset w few e b d = absurd (let bad : true ≡ false = e in cc)
described_word sectors frame Word w few e b d = absurd (let bad : true ≡ false = e in cc)
described_word sectors frame (Num x) w few e b d = omega (arith, b.words.most, d.word.upto)
described_word sectors frame (Ctx o) w few e b d = omega (arith, b, d)
described_word sectors frame (Stack o) w few e b d = omega (arith, b, d, few.frames)
described_word sectors frame (Sector x) w few e b d = omega (arith, b.most, d.2, d.3.upto, d.4, few.device)
described_word sectors frame SectorOrNull w few e b (inl z) = omega (arith, z)
described_word sectors frame SectorOrNull w few e b (inr d) = omega (arith, d.1, d.2, few.device)
