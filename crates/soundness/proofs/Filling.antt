-- A machine in which each unset byte of a stack is 0 instead: what covers the one covers the other.
use Rattle.std.proofs.Common.{◌≡◌, ◌<◌, ℕ, zero, suc, ◌+◌, ◌-◌, ◌*◌, true, List, [], ◌∷◌, length, map, get_or, Option, None, Some, is_some, refl, sym, ap, ◌∙◌, subst, arith}
use Rattle.std.proofs.lemmas.List.{length-map}
use Rattle.base.specs.Numbers.{number_at}
use Rattle.bpf_isa.specs.declared.instr.Instr.{Instr}
use Rattle.machine.specs.State.{Caller, Frame, State}
use Rattle.machine.specs.Guards.{filled_frame, filled}
use Rattle.machine.proofs.Filled.{fill}
use Rattle.ranges.specs.Groups.{GroupKind, Marked, Spilled}
use Rattle.ranges.specs.States.{Abstract}
use Rattle.ranges.specs.Order.{Each}
use Rattle.soundness.specs.Meaning.{Means, GroupMeans, CoversFrame, frame_number, last_stack, bare}
use Rattle.soundness.specs.Machines.{IsStack, first_caller, IsMachine}
use Rattle.soundness.specs.Callers.{registers_after, Waits, AreWaiting}
use Rattle.soundness.specs.Laws.{IsKnown}

-- stacks

set_kept : (stack : List (Option ℕ)) (q : ℕ) → is_some (get_or stack q None) ≡ true → is_some (get_or (map fill stack) q None) ≡ true
set_kept [] q e = e
set_kept (c ∷ stack) zero e = refl
set_kept (c ∷ stack) (suc q) e = set_kept stack q e

bare_kept : (stack : List (Option ℕ)) → map bare (map fill stack) ≡ map bare stack
bare_kept [] = refl
bare_kept (c ∷ stack) = ap (λ (rest : List ℕ). bare c ∷ rest) (bare_kept stack)

filled_bytes : (stack : List (Option ℕ)) → ((p b : ℕ) → get_or stack p None ≡ Some b → b < 256) → (p b : ℕ) → get_or (map fill stack) p None ≡ Some b → b < 256
filled_bytes [] h p b e = h p b e
filled_bytes (None ∷ stack) h zero b e = let same : 0 ≡ b = cc in omega (arith, same)
filled_bytes (Some x ∷ stack) h zero b e = h 0 b e
filled_bytes (c ∷ stack) h (suc p) b e = filled_bytes stack (λ q x f. h (suc q) x f) p b e

filled_stack : (stack : List (Option ℕ)) → IsStack stack → IsStack (map fill stack)
filled_stack stack h = record { long = length-map stack fill ∙ h.long; bytes = filled_bytes stack h.bytes }

group_filled : (sectors frame : ℕ) (gk : GroupKind) (stack : List (Option ℕ)) (g : ℕ) → GroupMeans sectors frame gk stack g → GroupMeans sectors frame gk (map fill stack) g
group_filled sectors frame (Marked marks) stack g m = λ k lt e. set_kept stack (8 * g + k) (m k lt e)
group_filled sectors frame (Spilled k) stack g m = (
  (λ i lt. set_kept stack (8 * g + i) (m.0 i lt)),
  subst (λ (xs : List ℕ). Means sectors frame k (Some (number_at 8 (8 * g) xs))) (sym (bare_kept stack)) m.1,
)

frame_filled : (sectors frame : ℕ) (known : Abstract) (words stack : List (Option ℕ)) → CoversFrame sectors frame known words stack → CoversFrame sectors frame known words (map fill stack)
frame_filled sectors frame known words stack h = record {
  registers = h.registers;
  groups = λ g. group_filled sectors frame (get_or known.groups g (Marked [])) stack g (h.groups g);
}

-- frames

last_filled : (frames : List Frame) → last_stack (map filled_frame frames) ≡ map fill (last_stack frames)
last_filled [] = refl
last_filled (f ∷ []) = refl
last_filled (f ∷ g ∷ rest) = last_filled (g ∷ rest)

each_filled : (frames : List Frame) → Each (λ f. IsStack f.stack) frames → Each (λ f. IsStack f.stack) (map filled_frame frames)
each_filled [] a = tt
each_filled (f ∷ rest) a = (filled_stack f.stack a.0, each_filled rest a.1)

first_filled : (frames : List Frame) → first_caller (map filled_frame frames) ≡ first_caller frames
first_filled [] = refl
first_filled (f ∷ rest) = refl

waits_filled : (program : List (Option Instr)) (sectors : ℕ) (table : List (Option Abstract)) (frame entry enters : ℕ) (stack : List (Option ℕ)) (c : Caller)
    → Waits program sectors table frame entry enters stack c → Waits program sectors table frame entry enters (map fill stack) c
waits_filled program sectors table frame entry enters stack c w = record {
  call = w.call;
  reached = w.reached;
  calls = w.calls;
  back = w.back;
  registers = w.registers;
  known = w.known;
  listed = w.listed;
  covers = λ x lt. frame_filled sectors frame w.known (registers_after c x) stack (w.covers x lt);
}

waiting_filled : (program : List (Option Instr)) (sectors : ℕ) (table : List (Option Abstract)) (frame entry : ℕ) (frames : List Frame) (slot : ℕ)
    → AreWaiting program sectors table frame entry frames slot → AreWaiting program sectors table frame entry (map filled_frame frames) slot
waiting_filled program sectors table frame entry [] slot w = w
waiting_filled program sectors table frame entry (f ∷ []) slot w = w
waiting_filled program sectors table frame entry (f ∷ g ∷ rest) slot w =
    (w.0, w.1, w.2, waits_filled program sectors table frame entry w.1 f.stack w.0 w.3, waiting_filled program sectors table (frame + 1) w.1 (g ∷ rest) slot w.4)

-- machines

machine_filled : (s : State) → IsMachine s → IsMachine (filled s)
unfolding filled
machine_filled s h =
    let long = length-map s.frames filled_frame in
    let some = h.some in let most = h.most in
    record {
      registers = h.registers;
      some = omega (arith, long, some);
      most = omega (arith, long, most);
      stacks = each_filled s.frames h.stacks;
      outermost = first_filled s.frames ∙ h.outermost;
      turns = h.turns;
    }

pub known_filled : (program : List (Option Instr)) (sectors : ℕ) (table : List (Option Abstract)) (s : State) → IsKnown program sectors table s → IsKnown program sectors table (filled s)
unfolding filled
known_filled program sectors table s h = record {
  known = h.known;
  listed = h.listed;
  covers = covers;
  whole = machine_filled s h.whole;
  limit = h.limit;
  here = h.here;
  waiting = waiting_filled program sectors table 0 0 s.frames s.slot h.waiting;
}
  where
    here : CoversFrame sectors (frame_number s.frames) h.known s.registers (map fill (last_stack s.frames))
    here = frame_filled sectors (frame_number s.frames) h.known s.registers (last_stack s.frames) h.covers

    counted : frame_number (map filled_frame s.frames) ≡ frame_number s.frames
    counted = ap (λ (n : ℕ). n - 1) (length-map s.frames filled_frame)

    covers : CoversFrame sectors (frame_number (map filled_frame s.frames)) h.known s.registers (last_stack (map filled_frame s.frames))
    covers =
        subst (λ (n : ℕ). CoversFrame sectors n h.known s.registers (last_stack (map filled_frame s.frames))) (sym counted)
        (subst (λ (cells : List (Option ℕ)). CoversFrame sectors (frame_number s.frames) h.known s.registers cells) (sym (last_filled s.frames)) here)

cells_twice : (stack : List (Option ℕ)) → map fill (map fill stack) ≡ map fill stack
cells_twice [] = refl
cells_twice (c ∷ stack) = ap (λ (rest : List (Option ℕ)). fill c ∷ rest) (cells_twice stack)

frames_twice : (frames : List Frame) → map filled_frame (map filled_frame frames) ≡ map filled_frame frames
frames_twice [] = refl
frames_twice (f ∷ rest) = λ d. record { stack = cells_twice f.stack d; caller = f.caller } ∷ frames_twice rest d

pub filled_twice : (s : State) → filled (filled s) ≡ filled s
unfolding filled
filled_twice s = λ d. record { slot = s.slot; registers = s.registers; frames = frames_twice s.frames d; turns = s.turns; codes = s.codes }

pub frames_as_many : (s : State) → length (filled s).frames ≡ length s.frames
unfolding filled
frames_as_many s = length-map s.frames filled_frame
