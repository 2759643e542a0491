-- Lists of frames, and which of them wait.
use Rattle.std.proofs.Common.{◌≡◌, ◌<◌, ◌≤◌, ℕ, ◌+◌, ◌-◌, true, List, [], ◌∷◌, ◌++◌, length, length-append, take, slice_get, Option, None, Some, is_some, refl, sym, ap, ◌∙◌, inr, subst, arith}
use Rattle.std.specs.Option.{option_and_then}
use Rattle.bpf_isa.specs.declared.instr.Instr.{Instr}
use Rattle.bpf_shape.specs.Edges.{control}
use Rattle.bpf_shape.specs.Calls.{callee}
use Rattle.bpf_shape.specs.Paths.{Leads, Reaches}
use Rattle.bpf_shape.specs.Chains.{IsFourth}
use Rattle.bpf_shape.specs.Rules.{Breaks, IsShaped}
use Rattle.bpf_shape.proofs.Walks.{reaches_more}
use Rattle.machine.specs.State.{Caller, Frame, State}
use Rattle.machine.specs.Step.{caller_of}
use Rattle.ranges.specs.States.{Abstract}
use Rattle.ranges.specs.Order.{Each}
use Rattle.soundness.specs.Machines.{AreRegisters, IsStack, first_caller, IsMachine}
use Rattle.soundness.specs.Callers.{Waits, AreWaiting}
use Rattle.soundness.proofs.Standing.{Parts, machine, frames_of, all_frames, number_is}
use Rattle.soundness.proofs.Programs.{after_call}

-- the last frame of a list

pub record Split (frames : List Frame) : Type 0 where
  pub below : List Frame
  pub last : Frame
  pub is : frames ≡ below ++ last ∷ []

pub split_last : (frames : List Frame) → 1 ≤ length frames → Split frames
split_last [] some = absurd (omega (arith, some))
split_last (f ∷ []) some = record { below = []; last = f; is = refl }
split_last (f ∷ g ∷ rest) some =
    let more = split_last (g ∷ rest) (omega arith) in
    record { below = f ∷ more.below; last = more.last; is = ap (λ (fs : List Frame). f ∷ fs) more.is }

last_there : (below : List Frame) (f : Frame) → slice_get (below ++ f ∷ []) (length below) ≡ Some f
last_there [] f = refl
last_there (g ∷ rest) f = last_there rest f

pub last_got : (below : List Frame) (f : Frame) → slice_get (below ++ f ∷ []) (length (below ++ f ∷ []) - 1) ≡ Some f
last_got below f = ap (λ (n : ℕ). slice_get (below ++ f ∷ []) n) (number_is below f) ∙ last_there below f

pub caller_is : (m : Parts) → caller_of (all_frames m) ≡ m.caller
caller_is m = ap (λ (o : Option Frame). option_and_then (λ f. f.caller) o) (last_got m.below (record { stack = m.stack; caller = m.caller }))

taken : (below : List Frame) (f : Frame) → take (length below) (below ++ f ∷ []) ≡ below
taken [] f = refl
taken (g ∷ rest) f = ap (λ (fs : List Frame). g ∷ fs) (taken rest f)

-- the frames below it
pub without_last : (below : List Frame) (f : Frame) → take (length (below ++ f ∷ []) - 1) (below ++ f ∷ []) ≡ below
without_last below f = ap (λ (n : ℕ). take n (below ++ f ∷ [])) (number_is below f) ∙ taken below f

pub length_of : (below : List Frame) (f : Frame) → length (below ++ f ∷ []) ≡ length below + 1
length_of below f = length-append below (f ∷ [])

-- what holds of each frame

pub each_below : (P : Frame → Type 0) (below : List Frame) (f : Frame) → Each P (below ++ f ∷ []) → Each P below
each_below P [] f a = tt
each_below P (g ∷ rest) f a = (a.0, each_below P rest f a.1)

pub each_last : (P : Frame → Type 0) (below : List Frame) (f : Frame) → Each P (below ++ f ∷ []) → P f
each_last P [] f a = a.0
each_last P (g ∷ rest) f a = each_last P rest f a.1

pub each_pushed : (P : Frame → Type 0) (below : List Frame) (f : Frame) → Each P below → P f → Each P (below ++ f ∷ [])
each_pushed P [] f a p = (p, tt)
each_pushed P (g ∷ rest) f a p = (a.0, each_pushed P rest f a.1 p)

first_same : (below : List Frame) (f g : Frame) → g.caller ≡ f.caller → first_caller (below ++ g ∷ []) ≡ first_caller (below ++ f ∷ [])
first_same [] f g e = e
first_same (a ∷ rest) f g e = refl

pub first_pushed : (below : List Frame) (f g : Frame) → first_caller ((below ++ f ∷ []) ++ g ∷ []) ≡ first_caller (below ++ f ∷ [])
first_pushed [] f g = refl
first_pushed (a ∷ rest) f g = refl

-- a machine of which only the stack at hand has changed
pub whole_kept : (m : Parts) (t : State) (stack : List (Option ℕ)) → IsMachine (machine m) → AreRegisters t.registers → t.frames ≡ frames_of m.below m.caller stack → IsStack stack
    → length t.turns ≡ 4096 → IsMachine t
whole_kept m t stack whole words frames cells turns =
    let f : Frame = record { stack = m.stack; caller = m.caller } in
    let g : Frame = record { stack = stack; caller = m.caller } in
    let had = length_of m.below f in let has = length_of m.below g in
    let some = whole.some in let most = whole.most in
    record {
      registers = words;
      some = rw frames (omega (arith, has));
      most = rw frames (omega (arith, had, has, most));
      stacks = rw frames (each_pushed (λ x. IsStack x.stack) m.below g (each_below (λ x. IsStack x.stack) m.below f whole.stacks) cells);
      outermost = rw frames (first_same m.below f g refl ∙ whole.outermost);
      turns = turns;
    }

-- frames that wait

module _ (program : List (Option Instr)) (sectors : ℕ) (table : List (Option Abstract)) where
  -- the frame at hand goes on along an edge
  pub waiting_kept : (frame entry : ℕ) (below : List Frame) (f g : Frame) (s t : ℕ) → AreWaiting program sectors table frame entry (below ++ f ∷ []) s
      → Leads (control program s) t → g.caller ≡ f.caller → AreWaiting program sectors table frame entry (below ++ g ∷ []) t
  waiting_kept frame entry [] f g s t w leads e = reaches_more (control program) entry s t w leads
  waiting_kept frame entry (a ∷ []) f g s t w leads e = (w.0, w.1, e ∙ w.2, w.3, reaches_more (control program) w.1 s t w.4 leads)
  waiting_kept frame entry (a ∷ b ∷ rest) f g s t w leads e = (w.0, w.1, w.2, w.3, waiting_kept (frame + 1) w.1 (b ∷ rest) f g s t w.4 leads e)

  at_entry : (entry : ℕ) → Reaches (control program) entry entry
  at_entry entry = record { slots = []; walk = tt; ends = refl }

  -- it waits, and a new frame begins
  pub waiting_pushed : (frame entry n : ℕ) (below : List Frame) (f new : Frame) (c : Caller) (slot enters : ℕ) → n ≡ frame + length below
      → AreWaiting program sectors table frame entry (below ++ f ∷ []) slot
      → ((from : ℕ) → Reaches (control program) from slot → Waits program sectors table n from enters f.stack c) → new.caller ≡ Some c
      → AreWaiting program sectors table frame entry ((below ++ f ∷ []) ++ new ∷ []) enters
  waiting_pushed frame entry n [] f new c slot enters place w waits e =
      let here : n ≡ frame = omega (arith, place) in
      (c, enters, e, subst (λ (k : ℕ). Waits program sectors table k entry enters f.stack c) here (waits entry w), at_entry enters)
  waiting_pushed frame entry n (a ∷ []) f new c slot enters place w waits e =
      (w.0, w.1, w.2, w.3, waiting_pushed (frame + 1) w.1 n [] f new c slot enters (omega (arith, place)) w.4 waits e)
  waiting_pushed frame entry n (a ∷ b ∷ rest) f new c slot enters place w waits e =
      (w.0, w.1, w.2, w.3, waiting_pushed (frame + 1) w.1 n (b ∷ rest) f new c slot enters (omega (arith, place)) w.4 waits e)

  -- the frame at hand ends, and the one below goes on
  pub record Popped (frame entry n : ℕ) (below : List Frame) (f : Frame) (c : Caller) : Type 0 where
    pub from : ℕ
    pub enters : ℕ
    pub waits : Waits program sectors table n from enters f.stack c
    pub waiting : AreWaiting program sectors table frame entry (below ++ f ∷ []) c.slot

  beyond : (n from enters : ℕ) (stack : List (Option ℕ)) (c : Caller) → Waits program sectors table n from enters stack c → Reaches (control program) from c.slot
  beyond n from enters stack c w =
      rw w.back (reaches_more (control program) from w.call (w.call + 1) w.reached (after_call program w.call enters w.calls))

  pub waiting_popped : (frame entry n : ℕ) (below : List Frame) (f g : Frame) (c : Caller) (slot : ℕ) → n ≡ frame + length below
      → AreWaiting program sectors table frame entry ((below ++ f ∷ []) ++ g ∷ []) slot → g.caller ≡ Some c → Popped frame entry n below f c
  waiting_popped frame entry n [] f g c slot place w e =
      let here : frame ≡ n = omega (arith, place) in
      let both : Some w.0 ≡ Some c = sym w.2 ∙ e in
      let same : w.0 ≡ c = cc in
      let one : Waits program sectors table n entry w.1 f.stack w.0 = subst (λ (k : ℕ). Waits program sectors table k entry w.1 f.stack w.0) here w.3 in
      let two : Waits program sectors table n entry w.1 f.stack c = subst (λ (d : Caller). Waits program sectors table n entry w.1 f.stack d) same one in
      record { from = entry; enters = w.1; waits = two; waiting = beyond n entry w.1 f.stack c two }
  waiting_popped frame entry n (a ∷ []) f g c slot place w e =
      let p = waiting_popped (frame + 1) w.1 n [] f g c slot (omega (arith, place)) w.4 e in
      record { from = p.from; enters = p.enters; waits = p.waits; waiting = (w.0, w.1, w.2, w.3, p.waiting) }
  waiting_popped frame entry n (a ∷ b ∷ rest) f g c slot place w e =
      let p = waiting_popped (frame + 1) w.1 n (b ∷ rest) f g c slot (omega (arith, place)) w.4 e in
      record { from = p.from; enters = p.enters; waits = p.waits; waiting = (w.0, w.1, w.2, w.3, p.waiting) }

  -- a frame without a caller is the outermost one
  pub alone : (frame entry : ℕ) (below : List Frame) (f : Frame) (slot : ℕ) → AreWaiting program sectors table frame entry (below ++ f ∷ []) slot → f.caller ≡ None
      → length below ≡ 0
  alone frame entry [] f slot w e = refl
  alone frame entry (a ∷ []) f slot w e = absurd (let bad : None ≡ Some w.0 = sym e ∙ w.2 in cc)
  alone frame entry (a ∷ b ∷ rest) f slot w e =
      let none : length (b ∷ rest) ≡ 0 = alone (frame + 1) w.1 (b ∷ rest) f slot w.4 e in
      absurd (omega (arith, none))

  -- in a program of right shape no local call is reached in the fourth frame
  pub not_deeper : (frames : List Frame) (slot enters : ℕ) → IsShaped true program → length frames ≤ 4 → AreWaiting program sectors table 0 0 frames slot
      → callee program slot ≡ Some enters → length frames < 4
  unfolding Breaks
  not_deeper [] slot enters shaped most w calls = absurd w
  not_deeper (a ∷ []) slot enters shaped most w calls = omega arith
  not_deeper (a ∷ b ∷ []) slot enters shaped most w calls = omega arith
  not_deeper (a ∷ b ∷ c ∷ []) slot enters shaped most w calls = omega arith
  not_deeper (a ∷ b ∷ c ∷ d ∷ []) slot enters shaped most w calls =
      let one = w.3 in let two = w.4.3 in let three = w.4.4.3 in
      let fourth : IsFourth program slot = record {
        first = one.call;
        second = two.call;
        third = three.call;
        reached = one.reached;
        chain = (
          record { entry = w.1; enters = one.calls; reached = two.reached; calls = ap is_some two.calls },
          (
            record { entry = w.4.1; enters = two.calls; reached = three.reached; calls = ap is_some three.calls },
            (record { entry = w.4.4.1; enters = three.calls; reached = w.4.4.4; calls = ap is_some calls }, tt),
          ),
        );
      } in
      absurd (shaped.calls slot (inr fourth))
  not_deeper (a ∷ b ∷ c ∷ d ∷ x ∷ rest) slot enters shaped most w calls = absurd (omega (arith, most))
