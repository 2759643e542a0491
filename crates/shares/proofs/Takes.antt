-- What a hand keeps over its steps, and what they come to in a take.
use Rattle.std.proofs.Common.{◌≡◌, ℕ, zero, suc, ◌+◌, ◌<◌, ◌≤◌, true, false, List, [], ◌∷◌, ◌++◌, length, map, flat_map, All, Option, None, Some, IfSome, IfNone, option_to_list, inl, inr, slice_set, slice_index_or, sym, refl, ap, ◌∙◌, subst, ⊎_elim, append_assoc, append-nil, length-append, arith}
use Rattle.std.proofs.lemmas.Bool.Decides.{leb_tells}
use Rattle.std.proofs.lemmas.List.Elements.{All-append}
use Rattle.shares.specs.declared.view.SeatStep.{SeatStep}
use Rattle.shares.specs.declared.view.SeatStep.TheVariants.{Drew}
use Rattle.shares.specs.Steps.{posted_it, late_draws}
use Rattle.shares.specs.Seats.{SeatValue, DrawsNone, taken_blocks, times}
use Rattle.shares.specs.declared.deque.Phase.{Phase}
use Rattle.shares.specs.declared.deque.Phase.TheVariants.{Open, Closing, Closed, Refused}
use Rattle.shares.specs.Hands.{HandValue, FitsMarks, is_open, HasMore, PostsNothing, GivesOwn, KeepsBlock, IsStocked, IsTake}
use Rattle.shares.proofs.Lists.{total_append, total_snoc}
use Rattle.shares.proofs.Seats.{times_append}

-- steps that post nothing

pub posts_none : (steps : List SeatStep) → PostsNothing steps steps
posts_none steps = record { made = []; steps = sym (append-nil steps); silent = λ image. refl }

pub posts_after : (first before after : List SeatStep) (made : SeatStep) → PostsNothing first before → after ≡ before ++ made ∷ [] → ((image : ℕ) → posted_it image made ≡ 0) → PostsNothing first after
posts_after first before after made h e silent = record {
  made = h.made ++ made ∷ [];
  steps = e ∙ ap (λ (s : List SeatStep). s ++ made ∷ []) h.steps ∙ append_assoc first h.made (made ∷ []);
  silent = λ image. omega (arith, total_snoc (posted_it image) h.made made, h.silent image, silent image);
}

pub posts_at_end : (first : List SeatStep) (seat after : SeatValue) → PostsNothing first seat.steps → DrawsNone seat after → PostsNothing first after.steps
posts_at_end first seat after h none = ⊎_elim
    (λ t. let ended = t.1 in subst (PostsNothing first) (sym (none.0 (omega arith))) h)
    (λ t. let early = t.1 in let step = none.1 (λ ended. omega arith) in posts_after first seat.steps after.steps (Drew step.0) h step.2 (λ image. refl))
    (leb_tells 1 (late_draws seat.board.blocks seat.steps))

-- a hand that keeps blocks

pub stocked_self : (hand : HandValue) (seat : SeatValue) → IsStocked 0 hand seat hand seat
stocked_self hand seat = record {
  drawn = [];
  pushed = [];
  draws = sym (append-nil (taken_blocks seat));
  few = omega arith;
  pushes = sym (append-nil hand.pushed);
  gets = refl;
  together = λ x. omega arith;
  quiet = posts_none seat.steps;
}

pub stocked_seen : (most more : ℕ) (hand now : HandValue) (seat seen after : SeatValue) → IsStocked most hand seat now seen → most ≤ more → taken_blocks after ≡ taken_blocks seen → PostsNothing seat.steps after.steps → IsStocked more hand seat now after
stocked_seen most more hand now seat seen after h le same quiet = record {
  drawn = h.drawn;
  pushed = h.pushed;
  draws = same ∙ h.draws;
  few = omega (arith, h.few);
  pushes = h.pushes;
  gets = h.gets;
  together = h.together;
  quiet = quiet;
}

pub stocked_more : (most : ℕ) (hand now next : HandValue) (seat seen after : SeatValue) (block : ℕ) → IsStocked most hand seat now seen → taken_blocks after ≡ taken_blocks seen ++ block ∷ [] → KeepsBlock now block next → PostsNothing seat.steps after.steps
    → IsStocked (most + 1) hand seat next after
stocked_more most hand now next seat seen after block h drew keeps quiet = ⊎_elim
    (λ (k : (next.pushed ≡ now.pushed ++ block ∷ []) × (next.list ≡ now.list)).
    record {
      drawn = h.drawn ++ block ∷ [];
      pushed = h.pushed ++ block ∷ [];
      draws = draws;
      few = few;
      pushes = k.0 ∙ ap (λ (s : List ℕ). s ++ block ∷ []) h.pushes ∙ append_assoc hand.pushed h.pushed (block ∷ []);
      gets = keeps.0 ∙ h.gets;
      together = λ x. omega (arith, h.together x, times_append x h.drawn (block ∷ []), times_append x h.pushed (block ∷ []), ap (times x) k.1);
      quiet = quiet;
    })
    (λ (k : (next.pushed ≡ now.pushed) × (next.list ≡ now.list ++ block ∷ [])).
    record {
      drawn = h.drawn ++ block ∷ [];
      pushed = h.pushed;
      draws = draws;
      few = few;
      pushes = k.0 ∙ h.pushes;
      gets = keeps.0 ∙ h.gets;
      together = λ x. omega (arith, h.together x, times_append x h.drawn (block ∷ []), ap (times x) k.1, times_append x now.list (block ∷ []));
      quiet = quiet;
    })
    keeps.1
  where
    draws : taken_blocks after ≡ taken_blocks seat ++ (h.drawn ++ block ∷ [])
    draws = drew ∙ ap (λ (s : List ℕ). s ++ block ∷ []) h.draws ∙ append_assoc (taken_blocks seat) h.drawn (block ∷ [])

    few : length (h.drawn ++ block ∷ []) ≤ most + 1
    few = omega (arith, h.few, length-append h.drawn (block ∷ []))

pub kept_length : (now next : HandValue) (block most : ℕ) → KeepsBlock now block next → length now.list ≤ most → length next.list ≤ most + 1
kept_length now next block most keeps le = ⊎_elim (λ k. omega (arith, ap length k.1)) (λ k. omega (arith, ap length k.1, length-append now.list (block ∷ []))) keeps.1

-- which phase a test tells

pub open_is : (phase : Phase) → is_open phase ≡ true → phase ≡ Open
open_is Open e = refl
open_is Closing e = absurd (let bad : false ≡ true = e in cc)
open_is Closed e = absurd (let bad : false ≡ true = e in cc)
open_is Refused e = absurd (let bad : false ≡ true = e in cc)

-- an open hand pushed no mark on its deque, and got none
pub open_marks : (workers pushed got : ℕ) (phase : Phase) → is_open phase ≡ true → FitsMarks workers pushed got phase → (pushed ≡ 0) × (got ≡ 0)
open_marks workers pushed got Open e fits = fits
open_marks workers pushed got Closing e fits = absurd (let bad : false ≡ true = e in cc)
open_marks workers pushed got Closed e fits = absurd (let bad : false ≡ true = e in cc)
open_marks workers pushed got Refused e fits = absurd (let bad : false ≡ true = e in cc)

-- a take

pub take_own : (hand after : HandValue) (seat : SeatValue) (block : ℕ) → GivesOwn hand block after → IsTake hand seat (block ∷ []) after seat
take_own hand after seat block own = ⊎_elim
    (λ (k : (hand.list ≡ block ∷ after.list) × (after.got ≡ hand.got)).
    record {
      drawn = [];
      pushed = [];
      got = [];
      draws = sym (append-nil (taken_blocks seat));
      few = omega arith;
      pushes = own.0 ∙ sym (append-nil hand.pushed);
      gets = λ x. omega (arith, ap (times x) k.1);
      given = inl refl;
      together = λ x. omega (arith, ap (times x) k.0, times_append x (block ∷ []) after.list);
      quiet = posts_none seat.steps;
    })
    (λ (k : (after.list ≡ hand.list) × HasMore hand.got (block ∷ []) after.got).
    record {
      drawn = [];
      pushed = [];
      got = block ∷ [];
      draws = sym (append-nil (taken_blocks seat));
      few = omega arith;
      pushes = own.0 ∙ sym (append-nil hand.pushed);
      gets = k.1;
      given = inr refl;
      together = λ x. omega (arith, ap (times x) k.0);
      quiet = posts_none seat.steps;
    })
    own.1

pub take_drawn : (hand now after : HandValue) (seat drew done : SeatValue) (block : ℕ) → now ≡ hand → taken_blocks drew ≡ taken_blocks seat ++ block ∷ [] → PostsNothing seat.steps drew.steps → IsStocked 3 now drew after done
    → IsTake hand seat (block ∷ []) after done
take_drawn hand now after seat drew done block same draw quiet h = record {
  drawn = block ∷ h.drawn;
  pushed = h.pushed;
  got = [];
  draws = h.draws ∙ ap (λ (s : List ℕ). s ++ h.drawn) draw ∙ append_assoc (taken_blocks seat) (block ∷ []) h.drawn;
  few = omega (arith, h.few);
  pushes = h.pushes ∙ ap (λ (v : HandValue). v.pushed ++ h.pushed) same;
  gets = λ x. omega (arith, ap (times x) h.gets, ap (λ (v : HandValue). times x v.got) same);
  given = inl refl;
  together = λ x. omega (arith, h.together x, times_append x (block ∷ []) h.drawn, ap (λ (v : HandValue). times x v.list) same);
  quiet = record {
    made = quiet.made ++ h.quiet.made;
    steps = h.quiet.steps ∙ ap (λ (s : List SeatStep). s ++ h.quiet.made) quiet.steps ∙ append_assoc seat.steps quiet.made h.quiet.made;
    silent = λ image. omega (arith, total_append (posted_it image) quiet.made h.quiet.made, quiet.silent image, h.quiet.silent image);
  };
}

pub take_stolen : (hand now after : HandValue) (seat seen : SeatValue) (answer : Option ℕ) → now ≡ hand → taken_blocks seen ≡ taken_blocks seat → PostsNothing seat.steps seen.steps
    → IfNone answer (after ≡ now) → IfSome answer (λ block. (after.list ≡ now.list) × (after.pushed ≡ now.pushed) × HasMore now.got (block ∷ []) after.got)
    → IsTake hand seat (option_to_list answer) after seen
take_stolen hand now after seat seen None same drew quiet none some =
    let is : after ≡ hand = none ∙ same in
    record {
      drawn = [];
      pushed = [];
      got = [];
      draws = drew ∙ sym (append-nil (taken_blocks seat));
      few = omega arith;
      pushes = ap (λ (v : HandValue). v.pushed) is ∙ sym (append-nil hand.pushed);
      gets = λ x. omega (arith, ap (λ (v : HandValue). times x v.got) is);
      given = inl refl;
      together = λ x. omega (arith, ap (λ (v : HandValue). times x v.list) is);
      quiet = quiet;
    }
take_stolen hand now after seat seen (Some block) same drew quiet none some = record {
  drawn = [];
  pushed = [];
  got = block ∷ [];
  draws = drew ∙ sym (append-nil (taken_blocks seat));
  few = omega arith;
  pushes = some.1 ∙ ap (λ (v : HandValue). v.pushed) same ∙ sym (append-nil hand.pushed);
  gets = λ x. omega (arith, some.2 x, ap (λ (v : HandValue). times x v.got) same);
  given = inr refl;
  together = λ x. omega (arith, ap (times x) some.0, ap (λ (v : HandValue). times x v.list) same);
  quiet = quiet;
}

-- one of several lists is replaced
pub flat_set : {X : Type 0} (f : X → List ℕ) (x : ℕ) (xs : List X) (place : ℕ) (old new : X) → place < length xs → old ≡ slice_index_or xs place old
    → times x (flat_map f (slice_set xs place new)) + times x (f old) ≡ times x (flat_map f xs) + times x (f new)
flat_set f x [] place old new lt at = absurd (omega (arith, lt))
flat_set f x (y ∷ ys) zero old new lt at = omega (arith, times_append x (f new) (flat_map f ys), times_append x (f y) (flat_map f ys), ap (λ o. times x (f o)) at)
flat_set f x (y ∷ ys) (suc place) old new lt at =
    let rest = flat_set f x ys place old new (omega (arith, lt)) at in
    omega (arith, times_append x (f y) (flat_map f (slice_set ys place new)), times_append x (f y) (flat_map f ys), rest)

-- one element is replaced by one of the same name
pub named_set : {X N : Type 0} (f : X → N) (xs : List X) (place : ℕ) (old new : X) → old ≡ slice_index_or xs place old → f new ≡ f old → map f (slice_set xs place new) ≡ map f xs
named_set f [] place old new at same = refl
named_set f (y ∷ ys) zero old new at same = ap (λ n. n ∷ map f ys) (same ∙ ap f at)
named_set f (y ∷ ys) (suc place) old new at same = ap (λ ns. f y ∷ ns) (named_set f ys place old new at same)

-- and its list stays
pub flat_same : {X : Type 0} (f : X → List ℕ) (xs : List X) (place : ℕ) (old new : X) → old ≡ slice_index_or xs place old → f new ≡ f old → flat_map f (slice_set xs place new) ≡ flat_map f xs
flat_same f [] place old new at same = refl
flat_same f (y ∷ ys) zero old new at same = ap (λ l. l ++ flat_map f ys) (same ∙ ap f at)
flat_same f (y ∷ ys) (suc place) old new at same = ap (λ l. f y ++ l) (flat_same f ys place old new at same)

-- a list with one more block
pub all_more : (blocks : ℕ) (list after : List ℕ) (block back : ℕ) → All (λ (b : ℕ). b < blocks) list → after ≡ list ++ back ∷ [] → back ≡ block → block < blocks → All (λ (b : ℕ). b < blocks) after
all_more blocks list after block back all e same lower =
    subst (All (λ (b : ℕ). b < blocks)) (sym e) (All-append (λ (b : ℕ). b < blocks) list (back ∷ []) all one)
  where
    one : All (λ (b : ℕ). b < blocks) (back ∷ [])
    one zero d within = omega (arith, same, lower)
    one (suc i) d within = absurd (omega (arith, within))
