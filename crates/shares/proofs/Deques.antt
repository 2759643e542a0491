-- The rule of a deque is kept by pushes, pops, steals and parts that are given and taken back.
use Rattle.std.proofs.Common.{◌≡◌, ◌≢◌, ℕ, zero, suc, ◌+◌, ◌-◌, ◌<◌, ◌≤◌, ◌⊎◌, inl, inr, List, [], ◌∷◌, ◌++◌, length, map, replicate, All, slice_set, sym, refl, ap, ◌∙◌, subst, ⊎_elim, append_assoc, append-nil, length-append, arith}
use mathlib.Core.Option.{some, some-injective, some-ne-none}
use lib.ListN.{get_elem?}
use lib.Seq.{take-append_seam, drop-append_seam}
use Rattle.std.proofs.lemmas.Bool.Decides.{leb_tells}
use Rattle.std.proofs.lemmas.List.Elements.{All-append, All-take, All-drop}
use Rattle.crossbeam_deque.specs.Tasks.{Pushes, Takes, Finds, Forks, Merges}
use Rattle.crossbeam_deque.proofs.Lists.{at_set, at_snoc}
use Rattle.shares.specs.declared.deque.HeldBlocks.{HeldBlocks}
use Rattle.shares.specs.declared.deque.HeldBlocks.TheVariants.{Block, Mark}
use Rattle.shares.specs.declared.deque.Port.{Port}
use Rattle.shares.specs.Steps.{total}
use Rattle.shares.specs.Seats.{times}
use Rattle.shares.specs.Deques.{port, DequeRule, IsAllGot, blocks_and_marks, with_block, with_mark, pushes_one, Steals, Pops, Drains}
use Rattle.shares.specs.Owned.{DequeValue, deque_value, with_got, AddsLeft}
use Rattle.shares.proofs.Lists.{total_set, total_snoc, total_alone, total_part, total_at_most}
use Rattle.shares.proofs.Seats.{times_append}

pub length_set : {A : Type 0} (xs : List A) (i : ℕ) (x : A) → length (slice_set xs i x) ≡ length xs
length_set [] i x = refl
length_set (y ∷ ys) zero x = omega arith
length_set (y ∷ ys) (suc i) x = omega (arith, length_set ys i x)

abbrev Below : ℕ → List ℕ → Type 0
Below blocks xs = All (λ (x : ℕ). x < blocks) xs

one_below : (blocks b : ℕ) → b < blocks → Below blocks (b ∷ [])
one_below blocks b lt zero d within = lt
one_below blocks b lt (suc i) d within = absurd (omega (arith, within))

-- the first of the blocks that are still there
first_below : (blocks : ℕ) (given rest : List ℕ) (b : ℕ) → Below blocks (given ++ (b ∷ rest)) → b < blocks
first_below blocks [] rest b h = h 0 b (omega arith)
first_below blocks (x ∷ given) rest b h = first_below blocks given rest b (λ i d within. h (suc i) d (omega (arith, within)))

-- blocks and marks

pub none_held : (waiting : List ℕ) (marks : ℕ) → [] ≡ blocks_and_marks waiting marks → (waiting ≡ []) × (marks ≡ 0)
none_held [] zero e = (refl, refl)
none_held [] (suc m) e = absurd (omega (arith, ap length e))
none_held (b ∷ bs) m e = absurd (omega (arith, ap length e))

block_beyond : (waiting : List ℕ) (marks b : ℕ) → marks ≡ 0 → blocks_and_marks waiting marks ++ Block b ∷ [] ≡ blocks_and_marks (waiting ++ b ∷ []) marks
block_beyond [] zero b e = refl
block_beyond [] (suc m) b e = absurd (omega (arith, e))
block_beyond (x ∷ xs) marks b e = ap (λ (hs : List HeldBlocks). Block x ∷ hs) (block_beyond xs marks b e)

mark_beyond : (waiting : List ℕ) (marks : ℕ) → blocks_and_marks waiting marks ++ Mark ∷ [] ≡ blocks_and_marks waiting (marks + 1)
mark_beyond [] zero = refl
mark_beyond [] (suc m) = let more : suc m + 1 ≡ suc (m + 1) = omega arith in rw more (ap (λ (hs : List HeldBlocks). Mark ∷ hs) (mark_beyond [] m))
mark_beyond (x ∷ xs) marks = ap (λ (hs : List HeldBlocks). Block x ∷ hs) (mark_beyond xs marks)

-- what stands at the front of a deque is its first block, or a mark where there is no block
pub record BlockFirst (waiting : List ℕ) (marks : ℕ) (x : HeldBlocks) (items : List HeldBlocks) : Type 0 where
  pub block : ℕ
  pub rest : List ℕ
  pub waiting_is : waiting ≡ block ∷ rest
  pub is : x ≡ Block block
  pub holding : items ≡ blocks_and_marks rest marks

pub record MarkFirst (waiting : List ℕ) (marks : ℕ) (x : HeldBlocks) (items : List HeldBlocks) : Type 0 where
  pub fewer : ℕ
  pub waiting_is : waiting ≡ []
  pub marks_are : marks ≡ fewer + 1
  pub is : x ≡ Mark
  pub holding : items ≡ blocks_and_marks [] fewer

front : (waiting : List ℕ) (marks : ℕ) (x : HeldBlocks) (items : List HeldBlocks) → x ∷ items ≡ blocks_and_marks waiting marks → BlockFirst waiting marks x items ⊎ MarkFirst waiting marks x items
front [] zero x items e = absurd (omega (arith, ap length e))
front [] (suc m) x items e =
    let whole : x ∷ items ≡ Mark ∷ replicate m Mark = e in
    let head : x ≡ Mark = cc in
    let tail : items ≡ replicate m Mark = cc in
    inr (record { fewer = m; waiting_is = refl; marks_are = omega arith; is = head; holding = tail })
front (b ∷ bs) marks x items e =
    let whole : x ∷ items ≡ Block b ∷ blocks_and_marks bs marks = e in
    let head : x ≡ Block b = cc in
    let tail : items ≡ blocks_and_marks bs marks = cc in
    inl (record { block = b; rest = bs; waiting_is = refl; is = head; holding = tail })

-- the ports

-- a port without a part has got nothing
abbrev Idle : List Port → Type 0
Idle ports = (i : ℕ) (p : Port) → get_elem? ports i ≡ some p → p.parts ≡ 0 → p.got ≡ []

idle_set : (ports : List Port) (id : ℕ) (w : Port) → Idle ports → (w.parts ≡ 0 → w.got ≡ []) → Idle (slice_set ports id w)
idle_set ports id w idle one j p there none = ⊎_elim
    (λ (x : (j ≡ id) × (w ≡ p)). ap (λ (q : Port). q.got) (sym x.1) ∙ one (ap (λ (q : Port). q.parts) x.1 ∙ none))
    (λ (x : (j ≢ id) × (get_elem? ports j ≡ some p)). idle j p x.1 none)
    (at_set ports id j w p there)

-- a stealer's port has got no more marks than it has parts
abbrev Few : List Port → Type 0
Few ports = (i : ℕ) (p : Port) → 0 < i → get_elem? ports i ≡ some p → p.marks_got ≤ p.parts

few_set : (ports : List Port) (id : ℕ) (w : Port) → Few ports → (0 < id → w.marks_got ≤ w.parts) → Few (slice_set ports id w)
few_set ports id w few one j p later there = ⊎_elim
    (λ (x : (j ≡ id) × (w ≡ p)). subst (λ (q : Port). q.marks_got ≤ q.parts) x.1 (one (omega (arith, x.0, later))))
    (λ (x : (j ≢ id) × (get_elem? ports j ≡ some p)). few j p later x.1)
    (at_set ports id j w p there)

-- an owner and its stealers got no more marks than there are parts beside the owner's, and those that the owner got
few_got : (ports : List Port) (v : Port) → get_elem? ports 0 ≡ some v → Few ports → total (λ (p : Port). p.marks_got) ports + v.parts ≤ total (λ (p : Port). p.parts) ports + v.marks_got
few_got [] v at few = absurd (some-ne-none v (sym at))
few_got (p ∷ ps) v at few =
    let same : p ≡ v = some-injective p v at in
    let others = total_at_most (λ (q : Port). q.marks_got) (λ (q : Port). q.parts) ps (λ j q there. few (suc j) q (omega arith) there) in
    omega (arith, others, ap (λ (q : Port). q.parts) same, ap (λ (q : Port). q.marks_got) same)

-- what a fact says of the owner stays where a port has changed of which it says the same
same_owner : {A : Type 0} (f : Port → A) (ports : List Port) (id : ℕ) (v w : Port) (all : A) → get_elem? ports id ≡ some v → f w ≡ f v → ((o : Port) → get_elem? ports 0 ≡ some o → f o ≡ all)
    → (o : Port) → get_elem? (slice_set ports id w) 0 ≡ some o → f o ≡ all
same_owner f ports id v w all at same order owner there = ⊎_elim
    (λ (x : (0 ≡ id) × (w ≡ owner)). ap f (sym x.1) ∙ same ∙ order v (ap (λ i. get_elem? ports i) x.0 ∙ at))
    (λ (x : (0 ≢ id) × (get_elem? ports 0 ≡ some owner)). order owner x.1)
    (at_set ports id 0 w owner there)

-- and a number of the owner's that has grown with its port
more_owner : (f : Port → ℕ) (ports : List Port) (id : ℕ) (w : Port) (all : ℕ) → id ≡ 0 → f w ≡ all → (o : Port) → get_elem? (slice_set ports id w) 0 ≡ some o → f o ≡ all
more_owner f ports id w all owner_is e owner there = ⊎_elim
    (λ (x : (0 ≡ id) × (w ≡ owner)). ap f (sym x.1) ∙ e)
    (λ (x : (0 ≢ id) × (get_elem? ports 0 ≡ some owner)). absurd (x.0 (sym owner_is)))
    (at_set ports id 0 w owner there)

-- the first of some elements stays the first when one joins at the end
first_stays : (ports : List Port) (joins owner : Port) → 0 < length ports → get_elem? (ports ++ joins ∷ []) 0 ≡ some owner → get_elem? ports 0 ≡ some owner
first_stays [] joins owner some_port there = absurd (omega (arith, some_port))
first_stays (p ∷ ps) joins owner some_port there = there

pub begins : (blocks workers : ℕ) → 0 < workers → DequeRule blocks workers [] (port workers [] [] 0 0 ∷ [])
begins blocks workers some_worker = record {
  given = [];
  waiting = [];
  marks = 0;
  holding = refl;
  some_port = omega arith;
  in_order = λ owner there. ap (λ (p : Port). p.pushed) (sym (some-injective (port workers [] [] 0 0) owner there));
  each_once = λ x. refl;
  as_many = refl;
  below = λ i d within. absurd (omega (arith, within));
  all_parts = omega arith;
  idle = one;
  each_mark = λ owner there. ap (λ (p : Port). p.marks_pushed) (sym (some-injective (port workers [] [] 0 0) owner there));
  blocks_first = λ some_mark. refl;
  few_marks = none_else;
}
  where
    one : Idle (port workers [] [] 0 0 ∷ [])
    one zero p there none = ap (λ (q : Port). q.got) (sym (some-injective (port workers [] [] 0 0) p there))
    one (suc i) p there none = absurd (some-ne-none p (sym there))

    none_else : Few (port workers [] [] 0 0 ∷ [])
    none_else zero p later there = absurd (omega (arith, later))
    none_else (suc i) p later there = absurd (some-ne-none p (sym there))

-- the rule once a block has left at the front, to this port
module _ (blocks workers id : ℕ) (v : Port) (block : ℕ) (rest : List ℕ) (items all : List HeldBlocks) (ports : List Port) (some_part : 0 < v.parts) (h : DequeRule blocks workers all ports) (at : get_elem? ports id ≡ some v)
    (waiting_is : h.waiting ≡ block ∷ rest) (holding : items ≡ blocks_and_marks rest h.marks) where
  split : h.given ++ h.waiting ≡ (h.given ++ block ∷ []) ++ rest
  split = ap (λ (l : List ℕ). h.given ++ l) waiting_is ∙ sym (append_assoc h.given (block ∷ []) rest)

  no_mark_yet : total (λ (p : Port). p.marks_got) ports ≡ 0
  no_mark_yet = ⊎_elim (λ some_mark. absurd (omega (arith, ap length (h.blocks_first some_mark.1), ap length waiting_is))) (λ none. let lt = none.1 in omega arith) (leb_tells 1 (total (λ (p : Port). p.marks_got) ports))

  pub no_mark_of : v.marks_got ≡ 0
  no_mark_of = omega (arith, total_part (λ (p : Port). p.marks_got) ports id v at, no_mark_yet)

  pub block_left : DequeRule blocks workers items (slice_set ports id (with_block v block))
  block_left = let after : Port = with_block v block in record {
    given = h.given ++ block ∷ [];
    waiting = rest;
    marks = h.marks;
    holding = holding;
    some_port = omega (arith, length_set ports id after, h.some_port);
    in_order = same_owner (λ (p : Port). p.pushed) ports id v after ((h.given ++ block ∷ []) ++ rest) at refl (λ o there. h.in_order o there ∙ split);
    each_once = λ x. omega (arith, total_set (λ (p : Port). times x p.got) ports id v after at, h.each_once x, times_append x v.got (block ∷ []), times_append x h.given (block ∷ []));
    as_many = omega (arith, total_set (λ (p : Port). length p.got) ports id v after at, h.as_many, length-append v.got (block ∷ []), length-append h.given (block ∷ []));
    below = subst (Below blocks) split h.below;
    all_parts = omega (arith, total_set (λ (p : Port). p.parts) ports id v after at, h.all_parts);
    idle = idle_set ports id after h.idle (λ none. absurd (omega (arith, some_part)));
    each_mark = let same : total (λ (p : Port). p.marks_got) (slice_set ports id after) ≡ total (λ (p : Port). p.marks_got) ports = omega (arith, total_set (λ (p : Port). p.marks_got) ports id v after at) in
        same_owner (λ (p : Port). p.marks_pushed) ports id v after _ at refl (λ o there. h.each_mark o there ∙ ap (λ n. n + h.marks) (sym same));
    blocks_first = λ some_mark. absurd (omega (arith, some_mark, total_set (λ (p : Port). p.marks_got) ports id v after at, no_mark_yet));
    few_marks = few_set ports id after h.few_marks (λ later. h.few_marks id v later at);
  }

  pub block_below : block < blocks
  block_below = first_below blocks h.given rest block (subst (λ (l : List ℕ). Below blocks (h.given ++ l)) waiting_is h.below)

  -- the owner knows of all that was pushed, and got no more than was given out
  pub more_pushed : id ≡ 0 → length v.got < length v.pushed
  more_pushed owner_is = omega (
    arith,
    total_part (λ (p : Port). length p.got) ports id v at,
    h.as_many,
    ap length (h.in_order v (ap (λ i. get_elem? ports i) (sym owner_is) ∙ at)),
    length-append h.given h.waiting,
    ap length waiting_is,
  )

-- the rule once a mark has left at the front, to this port
module _ (blocks workers id : ℕ) (v : Port) (fewer : ℕ) (items all : List HeldBlocks) (ports : List Port) (some_part : 0 < v.parts) (may : 0 < id → v.marks_got + 1 ≤ v.parts) (h : DequeRule blocks workers all ports)
    (at : get_elem? ports id ≡ some v) (waiting_is : h.waiting ≡ []) (marks_are : h.marks ≡ fewer + 1) (holding : items ≡ blocks_and_marks [] fewer) where
  pub mark_left : DequeRule blocks workers items (slice_set ports id (with_mark v))
  mark_left = let after : Port = with_mark v in record {
    given = h.given;
    waiting = [];
    marks = fewer;
    holding = holding;
    some_port = omega (arith, length_set ports id after, h.some_port);
    in_order = same_owner (λ (p : Port). p.pushed) ports id v after (h.given ++ []) at refl (λ o there. h.in_order o there ∙ ap (λ (l : List ℕ). h.given ++ l) waiting_is);
    each_once = λ x. omega (arith, total_set (λ (p : Port). times x p.got) ports id v after at, h.each_once x);
    as_many = omega (arith, total_set (λ (p : Port). length p.got) ports id v after at, h.as_many);
    below = subst (λ (l : List ℕ). Below blocks (h.given ++ l)) waiting_is h.below;
    all_parts = omega (arith, total_set (λ (p : Port). p.parts) ports id v after at, h.all_parts);
    idle = idle_set ports id after h.idle (λ none. absurd (omega (arith, some_part)));
    each_mark = let same : total (λ (p : Port). p.marks_got) ports + h.marks ≡ total (λ (p : Port). p.marks_got) (slice_set ports id after) + fewer = omega (arith, total_set (λ (p : Port). p.marks_got) ports id v after at, marks_are) in
        same_owner (λ (p : Port). p.marks_pushed) ports id v after _ at refl (λ o there. h.each_mark o there ∙ same);
    blocks_first = λ some_mark. refl;
    few_marks = few_set ports id after h.few_marks may;
  }

  -- the owner pushed it
  pub mark_pushed : id ≡ 0 → 0 < v.marks_pushed
  mark_pushed owner_is = omega (arith, h.each_mark v (ap (λ i. get_elem? ports i) (sym owner_is) ∙ at), marks_are)

  pub nothing_waits : h.waiting ≡ []
  nothing_waits = waiting_is

pub steals : (blocks workers id : ℕ) (v : Port) → 0 < v.parts → v.marks_got + 1 ≤ v.parts → Takes (DequeRule blocks workers) id v 1 (Steals blocks v)
steals blocks workers id v some_part may [] items ports some_item one h at = absurd (omega (arith, some_item))
steals blocks workers id v some_part may (x ∷ y ∷ xs) items ports some_item one h at = absurd (omega (arith, one))
steals blocks workers id v some_part may (x ∷ []) items ports some_item one h at = ⊎_elim
    (λ (f : BlockFirst h.waiting h.marks x items).
    let told : Steals blocks v (Block f.block ∷ []) (with_block v f.block) = (refl, block_below blocks workers id v f.block f.rest items (x ∷ items) ports some_part h at f.waiting_is f.holding) in
    (with_block v f.block, block_left blocks workers id v f.block f.rest items (x ∷ items) ports some_part h at f.waiting_is f.holding, subst (λ (y : HeldBlocks). Steals blocks v (y ∷ []) (with_block v f.block)) (sym f.is) told))
    (λ (f : MarkFirst h.waiting h.marks x items).
    let told : Steals blocks v (Mark ∷ []) (with_mark v) = refl in
    (with_mark v, mark_left blocks workers id v f.fewer items (x ∷ items) ports some_part (λ _. may) h at f.waiting_is f.marks_are f.holding, subst (λ (y : HeldBlocks). Steals blocks v (y ∷ []) (with_mark v)) (sym f.is) told))
    (front h.waiting h.marks x items h.holding)

pub pops : (blocks workers id : ℕ) (v : Port) → id ≡ 0 → 0 < v.parts → Takes (DequeRule blocks workers) id v 1 (Pops blocks v)
pops blocks workers id v owner_is some_part [] items ports some_item one h at = absurd (omega (arith, some_item))
pops blocks workers id v owner_is some_part (x ∷ y ∷ xs) items ports some_item one h at = absurd (omega (arith, one))
pops blocks workers id v owner_is some_part (x ∷ []) items ports some_item one h at = ⊎_elim
    (λ (f : BlockFirst h.waiting h.marks x items).
    let told : Pops blocks v (Block f.block ∷ []) (with_block v f.block) = (
      refl,
      more_pushed blocks workers id v f.block f.rest items (x ∷ items) ports some_part h at f.waiting_is f.holding owner_is,
      block_below blocks workers id v f.block f.rest items (x ∷ items) ports some_part h at f.waiting_is f.holding,
    ) in
    (with_block v f.block, block_left blocks workers id v f.block f.rest items (x ∷ items) ports some_part h at f.waiting_is f.holding, subst (λ (y : HeldBlocks). Pops blocks v (y ∷ []) (with_block v f.block)) (sym f.is) told))
    (λ (f : MarkFirst h.waiting h.marks x items).
    let may : 0 < id → v.marks_got + 1 ≤ v.parts = λ later. absurd (omega (arith, later, owner_is)) in
    let told : Pops blocks v (Mark ∷ []) (with_mark v) = (refl, mark_pushed blocks workers id v f.fewer items (x ∷ items) ports some_part may h at f.waiting_is f.marks_are f.holding owner_is) in
    (with_mark v, mark_left blocks workers id v f.fewer items (x ∷ items) ports some_part may h at f.waiting_is f.marks_are f.holding, subst (λ (y : HeldBlocks). Pops blocks v (y ∷ []) (with_mark v)) (sym f.is) told))
    (front h.waiting h.marks x items h.holding)

-- all stealers together got fewer marks than there are workers, so of as many that were pushed the deque still holds one, or the owner got one
pub pops_none : (blocks workers id : ℕ) (v : Port) → id ≡ 0 → 0 < v.parts → Finds (DequeRule blocks workers) id v (workers ≤ v.marks_pushed → 0 < v.marks_got)
pops_none blocks workers id v owner_is some_part ports h at enough =
    let here : get_elem? ports 0 ≡ some v = ap (λ i. get_elem? ports i) (sym owner_is) ∙ at in
    omega (arith, few_got ports v here h.few_marks, h.all_parts, h.each_mark v here, (none_held h.waiting h.marks h.holding).1, enough, some_part)

-- what the ports got the owner got, where it has every part
module _ (blocks workers : ℕ) (v : Port) (items : List HeldBlocks) (ports : List Port) (all : v.parts ≡ workers) (h : DequeRule blocks workers items ports) (at : get_elem? ports 0 ≡ some v) where
  got_times : (x : ℕ) → times x v.got ≡ times x h.given
  got_times x = sym (total_alone (λ (p : Port). p.parts) (λ (p : Port). times x p.got) ports 0 v at (omega (arith, h.all_parts)) (λ i u there none. ap (times x) (h.idle i u there none))) ∙ h.each_once x

  -- where no block waits in the deque, what was pushed was got
  pub nothing_more : h.waiting ≡ [] → IsAllGot v.pushed v.got
  nothing_more none x = ap (times x) (h.in_order v at ∙ ap (λ (l : List ℕ). h.given ++ l) none ∙ append-nil h.given) ∙ sym (got_times x)

pub drains : (blocks workers id : ℕ) (v : Port) → id ≡ 0 → 0 < v.parts → v.parts ≡ workers → Takes (DequeRule blocks workers) id v 1 (Drains blocks v)
drains blocks workers id v owner_is some_part all [] items ports some_item one h at = absurd (omega (arith, some_item))
drains blocks workers id v owner_is some_part all (x ∷ y ∷ xs) items ports some_item one h at = absurd (omega (arith, one))
drains blocks workers id v owner_is some_part all (x ∷ []) items ports some_item one h at = ⊎_elim
    (λ (f : BlockFirst h.waiting h.marks x items).
    let told : Drains blocks v (Block f.block ∷ []) (with_block v f.block) = (
      refl,
      more_pushed blocks workers id v f.block f.rest items (x ∷ items) ports some_part h at f.waiting_is f.holding owner_is,
      block_below blocks workers id v f.block f.rest items (x ∷ items) ports some_part h at f.waiting_is f.holding,
      no_mark_of blocks workers id v f.block f.rest items (x ∷ items) ports some_part h at f.waiting_is f.holding,
    ) in
    (with_block v f.block, block_left blocks workers id v f.block f.rest items (x ∷ items) ports some_part h at f.waiting_is f.holding, subst (λ (y : HeldBlocks). Drains blocks v (y ∷ []) (with_block v f.block)) (sym f.is) told))
    (λ (f : MarkFirst h.waiting h.marks x items).
    let may : 0 < id → v.marks_got + 1 ≤ v.parts = λ later. absurd (omega (arith, later, owner_is)) in
    let told : Drains blocks v (Mark ∷ []) (with_mark v) = (refl, nothing_more blocks workers v (x ∷ items) ports all h (ap (λ i. get_elem? ports i) (sym owner_is) ∙ at) f.waiting_is) in
    (with_mark v, mark_left blocks workers id v f.fewer items (x ∷ items) ports some_part may h at f.waiting_is f.marks_are f.holding, subst (λ (y : HeldBlocks). Drains blocks v (y ∷ []) (with_mark v)) (sym f.is) told))
    (front h.waiting h.marks x items h.holding)

pub drained : (blocks workers id : ℕ) (v : Port) → id ≡ 0 → v.parts ≡ workers → Finds (DequeRule blocks workers) id v (IsAllGot v.pushed v.got)
drained blocks workers id v owner_is all ports h at =
    nothing_more blocks workers v [] ports all h (ap (λ i. get_elem? ports i) (sym owner_is) ∙ at) (none_held h.waiting h.marks h.holding).0

pub takes_in : (blocks workers id : ℕ) (v : Port) (block : ℕ) → id ≡ 0 → 0 < v.parts → v.marks_pushed ≡ 0 → block < blocks → Pushes (DequeRule blocks workers) id v (Block block ∷ []) (λ w. w ≡ pushes_one v (Block block ∷ []))
takes_in blocks workers id v block owner_is some_part unmarked lower items ports h at =
    let here : get_elem? ports 0 ≡ some v = ap (λ i. get_elem? ports i) (sym owner_is) ∙ at in
    let no_marks : h.marks ≡ 0 = omega (arith, h.each_mark v here, unmarked) in (
      after,
      record {
        given = h.given;
        waiting = h.waiting ++ block ∷ [];
        marks = h.marks;
        holding = ap (λ (hs : List HeldBlocks). hs ++ Block block ∷ []) h.holding ∙ block_beyond h.waiting h.marks block no_marks;
        some_port = omega (arith, length_set ports id after, h.some_port);
        in_order = λ owner there. ⊎_elim
            (λ (x : (0 ≡ id) × (after ≡ owner)). ap (λ (p : Port). p.pushed) (sym x.1) ∙ ap (λ (l : List ℕ). l ++ block ∷ []) (h.in_order v here) ∙ append_assoc h.given h.waiting (block ∷ []))
            (λ (x : (0 ≢ id) × (get_elem? ports 0 ≡ some owner)). absurd (x.0 (sym owner_is)))
            (at_set ports id 0 after owner there);
        each_once = λ x. omega (arith, total_set (λ (p : Port). times x p.got) ports id v after at, h.each_once x);
        as_many = omega (arith, total_set (λ (p : Port). length p.got) ports id v after at, h.as_many);
        below = subst (Below blocks) (append_assoc h.given h.waiting (block ∷ [])) (All-append (λ (x : ℕ). x < blocks) (h.given ++ h.waiting) (block ∷ []) h.below (one_below blocks block lower));
        all_parts = omega (arith, total_set (λ (p : Port). p.parts) ports id v after at, h.all_parts);
        idle = idle_set ports id after h.idle (λ none. absurd (omega (arith, some_part)));
        each_mark = more_owner (λ (p : Port). p.marks_pushed) ports id after _ owner_is (omega (arith, h.each_mark v here, total_set (λ (p : Port). p.marks_got) ports id v after at));
        blocks_first = λ some_mark. absurd (omega (arith, some_mark, h.each_mark v here, unmarked, total_set (λ (p : Port). p.marks_got) ports id v after at));
        few_marks = few_set ports id after h.few_marks (λ later. absurd (omega (arith, later, owner_is)));
      },
      refl,
    )
  where
    after : Port
    after = port v.parts (v.pushed ++ block ∷ []) v.got v.marks_pushed v.marks_got

pub takes_mark : (blocks workers id : ℕ) (v : Port) → id ≡ 0 → 0 < v.parts → Pushes (DequeRule blocks workers) id v (Mark ∷ []) (λ w. w ≡ pushes_one v (Mark ∷ []))
takes_mark blocks workers id v owner_is some_part items ports h at =
    let here : get_elem? ports 0 ≡ some v = ap (λ i. get_elem? ports i) (sym owner_is) ∙ at in (
      after,
      record {
        given = h.given;
        waiting = h.waiting;
        marks = h.marks + 1;
        holding = ap (λ (hs : List HeldBlocks). hs ++ Mark ∷ []) h.holding ∙ mark_beyond h.waiting h.marks;
        some_port = omega (arith, length_set ports id after, h.some_port);
        in_order = same_owner (λ (p : Port). p.pushed) ports id v after (h.given ++ h.waiting) at refl h.in_order;
        each_once = λ x. omega (arith, total_set (λ (p : Port). times x p.got) ports id v after at, h.each_once x);
        as_many = omega (arith, total_set (λ (p : Port). length p.got) ports id v after at, h.as_many);
        below = h.below;
        all_parts = omega (arith, total_set (λ (p : Port). p.parts) ports id v after at, h.all_parts);
        idle = idle_set ports id after h.idle (λ none. absurd (omega (arith, some_part)));
        each_mark = more_owner (λ (p : Port). p.marks_pushed) ports id after _ owner_is (omega (arith, h.each_mark v here, total_set (λ (p : Port). p.marks_got) ports id v after at));
        blocks_first = λ some_mark. h.blocks_first (omega (arith, some_mark, total_set (λ (p : Port). p.marks_got) ports id v after at));
        few_marks = few_set ports id after h.few_marks (λ later. absurd (omega (arith, later, owner_is)));
      },
      refl,
    )
  where
    after : Port
    after = port v.parts v.pushed v.got (v.marks_pushed + 1) v.marks_got

pub forks : (blocks workers id : ℕ) (v : Port) → id ≡ 0 → 1 < v.parts → Forks (DequeRule blocks workers) id v (port (v.parts - 1) v.pushed v.got v.marks_pushed v.marks_got) (port 1 [] [] 0 0)
forks blocks workers id v owner_is parts items ports h at = record {
  given = h.given;
  waiting = h.waiting;
  marks = h.marks;
  holding = h.holding;
  some_port = omega (arith, length-append (slice_set ports id less) (one ∷ []));
  in_order = λ owner there. same_owner (λ (p : Port). p.pushed) ports id v less (h.given ++ h.waiting) at refl h.in_order owner (first_is there);
  each_once = λ x. omega (arith, total_snoc (λ (p : Port). times x p.got) (slice_set ports id less) one, total_set (λ (p : Port). times x p.got) ports id v less at, h.each_once x);
  as_many = omega (arith, total_snoc (λ (p : Port). length p.got) (slice_set ports id less) one, total_set (λ (p : Port). length p.got) ports id v less at, h.as_many);
  below = h.below;
  all_parts = omega (arith, total_snoc (λ (p : Port). p.parts) (slice_set ports id less) one, total_set (λ (p : Port). p.parts) ports id v less at, h.all_parts, parts);
  idle = λ j p there none. ⊎_elim
      (λ x. idle_set ports id less h.idle (λ e. absurd (omega (arith, parts))) j p x none)
      (λ (is : one ≡ p). absurd (omega (arith, ap (λ (q : Port). q.parts) is)))
      (at_snoc (slice_set ports id less) one p j there);
  each_mark = λ owner there. same_owner (λ (p : Port). p.marks_pushed) ports id v less _ at refl h.each_mark owner (first_is there) ∙ ap (λ n. n + h.marks) (sym as_before);
  blocks_first = λ some_mark. h.blocks_first (omega (arith, some_mark, as_before));
  few_marks = λ j p later there. ⊎_elim
      (λ x. few_set ports id less h.few_marks (λ after. absurd (omega (arith, after, owner_is))) j p later x)
      (λ (is : one ≡ p). omega (arith, ap (λ (q : Port). q.parts) is, ap (λ (q : Port). q.marks_got) is))
      (at_snoc (slice_set ports id less) one p j there);
}
  where
    less : Port
    less = port (v.parts - 1) v.pushed v.got v.marks_pushed v.marks_got

    one : Port
    one = port 1 [] [] 0 0

    first_is : {owner : Port} → get_elem? (slice_set ports id less ++ one ∷ []) 0 ≡ some owner → get_elem? (slice_set ports id less) 0 ≡ some owner
    first_is {owner} there = first_stays (slice_set ports id less) one owner (omega (arith, length_set ports id less, h.some_port)) there

    as_before : total (λ (p : Port). p.marks_got) (slice_set ports id less ++ one ∷ []) ≡ total (λ (p : Port). p.marks_got) ports
    as_before = omega (arith, total_snoc (λ (p : Port). p.marks_got) (slice_set ports id less) one, total_set (λ (p : Port). p.marks_got) ports id v less at)

pub merges : (blocks workers id : ℕ) (v : Port) (other : ℕ) (w : Port) → id ≡ 0 → 0 < v.parts
    → Merges (DequeRule blocks workers) id v other w (port (v.parts + w.parts) v.pushed (v.got ++ w.got) v.marks_pushed (v.marks_got + w.marks_got)) (port 0 [] [] 0 0)
merges blocks workers id v other w owner_is some_part items ports h at apart there = record {
  given = h.given;
  waiting = h.waiting;
  marks = h.marks;
  holding = h.holding;
  some_port = omega (arith, length_set (slice_set ports id both) other spent, length_set ports id both, h.some_port);
  in_order = λ owner first. same_owner (λ (p : Port). p.pushed) ports id v both (h.given ++ h.waiting) at refl h.in_order owner (first_is first);
  each_once = λ x. omega (arith, total_set (λ (p : Port). times x p.got) (slice_set ports id both) other w spent there, total_set (λ (p : Port). times x p.got) ports id v both at, times_append x v.got w.got, h.each_once x);
  as_many = omega (arith, total_set (λ (p : Port). length p.got) (slice_set ports id both) other w spent there, total_set (λ (p : Port). length p.got) ports id v both at, length-append v.got w.got, h.as_many);
  below = h.below;
  all_parts = omega (arith, total_set (λ (p : Port). p.parts) (slice_set ports id both) other w spent there, total_set (λ (p : Port). p.parts) ports id v both at, h.all_parts);
  idle = idle_set (slice_set ports id both) other spent (idle_set ports id both h.idle (λ none. absurd (omega (arith, some_part)))) (λ none. refl);
  each_mark = λ owner first. same_owner (λ (p : Port). p.marks_pushed) ports id v both _ at refl h.each_mark owner (first_is first) ∙ ap (λ n. n + h.marks) (sym as_before);
  blocks_first = λ some_mark. h.blocks_first (omega (arith, some_mark, as_before));
  few_marks = few_set (slice_set ports id both) other spent (few_set ports id both h.few_marks (λ later. absurd (omega (arith, later, owner_is)))) (λ later. omega arith);
}
  where
    both : Port
    both = port (v.parts + w.parts) v.pushed (v.got ++ w.got) v.marks_pushed (v.marks_got + w.marks_got)

    spent : Port
    spent = port 0 [] [] 0 0

    first_is : {owner : Port} → get_elem? (slice_set (slice_set ports id both) other spent) 0 ≡ some owner → get_elem? (slice_set ports id both) 0 ≡ some owner
    first_is {owner} first = ⊎_elim
        (λ (x : (0 ≡ other) × (spent ≡ owner)). absurd (apart (sym x.0 ∙ sym owner_is)))
        (λ (x : (0 ≢ other) × (get_elem? (slice_set ports id both) 0 ≡ some owner)). x.1)
        (at_set (slice_set ports id both) other 0 spent owner first)

    as_before : total (λ (p : Port). p.marks_got) (slice_set (slice_set ports id both) other spent) ≡ total (λ (p : Port). p.marks_got) ports
    as_before = omega (arith, total_set (λ (p : Port). p.marks_got) (slice_set ports id both) other w spent there, total_set (λ (p : Port). p.marks_got) ports id v both at)

-- a deque that is emptied into a list
pub record IsDraining (blocks : ℕ) (first : DequeValue) (before : List ℕ) (now : DequeValue) (after : List ℕ) : Type 0 where
  pub left : List ℕ
  pub beyond : after ≡ before ++ left
  pub same : now ≡ with_got first left
  pub below : Below blocks left
  pub closed : 0 < first.marks_got → left ≡ []

pub draining_begins : (blocks : ℕ) (first : DequeValue) (before : List ℕ) → IsDraining blocks first before first before
draining_begins blocks first before = record {
  left = [];
  beyond = sym (append-nil before);
  same = ap (λ (got : List ℕ). deque_value first.name (port first.parts first.pushed got first.marks_pushed first.marks_got)) (sym (append-nil first.got));
  below = λ i d within. absurd (omega (arith, within));
  closed = λ some_mark. refl;
}

pub draining_next : (blocks : ℕ) (first now next : DequeValue) (before after longer : List ℕ) (block : ℕ) → IsDraining blocks first before now after → next ≡ with_got now (block ∷ [])
    → longer ≡ after ++ block ∷ [] → block < blocks → now.marks_got ≡ 0 → IsDraining blocks first before next longer
draining_next blocks first now next before after longer block h is pushed lower unmarked = record {
  left = h.left ++ block ∷ [];
  beyond = pushed ∙ ap (λ (l : List ℕ). l ++ block ∷ []) h.beyond ∙ append_assoc before h.left (block ∷ []);
  same = is ∙ ap (λ (d : DequeValue). with_got d (block ∷ [])) h.same
      ∙ ap (λ (got : List ℕ). deque_value first.name (port first.parts first.pushed got first.marks_pushed first.marks_got)) (append_assoc first.got h.left (block ∷ []));
  below = All-append (λ (x : ℕ). x < blocks) h.left (block ∷ []) h.below (one_below blocks block lower);
  closed = λ some_mark. absurd (omega (arith, some_mark, unmarked, ap (λ (d : DequeValue). d.marks_got) h.same));
}

pub draining_ends : (blocks : ℕ) (first now : DequeValue) (before after : List ℕ) → IsDraining blocks first before now after → IsAllGot now.pushed now.got → AddsLeft blocks first before after
draining_ends blocks first now before after h all = record {
  left = h.left;
  beyond = h.beyond;
  together = λ x. omega (arith, ap (λ (d : DequeValue). times x d.pushed) h.same, ap (λ (d : DequeValue). times x d.got) h.same, all x, times_append x first.got h.left);
  below = h.below;
  closed = h.closed;
}
