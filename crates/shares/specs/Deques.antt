-- The rule of a deque: what holds of the blocks in it and of all that its ports know, at every moment (docs/PROVED.md, Threads and the cache).
use Rattle.std.specs.Prelude.{◌≡◌, ℕ, ◌+◌, ◌<◌, ◌≤◌, List, [], ◌∷◌, ◌++◌, length, map, replicate, All}
use mathlib.Core.Option.{some}
use lib.ListN.{get_elem?}
use Rattle.std.specs.declared.alloc.Global.{Global}
use Rattle.shares.specs.declared.deque.HeldBlocks.{HeldBlocks}
use Rattle.shares.specs.declared.deque.HeldBlocks.TheVariants.{Block, Mark}
use Rattle.shares.specs.declared.deque.Port.{Port}
use Rattle.shares.specs.Steps.{total}
use Rattle.shares.specs.Seats.{times}

-- which deque it is
abbrev pub DequeName : Type 0
DequeName = (ℕ × ℕ) × Global

abbrev pub port : ℕ → List ℕ → List ℕ → ℕ → ℕ → Port
port parts pushed got marks_pushed marks_got = record { parts = parts; pushed = pushed; got = got; marks_pushed = marks_pushed; marks_got = marks_got }

-- all that was pushed was got, each as often
abbrev pub IsAllGot : List ℕ → List ℕ → Type 0
IsAllGot pushed got = (x : ℕ) → times x pushed ≡ times x got

-- blocks, and that many closing marks after them
abbrev pub blocks_and_marks : List ℕ → ℕ → List HeldBlocks
blocks_and_marks blocks marks = map Block blocks ++ replicate marks Mark

-- the owner's port is the first. The right to know the whole lies in as many parts as there are workers.
pub record DequeRule (blocks workers : ℕ) (items : List HeldBlocks) (ports : List Port) : Type 0 where
  -- the blocks that the deque has given out, in order
  pub given : List ℕ
  -- the blocks that it holds, in order, and how many closing marks
  pub waiting : List ℕ
  pub marks : ℕ
  -- no block stands after a mark
  pub holding : items ≡ blocks_and_marks waiting marks
  pub some_port : 0 < length ports
  -- what it gave out and still holds is what its owner pushed, in that order
  pub in_order : (owner : Port) → get_elem? ports 0 ≡ some owner → owner.pushed ≡ given ++ waiting
  -- what it gave out is what its ports got, each as often
  pub each_once : (x : ℕ) → total (λ (p : Port). times x p.got) ports ≡ times x given
  pub as_many : total (λ (p : Port). length p.got) ports ≡ length given
  pub below : All (λ (x : ℕ). x < blocks) (given ++ waiting)
  pub all_parts : total (λ (p : Port). p.parts) ports ≡ workers
  -- a port without a part has got nothing
  pub idle : (i : ℕ) (p : Port) → get_elem? ports i ≡ some p → p.parts ≡ 0 → p.got ≡ []
  -- each mark that the owner pushed was got, or the deque holds it
  pub each_mark : (owner : Port) → get_elem? ports 0 ≡ some owner → owner.marks_pushed ≡ total (λ (p : Port). p.marks_got) ports + marks
  -- all blocks are given out before a mark
  pub blocks_first : 0 < total (λ (p : Port). p.marks_got) ports → waiting ≡ []
  -- a stealer's port has got no more marks than it has parts
  pub few_marks : (i : ℕ) (p : Port) → 0 < i → get_elem? ports i ≡ some p → p.marks_got ≤ p.parts

-- a port that has pushed what joined the deque
abbrev pub pushes_one : Port → List HeldBlocks → Port
pushes_one p [] = p
pushes_one p (Block x ∷ xs) = port p.parts (p.pushed ++ x ∷ []) p.got p.marks_pushed p.marks_got
pushes_one p (Mark ∷ xs) = port p.parts p.pushed p.got (p.marks_pushed + 1) p.marks_got

-- a port that has got a block, or a mark
abbrev pub with_block : Port → ℕ → Port
with_block p x = port p.parts p.pushed (p.got ++ x ∷ []) p.marks_pushed p.marks_got

abbrev pub with_mark : Port → Port
with_mark p = port p.parts p.pushed p.got p.marks_pushed (p.marks_got + 1)

-- what one tells a stealer that left the deque
abbrev pub Steals : ℕ → Port → List HeldBlocks → Port → Type 0
Steals blocks v [] w = Unit {0}
Steals blocks v (Block x ∷ xs) w = (w ≡ with_block v x) × (x < blocks)
Steals blocks v (Mark ∷ xs) w = w ≡ with_mark v

-- what it tells the owner
abbrev pub Pops : ℕ → Port → List HeldBlocks → Port → Type 0
Pops blocks v [] w = Unit {0}
Pops blocks v (Block x ∷ xs) w = (w ≡ with_block v x) × (length v.got < length v.pushed) × (x < blocks)
Pops blocks v (Mark ∷ xs) w = (w ≡ with_mark v) × (0 < v.marks_pushed)

-- and what it tells the owner that has every part
abbrev pub Drains : ℕ → Port → List HeldBlocks → Port → Type 0
Drains blocks v [] w = Unit {0}
Drains blocks v (Block x ∷ xs) w = (w ≡ with_block v x) × (length v.got < length v.pushed) × (x < blocks) × (v.marks_got ≡ 0)
Drains blocks v (Mark ∷ xs) w = (w ≡ with_mark v) × IsAllGot v.pushed v.got
