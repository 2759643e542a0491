-- The workers' lists of drawn blocks (docs/PROVED.md, Threads and the cache).
use Rattle.std.specs.Prelude.{ℕ, ◌==◌, ◌&&◌, not, Bool, List, filter}
use Rattle.std.specs.List.{list_any}
use Rattle.explore_core.specs.declared.lists.Drawn.{Drawn}

-- it is that block in the list of that worker
abbrev pub is_under : ℕ → ℕ → Drawn → Bool
is_under worker block d = (d.worker == worker) && (d.block == block)

-- whether a block is in the list of a worker
abbrev pub listed_under : ℕ → ℕ → List Drawn → Bool
listed_under worker block lists = list_any (is_under worker block) lists

-- the lists without a block of a worker
abbrev pub lists_without : ℕ → ℕ → List Drawn → List Drawn
lists_without worker block lists = filter (λ (d : Drawn). not (is_under worker block d)) lists
