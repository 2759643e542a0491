-- The tree of a cut and a program is one.
use Rattle.std.specs.Prelude.{◌≡◌, ◌≤◌, List, length}
use Rattle.cases.specs.Cases.{Case}
use Rattle.cases.specs.Trees.{Subject, AreLeaves}
use Rattle.cases.specs.Search.{LeadTo}

-- Some cases have their leaves in one way, and leave out the same cases. A search that is still on its way has told of no more leaves
-- than there are.
pub record TreeIsOne : Type 0 where
  pub same : (s : Subject) (cs leaves left others rest : List Case) → AreLeaves s cs leaves left → AreLeaves s cs others rest → (leaves ≡ others) × (left ≡ rest)
  pub fewer : (s : Subject) (to cs told passed leaves left : List Case) → LeadTo s to cs told passed → AreLeaves s cs leaves left → length told ≤ length leaves
