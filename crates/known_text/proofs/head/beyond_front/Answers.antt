use Rattle.std.proofs.Common.{ℕ, ◌≡◌, ◌≢◌, ◌++◌, List, MatchOption, sym, subst}
use Rattle.known_text.specs.declared.head.HeadLine.{HeadLine}
use Rattle.known_text.specs.Texts.{front_of}
use Rattle.known_text.proofs.head.beyond_front.Goals as goal

pub returns-in-Program : goal.returns-in-Program
returns-in-Program c =
    subst (λ (k : HeadLine). MatchOption c.beyond-in-Program.result ((rest : List ℕ) → c.args.bytes.now ≢ front_of k ++ rest) (λ rest. c.args.bytes.now ≡ front_of k ++ rest.now)) (sym c.in-Program.is)
    c.beyond-in-Program.ensures
