-- The lines of the report after one more.
use Rattle.std.proofs.Common.{ℕ, zero, suc, ◌≡◌, ◌+◌, ◌<◌, List, [], ◌∷◌, ◌++◌, length, take, get_or, refl, arith, append_assoc, append-nil, add-one, add-zero}
use Rattle.report.specs.declared.head.ProgramHead.{ProgramHead}
use Rattle.report.specs.Report.{program_line, program_lines}

pub program_lines-take : (ps : List ProgramHead) (n i : ℕ) (d : ProgramHead) → i < length ps
    → program_lines n (take (suc i) ps) ≡ program_lines n (take i ps) ++ program_line (n + i) (get_or ps i d)
program_lines-take [] n i d h = absurd (omega (arith, h))
program_lines-take (p ∷ ps) n zero d h = rw (append-nil, add-zero n) refl
program_lines-take (p ∷ ps) n (suc i) d h =
    let before = program_lines-take ps (n + 1) i d (omega (arith, h)) in
    let e : n + 1 + i ≡ n + suc i = omega arith in
    rw (before, e, append_assoc) refl

pub program_lines-next : (ps : List ProgramHead) (i : ℕ) (d : ProgramHead) (first before : List ℕ) → i < length ps
    → before ≡ first ++ program_lines 0 (take i ps)
    → before ++ program_line i (get_or ps i d) ≡ first ++ program_lines 0 (take (i + 1) ps)
program_lines-next ps i d first before h so =
    let here : 0 + i ≡ i = omega arith in
    rw (add-one i, program_lines-take ps 0 i d h, here, so, append_assoc) refl
