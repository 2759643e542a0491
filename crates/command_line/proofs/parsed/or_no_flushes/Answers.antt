use Rattle.std.proofs.Common.{ℕ, ◌≡◌, ◌≤◌, ◌∙◌, arith, Option, ap, replicate, unwrap_or}
use native.Mathlib.Bridge.{le_prop}
use Rattle.epochs.specs.declared.flushes.Flushes.{Flushes}
use Rattle.command_line.specs.Parsed.{no_flushes}
use Rattle.command_line.proofs.parsed.or_no_flushes.Goals as goal

-- no flushes, whichever proof says that they are few
abbrev none_by : 0 ≤ 64 → Flushes
none_by few = record { entries = replicate {A = ℕ} 64 0; count = 0; few = few }

same_none : (few : 0 ≤ 64) → none_by few ≡ no_flushes
same_none few = λ i. none_by (le_prop few (omega arith) i)

same_kept : (flushes : Option Flushes) (few : 0 ≤ 64) → unwrap_or flushes (none_by few) ≡ unwrap_or flushes no_flushes
same_kept flushes few = ap (λ (f : Flushes). unwrap_or flushes f) (same_none few)

pub returns : goal.returns
returns c = c.unwrap_or.ensures ∙ same_kept c.args.flushes _
