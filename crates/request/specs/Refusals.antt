-- The refusals of a program's bytes, by the slot, and of a file, by its place (docs/REFUSALS.md, All refusals).
use Rattle.std.specs.Prelude.{ℕ, None}
use Rattle.base.specs.declared.causes.CodeCause.{CodeCause}
use Rattle.base.specs.declared.causes.RequestCause.TheVariants as request
use Rattle.base.specs.declared.refusal.Refusal.{Refusal}
use Rattle.base.specs.declared.refusal.Cause.TheVariants.{Code, Request}

abbrev pub bytes_refusal : CodeCause → ℕ → Refusal
bytes_refusal cause slot = record { code = Code cause; at = slot; program = None }

abbrev pub file_refusal : ℕ → Refusal
file_refusal at = record { code = Request request.File; at = at; program = None }
