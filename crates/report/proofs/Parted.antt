-- A text that is cut at a character.
use Rattle.std.proofs.Common.{ℕ, ◌<◌, List, [], Bor, Some, None}
use Rattle.std.proofs.lemmas.Str.Pattern.{IsSplitOnceResult, split_after}
use Rattle.report.specs.MarkReading.{IsCutAt}
use Rattle.report.proofs.Back.{lacks_at}

pub some_cut : (c : ℕ) (text : List ℕ) (p : Bor (List ℕ) × Bor (List ℕ)) → IsSplitOnceResult c text (Some p) → c < 128 → IsCutAt c text p.0.now p.1.now
some_cut c text p split ascii = record { parts = λ xs ys l e. split_after c text xs ys (Some p) split ascii e (lacks_at c xs l) }

pub none_cut : (c : ℕ) (text : List ℕ) → IsSplitOnceResult c text None → c < 128 → IsCutAt c text [] []
none_cut c text split ascii = record { parts = λ xs ys l e. absurd (split_after c text xs ys None split ascii e (lacks_at c xs l)) }
