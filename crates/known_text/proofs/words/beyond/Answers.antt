use Rattle.std.proofs.Common.{List, ℕ, ◌≢◌, ◌≡◌, ◌++◌, MatchOption, subst}
use Rattle.std.proofs.lemmas.Slice.Eq.{strip_prefix_is}
use Rattle.known_text.proofs.Texts.{byte_decides}
use Rattle.known_text.proofs.words.beyond.Goals as goal

pub returns : goal.returns
returns c =
    subst (λ (front : List ℕ). MatchOption c.strip_prefix.result ((rest : List ℕ) → c.args.bytes.now ≢ front ++ rest) (λ rest. c.args.bytes.now ≡ front ++ rest.now)) c.as_bytes.ensures.value
    (strip_prefix_is byte_decides c.args.bytes.now c.as_bytes.result.now _ c.strip_prefix.ensures.cases)
