-- Entries stay true.
use Rattle.std.proofs.Common.{◌≡◌, ℕ, ◌-◌, List, ◌∷◌, take, Contains, Some, subst, inl, inr}
use Rattle.std.specs.Map.{remove_entry}
use Rattle.epochs.specs.Plan.{PlanValue}
use Rattle.interp.specs.declared.outcome.Outcome.{Outcome}
use Rattle.interp.specs.Ending.{ending_of}
use Rattle.checker.specs.Checker.{CheckerValue}
use Rattle.images.specs.Keys.{KeyValue}
use Rattle.images.specs.Equal.{same_key}
use Rattle.lru.proofs.CallerLemmas.{Contains-lookup_entry, Contains-remove_entry, Contains-take}
use Rattle.lru.proofs.Splits.{Contains-cons}
use Rattle.verdict_cache.specs.declared.kept.Kept.{Kept}
use Rattle.verdict_cache.specs.declared.kept.Kept.TheVariants as kept
use Rattle.verdict_cache.specs.Endings.{IsEndingOf, AreTrue}
use Rattle.verdict_cache.specs.Shard.{listed_outcome, to_front}
use Rattle.verdict_cache.specs.Puts.{entries_after}
use Rattle.verdict_cache.proofs.Listed.{listed_entry}

module _ (plan : PlanValue) (checkers : List CheckerValue) (entries : List (KeyValue × Outcome)) (key : KeyValue) (outcome : Outcome) where
  -- a listed outcome is what its key ends in
  pub listed_true : AreTrue plan checkers entries → listed_outcome entries key ≡ Some outcome → IsEndingOf plan checkers key (ending_of outcome)
  listed_true each there = each key outcome (Contains-lookup_entry (same_key key) entries (key, outcome) (listed_entry entries key outcome there)).0

  with_first : (rest : List (KeyValue × Outcome)) → AreTrue plan checkers entries → IsEndingOf plan checkers key (ending_of outcome)
      → ((e : KeyValue × Outcome) → Contains rest e → Contains entries e) → AreTrue plan checkers ((key, outcome) ∷ rest)
  with_first rest each own within = λ k o has. elim (Contains-cons (key, outcome) rest (k, o) has) [
    | inl same ↦ subst (λ (e : KeyValue × Outcome). IsEndingOf plan checkers e.0 (ending_of e.1)) same own
    | inr d ↦ each k o (within (k, o) d)
  ]

  -- with a true entry in front of those that had another key
  pub front_true : AreTrue plan checkers entries → IsEndingOf plan checkers key (ending_of outcome) → AreTrue plan checkers (to_front entries key outcome)
  front_true each own = with_first (remove_entry (same_key key) entries) each own (Contains-remove_entry (same_key key) entries)

  -- after a put of a true entry
  pub put_true : (answer : Kept) (capacity : ℕ) → AreTrue plan checkers entries → IsEndingOf plan checkers key (ending_of outcome)
      → AreTrue plan checkers (entries_after answer entries capacity key outcome)
  put_true kept.New capacity each own = with_first entries each own (λ e has. has)
  put_true kept.Again capacity each own = front_true each own
  put_true kept.Evicted capacity each own = with_first (take (capacity - 1) entries) each own (Contains-take (capacity - 1) entries)
  put_true kept.Off capacity each own = each
  put_true kept.NoMemory capacity each own = each
