use Rattle.std.proofs.Common.{rules}
use Rattle.std.proofs.lemmas.List.Sorted.{IsNonDecreasingBy-from_sort_by_key, answers_always}
use Rattle.join.specs.CaseTexts.{first_of}
use Rattle.join.specs.CaseReading.{CasesRead}
use Rattle.join.proofs.case_parts.row.put_in_order.Goals as goal

pub returns-clause-rising : goal.returns-clause-rising
returns-clause-rising c = IsNonDecreasingBy-from_sort_by_key (λ (r : CasesRead). first_of r.head) _ c.in_ok-sort_by_key.ensures.sorted (λ a r q k. search rules)

pub returns-clause-stable : goal.returns-clause-stable
returns-clause-stable c = c.in_ok-sort_by_key.ensures.stable (λ (r : CasesRead). first_of r.head) (answers_always _ _ _ (λ f a r g h. search rules))
