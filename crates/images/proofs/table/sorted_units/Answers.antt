use Rattle.std.proofs.Common.{◌≡◌, ◌∙◌, ap, rules, length}
use Rattle.std.proofs.lemmas.Fn.{always_returns_same}
use Rattle.std.proofs.lemmas.List.Sorted.{IsNonDecreasingBy-from_sort_by_key}
use Rattle.epochs.specs.declared.unit.Unit.{Unit as LogUnit}
use Rattle.epochs.specs.Units.{units_before}
use Rattle.images.specs.Table.{covering}
use Rattle.images.proofs.Rows.{covering_sorted}
use Rattle.images.proofs.table.sorted_units.Goals as goal

pub loop-number-init : goal.loop-number-init
loop-number-init c = c.in_ok-units.ensures.items

pub returns : goal.returns
returns c =
    let end : c.loop-number.number ≡ length c.args.log.now.entries = search rules in
    let all : c.loop-number.units.items ≡ units_before c.args.log.now.entries (length c.args.log.now.entries) =
    c.loop-number.invariant ∙ ap (units_before c.args.log.now.entries) end in
    record {
      bounds = c.entries.ensures.bounds;
      rising = IsNonDecreasingBy-from_sort_by_key (λ (u : LogUnit). u.sector) _ c.in_ok-sort_by_key.ensures.sorted (λ a r q k. search rules);
      filled = λ s. covering_sorted _ _ s (c.in_ok-sort_by_key.ensures.stable (λ (u : LogUnit). u.sector) (always_returns_same _ (λ a r. r ≡ a.0.now.sector) _ (λ a r q k. search rules))) ∙ ap (covering s) all;
    }
