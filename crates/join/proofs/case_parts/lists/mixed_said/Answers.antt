use Rattle.std.proofs.Common.{◌≡◌, ◌∙◌, [], ◌∷◌, map, ap, rules}
use Rattle.std.proofs.lemmas.List.{map-append}
use Rattle.join.specs.CaseReading.{mixed_value}
use Rattle.join.proofs.CaseLists.{no_mixed, mixed_on, mixed_read}
use Rattle.join.proofs.case_parts.lists.mixed_said.Goals as goal

pub returns-then-eq : goal.returns-then-eq
returns-then-eq c = no_mixed c.args.by c.args.text.now (map mixed_value c.new-found.result.items) (ap (map mixed_value) c.new-found.ensures.items) (search rules)

pub loop-word-preserved : goal.loop-word-preserved
loop-word-preserved c = (
  mixed_on c.args.by c.args.text.now c.loop-word.rest.now c.in-Some.word.now c.in-Some.more.now (map mixed_value c.loop-word.found.items) (map mixed_value c.push.new.self.items) (mixed_value c.in_ok-mixed_part_said.field-0)
      c.loop-word.invariant.0 c.in-Some.ensures c.in_ok-mixed_part_said.ensures
      (ap (map mixed_value) c.in_ok-push.ensures.items ∙ map-append mixed_value c.loop-word.found.items (c.in_ok-mixed_part_said.field-0 ∷ [])),
  search rules,
)

pub returns : goal.returns
returns c =
    mixed_read c.args.by c.args.text.now c.loop-word.rest.now (map mixed_value c.loop-word.found.items) (map mixed_value c.push-2.new.self.items) (mixed_value c.in_ok-mixed_part_said-2.field-0) (search rules)
    c.loop-word.invariant.0 c.in_default.ensures c.in_ok-mixed_part_said-2.ensures
    (ap (map mixed_value) c.in_ok-push-2.ensures.items ∙ map-append mixed_value c.loop-word.found.items (c.in_ok-mixed_part_said-2.field-0 ∷ []))
