use Rattle.std.proofs.Common.{◌&&◌, Bool, ap, sym, ◌∙◌}
use Rattle.std.specs.List.{list_all}
use Rattle.join.proofs.CaseWalked.{both_lack, lacks_part}
use Rattle.join.proofs.case_parts.judging.all_apart.Goals as goal

pub returns-then-none_stands : goal.returns-then-none_stands
returns-then-none_stands c =
    c.none_stands-then-none_stands.ensures ∙ ap (λ (t : Bool). t && list_all (lacks_part c.args.mixed.now) c.args.kept.now) (sym c.if-none_stands.true ∙ c.none_stands.ensures)
    ∙ both_lack c.args.lost.now c.args.mixed.now c.args.kept.now

pub returns-else-none_stands : goal.returns-else-none_stands
returns-else-none_stands c =
    c.if-none_stands.false ∙ ap (λ (t : Bool). t && list_all (lacks_part c.args.mixed.now) c.args.kept.now) (sym c.if-none_stands.false ∙ c.none_stands.ensures)
    ∙ both_lack c.args.lost.now c.args.mixed.now c.args.kept.now
