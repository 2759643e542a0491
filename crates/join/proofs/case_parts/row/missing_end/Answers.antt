use Rattle.std.proofs.Common.{◌-◌, ◌∙◌, ap, sym, refl, length, arith}
use Rattle.join.specs.CaseTexts.{first_of, last_of}
use Rattle.join.specs.CaseReading.{CasesRead}
use Rattle.join.specs.declared.case_parts.part.CasePart.TheInside.{Inside}
use Rattle.join.proofs.CaseRowed.{indexed}
use Rattle.join.proofs.CaseJoins.{first_lacks, last_lacks, none_lacks}
use Rattle.join.proofs.case_parts.row.missing_end.Goals as goal

pub returns-then-first_of-gt0 : goal.returns-then-first_of-gt0
returns-then-first_of-gt0 c =
    let some = c.requires.some in
    let first = c.index-parts-0.result in
    let last = c.index-parts-parts.result in
    first_lacks c.args.parts.now first last c.first_of.result c.first.inside.file (indexed c.args.parts.now 0 first some c.index-parts-0.is)
    (indexed c.args.parts.now (length c.args.parts.now - 1) last (omega (arith, some)) c.index-parts-parts.is) (c.first_of.ensures ∙ ap (λ (r : CasesRead). first_of r.head) c.first.view_is) c.if-first_of-gt0.true
    (ap (λ (r : CasesRead). r.file) c.first.view_is)

pub returns-then-last_of-from : goal.returns-then-last_of-from
returns-then-last_of-from c =
    let some = c.requires.some in
    let none = c.if-first_of-gt0.false in
    let first = c.index-parts-0.result in
    let last = c.index-parts-parts.result in
    last_lacks c.args.parts.now first last c.first_of.result c.last_of.result (length c.args.parts.now) (indexed c.args.parts.now 0 first some c.index-parts-0.is)
    (indexed c.args.parts.now (length c.args.parts.now - 1) last (omega (arith, some)) c.index-parts-parts.is) (c.first_of.ensures ∙ ap (λ (r : CasesRead). first_of r.head) c.first.view_is) (omega (arith, none))
    (c.last_of.ensures ∙ ap (λ (r : CasesRead). last_of r.head) c.last.view_is)
    (λ same. c.if-last_of-from.true (same ∙ sym (c.from.ensures ∙ ap (λ (i : Inside). i.head.entries) c.last-inside.view_is ∙ ap (λ (r : CasesRead). r.head.entries) c.last.view_is))) refl

pub returns : goal.returns
returns c =
    let some = c.requires.some in
    let none = c.if-first_of-gt0.false in
    let first = c.index-parts-0.result in
    let last = c.index-parts-parts.result in
    none_lacks c.args.parts.now first last c.first_of.result c.last_of.result (indexed c.args.parts.now 0 first some c.index-parts-0.is)
    (indexed c.args.parts.now (length c.args.parts.now - 1) last (omega (arith, some)) c.index-parts-parts.is) (c.first_of.ensures ∙ ap (λ (r : CasesRead). first_of r.head) c.first.view_is) (omega (arith, none))
    (c.last_of.ensures ∙ ap (λ (r : CasesRead). last_of r.head) c.last.view_is)
    (c.if-last_of-from.false ∙ (c.from.ensures ∙ ap (λ (i : Inside). i.head.entries) c.last-inside.view_is ∙ ap (λ (r : CasesRead). r.head.entries) c.last.view_is))
