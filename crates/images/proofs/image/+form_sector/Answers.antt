use Rattle.std.proofs.Common.{◌≡◌, ◌-◌, ◌<◌, length, rules, sym, ◌∙◌, arith}
use Rattle.std.proofs.lemmas.Option.{slice_get-get_or}
use Rattle.images.proofs.Spliced.{nothing, whole_last, spliced, in_take}
use Rattle.images.proofs.image.+form_sector.Goals as goal

pub returns-then-is_empty : goal.returns-then-is_empty
returns-then-is_empty t c =
    let none : length c.args.row.now ≡ 0 = search rules in
    λ all. c.initial_of.ensures ∙ nothing c.args.log.now c.args.row.now c.args.departures.now c.args.number none

pub content_of-content-requires : goal.content_of-content-requires
content_of-content-requires t c =
    let some : 0 < length c.args.row.now = search rules in
    c.requires.units _ _ (slice_get-get_or c.args.row.now (length c.args.row.now - 1) _ (omega (arith, some)))

pub form_sector-earlier-requires : goal.form_sector-earlier-requires
form_sector-earlier-requires t c =
    let some : 0 < length c.args.row.now = search rules in
    (search rules, ((λ i u there. c.requires.units i u (in_take _ c.args.row.now i u there)), c.requires.once))

pub returns-in_default : goal.returns-in_default
returns-in_default t c =
    let some : 0 < length c.args.row.now = search rules in
    let there = slice_get-get_or c.args.row.now (length c.args.row.now - 1) _ (omega (arith, some)) in
    λ all. whole_last c.args.log.now c.args.row.now c.args.departures.now c.args.number (length c.args.row.now - 1) _ _
    (omega (arith, some)) there (all _ _ there) (sym c.fate_at.ensures ∙ c.in_default.is)
    c.content_of-content.ensures.value c.content_of-content.ensures.size

pub returns : goal.returns
returns t c =
    let some : 0 < length c.args.row.now = search rules in
    let there = slice_get-get_or c.args.row.now (length c.args.row.now - 1) _ (omega (arith, some)) in
    λ all. spliced c.args.log.now c.args.row.now c.args.departures.now c.args.number (length c.args.row.now - 1) _ _ _ _ _
    (omega (arith, some)) there (all _ _ there) c.requires.once (sym c.fate_at.ensures ∙ c.in-Some.is)
    c.content_of-content.ensures.value
    (c.form_sector-earlier.ensures (λ i u h. all i u (in_take _ c.args.row.now i u h)))
    c.lay_over.ensures.size c.lay_over.ensures.bytes
