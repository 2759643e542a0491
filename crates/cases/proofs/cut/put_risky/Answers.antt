use Rattle.std.proofs.Common.{sym, ◌∙◌, ap, arith}
use Rattle.std.proofs.lemmas.List.{append-nil}
use Rattle.epochs.proofs.Search.{entry_read}
use Rattle.cases.specs.Risk.{is_at_risk}
use Rattle.cases.proofs.AtRisk.{put_where}
use Rattle.cases.proofs.cut.put_risky.Goals as goal

pub put_parts-requires-clause-device : goal.put_parts-requires-clause-device
put_parts-requires-clause-device c = λ some.
    let es = c.args.log.now.entries in
    let x = c.index-entries-number.result in
    let read = entry_read es c.entries-entries.result.now c.args.number x (omega arith) c.entries-entries.ensures.value c.index-entries-number.is in
    let bounds = c.entries-entries.ensures.bounds in
    let on = (bounds.entries c.args.number x read).device some in
    let most = bounds.device in
    omega (arith, on, most)

pub put_parts-requires-clause-fits : goal.put_parts-requires-clause-fits
put_parts-requires-clause-fits c =
    let es = c.args.log.now.entries in
    let x = c.index-entries-number.result in
    let read = entry_read es c.entries-entries.result.now c.args.number x (omega arith) c.entries-entries.ensures.value c.index-entries-number.is in
    (c.entries-entries.ensures.bounds.entries c.args.number x read).fits

pub returns-in_ok-put_parts : goal.returns-in_ok-put_parts
returns-in_ok-put_parts c = λ y there.
    let es = c.args.log.now.entries in
    let x = c.index-entries-number.result in
    let read = entry_read es c.entries-entries.result.now c.args.number x (omega arith) c.entries-entries.ensures.value c.index-entries-number.is in
    put_where c.args.way es c.args.cut c.args.number x y _ c.args.parts.now.items c.put_parts.new.parts.items read there
    (ap (λ fs. is_at_risk fs c.args.cut c.args.number) (sym c.entries-entries.ensures.value) ∙ sym c.is_risky.ensures ∙ c.if-is_risky.true) c.in_ok-put_parts.ensures

pub returns-else-is_risky : goal.returns-else-is_risky
returns-else-is_risky c = λ y there.
    put_where c.args.way c.args.log.now.entries c.args.cut c.args.number y y _ c.args.parts.now.items c.args.parts.now.items there there
    (ap (λ fs. is_at_risk fs c.args.cut c.args.number) (sym c.entries-entries.ensures.value) ∙ sym c.is_risky.ensures ∙ c.if-is_risky.false) (sym (append-nil c.args.parts.now.items))
