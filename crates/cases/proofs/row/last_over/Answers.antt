use Rattle.std.proofs.Common.{◌≡◌, ◌-◌, ap, refl, sym, ◌∙◌, arith}
use Rattle.cases.specs.Rows.{row}
use Rattle.epochs.proofs.Search.{entry_read}
use Rattle.cases.proofs.Below.{over_none, over_found}
use Rattle.cases.proofs.row.last_over.Goals as goal

pub returns-in-Some-clause-next : goal.returns-in-Some-clause-next
returns-in-Some-clause-next c =
    let log = c.args.log.now in
    let x = c.index-entries-number.result in
    let read = entry_read log.entries c.entries-entries.result.now (c.loop-number.number - 1) x (omega arith) c.entries-entries.ensures.value c.index-entries-number.is in
    over_found log c.args.cut c.loop-number.number (c.loop-number.number - 1) c.args.sector x c.in-Some.unit c.entries-entries.ensures.bounds c.loop-number.invariant.high
    (omega arith) refl read c.loop-number.invariant.so (sym c.unit_over.ensures ∙ c.in-Some.is)

pub loop-number-preserved : goal.loop-number-preserved
loop-number-preserved c =
    let log = c.args.log.now in
    let x = c.index-entries-number.result in
    let read = entry_read log.entries c.entries-entries.result.now (c.loop-number.number - 1) x (omega arith) c.entries-entries.ensures.value c.index-entries-number.is in
    record {
      so =
          c.loop-number.invariant.so
          ∙ over_none log.entries c.loop-number.number (c.loop-number.number - 1) c.args.sector x (omega arith) refl read (sym c.unit_over.ensures ∙ c.in_default.is);
      high = omega arith;
      low = omega arith;
    }

pub returns-clause-next : goal.returns-clause-next
returns-clause-next c =
    let same : c.loop-number.number ≡ c.args.floor = omega (arith, c.loop-number-test.false) in
    c.loop-number.invariant.so ∙ ap (λ n. row c.args.log.now.entries n c.args.sector) same
