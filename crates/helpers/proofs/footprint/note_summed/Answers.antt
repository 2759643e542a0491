use Rattle.std.proofs.Common.{ℕ, ◌+◌, ◌/◌, ◌%◌, ◌≡◌, List, sym, ap, ◌∙◌, arith}
use Rattle.std.specs.List.{range_with_len}
use Rattle.helpers.specs.Footprint.{footprint_after, on_device}
use Rattle.helpers.proofs.Summed.{looks_at_all, looks_at_none, looked_more}
use Rattle.helpers.proofs.footprint.note_summed.Goals as goal

pub returns-then-count-eq0 : goal.returns-then-count-eq0
returns-then-count-eq0 g c =
    let zero = c.if-count-eq0.true in
    let none : c.args.count ≡ 0 = omega (arith, zero) in
    ap (λ (numbers : List ℕ). footprint_after c.args.footprint.now (on_device (g.D.Device.content c.args.device.now) numbers))
    (sym (looks_at_none c.args.position c.args.count none))

pub sectors-preserved : goal.sectors-preserved
sectors-preserved g c =
    looked_more c.args.footprint.now c.sectors.footprint c.look.new.self (g.D.Device.content c.args.device.now) (c.args.position / 512) c.sectors.sector c.sectors.invariant c.look.ensures

pub returns : goal.returns
returns g c =
    let past = c.sectors-test.false in
    let within = c.sectors.auto.sector-end in
    let all : c.sectors.sector ≡ (c.args.position % 512 + c.args.count + 511) / 512 = omega (arith, past, within) in
    c.sectors.invariant
    ∙ ap (λ (n : ℕ). footprint_after c.args.footprint.now (on_device (g.D.Device.content c.args.device.now) (range_with_len (c.args.position / 512) n))) all
    ∙ ap (λ (numbers : List ℕ). footprint_after c.args.footprint.now (on_device (g.D.Device.content c.args.device.now) numbers))
    (sym (looks_at_all c.args.position c.args.count (let some = c.if-count-eq0.false in omega (arith, some))))
