use Rattle.std.proofs.Common.{rules, ℕ, ◌≡◌, ◌-◌, ◌∙◌, length, ap, inr, arith}
use Rattle.base.specs.Sizes.{byte_limit}
use Rattle.raw_log.specs.Faults.{in_super}
use Rattle.raw_log.proofs.Progress.{start, go_on, whole, fault_here}
use Rattle.raw_log.proofs.importer.import.Goals as goal

pub returns-in-Err-clause-fault : goal.returns-in-Err-clause-fault
returns-in-Err-clause-fault c = inr (in_super c.in-Err.code c.in-Err.ensures.exact)

pub returns-in-Err-checked_header-clause-fault : goal.returns-in-Err-checked_header-clause-fault
returns-in-Err-checked_header-clause-fault c =
    let super = c.in-Ok.ensures in
    let long : c.len.result ≡ length c.loop-number.out.items = search rules in
    let room = c.room_after-room.ensures.value ∙ ap (λ (n : ℕ). byte_limit c.args.limits - n) long in
    inr (fault_here _ _ _ _ _ _ _ _ c.in-Err-checked_header.code super.stands.told super.exact (omega arith) c.loop-number.invariant c.room_after-room.result room c.in-Err-checked_header.ensures.exact)

pub loop-number-init : goal.loop-number-init
loop-number-init c =
    let super = c.in-Ok.ensures.stands in
    start _ _ _ _ _ _ _ super.times (omega (arith, super.count)) c.new-out.ensures.items c.in_ok-put_super.ensures

pub loop-number-preserved : goal.loop-number-preserved
loop-number-preserved c =
    let super = c.in-Ok.ensures.stands in
    let made = c.entry_of-entry.ensures in
    let found = c.in-Ok-checked_header.ensures in
    let long : c.len.result ≡ length c.loop-number.out.items = search rules in
    let room = c.room_after-room.ensures.value ∙ ap (λ (n : ℕ). byte_limit c.args.limits - n) long in
    rw c.in_ok-put_entry.ensures
    (go_on _ _ _ _ _ _ _ _ c.entry_of-entry.result super.told c.loop-number.invariant c.room_after-room.result room found.exact made.stands made.fits made.recorded
    c.in-Ok-checked_header.header found.stands found.within c.data_bytes.result c.data_bytes.ensures (omega (arith, found.room)) (omega (arith, found.need)) made.text)

pub returns-clause-imported : goal.returns-clause-imported
returns-clause-imported c =
    let super = c.in-Ok.ensures.stands in
    whole _ _ _ _ _ _ _ _ super c.requires.some c.requires.device (omega (arith, super.count)) c.loop-number.invariant
