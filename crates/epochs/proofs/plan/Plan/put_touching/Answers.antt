use Rattle.std.proofs.Common.{rules, ℕ, ◌≡◌, ◌++◌, List, [], length, take, sym, ◌∙◌, ap, arith, append_assoc, length-append}
use Rattle.std.specs.Vec.{vec_len}
use Rattle.std.proofs.lemmas.List.{append-nil, take_at}
use Rattle.epochs.specs.Touching.{touching_before}
use Rattle.epochs.proofs.Touching.{touching_none, leb_few, some_volatile, puts_begin, puts_on, puts_many, puts_end}
use Rattle.epochs.proofs.plan.Plan.put_touching.Goals as goal

pub returns-then-row-clause-value : goal.returns-then-row-clause-value
returns-then-row-clause-value c =
    let none = ap length (touching_none _ c.args.self.now.log.entries c.args.sectors.now c.args.cut _ c.row-row.ensures.row c.if-row.true) in
    leb_few _ _ (omega (arith, none))

pub returns-then-row-clause-told : goal.returns-then-row-clause-told
returns-then-row-clause-told c = λ yes.
    sym (append-nil c.args.parts.now.items)
    ∙ ap (λ (ns : List ℕ). c.args.parts.now.items ++ ns)
    (sym (touching_none _ c.args.self.now.log.entries c.args.sectors.now c.args.cut _ c.row-row.ensures.row c.if-row.true))

pub entry_of-entry-requires : goal.entry_of-entry-requires
entry_of-entry-requires c = some_volatile _ c.args.self.now.log.entries _ _ c.row-row.ensures.row c.requires.cut c.if-row.false

pub loop-entry-init : goal.loop-entry-init
loop-entry-init c = puts_begin _ _ _ _ _ _ _ _ c.row-row.ensures.row c.requires.cut c.if-row.false c.entry_of-entry.ensures

pub put_touching_of-requires-clause-durable : goal.put_touching_of-requires-clause-durable
put_touching_of-requires-clause-durable c = c.loop-entry.invariant.low

pub returns-in_err-put_touching_of-clause-kept : goal.returns-in_err-put_touching_of-clause-kept
returns-in_err-put_touching_of-clause-kept c =
    let had : List ℕ = touching_before c.args.self.now.by c.args.self.now.log.entries c.args.sectors.now c.row-row.result.durable c.loop-entry.entry in
    let kept = c.in_err-put_touching_of.ensures.kept in
    (had ++ kept.0, kept.1 ∙ ap (λ (ns : List ℕ). ns ++ kept.0) c.loop-entry.invariant.so ∙ append_assoc c.args.parts.now.items had kept.0)

pub overflow_sub-len : goal.overflow_sub-len
overflow_sub-len c =
    let put = c.in_ok-put_touching_of.ensures.put c.args.parts.now.items c.loop-entry.invariant.so in
    let long = ap length put ∙ length-append c.args.parts.now.items _ in
    omega (arith, long, c.len.ensures, c.len-before.ensures)

pub returns-then-len-before-clause-value : goal.returns-then-len-before-clause-value
returns-then-len-before-clause-value c =
    let put = c.in_ok-put_touching_of.ensures.put c.args.parts.now.items c.loop-entry.invariant.so in
    let own : vec_len c.args.parts.now ≡ length c.args.parts.now.items = search rules in
    let before : c.len-before.result ≡ length c.args.parts.now.items = c.len-before.ensures ∙ own in
    let more : vec_len c.put_touching_of.new.parts ≡ length c.put_touching_of.new.parts.items = search rules in
    let long : c.len.result ≡ length c.put_touching_of.new.parts.items = c.len.ensures ∙ more in
    puts_many _ _ _ _ _ _ _ _ _ _ _ _ c.loop-entry.invariant c.row-row.ensures.row c.loop-entry-test.true c.requires.cut put
    before long c.if-len-before.true

pub returns-then-len-before-clause-none : goal.returns-then-len-before-clause-none
returns-then-len-before-clause-none c = λ no.
    let put = c.in_ok-put_touching_of.ensures.put c.args.parts.now.items c.loop-entry.invariant.so in
    let own : vec_len c.args.parts.now ≡ length c.args.parts.now.items = search rules in
    let before : c.len-before.result ≡ length c.args.parts.now.items = c.len-before.ensures ∙ own in
    c.truncate.ensures.items ∙ ap (take c.len-before.result) put ∙ take_at c.args.parts.now.items _ c.len-before.result (sym before)

pub returns-then-len-before-clause-kept : goal.returns-then-len-before-clause-kept
returns-then-len-before-clause-kept c =
    let put = c.in_ok-put_touching_of.ensures.put c.args.parts.now.items c.loop-entry.invariant.so in
    let own : vec_len c.args.parts.now ≡ length c.args.parts.now.items = search rules in
    let before : c.len-before.result ≡ length c.args.parts.now.items = c.len-before.ensures ∙ own in (
      [],
      c.truncate.ensures.items ∙ ap (take c.len-before.result) put ∙ take_at c.args.parts.now.items _ c.len-before.result (sym before)
          ∙ sym (append-nil c.args.parts.now.items),
    )

pub loop-entry-preserved : goal.loop-entry-preserved
loop-entry-preserved c =
    let put = c.in_ok-put_touching_of.ensures.put c.args.parts.now.items c.loop-entry.invariant.so in
    let own : vec_len c.args.parts.now ≡ length c.args.parts.now.items = search rules in
    let before : c.len-before.result ≡ length c.args.parts.now.items = c.len-before.ensures ∙ own in
    let more : vec_len c.put_touching_of.new.parts ≡ length c.put_touching_of.new.parts.items = search rules in
    let long : c.len.result ≡ length c.put_touching_of.new.parts.items = c.len.ensures ∙ more in
    puts_on _ _ _ _ _ _ _ _ _ _ _ _ c.loop-entry.invariant c.loop-entry-test.true c.requires.cut put before long c.if-len-before.false

pub returns-clause-value : goal.returns-clause-value
returns-clause-value c = (puts_end _ _ _ _ _ _ _ _ _ c.loop-entry.invariant c.row-row.ensures.row c.loop-entry-test.false).1

pub returns-clause-told : goal.returns-clause-told
returns-clause-told c = λ yes. (puts_end _ _ _ _ _ _ _ _ _ c.loop-entry.invariant c.row-row.ensures.row c.loop-entry-test.false).0

pub returns-clause-kept : goal.returns-clause-kept
returns-clause-kept c =
    (touching_before c.args.self.now.by c.args.self.now.log.entries c.args.sectors.now c.row-row.result.durable c.loop-entry.entry, c.loop-entry.invariant.so)
