use Rattle.std.proofs.Common.{sym, ◌∙◌, inl, inr, bytes_eq}
use Rattle.std.specs.HashMap as hash
use Rattle.bpf_asm.specs.Outlines.{labels_in, wanted_in}
use Rattle.std.proofs.lemmas.Map.Text.{hash_map_updates_str}
use Rattle.bpf_asm.proofs.Outlines.{holds_label, twice, found_key, no_key}
use Rattle.bpf_asm.proofs.outline.Outline.add_label.Goals as goal

pub returns-then-contains_key-clause-fault : goal.returns-then-contains_key-clause-fault
returns-then-contains_key-clause-fault c =
    let there = found_key (labels_in c.args.self.now c.args.name.now) (sym c.contains_key.ensures ∙ c.if-contains_key.true) in
    inr (λ said o. inl (twice said c.args.name.now there.0 (sym (o.labels c.args.name.now) ∙ there.1)))

pub returns-clause-added : goal.returns-clause-added
returns-clause-added c = λ said o.
    let put = hash_map_updates_str c.args.name.now c.args.self.now.labels c.insert.new.self _ c.in_ok-insert.ensures.updates in
    let absent = no_key (labels_in c.args.self.now c.args.name.now) (sym c.contains_key.ensures ∙ c.if-contains_key.false) in
    holds_label (labels_in c.args.self.now) (λ q. hash.get_by (λ k. bytes_eq q k.now) c.insert.new.self) c.args.self.now.instrs.items (wanted_in c.args.self.now) c.args.self.now.slots said c.args.name.now o absent put
